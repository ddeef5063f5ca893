-- What writing a member, a text's slot or an enum's use does to an area: the relations of Posts between two areas, before and after. What is written depends on the round by what the layout is given.
use Rattle.std.specs.Prelude.{ℕ, Option, Result}
use Rattle.numbers.specs.Words.{Bytes}
use Rattle.numbers.specs.declared.refusal.Refusal.{Refusal}
use Rattle.schema.specs.Defs.{Schema}
use Rattle.layout.specs.State.{M}
use Rattle.area.specs.declared.Area.{Area}
use Rattle.area.specs.declared.Round.{Round}
use Rattle.area.specs.Steps.{Step, Change}
use Rattle.members.specs.Posts as P

-- a member is written
abbrev pub Fills : (Schema → Type 0) → Area → ℕ → (Round → Schema → Bytes → M Bytes) → Result (Unit {0}) Refusal → Area → Type 0
Fills known a size f = Step (λ R n p w. P.Fills known R n p w size (f R)) a

-- a text's slot at `at` is filled
abbrev pub Slots : Area → ℕ → Bytes → ℕ → Result (Unit {0}) Refusal → Area → Type 0
Slots a sub t at = Step (λ R n p w. P.Slots R n p w sub t at) a

-- the enum of the name is used, where there is one
abbrev pub Uses : Area → Option ℕ → Area → Type 0
Uses a name = Change (λ R n p w. P.Marked R n p w name) a
