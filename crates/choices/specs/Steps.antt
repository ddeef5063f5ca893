-- What a finished run and the elements of runs do to an area: the relations of Posts between two areas, before and after.
use Rattle.std.specs.Prelude.{ℕ, Bool, Result}
use Rattle.numbers.specs.declared.refusal.Refusal.{Refusal}
use Rattle.definitions.specs.declared.members.Member as coded
use Rattle.area.specs.declared.Area.{Area}
use Rattle.area.specs.Posts.{gives}
use Rattle.area.specs.Steps.{Step, Change}
use Rattle.cells.specs.declared.defs.Def.{Def}
use Rattle.choices.specs.Posts as P

-- a run is filed, and its pointer stands at `at` with its count
abbrev pub Lodges : Area → ℕ → ℕ → ℕ → ℕ → Result (Unit {0}) Refusal → Area → Type 0
Lodges a block len at count = Step (λ R n p w. P.Lodges R n p w block len at count) a

-- the bytes above `base` are moved into the structure below them, where they fit
abbrev pub Embeds : Area → ℕ → Def → coded.Member → Area → Type 0
Embeds a base d m = Change (λ R n p w q w'. P.Embeds R n base p w d m (gives tt q) w') a

-- remark 9 is met, where the row is neither Struct nor Null
abbrev pub Noted : Area → Def → coded.Member → ℕ → Bool → Area → Type 0
Noted a d m kind pairs = Change (λ R n p w. P.Noted R n p w d m kind pairs) a
