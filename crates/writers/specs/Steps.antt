-- What a writer does to an area: the relations of Posts between two areas, before and after.
use Rattle.std.specs.Prelude.{ℕ, Option, Result}
use Rattle.numbers.specs.Words.{Bytes}
use Rattle.numbers.specs.declared.refusal.Refusal.{Refusal}
use Rattle.schema.specs.Defs.{Schema}
use Rattle.layout.specs.State.{M}
use Rattle.area.specs.declared.Area.{Area}
use Rattle.area.specs.declared.Round.{Round}
use Rattle.area.specs.Steps.{Step}
use Rattle.writers.specs.Posts as P

-- a structure is written: its bytes are then on top of the stack
abbrev pub Pushes : (Schema → Type 0) → Area → ℕ → (Round → Schema → M Bytes) → Result (Unit {0}) Refusal → Area → Type 0
Pushes known a size f = Step (λ R n p w. P.Pushes known R n p w size (f R)) a

-- a structure by pointer is written and filed: its pointer, or none
abbrev pub Points : (Schema → Type 0) → Area → (Round → Schema → M (Option ℕ)) → Result (Option ℕ) Refusal → Area → Type 0
Points known a f = Step (λ R n p w. P.Points known R n p w (f R)) a
