-- What writing a run does to an area: the relation of Posts between two areas, before and after.
use Rattle.std.specs.Prelude.{ℕ, Option, Result}
use Rattle.numbers.specs.declared.refusal.Refusal.{Refusal}
use Rattle.schema.specs.Defs.{Schema}
use Rattle.layout.specs.State.{M}
use Rattle.layout.specs.Runs.{Run}
use Rattle.area.specs.declared.Area.{Area}
use Rattle.area.specs.declared.Round.{Round}
use Rattle.area.specs.Steps.{Step}
use Rattle.runs.specs.Posts as P

-- a run is written: the name of its block, or none where it is dropped
abbrev pub Yields : (Schema → Type 0) → Area → ℕ → (Round → Schema → M (Option Run)) → Result (Option ℕ) Refusal → Area → Type 0
Yields known a notes f = Step (λ R n p w. P.Yields known R n p w notes (f R)) a
