-- `schema::check::check_psch` meets its contract. Assumes nothing.
use mathlib.Core.Path.{◌≡◌}
use Prim.Native.Nat.{◌+◌, ◌-◌, ◌*◌}
use lib.ListN.{length}
use Rattle.numbers.specs.Result.{map_result}
use Rattle.schema.specs.Psch.{defs_from, psch_of}
use Rattle.schema.proofs.Counts.{more}
use Rattle.schema.proofs.check.check_psch.Given as goal

abbrev pub invariant-loop-i : goal.invariant-loop-i
invariant-loop-i l = map_result (more l.i) (defs_from l.p (l.n - l.i) (12 + 8 * l.i)) ≡ map_result length (psch_of l.p)
