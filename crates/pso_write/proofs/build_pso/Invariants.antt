-- `pso_write::build_pso`: the merge stands as `Inv` says, and turns are left for what is not merged.
use mathlib.Core.Path.{◌≡◌}
use lib.ListN.{length}
use Rattle.rounds.specs.Merge.{Inv, turns}
use Rattle.pso_write.proofs.build_pso.Given as goal

abbrev pub invariant-loop-stage : goal.invariant-loop-stage
invariant-loop-stage l =
    (length l.remarks ≡ l.task.room) × (length l.work ≡ length l.initial.work) × Inv l.alone l.sheet l.schema l.task.size l.task.room l.stage l.remarks l.work

abbrev pub decreases-loop-stage : goal.decreases-loop-stage
decreases-loop-stage l = turns l.task.room l.stage
