-- `vectors::cases`: each row that is counted is a part of the input, and so is what lies behind it.
use Rattle.std.specs.Prelude.{◌+◌, ◌≤◌, length}
use Rattle.vectors.proofs.cases.Given as goal

abbrev pub invariant-loop-row : goal.invariant-loop-row
invariant-loop-row g l = l.number + length l.rest ≤ length l.all

abbrev pub decreases-loop-row : goal.decreases-loop-row
decreases-loop-row g l = length l.rest
