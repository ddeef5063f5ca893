-- `coerce_rows::line`: each row that is counted is a part of the input, and so is what lies behind it.
use Rattle.std.specs.Prelude.{◌+◌, ◌≤◌, length}
use Rattle.coerce_rows.proofs.line.Given as goal

abbrev pub invariant-loop-row : goal.invariant-loop-row
invariant-loop-row g l = (l.good ≤ l.count) × (l.count + length l.rest ≤ length l.rows)

abbrev pub decreases-loop-row : goal.decreases-loop-row
decreases-loop-row g l = length l.rest
