-- `schema::check::check_schema` meets its contract. Assumes nothing.
use mathlib.Core.Path.{◌≡◌}
use Prim.Native.Nat.{◌-◌, ◌*◌, ◌≤◌}
use lib.ListN.{length}
use Rattle.schema.specs.Steps.{left_of}
use Rattle.schema.proofs.Counts.{Going}
use Rattle.schema.proofs.check.check_schema.Given as goal

abbrev pub invariant-loop-section : goal.invariant-loop-section
invariant-loop-section l = (l.cursor.file.now ≡ l.file) × (l.cursor.at ≤ length l.file) × (8 * l.count ≤ l.cursor.at) × Going l.file (left_of l.cursor) l.count

abbrev pub decreases-loop-section : goal.decreases-loop-section
decreases-loop-section l = length l.file - l.cursor.at
