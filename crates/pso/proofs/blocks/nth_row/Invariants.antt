-- `pso::blocks::nth_row` meets its contract. Assumes nothing.
use mathlib.Core.Path.{◌≡◌}
use Prim.Native.Nat.{◌-◌, ◌≤◌}
use lib.ListN.{length}
use Rattle.schema.specs.Steps.{left_of}
use Rattle.pso.proofs.Numbered.{Going}
use Rattle.pso.proofs.blocks.nth_row.Given as goal

abbrev pub invariant-loop-section : goal.invariant-loop-section
invariant-loop-section l = (l.cursor.file.now ≡ l.file) × (l.cursor.at ≤ length l.file) × Going l.file l.n (left_of l.cursor) l.k

abbrev pub decreases-loop-section : goal.decreases-loop-section
decreases-loop-section l = length l.file - l.cursor.at
