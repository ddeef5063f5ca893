-- `pso::parse::parse_pso` meets its contract. Assumes nothing.
use mathlib.Core.Path.{◌≡◌}
use Prim.Native.Nat.{◌-◌, ◌≤◌}
use lib.ListN.{length}
use Rattle.schema.specs.Steps.{left_of}
use Rattle.pso.proofs.Sight.{Going}
use Rattle.pso.proofs.Place.{Placed}
use Rattle.pso.proofs.parse.parse_pso.Given as goal

abbrev pub invariant-loop-section : goal.invariant-loop-section
invariant-loop-section l =
    (l.cursor.file.now ≡ l.file) × (l.cursor.at ≤ length l.file) × (l.state.blocks ≤ l.cursor.at) × Going l.file (left_of l.cursor) l.state
    × Placed l.file (left_of l.cursor) l.cursor.at l.state

abbrev pub decreases-loop-section : goal.decreases-loop-section
decreases-loop-section l = length l.file - l.cursor.at
