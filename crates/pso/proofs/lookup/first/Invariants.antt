-- `pso::lookup::first` meets its contract. Assumes nothing.
use mathlib.Core.Path.{◌≡◌}
use Prim.Native.Nat.{◌-◌, ◌≤◌}
use lib.ListN.{length}
use Rattle.schema.specs.Steps.{left_of, kind_number}
use Rattle.pso.proofs.Leading.{Going}
use Rattle.pso.proofs.lookup.first.Given as goal

abbrev pub invariant-loop-section : goal.invariant-loop-section
invariant-loop-section l =
    (l.cursor.file.now ≡ l.file) × (l.cursor.at ≤ length l.file) × Going l.file (kind_number l.kind) l.name (left_of l.cursor) l.cursor.at

abbrev pub decreases-loop-section : goal.decreases-loop-section
decreases-loop-section l = length l.file - l.cursor.at
