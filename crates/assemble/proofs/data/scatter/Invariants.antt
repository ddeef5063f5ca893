-- `assemble::data::scatter` meets its contract. Assumes nothing.
use Prim.Native.Nat.{◌-◌}
use mathlib.Core.Path.{◌≡◌}
use lib.ListN.{length}
use Rattle.layout.specs.State.{Core}
use Rattle.assemble.specs.Scatter.{Ready}
use Rattle.assemble.proofs.Turns.{Going}
use Rattle.assemble.proofs.data.scatter.Given as goal

abbrev pub invariant-loop-pos : goal.invariant-loop-pos
invariant-loop-pos l = (length l.out ≡ length l.initial.out) × ((c : Core) → Ready l.items l.table (length l.initial.out) c → Going c l.items l.initial.out l.pos l.out)

abbrev pub decreases-loop-pos : goal.decreases-loop-pos
decreases-loop-pos l = length l.items - l.pos
