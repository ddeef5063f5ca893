-- `vectors::read_all`: no more is counted than there is room for.
use Prim.Native.Nat.{◌-◌, ◌≤◌}
use lib.ListN.{length}
use Rattle.vectors.proofs.read_all.Given as goal

abbrev pub invariant-loop-n : goal.invariant-loop-n
invariant-loop-n g l = l.n ≤ length l.space

abbrev pub decreases-loop-n : goal.decreases-loop-n
decreases-loop-n g l = length l.space - l.n
