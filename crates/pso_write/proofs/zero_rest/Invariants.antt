-- `pso_write::zero_rest`: the list with zeros from the next record on is what it is to be.
use mathlib.Core.Path.{◌≡◌}
use lib.ListN.{length, take}
use Rattle.layout.specs.Build.{filled}
use Rattle.pso_write.proofs.zero_rest.Given as goal

abbrev pub invariant-loop-at : goal.invariant-loop-at
invariant-loop-at l = (length l.list ≡ length l.initial.list) × (filled (length l.initial.list) (take l.at l.list) ≡ filled (length l.initial.list) (take l.from l.initial.list))
