-- `area::items::spot` meets its contract. Assumes nothing.
use Rattle.area.proofs.Spots.{Seeking}
use Rattle.area.proofs.items.spot.Given as goal

abbrev pub invariant-loop-k : goal.invariant-loop-k
invariant-loop-k l = Seeking l.work l.n l.name l.need l.k
