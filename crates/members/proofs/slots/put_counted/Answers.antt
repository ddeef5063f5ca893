-- `members::slots::put_counted` meets its contract. Assumes nothing.
use Rattle.members.proofs.Slotting.{counted}
use Rattle.members.proofs.slots.put_counted.Goals as goal

pub returns : goal.returns
returns c =
    let a = c.args in
    counted a.work.now c.put_pointer.new.work c.write.new.s c.write-2.new.s a.at a.x a.n c.requires c.put_pointer.ensures c.write.ensures c.write-2.ensures
