-- `area::stack::shift` meets its contract. Assumes nothing.
use Rattle.area.proofs.stack.shift.Goals as goal

pub returns : goal.returns
returns c = cc
