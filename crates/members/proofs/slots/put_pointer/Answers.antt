-- `members::slots::put_pointer` meets its contract. Assumes nothing.
use Rattle.layout.specs.Members.{put_pointer}
use borrow.Author.Rules.{rules}
use Rattle.members.proofs.slots.put_pointer.Goals as goal

pub shape_of-work : goal.shape_of-work
unfolding put_pointer
shape_of-work c = search rules

pub returns : goal.returns
unfolding put_pointer
returns c = c.write.ensures
