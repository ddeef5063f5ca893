-- `leaves::put_front` meets its contract. Assumes nothing.
use mathlib.Core.Path.{refl}
use borrow.Author.Tests.{le-leb, lt-leb}
use lib.ListN.{length}
use Rattle.leaves.proofs.put_front.Goals as goal

pub returns-then-n-out : goal.returns-then-n-out
returns-then-n-out c = (refl, rw (le-leb (length c.args.t.now) (length c.args.out.now) c.if-n-out.true) c.copy.ensures)

pub returns-else-n-out : goal.returns-else-n-out
returns-else-n-out c = (refl, rw (lt-leb (length c.args.t.now) (length c.args.out.now) c.if-n-out.false))
