-- `area::Progress::filed` meets its contract. Assumes nothing.
use borrow.Author.Tests.{lt-ltb, le-ltb}
use Rattle.area.proofs.Progress.filed.Goals as goal

pub returns-then-before-self : goal.returns-then-before-self
returns-then-before-self c = rw (lt-ltb c.args.before c.args.self.blocks c.if-before-self.true)

pub returns : goal.returns
returns c = rw (le-ltb c.args.before c.args.self.blocks c.if-before-self.false)
