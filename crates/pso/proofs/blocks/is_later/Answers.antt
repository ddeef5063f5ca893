-- `pso::blocks::is_later` meets its contract. Assumes nothing.
use mathlib.Core.Path.{refl}
use Rattle.pso.proofs.Maps.{later_zero, later_top}
use Rattle.pso.proofs.blocks.is_later.Goals as goal

pub returns-then-n-eq0 : goal.returns-then-n-eq0
returns-then-n-eq0 c = later_zero c.args.p.now _ c.read-n.ensures c.if-n-eq0.true

pub returns-else-n-eq0 : goal.returns-else-n-eq0
returns-else-n-eq0 c = later_top c.args.p.now _ c.read-n.ensures c.if-n-eq0.false _ refl
