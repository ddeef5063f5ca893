-- `pso::blocks::row_at` meets its contract. Assumes nothing.
use Rattle.pso.proofs.Numbered.{row_is_law}
use Rattle.pso.proofs.blocks.row_at.Goals as goal

pub returns : goal.returns
returns c = row_is_law c.args.p.now c.args.at _ _ _ c.read.ensures c.read-2.ensures c.read-3.ensures
