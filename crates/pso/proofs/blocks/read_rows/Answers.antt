-- `pso::blocks::read_rows` meets its contract. Assumes nothing.
use Rattle.pso.proofs.Maps.{Counted, counted_later, counted_here, rows_short, rows_long}
use Rattle.pso.proofs.blocks.read_rows.Goals as goal
use Rattle.pso.proofs.blocks.read_rows.Goals.{then-is_later, else-is_later}

pub returns-then-p-start : goal.returns-then-p-start
returns-then-p-start c =
    let P = c.args.p.now in
    let x : Counted P c.if-is_later.start.0 c.if-is_later.start.1
    = elim c.if-is_later.branch [
      | then-is_later w ↦ rw (w.start-is, w.from.ensures) (counted_later P c.is_later.result c.is_later.ensures w.if-is_later.true _ w.read.ensures)
      | else-is_later w ↦ rw (w.start-is, w.from-else-is_later.ensures) (counted_here P c.is_later.result c.is_later.ensures w.if-is_later.false _ w.read-else-is_later.ensures)
    ] in
    rows_short P _ _ x c.if-p-start.true

pub returns : goal.returns
returns c =
    let P = c.args.p.now in
    let x : Counted P c.if-is_later.start.0 c.if-is_later.start.1
    = elim c.if-is_later.branch [
      | then-is_later w ↦ rw (w.start-is, w.from.ensures) (counted_later P c.is_later.result c.is_later.ensures w.if-is_later.true _ w.read.ensures)
      | else-is_later w ↦ rw (w.start-is, w.from-else-is_later.ensures) (counted_here P c.is_later.result c.is_later.ensures w.if-is_later.false _ w.read-else-is_later.ensures)
    ] in
    rows_long P _ _ x _ c.read-2.ensures c.if-p-start.false
