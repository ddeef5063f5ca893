-- `sheet::laid_out` meets its contract. Assumes nothing.
use mathlib.Core.Path.{sym, ◌∙◌}
use Rattle.sheet.proofs.Laws
use Rattle.sheet.proofs.laid_out.Goals as goal

pub walks-requires : goal.walks-requires
walks-requires c =
    (c.row_count.ensures.0, rw c.row_count.ensures.0 (Laws.framed_rows c.args.sheet.now (sym c.framed.ensures ∙ c.if-not-framed.false)))
