-- `leaves::leaf_has_str` meets its contract. Assumes nothing.
use mathlib.Core.Path.{ap, ◌∙◌}
use Rattle.value.specs.Rows.{Row}
use Rattle.leaves.specs.Codes
use Rattle.leaves.proofs.leaf_has_str.Goals as goal

pub returns : goal.returns
returns c =
    c.has_str.ensures c.args.sheet.now ∙ ap (λ (v : Row). Codes.has_str c.args.sheet.now v) c.read_row.ensures
