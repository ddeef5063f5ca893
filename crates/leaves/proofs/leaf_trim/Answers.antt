-- `leaves::leaf_trim` meets its contract. Assumes nothing.
use mathlib.Core.Path.{ap, ◌∙◌}
use lib.ListN.{length}
use Rattle.leaves.specs.Codes
use Rattle.leaves.proofs.leaf_trim.Goals as goal

pub returns : goal.returns
returns c =
    let q = c.trim.ensures in
    let f = c.put_front.ensures in
    (f.0 ∙ ap length q, f.1 ∙ ap (Codes.fronted c.args.out.now) q)
