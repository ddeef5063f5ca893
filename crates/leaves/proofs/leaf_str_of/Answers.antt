-- `leaves::leaf_str_of` meets its contract. Assumes nothing.
use Rattle.std.specs.Prelude.{unwrap_or}
use mathlib.Core.Path.{ap, ◌∙◌}
use lib.ListN.{length}
use Rattle.coerce.specs.Answer.{nothing}
use Rattle.coerce.specs.Numbers.{str_of}
use Rattle.value.specs.Rows.{Row}
use Rattle.leaves.specs.Codes
use Rattle.leaves.proofs.leaf_str_of.Goals as goal

pub returns : goal.returns
returns c =
    let q = c.str_of.ensures ∙ ap (λ (v : Row). unwrap_or (str_of c.args.sheet.now v) nothing) c.read_row.ensures in
    let f = c.put_front.ensures in
    (f.0 ∙ ap length q, f.1 ∙ ap (Codes.fronted c.args.out.now) q)
