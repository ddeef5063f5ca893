-- `numbers::words::is_name` meets its contract. Assumes nothing.
use Rattle.std.proofs.Common.{ℕ, List, eqb, length, take, ap, ◌∙◌}
use lib.Pointwise.{pointwise}
use Rattle.numbers.proofs.Mid.{named_first}
use Rattle.numbers.proofs.words.is_name.Goals as goal

pub returns : goal.returns
returns c =
    named_first c.args.name.now c.args.s.now c.args.at c.starts_with.result c.told-name c.fits-name (λ i. (c.type_inv.s i).fits)
    (c.starts_with.ensures.value ∙ ap (λ (b : List ℕ). pointwise eqb c.args.name.now (take (length c.args.name.now) b)) c.part_from.ensures)
