-- `numbers::words::read_at_end` meets its contract. Assumes nothing.
use Rattle.std.proofs.Common.{length, take, ap, arith, ◌∙◌}
use lib.ListN.{length-take}
use Rattle.numbers.proofs.Mid.{read_parts}
use Rattle.numbers.proofs.words.read_at_end.Goals as goal

pub number_of-requires : goal.number_of-requires
number_of-requires c = omega (arith, ap length c.part_to.ensures, length-take c.args.k c.part_from.result.now)

pub returns : goal.returns
returns c =
    read_parts c.args.k c.args.s.now c.part_to.result.now c.args.at c.number_of.result (c.part_to.ensures ∙ ap (take c.args.k) c.part_from.ensures) c.number_of.ensures.0 c.number_of.ensures.1
