-- `numbers::words::write_name` meets its contract. Assumes nothing.
use Rattle.std.proofs.Common.{arith, ◌∙◌}
use Rattle.numbers.proofs.Mid.{over_mid, four_bytes}
use Rattle.numbers.proofs.words.write_name.Goals as goal

pub returns : goal.returns
returns c =
    over_mid c.args.at _ 4 c.args.s.now c.copy_from_slice.new.self _ c.copy_from_slice.ensures.len (omega arith) (omega arith) (c.copy_from_slice.ensures.after ∙ four_bytes c.args.name.now c.told-name)
