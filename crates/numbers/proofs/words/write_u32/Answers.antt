-- `numbers::words::write_u32` meets its contract. Assumes nothing.
use Rattle.std.proofs.Common.{arith, ◌∙◌}
use Rattle.numbers.proofs.Mid.{over_mid, high_first}
use Rattle.numbers.proofs.words.write_u32.Goals as goal

pub returns : goal.returns
returns c =
    over_mid c.args.at _ 4 c.args.s.now c.copy_from_slice.new.self _ c.copy_from_slice.ensures.len (omega arith) (omega arith) (c.copy_from_slice.ensures.after ∙ c.to_be_bytes.ensures ∙ high_first 4 c.args.v)
