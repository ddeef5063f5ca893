-- `sandvurek::sandvurek_block` meets its contract. Assumes nothing.
use Rattle.sandvurek.proofs.Told.{block_told}
use Rattle.sandvurek.proofs.sandvurek_block.Goals as goal

pub returns : goal.returns
returns c =
    let b = c.block.ensures in
    rw c.into.ensures (block_told c.args.file.now c.args.number _ b.result_value b.number_value)
