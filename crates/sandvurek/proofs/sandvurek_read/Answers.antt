-- `sandvurek::sandvurek_read` meets its contract. Assumes nothing.
use Rattle.sandvurek.proofs.Told.{reading_told}
use Rattle.sandvurek.proofs.sandvurek_read.Goals as goal

pub returns : goal.returns
returns c = rw c.into.ensures (reading_told c.args.file.now _ c.parse_pso.ensures.value)
