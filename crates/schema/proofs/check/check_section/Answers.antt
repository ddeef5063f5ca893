-- `schema::check::check_section` meets its contract. Assumes nothing.
use native.Mathlib.Omega.{arith}
use Rattle.schema.proofs.Counts.{other, psch}
use Rattle.schema.proofs.check.check_section.Goals as goal

pub returns-then-is : goal.returns-then-is
returns-then-is c =
    psch c.args.section.bytes.now c.is.result (c.is.ensures.number (omega arith)) c.if-is.true _ c.check_psch.ensures

pub returns-else-is : goal.returns-else-is
returns-else-is c =
    other c.args.section.bytes.now c.is.result (c.is.ensures.number (omega arith)) c.if-is.false
