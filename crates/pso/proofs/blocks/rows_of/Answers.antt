-- `pso::blocks::rows_of` meets its contract. Assumes nothing.
use native.Mathlib.Omega.{arith}
use Rattle.pso.proofs.Numbered.{span_other, span_short, span_rows}
use Rattle.pso.proofs.blocks.rows_of.Goals as goal

pub returns-then-not-is : goal.returns-then-not-is
returns-then-not-is c =
    span_other c.args.section.bytes.now c.is.result (c.is.ensures.number (omega arith)) c.if-not-is.true

pub returns-in_err-rows : goal.returns-in_err-rows
returns-in_err-rows c =
    rw c.from_residual.ensures
    (span_short c.args.section.bytes.now c.is.result (c.is.ensures.number (omega arith)) c.if-not-is.false _ c.read_rows.ensures c.in_err-rows.ensures.value)

pub returns : goal.returns
returns c =
    span_rows c.args.section.bytes.now c.is.result (c.is.ensures.number (omega arith)) c.if-not-is.false _ c.read_rows.ensures c.in_ok-rows.rows c.in_ok-rows.ensures.value
