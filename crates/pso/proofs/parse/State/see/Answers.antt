-- `pso::parse::State::see` meets its contract. Assumes nothing.
use native.Mathlib.Omega.{arith}
use Rattle.schema.proofs.Errors.{passed_on}
use Rattle.pso.proofs.Sight.{see_data, no_map, see_map, few_blocks, no_defs, see_defs, see_other}
use Rattle.pso.proofs.parse.State.see.Goals as goal
use Rattle.pso.proofs.parse.State.see.Goals.{then-is-3+in_ok-check_psch, else-is-3}

pub returns-then-is : goal.returns-then-is
returns-then-is c =
    see_data c.args.section c.args.self c.is.result (c.is.ensures.number (omega arith)) c.if-is.true

pub returns-in_err-rows : goal.returns-in_err-rows
returns-in_err-rows c =
    rw (← passed_on _ c.in_err-rows.field-0.0 c.from_residual.ensures.1)
    (no_map c.args.section c.args.self c.is.result (c.is.ensures.number (omega arith)) c.if-is.false c.is-2.result (c.is-2.ensures.number (omega arith)) c.if-is-2.true _ c.in_err-rows.ensures)

pub overflow_add-result : goal.overflow_add-result
overflow_add-result c =
    let f = few_blocks c.args.section.bytes.now c.in_ok-rows.rows c.in_ok-rows.ensures in
    omega (arith, f)

pub returns-then-is-2 : goal.returns-then-is-2
returns-then-is-2 c =
    see_map c.args.section c.args.self c.is.result (c.is.ensures.number (omega arith)) c.if-is.false c.is-2.result (c.is-2.ensures.number (omega arith)) c.if-is-2.true c.in_ok-rows.rows c.in_ok-rows.ensures

pub returns-in_err-check_psch : goal.returns-in_err-check_psch
returns-in_err-check_psch c =
    rw (← passed_on _ c.in_err-check_psch.field-0.0 c.from_residual-in_err-check_psch.ensures.1)
    (no_defs c.args.section c.args.self c.is.result (c.is.ensures.number (omega arith)) c.if-is.false c.is-2.result (c.is-2.ensures.number (omega arith)) c.if-is-2.false
    c.is-3.result (c.is-3.ensures.number (omega arith)) c.if-is-3.true _ c.in_err-check_psch.ensures)

pub returns : goal.returns
returns c =
    let a = c.args in
    elim c.if-is-3.branch [
      | then-is-3+in_ok-check_psch w ↦
          see_defs a.section a.self c.is.result (c.is.ensures.number (omega arith)) c.if-is.false c.is-2.result (c.is-2.ensures.number (omega arith)) c.if-is-2.false
          c.is-3.result (c.is-3.ensures.number (omega arith)) w.if-is-3.true _ w.in_ok-check_psch.ensures
      | else-is-3 w ↦
          see_other a.section a.self c.is.result (c.is.ensures.number (omega arith)) c.if-is.false c.is-2.result (c.is-2.ensures.number (omega arith)) c.if-is-2.false
          c.is-3.result (c.is-3.ensures.number (omega arith)) w.if-is-3.false
    ]
