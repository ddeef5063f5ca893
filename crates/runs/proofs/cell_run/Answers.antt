-- `runs::cell_run` meets its contract. Assumes nothing.
use mathlib.Core.Path.{refl, ◌∙◌}
use native.Mathlib.Omega.{arith}
use lib.ListN.{length}
use borrow.Author.Rules.{rules}
use Rattle.std.proofs.lemmas.Result.{err_from_is_err_and}
use Rattle.value.specs.Rows.{rows_from}
use Rattle.cells.specs.Cells.{cell_element}
use Rattle.members.specs.Posts.{any_schema}
use Rattle.area.proofs.Stepping.{same_then}
use Rattle.runs.proofs.Loops.{run_cost, paid_done, ready, length_rows_from, run_kept, run_too_dear}
use Rattle.runs.proofs.CellRuns.{cells_turn, cells_dropped, cells_stopped}
use Rattle.runs.proofs.cell_run.Goals as goal

pub returns-in_err-pay : goal.returns-in_err-pay
returns-in_err-pay c =
    let g = c.args in
    let a = g.area.now in
    let x = err_from_is_err_and c.from_residual.result c.from_residual.ensures.1 in
    let e = c.in_err-pay.ensures in
    rw (x.1, x.2)
    record {
      same = e.same;
      did = rw e.did.area
          (run_too_dear any_schema a.round (length a.bytes.now) a.progress a.bytes.now g.stride 0 g.rows.count (λ S r. cell_element g.sheet.now g.cell g.stride r) (rows_from g.rows.first g.rows.count)
          g.sheet.now g.block 0 (length_rows_from g.rows.first g.rows.count) (omega arith) c.cost.result _ _ _ a.safe c.cost.ensures e.did.answer refl);
    }

pub returns-in-Err-Unfit : goal.returns-in-Err-Unfit
returns-in-Err-Unfit c =
    let g = c.args in
    let a = g.area.now in
    let b = c.pay.new.self in
    let e = c.in_ok-pay.ensures in
    let l = c.loop-i in
    let h = same_then e.same l.invariant.0 in
    let k = c.drop_to.ensures in
    let d = paid_done a.round a.progress (run_cost g.stride g.rows.count) c.cost.result _ b.progress c.cost.ensures e.did.answer refl in
    let r = ready g.stride g.rows.count a.safe d in
    let u = rw (e.same.round, e.did.area) at l.invariant.2 in
    record {
      same = record { bytes = k.same.bytes ∙ h.bytes; size = search (rules, k.same.size, h.size); round = k.same.round ∙ h.round };
      did = cells_dropped a.round (length a.bytes.now) b.progress a.bytes.now g.sheet.now g.cell g.stride g.rows.first g.rows.count l.area.progress l.area.bytes.now l.i r u c.loop-i-test.true
          c.read_row-v.result (rw c.row.ensures at c.read_row-v.ensures) c.put_cell.new.buf a.progress g.block a.safe d _ _ (rw c.in-Err-Unfit.field-0-is at c.in-Err-Unfit.ensures) k.did;
    }

pub returns-in-Err-FloatText : goal.returns-in-Err-FloatText
returns-in-Err-FloatText c =
    let g = c.args in
    let a = g.area.now in
    let b = c.pay.new.self in
    let e = c.in_ok-pay.ensures in
    let l = c.loop-i in
    let h = same_then e.same l.invariant.0 in
    let d = paid_done a.round a.progress (run_cost g.stride g.rows.count) c.cost.result _ b.progress c.cost.ensures e.did.answer refl in
    let r = ready g.stride g.rows.count a.safe d in
    let u = rw (e.same.round, e.did.area) at l.invariant.2 in
    record {
      same = record { bytes = h.bytes; size = search (rules, h.size); round = h.round };
      did = cells_stopped a.round (length a.bytes.now) b.progress a.bytes.now g.sheet.now g.cell g.stride g.rows.first g.rows.count l.area.progress l.area.bytes.now l.i r u c.loop-i-test.true
          c.read_row-v.result (rw c.row.ensures at c.read_row-v.ensures) c.put_cell.new.buf a.progress g.block a.safe d (rw c.in-Err-FloatText.field-0-is at c.in-Err-FloatText.ensures);
    }

pub loop-i-preserved : goal.loop-i-preserved
loop-i-preserved c =
    let g = c.args in
    let b = c.pay.new.self in
    let l = c.loop-i in
    let i = l.invariant in (
      record { bytes = i.0.bytes; size = search (rules, i.0.size); round = i.0.round },
      i.1,
      cells_turn b.round (length b.bytes.now) b.progress b.bytes.now g.sheet.now g.cell g.stride g.rows.first g.rows.count l.area.progress l.area.bytes.now l.i i.1 i.2 c.loop-i-test.true
          c.read_row-v.result (rw c.row.ensures at c.read_row-v.ensures) c.put_cell.new.buf c.in-Ok.ensures i.0.size c.put_cell.auto.buf,
    )

pub returns : goal.returns
returns c =
    let g = c.args in
    let a = g.area.now in
    let b = c.pay.new.self in
    let e = c.in_ok-pay.ensures in
    let l = c.loop-i in
    let d = paid_done a.round a.progress (run_cost g.stride g.rows.count) c.cost.result _ b.progress c.cost.ensures e.did.answer refl in
    let u = rw (e.same.round, e.did.area) at l.invariant.2 in
    record {
      same = same_then e.same l.invariant.0;
      did = run_kept any_schema a.round (length a.bytes.now) a.progress a.bytes.now g.stride 0 g.rows.count (λ S r. cell_element g.sheet.now g.cell g.stride r) (rows_from g.rows.first g.rows.count)
          g.sheet.now g.block 0 (length_rows_from g.rows.first g.rows.count) (omega arith) d u (omega (arith, l.invariant.0, c.loop-i-test.false));
    }
