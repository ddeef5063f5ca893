-- `runs::pointer_text_run` meets its contract. Assumes nothing.
use Prim.Native.Nat.{ℕ, ◌+◌, ◌*◌}
use mathlib.Core.Path.{refl, ap, ◌∙◌}
use native.Mathlib.Omega.{arith}
use lib.ListN.{length}
use Rattle.std.proofs.lemmas.Result.{err_from_is_err_and}
use Rattle.value.specs.Rows.{rows_from}
use Rattle.layout.specs.Members.{slot_size}
use Rattle.layout.specs.Runs.{text_element, slot_block}
use Rattle.area.specs.Area.{env_of}
use Rattle.area.proofs.Stepping.{same_then}
use Rattle.members.specs.Posts.{any_schema}
use Rattle.members.proofs.PointerMembers.{text_short}
use Rattle.runs.proofs.Loops.{run_cost, paid_done, ready, length_rows_from, run_kept, run_too_dear}
use Rattle.runs.proofs.CellRuns.{texts_turn, texts_stopped}
use Rattle.runs.proofs.pointer_text_run.Goals as goal

pub returns-in_err-pay : goal.returns-in_err-pay
returns-in_err-pay c =
    let g = c.args in
    let a = g.area.now in
    let x = err_from_is_err_and c.from_residual.result c.from_residual.ensures.1 in
    let e = c.in_err-pay.ensures in
    rw (x.1, x.2)
    record {
      same = e.same;
      did = rw e.did.area
          (run_too_dear any_schema a.round (length a.bytes.now) a.progress a.bytes.now (slot_size g.sub) 0 g.rows.count (λ S r. text_element (env_of g.sheet.now S a.round) g.sub r) (rows_from g.rows.first g.rows.count)
          g.sheet.now (slot_block g.sub) 0 (length_rows_from g.rows.first g.rows.count) (omega arith) c.cost.result _ _ _ a.safe (c.cost.ensures ∙ ap (λ (x : ℕ). 16 + x * g.rows.count) c.slot_size-stride.ensures.0) e.did.answer refl);
    }

pub text_slot-requires : goal.text_slot-requires
text_slot-requires c =
    let l = c.loop-i in (
      omega (arith, l.area.safe),
      omega (arith, c.slot_size-stride.ensures.0),
      text_short c.args.sheet.now c.read_row-v.result c.str_of.result.now (omega (arith, c.read_row-v.type_inv)) c.str_of.ensures,
    )

pub returns-in_err-text_slot : goal.returns-in_err-text_slot
returns-in_err-text_slot c =
    let g = c.args in
    let a = g.area.now in
    let b = c.pay.new.self in
    let x = err_from_is_err_and c.from_residual-in_err-text_slot.result c.from_residual-in_err-text_slot.ensures.1 in
    let e = c.in_ok-pay.ensures in
    let f = c.in_err-text_slot.ensures in
    let l = c.loop-i in
    let i = l.invariant in
    let h = same_then e.same i.0 in
    let d = paid_done a.round a.progress (run_cost (slot_size g.sub) g.rows.count) c.cost.result _ b.progress (c.cost.ensures ∙ ap (λ (x : ℕ). 16 + x * g.rows.count) c.slot_size-stride.ensures.0) e.did.answer refl in
    let r = ready (slot_size g.sub) g.rows.count a.safe d in
    let u = rw (e.same.round, e.did.area) at i.2 in
    rw (x.1, x.2)
    record {
      same = record { bytes = f.same.bytes ∙ h.bytes; size = f.same.size ∙ h.size; round = f.same.round ∙ h.round };
      did = texts_stopped a.round (length a.bytes.now) b.progress a.bytes.now g.sheet.now g.sub g.rows.first g.rows.count l.area.progress l.area.bytes.now l.i r u c.loop-i-test.true
          c.slot_size-stride.result c.slot_size-stride.ensures.0 c.read_row-v.result (rw c.row.ensures at c.read_row-v.ensures) c.str_of.result.now c.str_of.ensures (length l.area.bytes.now) h.size a.progress (slot_block g.sub) _ _ _ _ d refl
          (rw h.round at f.did);
    }

pub loop-i-preserved : goal.loop-i-preserved
loop-i-preserved c =
    let g = c.args in
    let b = c.pay.new.self in
    let l = c.loop-i in
    let i = l.invariant in
    let f = c.in_ok-text_slot.ensures in (
      record { bytes = f.same.bytes ∙ i.0.bytes; size = f.same.size ∙ i.0.size; round = f.same.round ∙ i.0.round },
      i.1,
      texts_turn b.round (length b.bytes.now) b.progress b.bytes.now g.sheet.now g.sub g.rows.first g.rows.count l.area.progress l.area.bytes.now l.i i.1 i.2 c.loop-i-test.true
          c.slot_size-stride.result c.slot_size-stride.ensures.0 c.read_row-v.result (rw c.row.ensures at c.read_row-v.ensures) c.str_of.result.now c.str_of.ensures (length l.area.bytes.now) i.0.size _ _ _ refl
          (rw i.0.round at f.did),
    )

pub returns : goal.returns
returns c =
    let g = c.args in
    let a = g.area.now in
    let b = c.pay.new.self in
    let e = c.in_ok-pay.ensures in
    let l = c.loop-i in
    let d = paid_done a.round a.progress (run_cost (slot_size g.sub) g.rows.count) c.cost.result _ b.progress (c.cost.ensures ∙ ap (λ (x : ℕ). 16 + x * g.rows.count) c.slot_size-stride.ensures.0) e.did.answer refl in
    let u = rw (e.same.round, e.did.area) at l.invariant.2 in
    rw c.slot_block.ensures
    record {
      same = same_then e.same l.invariant.0;
      did = run_kept any_schema a.round (length a.bytes.now) a.progress a.bytes.now (slot_size g.sub) 0 g.rows.count (λ S r. text_element (env_of g.sheet.now S a.round) g.sub r) (rows_from g.rows.first g.rows.count)
          g.sheet.now (slot_block g.sub) 0 (length_rows_from g.rows.first g.rows.count) (omega arith) d u (omega (arith, l.invariant.0, c.loop-i-test.false));
    }
