-- `members::slots::text_slot` meets its contract. Assumes nothing.
use mathlib.Core.Path.{refl}
use Prim.Native.Nat.{◌+◌}
use lib.ListN.{length}
use borrow.Author.Tests.{eq-eqb, ne_eqb}
use borrow.Author.Rules.{rules}
use Rattle.std.proofs.lemmas.Result.{err_from_is_err_and}
use Rattle.area.proofs.Stepping.{same_then, step_then}
use Rattle.members.proofs.Slotting.{paid_yes, paid_no, text_none, text_poor, text_full, text_pointer, text_counted}
use Rattle.members.proofs.slots.text_slot.Goals as goal

pub returns-then-n-eq0 : goal.returns-then-n-eq0
returns-then-n-eq0 c =
    let g = c.args in
    let a = g.area.now in
    record {
      same = record { bytes = refl; size = refl; round = refl };
      did = text_none a.round (length a.bytes.now) a.progress a.bytes.now g.sub g.text.now g.at a.safe c.if-n-eq0.true;
    }

pub returns-in_err-pay : goal.returns-in_err-pay
returns-in_err-pay c =
    let g = c.args in
    let a = g.area.now in
    let x = err_from_is_err_and c.from_residual.result c.from_residual.ensures.1 in
    let e = c.in_err-pay.ensures in
    let y = paid_no a.round a.progress (16 + (length g.text.now + 1)) _ _ _ e.did.answer refl in
    rw (x.1, x.2)
    record {
      same = e.same;
      did = rw (y.1, y.2, e.did.area) (text_poor a.round (length a.bytes.now) a.progress a.bytes.now g.sub g.text.now g.at a.safe c.if-n-eq0.false y.0);
    }

pub returns-in_err-x : goal.returns-in_err-x
returns-in_err-x c =
    let g = c.args in
    let a = g.area.now in
    let x = err_from_is_err_and c.from_residual-in_err-x.result c.from_residual-in_err-x.ensures.1 in
    let e = c.in_ok-pay.ensures in
    let f = c.in_err-x.ensures in
    let y = paid_yes a.round a.progress (16 + (length g.text.now + 1)) _ _ e.did.answer refl in
    rw (x.1, x.2)
    record {
      same = same_then e.same f.same;
      did = text_full a.round (length a.bytes.now) a.progress a.bytes.now g.sub g.text.now g.at a.safe c.if-n-eq0.false y.0 _ _ _
          (rw (y.1, e.did.area) at (step_then e.same f));
    }

pub returns-then-sub-eq3 : goal.returns-then-sub-eq3
returns-then-sub-eq3 c =
    let g = c.args in
    let a = g.area.now in
    let e = c.in_ok-pay.ensures in
    let f = c.in_ok-x.ensures in
    let h = same_then e.same f.same in
    let y = paid_yes a.round a.progress (16 + (length g.text.now + 1)) _ _ e.did.answer refl in
    record {
      same = record { bytes = h.bytes; size = search (rules, h.size); round = h.round };
      did = rw c.put_counted.ensures
          (text_counted a.round (length a.bytes.now) a.progress a.bytes.now g.sub g.text.now g.at a.safe c.if-n-eq0.false y.0 _ _ _
          (eq-eqb g.sub 3 c.if-sub-eq3.true) (rw (y.1, e.did.area) at (step_then e.same f)));
    }

pub returns-else-sub-eq3 : goal.returns-else-sub-eq3
returns-else-sub-eq3 c =
    let g = c.args in
    let a = g.area.now in
    let e = c.in_ok-pay.ensures in
    let f = c.in_ok-x.ensures in
    let h = same_then e.same f.same in
    let y = paid_yes a.round a.progress (16 + (length g.text.now + 1)) _ _ e.did.answer refl in
    record {
      same = record { bytes = h.bytes; size = search (rules, h.size); round = h.round };
      did = rw c.put_pointer.ensures
          (text_pointer a.round (length a.bytes.now) a.progress a.bytes.now g.sub g.text.now g.at a.safe c.if-n-eq0.false y.0 _ _ _
          (ne_eqb g.sub 3 c.if-sub-eq3.false) (rw (y.1, e.did.area) at (step_then e.same f)));
    }
