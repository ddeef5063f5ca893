-- A structure from its start to its end. Assumes nothing.
use mathlib.Core.Path.{refl, sym, ◌∙◌}
use mathlib.Core.Logic.{inl, inr}
use native.Mathlib.Omega.{arith}
use lib.ListN.{length}
use Rattle.std.proofs.lemmas.Result.{err_from_is_err_and}
use Rattle.area.specs.Steps.{Same}
use Rattle.area.proofs.Stepping.{same_then, step_then, change_then}
use Rattle.choices.specs.Sources.{fields_is}
use Rattle.choices.proofs.Nths.{nth_read}
use Rattle.writers.proofs.Structs.{entered, writing_begin, writing_skip, writing_turn, writing_refused, writing_done, struct_deep, struct_dear}
use Rattle.writers.proofs.write.Writer.+write.Goals as goal
use Rattle.writers.proofs.write.Writer.+write.Goals.{write_struct-then-self-eq0-via-then-self-eq0, write_struct-then-self-eq0-via-else-self-eq0+then-depths-eq0}

-- `write_struct`.

pub write_struct-returns-then-self-eq0 : goal.write_struct-returns-then-self-eq0
write_struct-returns-then-self-eq0 t c =
    let g = c.args in
    let a = g.area.now in
    let F = g.self.now.schema.now in
    let T = g.self.now.sheet.now in
    record {
      same = record { bytes = refl; size = refl; round = refl };
      did = struct_deep F T a.round (length a.bytes.now) g.d _ a.progress a.bytes.now g.self.now.left g.depths a.safe
          (elim c.then-self-eq0.branch [
            | write_struct-then-self-eq0-via-then-self-eq0 w ↦ inl w.if-self-eq0.true
            | write_struct-then-self-eq0-via-else-self-eq0+then-depths-eq0 w ↦ inr w.if-depths-eq0.true
          ]);
    }

pub write_struct-returns-in_err-pay : goal.write_struct-returns-in_err-pay
write_struct-returns-in_err-pay t c =
    let g = c.args in
    let a = g.area.now in
    let F = g.self.now.schema.now in
    let T = g.self.now.sheet.now in
    let x = err_from_is_err_and c.from_residual.result c.from_residual.ensures.1 in
    let e = c.in_err-pay.ensures in
    rw (x.1, x.2)
    record {
      same = e.same;
      did = rw e.did.area (struct_dear F T a.round (length a.bytes.now) g.d _ a.progress a.bytes.now g.self.now.left g.depths _ _ a.safe (omega (arith, c.if-self-eq0.false)) (omega (arith, c.if-depths-eq0.false)) (sym e.did.answer));
    }

pub write_struct-loop-k-init : goal.write_struct-loop-k-init
write_struct-loop-k-init t c =
    let g = c.args in
    let a = g.area.now in
    let F = g.self.now.schema.now in
    let T = g.self.now.sheet.now in
    let e = c.in_ok-pay.ensures in
    let u = c.use_struct.ensures in
    let h = same_then e.same u.same in
    let q = c.use_struct.new.self in
    let i = entered F a.round (length a.bytes.now) a.progress a.bytes.now g.d c.pay.new.self.progress q.progress q.bytes.now a.safe (sym e.did.answer) (rw e.did.area at (change_then e.same u)).marks in
    let w = writing_begin F T a.round (length a.bytes.now) g.self.now.left g.depths g.d (fields_is T g.from) a.progress a.bytes.now _ _ a.safe i in
    (record { bytes = refl; size = refl; round = refl }, rw (← h.round, ← h.size) at w)

pub write_struct-loop-k-preserved-then-member-eq-ARRAYINFO : goal.write_struct-loop-k-preserved-then-member-eq-ARRAYINFO
write_struct-loop-k-preserved-then-member-eq-ARRAYINFO t c =
    let g = c.args in
    let F = g.self.now.schema.now in
    let T = g.self.now.sheet.now in
    let l = c.loop-k in
    let i = l.invariant in (
      i.0,
      writing_skip F T _ _ g.self.now.left g.depths g.d (fields_is T g.from) _ _ l.area.progress l.area.bytes.now l.k i.1
          c.member-member.result (omega (arith, c.loop-k-test.true, c.from-k-end.ensures)) (nth_read F g.d l.k c.member-member.result c.member-member.ensures (omega (arith, c.loop-k-test.true, c.from-k-end.ensures))) c.if-member-eq-ARRAYINFO.true,
    )

pub write_struct-loop-k-preserved : goal.write_struct-loop-k-preserved
write_struct-loop-k-preserved t c =
    let g = c.args in
    let F = g.self.now.schema.now in
    let T = g.self.now.sheet.now in
    let l = c.loop-k in
    let i = l.invariant in
    let f = c.in_ok-write_member.ensures in (
      same_then i.0 f.same,
      writing_turn F T _ _ g.self.now.left g.depths g.d (fields_is T g.from) _ _ l.area.progress l.area.bytes.now l.k i.1
          c.member-member.result c.value_of.result (omega (arith, c.loop-k-test.true, c.from-k-end.ensures)) (nth_read F g.d l.k c.member-member.result c.member-member.ensures (omega (arith, c.loop-k-test.true, c.from-k-end.ensures))) c.if-member-eq-ARRAYINFO.false c.value_of.ensures
          _ _ (step_then i.0 f),
    )

pub write_struct-returns-in_err-write_member : goal.write_struct-returns-in_err-write_member
write_struct-returns-in_err-write_member t c =
    let g = c.args in
    let a = g.area.now in
    let F = g.self.now.schema.now in
    let T = g.self.now.sheet.now in
    let x = err_from_is_err_and c.from_residual-in_err-write_member.result c.from_residual-in_err-write_member.ensures.1 in
    let e = c.in_ok-pay.ensures in
    let u = c.use_struct.ensures in
    let h = same_then e.same u.same in
    let q = c.use_struct.new.self in
    let i = entered F a.round (length a.bytes.now) a.progress a.bytes.now g.d c.pay.new.self.progress q.progress q.bytes.now a.safe (sym e.did.answer) (rw e.did.area at (change_then e.same u)).marks in
    let l = c.loop-k in
    let f = c.in_err-write_member.ensures in
    let o : Same a l.area = record { bytes = l.invariant.0.bytes ∙ h.bytes; size = l.invariant.0.size ∙ h.size; round = l.invariant.0.round ∙ h.round } in
    rw (x.1, x.2)
    record {
      same = same_then o f.same;
      did = writing_refused F T a.round (length a.bytes.now) g.self.now.left g.depths g.d (fields_is T g.from) _ _ l.area.progress l.area.bytes.now l.k (rw (h.round, h.size) at l.invariant.1)
          c.member-member.result c.value_of.result (omega (arith, c.loop-k-test.true, c.from-k-end.ensures)) (nth_read F g.d l.k c.member-member.result c.member-member.ensures (omega (arith, c.loop-k-test.true, c.from-k-end.ensures))) c.if-member-eq-ARRAYINFO.false c.value_of.ensures
          a.progress a.bytes.now a.safe (omega (arith, c.if-self-eq0.false)) (omega (arith, c.if-depths-eq0.false)) i _ _ _ (step_then o f);
    }

pub write_struct-returns : goal.write_struct-returns
write_struct-returns t c =
    let g = c.args in
    let a = g.area.now in
    let F = g.self.now.schema.now in
    let T = g.self.now.sheet.now in
    let e = c.in_ok-pay.ensures in
    let u = c.use_struct.ensures in
    let h = same_then e.same u.same in
    let q = c.use_struct.new.self in
    let i = entered F a.round (length a.bytes.now) a.progress a.bytes.now g.d c.pay.new.self.progress q.progress q.bytes.now a.safe (sym e.did.answer) (rw e.did.area at (change_then e.same u)).marks in
    let l = c.loop-k in
    record {
      same = record { bytes = l.invariant.0.bytes ∙ h.bytes; size = l.invariant.0.size ∙ h.size; round = l.invariant.0.round ∙ h.round };
      did = writing_done F T a.round (length a.bytes.now) g.self.now.left g.depths g.d (fields_is T g.from) _ _ l.area.progress l.area.bytes.now l.k (rw (h.round, h.size) at l.invariant.1)
          a.progress a.bytes.now a.safe (omega (arith, c.if-self-eq0.false)) (omega (arith, c.if-depths-eq0.false)) i (omega (arith, c.loop-k-test.false, c.from-k-end.ensures)) (omega (arith, c.well_formed));
    }
