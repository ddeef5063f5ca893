-- Runs of pointers and of structures. Assumes nothing.
use mathlib.Core.Path.{refl, sym, ap, ◌∙◌}
use native.Mathlib.Omega.{arith}
use lib.ListN.{length}
use borrow.Author.Rules.{rules}
use borrow.Author.Tests.{eqb-true, eqb-false}
use Rattle.std.proofs.lemmas.Result.{err_from_is_err_and}
use Rattle.value.specs.Rows.{Row}
use Rattle.area.proofs.Stepping.{same_then, step_then, change_then}
use Rattle.choices.specs.Items.{is_pairs}
use Rattle.choices.specs.Sources.{fields_is}
use Rattle.runs.proofs.Loops.{paid_done, ready, run_cost}
use Rattle.writers.proofs.PointerRuns.{pointing_begin, pointing_safe, pointing_open, pointing_skip, pointing_nothing, pointing_at, pointing_stopped, pointing_kept, pointing_dear}
use Rattle.writers.proofs.StructRuns.{paid_numbers, struct_begin, struct_numbers, struct_turn, struct_kept, struct_stopped, struct_dear as run_dear}
use Rattle.writers.proofs.write.Writer.+write.Goals as goal
use Rattle.writers.proofs.write.Writer.+write.Goals.{pointer_run-in-Some, pointer_run-in_default}

-- `pointer_run`.

pub pointer_run-loop-k-init : goal.pointer_run-loop-k-init
pointer_run-loop-k-init t c =
    let g = c.args in
    let a = g.area.now in
    let at = g.at.now in
    let F = g.self.now.schema.now in
    let T = g.self.now.sheet.now in
    let e = c.in_ok-pay.ensures in
    let b = c.pay.new.self in
    let d = paid_done a.round a.progress (run_cost 8 g.rows.count) c.cost.result _ b.progress c.cost.ensures e.did.answer refl in
    let z = paid_numbers a.round a.progress (run_cost 8 g.rows.count) b.progress d in
    let y = rw (← e.same.round, ← e.same.size) at (ready 8 g.rows.count a.safe d) in
    (record { bytes = refl; size = refl; round = refl }, omega (arith, z.0, z.1, c.requires), y, pointing_begin F T b.round (length b.bytes.now) g.self.now.left at.structure at.member g.reference g.rows.first g.rows.count b.progress b.bytes.now y)

pub pointer_run-invariant_of-area : goal.pointer_run-invariant_of-area
pointer_run-invariant_of-area t c =
    let g = c.args in
    let at = g.at.now in
    let F = g.self.now.schema.now in
    let T = g.self.now.sheet.now in
    let b = c.pay.new.self in
    let l = c.loop-k in
    let v = l.invariant in
    record { safe = rw (v.0.round, v.0.size) (pointing_safe F T b.round (length b.bytes.now) g.self.now.left at.structure at.member g.reference g.rows.first g.rows.count b.progress b.bytes.now l.area.progress l.area.bytes.now l.k v.2 v.3 c.loop-k-test.true) }

pub pointer_run-loop-k-preserved-then-not-is : goal.pointer_run-loop-k-preserved-then-not-is
pointer_run-loop-k-preserved-then-not-is t c =
    let g = c.args in
    let at = g.at.now in
    let F = g.self.now.schema.now in
    let T = g.self.now.sheet.now in
    let b = c.pay.new.self in
    let l = c.loop-k in
    let v = l.invariant in (
      record { bytes = v.0.bytes; size = v.0.size; round = v.0.round },
      v.1,
      v.2,
      pointing_skip F T b.round (length b.bytes.now) g.self.now.left at.structure at.member g.reference g.rows.first g.rows.count b.progress b.bytes.now l.area.progress l.area.bytes.now l.k v.2 v.3 c.loop-k-test.true (λ z. eqb-false _ _ (sym c.is.ensures ∙ c.if-not-is.true) (ap (λ (x : Row). x.kind) (rw c.row-r.ensures at c.read_row.ensures) ∙ z)),
    )

pub pointer_run-point_to-requires : goal.pointer_run-point_to-requires
pointer_run-point_to-requires t c =
    let g = c.args in
    let at = g.at.now in
    let F = g.self.now.schema.now in
    let T = g.self.now.sheet.now in
    let b = c.pay.new.self in
    let l = c.loop-k in
    let v = l.invariant in
    (omega (arith, c.decreases), pointing_open F T b.round (length b.bytes.now) g.self.now.left at.structure at.member g.reference g.rows.first g.rows.count b.progress b.bytes.now l.area.progress l.area.bytes.now l.k v.2 v.3 c.loop-k-test.true v.1)

pub pointer_run-returns-in_err-x : goal.pointer_run-returns-in_err-x
pointer_run-returns-in_err-x t c =
    let g = c.args in
    let a = g.area.now in
    let at = g.at.now in
    let F = g.self.now.schema.now in
    let T = g.self.now.sheet.now in
    let x = err_from_is_err_and c.from_residual-in_err-x.result c.from_residual-in_err-x.ensures.1 in
    let e = c.in_ok-pay.ensures in
    let b = c.pay.new.self in
    let d = paid_done a.round a.progress (run_cost 8 g.rows.count) c.cost.result _ b.progress c.cost.ensures e.did.answer refl in
    let l = c.loop-k in
    let f = c.in_err-x.ensures in
    let h = same_then e.same l.invariant.0 in
    let r = ready 8 g.rows.count a.safe d in
    let u = rw (e.same.round, e.did.area) at l.invariant.3 in
    rw (x.1, x.2)
    record {
      same = record { bytes = f.same.bytes ∙ h.bytes; size = f.same.size ∙ h.size; round = f.same.round ∙ h.round };
      did = pointing_stopped F T a.round (length a.bytes.now) g.self.now.left at.structure at.member g.reference g.rows.first g.rows.count b.progress a.bytes.now l.area.progress l.area.bytes.now l.k r u c.loop-k-test.true a.progress d _ _ _ (ap (λ (x : Row). x.kind) (sym (rw c.row-r.ensures at c.read_row.ensures)) ∙ eqb-true _ _ (sym c.is.ensures ∙ c.if-not-is.false)) (rw (h.round, h.size, c.row-r.ensures) at f.did);
    }

pub pointer_run-loop-k-preserved : goal.pointer_run-loop-k-preserved
pointer_run-loop-k-preserved t c =
    let g = c.args in
    let at = g.at.now in
    let F = g.self.now.schema.now in
    let T = g.self.now.sheet.now in
    let b = c.pay.new.self in
    let l = c.loop-k in
    let v = l.invariant in
    let f = c.in_ok-x.ensures in
    (elim c.match-branch-3.branch [
      | pointer_run-in-Some w ↦ rw w.area-is (
        record { bytes = f.same.bytes ∙ v.0.bytes; size = search (rules, f.same.size, v.0.size); round = f.same.round ∙ v.0.round },
        v.1,
        v.2,
        rw w.put_pointer.ensures (pointing_at F T b.round (length b.bytes.now) g.self.now.left at.structure at.member g.reference g.rows.first g.rows.count b.progress b.bytes.now l.area.progress l.area.bytes.now l.k v.2 v.3 c.loop-k-test.true _ _ w.in-Some.x (ap (λ (x : Row). x.kind) (sym (rw c.row-r.ensures at c.read_row.ensures)) ∙ eqb-true _ _ (sym c.is.ensures ∙ c.if-not-is.false)) (rw (v.0.round, v.0.size, c.row-r.ensures, w.in-Some.is) at f.did)),
      )
      | pointer_run-in_default w ↦ rw w.area-is (
        record { bytes = f.same.bytes ∙ v.0.bytes; size = f.same.size ∙ v.0.size; round = f.same.round ∙ v.0.round },
        v.1,
        v.2,
        pointing_nothing F T b.round (length b.bytes.now) g.self.now.left at.structure at.member g.reference g.rows.first g.rows.count b.progress b.bytes.now l.area.progress l.area.bytes.now l.k v.2 v.3 c.loop-k-test.true _ _ (ap (λ (x : Row). x.kind) (sym (rw c.row-r.ensures at c.read_row.ensures)) ∙ eqb-true _ _ (sym c.is.ensures ∙ c.if-not-is.false)) (rw (v.0.round, v.0.size, c.row-r.ensures, w.in_default.is) at f.did),
      )
    ])

pub pointer_run-returns-in_err-pay : goal.pointer_run-returns-in_err-pay
pointer_run-returns-in_err-pay t c =
    let g = c.args in
    let a = g.area.now in
    let at = g.at.now in
    let F = g.self.now.schema.now in
    let T = g.self.now.sheet.now in
    let x = err_from_is_err_and c.from_residual.result c.from_residual.ensures.1 in
    let e = c.in_err-pay.ensures in
    rw (x.1, x.2)
    record {
      same = e.same;
      did = rw e.did.area (pointing_dear F T a.round (length a.bytes.now) g.self.now.left at.structure at.member g.reference g.rows.first g.rows.count a.progress a.bytes.now c.cost.result _ _ _ a.safe c.cost.ensures e.did.answer refl);
    }

pub pointer_run-returns : goal.pointer_run-returns
pointer_run-returns t c =
    let g = c.args in
    let a = g.area.now in
    let at = g.at.now in
    let F = g.self.now.schema.now in
    let T = g.self.now.sheet.now in
    let e = c.in_ok-pay.ensures in
    let b = c.pay.new.self in
    let d = paid_done a.round a.progress (run_cost 8 g.rows.count) c.cost.result _ b.progress c.cost.ensures e.did.answer refl in
    let l = c.loop-k in
    let u = rw (e.same.round, e.did.area) at l.invariant.3 in
    record {
      same = same_then e.same l.invariant.0;
      did = pointing_kept F T a.round (length a.bytes.now) g.self.now.left at.structure at.member g.reference g.rows.first g.rows.count b.progress a.bytes.now l.area.progress l.area.bytes.now l.k a.progress d u (omega (arith, c.loop-k-test.false));
    }

-- `struct_run`.

pub struct_run-loop-k-init : goal.struct_run-loop-k-init
struct_run-loop-k-init t c =
    let g = c.args in
    let a = g.area.now in
    let at = g.at.now in
    let F = g.self.now.schema.now in
    let T = g.self.now.sheet.now in
    let e = c.in_ok-pay.ensures in
    let b = c.pay.new.self in
    let d = paid_done a.round a.progress (run_cost g.inner.size g.rows.count) c.cost.result _ b.progress c.cost.ensures e.did.answer refl in
    let z = paid_numbers a.round a.progress (run_cost g.inner.size g.rows.count) b.progress d in
    (record { bytes = refl; size = refl; round = refl }, omega (arith, z.0, z.1, c.requires), struct_begin F T b.round (length b.bytes.now) g.self.now.left at.structure at.member g.inner (is_pairs g.items) g.rows.first g.rows.count b.progress b.bytes.now b.safe)

pub struct_run-note-requires : goal.struct_run-note-requires
struct_run-note-requires t c =
    let g = c.args in
    let at = g.at.now in
    let F = g.self.now.schema.now in
    let T = g.self.now.sheet.now in
    let b = c.pay.new.self in
    let l = c.loop-k in
    let v = l.invariant in
    let s = struct_numbers F T b.round (length b.bytes.now) g.self.now.left at.structure at.member g.inner (is_pairs g.items) g.rows.first g.rows.count b.progress b.bytes.now l.area.progress l.area.bytes.now l.k v.2 in
    omega (arith, s.1.met, v.1)

pub struct_run-loop-k-preserved : goal.struct_run-loop-k-preserved
struct_run-loop-k-preserved t c =
    let g = c.args in
    let at = g.at.now in
    let F = g.self.now.schema.now in
    let T = g.self.now.sheet.now in
    let b = c.pay.new.self in
    let l = c.loop-k in
    let v = l.invariant in
    let s = struct_numbers F T b.round (length b.bytes.now) g.self.now.left at.structure at.member g.inner (is_pairs g.items) g.rows.first g.rows.count b.progress b.bytes.now l.area.progress l.area.bytes.now l.k v.2 in
    let n = c.note.ensures in
    let f = c.in_ok-write_struct.ensures in (
      same_then (same_then v.0 n.same) f.same,
      v.1,
      struct_turn F T b.round (length b.bytes.now) g.self.now.left at.structure at.member g.inner (is_pairs g.items) g.rows.first g.rows.count b.progress b.bytes.now l.area.progress _ _ l.area.bytes.now _ _ l.k c.row-r.result (fields_is T c.source.result)
          v.2 c.loop-k-test.true c.row-r.ensures.0 (c.source.ensures T) (omega (arith, s.1.met, v.1)) (change_then v.0 n) (step_then (same_then v.0 n.same) f),
    )

pub struct_run-returns-in_err-pay : goal.struct_run-returns-in_err-pay
struct_run-returns-in_err-pay t c =
    let g = c.args in
    let a = g.area.now in
    let at = g.at.now in
    let F = g.self.now.schema.now in
    let T = g.self.now.sheet.now in
    let x = err_from_is_err_and c.from_residual.result c.from_residual.ensures.1 in
    let e = c.in_err-pay.ensures in
    rw (x.1, x.2)
    record {
      same = e.same;
      did = rw e.did.area (run_dear F T a.round (length a.bytes.now) g.self.now.left at.structure at.member g.inner a.progress a.bytes.now g.rows.first g.rows.count (is_pairs g.items) c.cost.result _ _ _ a.safe c.cost.ensures e.did.answer refl);
    }

pub struct_run-returns-in_err-write_struct : goal.struct_run-returns-in_err-write_struct
struct_run-returns-in_err-write_struct t c =
    let g = c.args in
    let a = g.area.now in
    let at = g.at.now in
    let F = g.self.now.schema.now in
    let T = g.self.now.sheet.now in
    let x = err_from_is_err_and c.from_residual-in_err-write_struct.result c.from_residual-in_err-write_struct.ensures.1 in
    let e = c.in_ok-pay.ensures in
    let b = c.pay.new.self in
    let d = paid_done a.round a.progress (run_cost g.inner.size g.rows.count) c.cost.result _ b.progress c.cost.ensures e.did.answer refl in
    let l = c.loop-k in
    let n = c.note.ensures in
    let f = c.in_err-write_struct.ensures in
    let h = same_then e.same l.invariant.0 in
    let u = rw (e.same.round, e.did.area) at l.invariant.2 in
    rw (x.1, x.2)
    record {
      same = same_then (same_then h n.same) f.same;
      did = struct_stopped F T a.round (length a.bytes.now) g.self.now.left at.structure at.member g.inner a.progress a.bytes.now g.rows.first g.rows.count (is_pairs g.items) b.progress l.area.progress _ _ l.area.bytes.now _ _ l.k c.row-r.result _ (fields_is T c.source.result)
          d u c.loop-k-test.true c.row-r.ensures.0 (c.source.ensures T) (change_then h n) (step_then (same_then h n.same) f);
    }

pub struct_run-returns : goal.struct_run-returns
struct_run-returns t c =
    let g = c.args in
    let a = g.area.now in
    let at = g.at.now in
    let F = g.self.now.schema.now in
    let T = g.self.now.sheet.now in
    let e = c.in_ok-pay.ensures in
    let b = c.pay.new.self in
    let d = paid_done a.round a.progress (run_cost g.inner.size g.rows.count) c.cost.result _ b.progress c.cost.ensures e.did.answer refl in
    let l = c.loop-k in
    let u = rw (e.same.round, e.did.area) at l.invariant.2 in
    record {
      same = same_then e.same l.invariant.0;
      did = struct_kept F T a.round (length a.bytes.now) g.self.now.left at.structure at.member g.inner a.progress a.bytes.now g.rows.first g.rows.count (is_pairs g.items) b.progress l.area.progress l.area.bytes.now l.k d u (omega (arith, c.loop-k-test.false));
    }
