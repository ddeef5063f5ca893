-- `turns::last` meets its contract. Assumes nothing.
use mathlib.Core.Path.{subst}
use borrow.Author.Rules.{rules}
use lib.ListN.{length}
use Rattle.std.proofs.lemmas.Result.{err_from_is_err_and}
use Rattle.turns.specs.Turns.{Reached}
use Rattle.turns.proofs.Endings.{end_unbegun, end_wiped, end_file}
use Rattle.turns.proofs.last.Goals as goal
use Rattle.turns.proofs.last.Goals.{in-Ok, in-Err}

pub returns-in_err-stage : goal.returns-in_err-stage
returns-in_err-stage c =
    let a = c.args in
    let s = a.task.now in
    let x = err_from_is_err_and c.from_residual.result c.from_residual.ensures.1 in
    rw (x.1, x.2) (end_unbegun s.alone s.sheet.now s.schema.now a.out.now a.work.now s.room _
    (subst (λ r. Reached s.alone s.sheet.now s.schema.now (length a.out.now) s.room r a.work.now) c.in_err-stage.was c.requires))

pub returns : goal.returns
returns c =
    let a = c.args in
    let s = a.task.now in
    let st = c.in_ok-stage.stage in
    let r = c.area-area.ensures in
    let h = subst (λ x. Reached s.alone s.sheet.now s.schema.now (length a.out.now) s.room x a.work.now) c.in_ok-stage.was c.requires in
    elim c.match-job.branch [
      | in-Ok w ↦
          let f = w.put_file in
          let e = f.ensures in
          rw (w.built-is, w.out-is)
          (end_file s.alone s.sheet.now s.schema.now a.out.now a.work.now s.room st.length st.count st.job h w.in-Ok.pointer w.in-Ok.is
          f.new.out f.new.area.bytes.now c.wipe.new.area.bytes.now _ (search rules) (rw (r.round, r.progress, r.bytes) at e.file) (rw r.bytes at e.same.size)
          (λ S u. (rw w.area-is at c.wipe.ensures.zero) S (rw (e.same.round, r.round, e.progress, r.progress) u)))
      | in-Err w ↦
          rw (w.built-is, w.out-is)
          (end_wiped s.alone s.sheet.now s.schema.now a.out.now a.work.now s.room st.length st.count st.job h w.in-Err.refusal w.in-Err.is
          c.wipe.new.area.bytes.now _ (search rules) (rw (w.area-is, r.round, r.progress, r.bytes) at c.wipe.ensures.zero))
    ]
