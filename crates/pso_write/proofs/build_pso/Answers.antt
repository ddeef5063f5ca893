-- `pso_write::build_pso`: each turn keeps what `step` says, and the end gives what `last` says.
use mathlib.Core.Path.{refl, ◌∙◌}
use lib.ListN.{length}
use borrow.Author.Tests.{not-true, not-false}
use Rattle.turns.proofs.Endings.{leaves_none, leaves_all}
use Rattle.pso_write.proofs.build_pso.Goals as goal

pub returns-in-Err : goal.returns-in-Err
returns-in-Err c =
    let a = c.args in
    let l = c.last in
    leaves_none a.alone a.sheet.now a.schema.now (length a.out.now) (length a.remarks.now) (length a.work.now) c.in-Err.refusal c.first.new.work a.out.now c.zero_rest.new.list
    c.first.auto.work refl c.in-Err.ensures c.zero_rest.ensures l.result l.new.out l.new.work l.ensures

pub step-turn-requires : goal.step-turn-requires
step-turn-requires c =
    let m = c.loop-stage.invariant.2.0 (not-true c.loop-stage.stage.last c.loop-stage-test.true) in (m.place, m.fit, m.settled)

pub loop-stage-preserved : goal.loop-stage-preserved
loop-stage-preserved c =
    let l = c.loop-stage in (
      c.store.auto.list ∙ l.invariant.0,
      c.step-turn.auto.work ∙ l.invariant.1,
      rw c.store.ensures (c.step-turn.ensures l.remarks l.invariant.0 c.load.ensures l.invariant.2).0,
    )

pub returns : goal.returns
returns c =
    let a = c.args in
    let l = c.loop-stage in
    leaves_all a.alone a.sheet.now a.schema.now (length a.out.now) (length a.remarks.now) l.stage l.remarks l.work l.invariant.0
    (l.invariant.2.1 (not-false l.stage.last c.loop-stage-test.false))
    c.zero_rest-2.new.list c.zero_rest-2.ensures (length a.work.now) (l.invariant.1 ∙ c.first.auto.work) a.out.now refl c.last-2.result c.last-2.new.out c.last-2.new.work c.last-2.ensures
