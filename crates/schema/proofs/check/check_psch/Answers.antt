-- `schema::check::check_psch` meets its contract. Assumes nothing.
use native.Mathlib.Omega.{arith}
use mathlib.Core.Path.{◌≡◌}
use Rattle.schema.proofs.Errors.{passed_on}
use Rattle.schema.proofs.Judge.{refuses, passes}
use Rattle.schema.proofs.Counts.{psch_short, psch_past, begin, turn, stop, finish}
use Rattle.schema.proofs.check.check_psch.Goals as goal

pub returns-in_err-within : goal.returns-in_err-within
returns-in_err-within c =
    rw (← passed_on _ c.in_err-within.field-0.0 c.from_residual.ensures.1) (psch_short c.args.p.now _ (refuses _ _ c.in_err-within.ensures))

pub returns-in_err-within-2 : goal.returns-in_err-within-2
returns-in_err-within-2 c =
    rw (← passed_on _ c.in_err-within-2.field-0.0 c.from_residual-in_err-within-2.ensures.1)
    (psch_past c.args.p.now (passes _ c.in_ok-within.ensures) c.read-n.result c.read-n.ensures _ (refuses _ _ c.in_err-within-2.ensures))

pub loop-i-init : goal.loop-i-init
loop-i-init c =
    begin c.args.p.now (passes _ c.in_ok-within.ensures) c.read-n.result c.read-n.ensures (passes _ c.in_ok-within-2.ensures)

pub returns-in_err-kind_at : goal.returns-in_err-kind_at
returns-in_err-kind_at c =
    rw (← passed_on _ c.in_err-kind_at.field-0.0 c.from_residual-in_err-kind_at.ensures.1)
    (stop c.args.p.now c.read-n.result c.loop-i.i c.read-place.result c.loop-i-test.true c.read-place.ensures c.loop-i.invariant _ c.in_err-kind_at.ensures)

pub loop-i-preserved : goal.loop-i-preserved
loop-i-preserved c =
    turn c.args.p.now c.read-n.result c.loop-i.i c.read-place.result c.loop-i-test.true c.read-place.ensures c.loop-i.invariant _ c.in_ok-kind_at.ensures

pub returns : goal.returns
returns c =
    let e : c.loop-i.i ≡ c.read-n.result = omega arith in
    finish c.args.p.now c.read-n.result (rw e at c.loop-i.invariant)
