-- `schema::check::check_schema` meets its contract. Assumes nothing.
use mathlib.Core.Path.{refl, ap, ◌∙◌}
use native.Mathlib.Omega.{arith}
use lib.ListN.{length}
use Rattle.schema.proofs.Errors.{passed_on}
use Rattle.schema.proofs.Walk.{onward, ended}
use Rattle.schema.proofs.Counts.{first, at_end_law, at_broken, refused_by, fewer, goes_on}
use Rattle.schema.proofs.check.check_schema.Goals as goal

pub loop-section-init : goal.loop-section-init
loop-section-init c =
    let e = c.new-cursor.ensures in
    (e.0, omega (arith, e.1), omega arith, rw (e.0, e.1) (first c.args.file.now _ refl))

pub returns-in_err-section : goal.returns-in_err-section
returns-in_err-section c =
    let h = c.in_err-section.ensures in
    rw (← passed_on _ c.in_err-section.field-0.0 c.from_residual.ensures.1, h.1)
    (at_broken c.args.file.now c.loop-section.count (rw h.0 at c.loop-section.invariant.3))

pub returns-in_err-count : goal.returns-in_err-count
returns-in_err-count c =
    let o = onward c.loop-section.cursor _ c.in-Some.section c.in-Some.next c.in_ok-section.ensures c.in-Some.is in
    rw (← passed_on _ c.in_err-count.field-0.0 c.from_residual-in_err-count.ensures.1)
    (refused_by c.args.file.now c.loop-section.count _ c.in-Some.section.bytes.now _ (rw o.left at c.loop-section.invariant.3) _ c.in_err-count.ensures)

pub overflow_add-count : goal.overflow_add-count
overflow_add-count c =
    let o = onward c.loop-section.cursor _ c.in-Some.section c.in-Some.next c.in_ok-section.ensures c.in-Some.is in
    let i = c.loop-section.invariant in
    let f = fewer c.args.file.now c.loop-section.count _ c.in-Some.section.bytes.now _ (rw o.left at i.3) _ c.in_ok-count.ensures in
    let e = ap length i.0 in
    omega (arith, o.step.inside, f, i.2, e)

pub loop-section-preserved : goal.loop-section-preserved
loop-section-preserved c =
    let o = onward c.loop-section.cursor _ c.in-Some.section c.in-Some.next c.in_ok-section.ensures c.in-Some.is in
    let i = c.loop-section.invariant in
    let f = fewer c.args.file.now c.loop-section.count _ c.in-Some.section.bytes.now _ (rw o.left at i.3) _ c.in_ok-count.ensures in (
      o.step.same ∙ i.0,
      omega (arith, o.step.inside, o.step.on, ap length i.0),
      omega (arith, f, i.2, o.step.on),
      goes_on c.args.file.now c.loop-section.count _ c.in-Some.section.bytes.now _ (rw o.left at i.3) _ c.in_ok-count.ensures,
    )

pub loop-section-smaller : goal.loop-section-smaller
loop-section-smaller c =
    let o = onward c.loop-section.cursor _ c.in-Some.section c.in-Some.next c.in_ok-section.ensures c.in-Some.is in
    omega (arith, o.step.inside, o.step.least, o.step.on, ap length c.loop-section.invariant.0)

pub returns : goal.returns
returns c =
    let e = ended c.loop-section.cursor _ c.in_ok-section.ensures c.in_default.is in
    at_end_law c.args.file.now c.loop-section.count (rw e at c.loop-section.invariant.3)
