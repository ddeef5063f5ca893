-- `pso::parse::parse_pso` meets its contract. Assumes nothing.
use mathlib.Core.Path.{refl, ap, ◌∙◌}
use native.Mathlib.Omega.{arith}
use lib.ListN.{length}
use Rattle.schema.proofs.Errors.{passed_on}
use Rattle.schema.proofs.Walk.{onward, ended}
use Rattle.pso.proofs.Place.{lies_there, placed_first, placed_turn, refusal_is, answer_is}
use Rattle.pso.proofs.Sight.{first, bad_name, parse_end, parse_broken, parse_refused, parse_turn}
use Rattle.pso.proofs.parse.parse_pso.Goals as goal

pub returns-then-not-is_name : goal.returns-then-not-is_name
returns-then-not-is_name c = refusal_is c.args.file.now 15 (bad_name c.args.file.now c.is_name.result c.is_name.ensures c.if-not-is_name.true)

pub loop-section-init : goal.loop-section-init
loop-section-init c =
    let F = c.args.file.now in
    let e = c.new-cursor.ensures in
    (e.0, omega (arith, e.1), omega arith, first F _ (rw (e.0, e.1)), placed_first F _ _ (rw (e.0, e.1)) e.1)

pub returns-in_err-section : goal.returns-in_err-section
returns-in_err-section c =
    let F = c.args.file.now in
    let l = c.loop-section in
    let h = c.in_err-section.ensures in
    rw (← passed_on _ c.in_err-section.field-0.0 c.from_residual.ensures.1, h.1)
    (refusal_is F 4 (parse_broken F c.is_name.result c.is_name.ensures c.if-not-is_name.false l.state (rw h.0 at l.invariant.3)))

pub returns-in_err-state : goal.returns-in_err-state
returns-in_err-state c =
    let F = c.args.file.now in
    let l = c.loop-section in
    let i = l.invariant in
    let o = onward l.cursor _ c.in-Some.section c.in-Some.next c.in_ok-section.ensures c.in-Some.is in
    rw (← passed_on _ c.in_err-state.field-0.0 c.from_residual-in_err-state.ensures.1)
    (refusal_is F _ (parse_refused F c.is_name.result c.is_name.ensures c.if-not-is_name.false l.state c.in-Some.section _ (rw o.left at i.3) _ c.in_err-state.ensures))

pub see-requires : goal.see-requires
see-requires c =
    let l = c.loop-section in
    let i = l.invariant in
    let b = c.in-Some.section in
    let o = onward l.cursor _ b c.in-Some.next c.in_ok-section.ensures c.in-Some.is in
    omega (arith, o.step.here, i.2)

pub loop-section-preserved : goal.loop-section-preserved
loop-section-preserved c =
    let F = c.args.file.now in
    let l = c.loop-section in
    let i = l.invariant in
    let b = c.in-Some.section in
    let o = onward l.cursor _ b c.in-Some.next c.in_ok-section.ensures c.in-Some.is in
    let w = c.in_ok-state.ensures in
    let x = c.in_ok-state.state in (
      o.step.same ∙ i.0,
      omega (arith, o.step.inside, o.step.on, ap length i.0),
      omega (arith, w.few x refl, i.2, o.step.on),
      parse_turn F b _ l.state x (rw o.left at i.3) w,
      placed_turn F b _ l.cursor.at c.in-Some.next.at l.state x (rw o.left at i.4) o.step.here o.step.on (lies_there F l.cursor b c.in-Some.next o.step i.0) _ w refl,
    )

pub returns : goal.returns
returns c =
    let F = c.args.file.now in
    let l = c.loop-section in
    let e = ended l.cursor _ c.in_ok-section.ensures c.in_default.is in
    let g = rw e at l.invariant.4 in
    answer_is F l.cursor.at l.state g _ c.finish.ensures
    (parse_end F c.is_name.result c.is_name.ensures c.if-not-is_name.false l.state (rw e at l.invariant.3) g.lies _ c.finish.ensures)
