-- `coerce::vector::vec_text` meets its contract: one part after the other. Assumes nothing.
use Rattle.std.specs.Prelude.{max}
use Rattle.std.proofs.Common.{rules, tests}
use Rattle.std.proofs.lemmas.Iterator.Consumers.{YieldsList-turn, YieldsList-end}
use Rattle.std.proofs.lemmas.List.{length_push}
use Rattle.std.proofs.lemmas.Result.{err_from_is_err_and}
use mathlib.Core.Path.{sym, ◌∙◌}
use native.Mathlib.Omega.{arith}
use Rattle.texts.proofs.Splits.{parts_of, length_split}
use Rattle.coerce.proofs.Parts
use Rattle.coerce.proofs.vector.vec_text.Goals as goal

pub loop-part-init : goal.loop-part-init
loop-part-init c = (Parts.parts_first c.args.n c.args.s.now, omega arith)

pub loop-part-preserved-then-is_empty : goal.loop-part-preserved-then-is_empty
loop-part-preserved-then-is_empty c =
    let l = c.loop-part in
    let s = c.args.s.now in
    let g = c.split-part-items.ensures in
    let e = c.into_iter-part-iterator.ensures.into_iter_gives in
    let h = YieldsList-turn (parts_of _ s e g.rest g.done g.closure (λ x b q k. search (rules, tests))) l.yielded _ l.yielded_by _ _ c.in-Some.part c.in-Some.is c.next.ensures.steps in
    let n = length_push l.yielded c.in-Some.part in
    (sym (Parts.turn_empty s _ _ _ h n (max c.args.n 1) l.v l.m (sym c.is_empty.ensures ∙ c.if-is_empty.true)) ∙ l.invariant.0, omega (arith, n, l.invariant.1))

pub returns-in_err-float_text : goal.returns-in_err-float_text
returns-in_err-float_text c =
    let l = c.loop-part in
    let s = c.args.s.now in
    let g = c.split-part-items.ensures in
    let e = c.into_iter-part-iterator.ensures.into_iter_gives in
    let h = YieldsList-turn (parts_of _ s e g.rest g.done g.closure (λ x b q k. search (rules, tests))) l.yielded _ l.yielded_by _ _ c.in-Some.part c.in-Some.is c.next.ensures.steps in
    let n = length_push l.yielded c.in-Some.part in
    let p = err_from_is_err_and c.from_residual.result c.from_residual.ensures.1 in
    rw (p.1, p.2) (sym (Parts.turn_err s _ _ _ h n (max c.args.n 1) l.v l.m _ (sym c.is_empty.ensures ∙ c.if-is_empty.false) (sym c.float_text.ensures ∙ c.in_err-float_text.was)) ∙ l.invariant.0)

pub overflow_add-m : goal.overflow_add-m
overflow_add-m c =
    let l = c.loop-part in
    let s = c.args.s.now in
    let g = c.split-part-items.ensures in
    let e = c.into_iter-part-iterator.ensures.into_iter_gives in
    let h = YieldsList-turn (parts_of _ s e g.rest g.done g.closure (λ x b q k. search (rules, tests))) l.yielded _ l.yielded_by _ _ c.in-Some.part c.in-Some.is c.next.ensures.steps in
    omega (arith, h.0, l.invariant.1, length_split s)

pub loop-part-preserved : goal.loop-part-preserved
loop-part-preserved c =
    let l = c.loop-part in
    let s = c.args.s.now in
    let g = c.split-part-items.ensures in
    let e = c.into_iter-part-iterator.ensures.into_iter_gives in
    let h = YieldsList-turn (parts_of _ s e g.rest g.done g.closure (λ x b q k. search (rules, tests))) l.yielded _ l.yielded_by _ _ c.in-Some.part c.in-Some.is c.next.ensures.steps in
    let n = length_push l.yielded c.in-Some.part in
    let k = Parts.turn_part s _ _ _ h n (max c.args.n 1) l.v l.m _ (sym c.is_empty.ensures ∙ c.if-is_empty.false) (sym c.float_text.ensures ∙ c.in_ok-float_text.was) in
    (rw c.placed-v.ensures (sym k ∙ l.invariant.0), omega (arith, n, l.invariant.1))

pub returns-then-max-m : goal.returns-then-max-m
returns-then-max-m c =
    let l = c.loop-part in
    let s = c.args.s.now in
    let g = c.split-part-items.ensures in
    let e = c.into_iter-part-iterator.ensures.into_iter_gives in
    let h = YieldsList-end (parts_of _ s e g.rest g.done g.closure (λ x b q k. search (rules, tests))) l.yielded _ l.yielded_by _ _ c.in-None.is c.next.ensures.steps in
    Parts.enough (max c.args.n 1) s l.v l.m _ (omega (arith, h.1)) (rw (sym c.max.ensures) c.if-max-m.true) ∙ l.invariant.0

pub returns : goal.returns
returns c =
    let l = c.loop-part in
    let s = c.args.s.now in
    let g = c.split-part-items.ensures in
    let e = c.into_iter-part-iterator.ensures.into_iter_gives in
    let h = YieldsList-end (parts_of _ s e g.rest g.done g.closure (λ x b q k. search (rules, tests))) l.yielded _ l.yielded_by _ _ c.in-None.is c.next.ensures.steps in
    Parts.too_few (max c.args.n 1) s l.v l.m _ (omega (arith, h.1)) (rw (sym c.max.ensures) c.if-max-m.false) ∙ l.invariant.0
