-- `names::flags::flag_names` meets its contract. Assumes nothing.
use Rattle.std.proofs.Common.{rules, tests}
use Rattle.std.proofs.lemmas.Iterator.Consumers.{YieldsList-turn, YieldsList-end}
use Rattle.std.proofs.lemmas.List.{length_push}
use Rattle.std.proofs.lemmas.Result.{err_from_is_err_and}
use mathlib.Core.Path.{sym, ◌∙◌}
use native.Mathlib.Omega.{arith}
use Rattle.names.specs.Entries.{all_of}
use Rattle.texts.proofs.Splits.{parts_of}
use Rattle.names.proofs.Splits
use Rattle.names.proofs.flags.flag_names.Goals as goal

pub loop-part-init : goal.loop-part-init
loop-part-init c = Splits.names_first (all_of c.args.entries) c.args.t.now

pub returns-in_err-bits : goal.returns-in_err-bits
returns-in_err-bits c =
    let l = c.loop-part in
    let t = c.args.t.now in
    let s = c.split-part-items.ensures in
    let e = c.into_iter-part-iterator.ensures.into_iter_gives in
    let h = YieldsList-turn (parts_of _ t e s.rest s.done s.closure (λ x b q k. search (rules, tests))) l.yielded _ l.yielded_by _ _ c.in-Some.part c.in-Some.is c.next.ensures.steps in
    let p = err_from_is_err_and c.from_residual.result c.from_residual.ensures.1 in
    rw (p.1, p.2) (sym (Splits.names_err (all_of c.args.entries) t _ _ 0 l.bits h _ (sym c.flag_part.ensures ∙ c.in_err-bits.was)) ∙ l.invariant)

pub loop-part-preserved : goal.loop-part-preserved
loop-part-preserved c =
    let l = c.loop-part in
    let t = c.args.t.now in
    let s = c.split-part-items.ensures in
    let e = c.into_iter-part-iterator.ensures.into_iter_gives in
    let h = YieldsList-turn (parts_of _ t e s.rest s.done s.closure (λ x b q k. search (rules, tests))) l.yielded _ l.yielded_by _ _ c.in-Some.part c.in-Some.is c.next.ensures.steps in
    sym (Splits.names_turn (all_of c.args.entries) t _ _ _ l.bits h _ (sym c.flag_part.ensures ∙ c.in_ok-bits.was) (length_push l.yielded c.in-Some.part)) ∙ l.invariant

pub returns : goal.returns
returns c =
    let l = c.loop-part in
    let t = c.args.t.now in
    let s = c.split-part-items.ensures in
    let e = c.into_iter-part-iterator.ensures.into_iter_gives in
    let h = YieldsList-end (parts_of _ t e s.rest s.done s.closure (λ x b q k. search (rules, tests))) l.yielded _ l.yielded_by _ _ c.in-None.is c.next.ensures.steps in
    sym (Splits.names_done (all_of c.args.entries) t _ l.bits (omega (arith, h.1))) ∙ l.invariant
