-- `choices::source::next_named` meets its contract. Assumes nothing.
use Rattle.std.specs.Prelude.{◌≡◌, true, false}
use Rattle.std.proofs.Common.{rules, tests}
use Rattle.std.proofs.lemmas.Iterator.{first_from_Range}
use Rattle.choices.proofs.Naming.{is_info, next_found}
use Rattle.choices.proofs.source.next_named.Goals as goal

pub returns : goal.returns
returns c =
    let a = c.args in
    let is = is_info a.schema.now a.d in
    next_found a.schema.now a.d a.k c.find.result
    (rw (← c.from.ensures) (first_from_Range _ _ _ c.find.result (λ i. is i ≡ false) (λ i. is i ≡ true) c.find.ensures.ran (λ x q k. search (rules, tests)) (λ x q k. search (rules, tests))))
