-- `texts::decimal::nine_digits` meets its contract: the second part goes on where the first ends. Assumes nothing.
use mathlib.Core.Path.{sym, ◌∙◌}
use native.Mathlib.Omega.{arith}
use Rattle.texts.proofs.Digits.{nine_none, nine_some, rest_fits}
use Rattle.texts.proofs.decimal.nine_digits.Goals as goal

pub returns-in_err-number : goal.returns-in_err-number
returns-in_err-number c =
    c.from_residual.ensures ∙ sym (nine_none c.args.whole.now c.args.rest.now (sym c.number.ensures ∙ c.in_err-number.was))

pub number-requires-2 : goal.number-requires-2
number-requires-2 c = rest_fits c.args.whole.now c.args.rest.now c.in_ok-number.field-0 (sym c.number.ensures ∙ c.in_ok-number.was) (omega (arith, c.if-n-gt9.false))

pub returns : goal.returns
returns c =
    c.number-2.ensures
    ∙ nine_some c.args.whole.now c.args.rest.now c.in_ok-number.field-0 (sym c.number.ensures ∙ c.in_ok-number.was) (omega (arith, c.if-n-gt9.false)) (omega (arith, c.if-n-lt1.false))
