-- `texts::decimal::decimal_of` meets its contract. Assumes nothing.
use mathlib.Core.Path.{sym, ◌∙◌}
use Rattle.texts.proofs.Digits.{decimal_none, decimal_some}
use Rattle.texts.proofs.decimal.decimal_of.Goals as goal

pub returns-in_err-digits : goal.returns-in_err-digits
returns-in_err-digits c =
    c.from_residual.ensures
    ∙ sym
    (decimal_none c.args.s.now c.after_sign-t.result.now c.without_point-rest.result.now c.leading_digits-n.result c.after_sign-t.ensures c.leading_digits-n.ensures.0 c.without_point-rest.ensures
    (sym c.nine_digits.ensures ∙ c.in_err-digits.was))

pub returns : goal.returns
returns c =
    sym
    (decimal_some c.args.s.now c.after_sign-t.result.now c.without_point-rest.result.now c.leading_digits-n.result c.after_sign-t.ensures c.leading_digits-n.ensures.0 c.without_point-rest.ensures
    c.in_ok-digits.digits (sym c.nine_digits.ensures ∙ c.in_ok-digits.was) c.is_minus.result c.is_minus.ensures)
