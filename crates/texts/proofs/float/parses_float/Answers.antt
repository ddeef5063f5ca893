-- `texts::float::parses_float` meets its contract. Assumes nothing.
use mathlib.Core.Path.{sym, ◌∙◌}
use Rattle.texts.proofs.Decimals.{parses_is, or_then, or_else}
use Rattle.texts.proofs.float.parses_float.Goals as goal

pub returns-then-special : goal.returns-then-special
returns-then-special c =
    c.special.ensures ∙ or_then _ _ _ (parses_is c.args.s.now c.after_sign-t.result.now c.after_sign-t.ensures) (sym c.special.ensures ∙ c.if-special.true)

pub returns-else-special : goal.returns-else-special
returns-else-special c =
    c.decimal.ensures ∙ or_else _ _ _ (parses_is c.args.s.now c.after_sign-t.result.now c.after_sign-t.ensures) (sym c.special.ensures ∙ c.if-special.false)
