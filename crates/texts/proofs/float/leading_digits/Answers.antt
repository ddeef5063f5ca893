-- `texts::float::leading_digits` meets its contract. Assumes nothing.
use Rattle.std.proofs.Common.{rules, refl, true, false}
use Rattle.std.specs.Prelude.{◌≡◌}
use Rattle.std.proofs.lemmas.Iterator.{IsFirst-from_position, YieldsList-from_slice}
use Rattle.texts.specs.Float.{leading_digits}
use Rattle.texts.proofs.First.{counted}
use Rattle.texts.proofs.Decimals.{other, digits_stop, digits_go}
use Rattle.texts.proofs.float.leading_digits.Goals as goal

pub returns : goal.returns
unfolding leading_digits
returns c =
    counted leading_digits other refl digits_stop digits_go c.args.s.now c.position.result
    (IsFirst-from_position _ _ _ (λ x. other x ≡ true) (λ x. other x ≡ false) c.position.ensures.ran (YieldsList-from_slice c.args.s.now cc)
    (λ x q k. search rules) (λ x q k. search rules))
    c.unwrap_or.result c.unwrap_or.ensures
