-- Marks at a text's front, as std tests them. Assumes nothing.
use Rattle.std.specs.Prelude.{◌≡◌, Bool, true, false, [], ◌∷◌, ℕ, eqb, length, take}
use mathlib.Core.Path.{refl, sym, ◌∙◌}
use lib.Pointwise.{pointwise}
use borrow.Author.Tests.{eq-eqb, ne_eqb, eqb-true, eqb-false}
use Rattle.numbers.specs.Words.{Bytes, starts_with}

eqb-sym : (a b : ℕ) → eqb a b ≡ eqb b a
eqb-sym a b = by (eqb a b) refl where
  by : (t : Bool) → eqb a b ≡ t → eqb a b ≡ eqb b a
  by true e = e ∙ sym (eq-eqb b a (sym (eqb-true a b e)))
  by false e = e ∙ sym (ne_eqb b a (λ q. eqb-false a b e (sym q)))

pub starts_with_taken : (p s : Bytes) → pointwise eqb (take (length p) s) p ≡ starts_with p s
unfolding starts_with
starts_with_taken [] s = refl
starts_with_taken (b ∷ p) [] = refl
starts_with_taken (b ∷ p) (c ∷ s) = rw (eqb-sym c b, starts_with_taken p s)
