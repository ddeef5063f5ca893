-- Every decimal is a text that Rust's float parse takes, of at most nine digits, and its pattern is nearest. Assumes nothing.
use Rattle.std.specs.Prelude.{Bool, true, false, cond, ◌&&◌, [], ◌∷◌, ◌++◌, leb, length, drop, Option, Some, None, option_map}
use Rattle.std.proofs.lemmas.Bool.{or_right}
use Rattle.std.proofs.lemmas.List.{length-append, nil_from_length, length-take}
use mathlib.Core.Path.{◌≡◌, refl, sym, ap, ◌∙◌, subst}
use mathlib.Core.Logic.{⊎_elim}
use Prim.Native.Nat.{ℕ, suc, ◌+◌, ◌*◌, ◌^◌, ◌≤◌, ◌<◌}
use native.Mathlib.Nat.{pow-le-pow_right}
use native.Mathlib.Omega.{arith}
use borrow.Author.Tests.{le-leb, leb-true}
use lib.ListN.{drop_of_length-le}
use Rattle.numbers.specs.Words.{Bytes}
use Rattle.numbers.proofs.Parts.{split}
use Rattle.conversions.specs.Radix.{digit_of, number}
use Rattle.conversions.specs.Round.{Nearest}
use Rattle.conversions.specs.Decimal.{f32_of_decimal}
use Rattle.conversions.proofs.Nearest.{decimal_nearest}
use Rattle.conversions.specs.declared.decimal.Decimal.{Decimal}
use Rattle.texts.specs.Float.{is_digit, leading_digits, after_digits, is_point, after_sign, exponent, decimal, special, parses_float}
use Rattle.texts.specs.Decimal.{is_minus, whole_digits, after_point, nine_digits, decimal_of}
use Rattle.texts.proofs.Digits.{some_is, none_some, step, stop, number_some, number_none, number_high, digit_none}

-- ---- the digits in front

is_true : (b : ℕ) → digit_of b < 10 → is_digit b ≡ true
is_true b h = by (is_digit b) refl where
  by : (t : Bool) → is_digit b ≡ t → is_digit b ≡ true
  by true e = e
  by false e = absurd (omega (arith, digit_none b e))

-- nothing but digits
all_digits : (n m : ℕ) (l : Bytes) → number 10 n l ≡ Some m → leading_digits l ≡ length l
unfolding leading_digits number
all_digits n m [] e = refl
all_digits n m (b ∷ l) e =
    ⊎_elim (λ k. rw (is_true b k, leading_digits) (ap suc (all_digits (n * 10 + digit_of b) m l (sym (step n b l k) ∙ e))))
    (λ k. absurd (none_some m (sym (stop n b l k) ∙ e))) (split (digit_of b) 10)

-- no digit follows the digits in front
no_more : (l : Bytes) → leading_digits (after_digits l) ≡ 0
unfolding leading_digits
no_more [] = refl
no_more (b ∷ l) = by (is_digit b) refl (no_more l) where
  by : (t : Bool) → is_digit b ≡ t → leading_digits (after_digits l) ≡ 0 → leading_digits (after_digits (b ∷ l)) ≡ 0
  by true e h = rw (e, leading_digits) h
  by false e h = rw (e, leading_digits) (rw (e, leading_digits))

-- ---- a decimal's parts

module _ (l : Bytes) (n : ℕ) (e : nine_digits (whole_digits l ++ after_point l) ≡ Some n) where
  abbrev w : Bytes
  w = whole_digits l

  abbrev u : Bytes
  u = after_point l

  both : (a b : Bool) (o : Option ℕ) → cond (a && b) o None ≡ Some n → (a ≡ true) × (o ≡ Some n) × (b ≡ true)
  both true true o q = (refl, q, refl)
  both true false o q = absurd (none_some n q)
  both false b o q = absurd (none_some n q)

  parts : (leb 1 (length (w ++ u)) ≡ true) × (number 10 0 (w ++ u) ≡ Some n) × (leb (length (w ++ u)) 9 ≡ true)
  parts = both (leb 1 (length (w ++ u))) (leb (length (w ++ u)) 9) (number 10 0 (w ++ u)) e

  some_digit : 1 ≤ leading_digits l + length u
  some_digit = omega (arith, leb-true 1 (length (w ++ u)) parts.0, length-append w u, length-take (leading_digits l) l)

  u_digits : leading_digits u ≡ length u
  u_digits = by (number 10 0 w) refl where
    by : (o : Option ℕ) → number 10 0 w ≡ o → leading_digits u ≡ length u
    by None q = absurd (none_some n (sym (number_none 0 w u q) ∙ parts.1))
    by (Some m) q = all_digits m n u (sym (number_some 0 m w u q) ∙ parts.1)

  u_ends : after_digits u ≡ []
  u_ends = drop_of_length-le u (omega (arith, u_digits))

  pointed : is_point (after_digits l) ≡ true → decimal l ≡ true
  unfolding decimal exponent
  pointed p =
      let k : u ≡ drop 1 (after_digits l) = rw p in
      let a : leb 1 (leading_digits l + leading_digits u) ≡ true = le-leb 1 (leading_digits l + leading_digits u) (omega (arith, some_digit, u_digits)) in
      rw (p, ← k, a, u_ends)

  pointless : is_point (after_digits l) ≡ false → decimal l ≡ true
  unfolding decimal exponent
  pointless p =
      let k : u ≡ after_digits l = rw p in
      let z : length u ≡ 0 = omega (arith, u_digits, ap leading_digits k, no_more l) in
      let a : leb 1 (leading_digits l) ≡ true = le-leb 1 (leading_digits l) (omega (arith, some_digit, z)) in
      rw (p, a, ← k, nil_from_length u z)

  is_float : decimal l ≡ true
  is_float = by (is_point (after_digits l)) refl where
    by : (t : Bool) → is_point (after_digits l) ≡ t → decimal l ≡ true
    by true p = pointed p
    by false p = pointless p

  nine : length w + length u ≤ 9
  nine = omega (arith, leb-true (length (w ++ u)) 9 parts.2, length-append w u)

  n_high : n < 10 ^ 9
  n_high = omega (arith, number_high 0 n (w ++ u) parts.1, length-append w u, pow-le-pow_right {n = 10} (omega arith) {i = length (w ++ u)} {j = 9} (omega (arith, leb-true (length (w ++ u)) 9 parts.2)))

-- what the decimal x of a text t is
pub record Described (t : Bytes) (x : Decimal) : Type 0 where
  pub parses : parses_float t ≡ true
  pub digits_high : x.digits < 10 ^ 9
  pub places_high : x.places ≤ 9

-- "wherever the Rust parses a float": each decimal is such a text; "one to nine digits in all"
pub described : (t : Bytes) (x : Decimal) → decimal_of t ≡ Some x → Described t x
unfolding decimal_of parses_float
described t x e = by (nine_digits (whole_digits (after_sign t) ++ after_point (after_sign t))) refl e where
  by : (o : Option ℕ) → nine_digits (whole_digits (after_sign t) ++ after_point (after_sign t)) ≡ o
      → option_map (λ n. record { minus = is_minus t; digits = n; places = length (after_point (after_sign t)) }) o ≡ Some x → Described t x
  by None q h = cc
  by (Some n) q h =
      subst (Described t) (some_is _ x h)
      (record {
        parses = or_right (special (after_sign t)) (decimal (after_sign t)) (is_float (after_sign t) n q);
        digits_high = n_high (after_sign t) n q;
        places_high = omega (arith, nine (after_sign t) n q);
      })

-- its pattern is the f32 nearest to it
pub text_nearest : (t : Bytes) (x : Decimal) → decimal_of t ≡ Some x → Nearest x.minus x.digits (10 ^ x.places) (f32_of_decimal x)
text_nearest t x e = decimal_nearest x (omega (arith, (described t x e).digits_high)) (described t x e).places_high
