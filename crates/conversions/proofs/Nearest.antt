-- The best pattern of a fraction is its nearest one, with either sign; `f32_of` and `f32_of_decimal` give it. Assumes nothing.
use Rattle.std.specs.Prelude.{Bool, true, false, not}
use mathlib.Core.Path.{◌≡◌, refl, sym, ap, ◌∙◌, subst}
use mathlib.Core.Logic.{◌⊎◌, inl, inr, ⊎_elim}
use Prim.Native.Nat.{ℕ, zero, suc, ◌+◌, ◌-◌, ◌*◌, ◌%◌, ◌^◌, ◌≤◌, ◌<◌}
use native.Mathlib.Nat.{eq_of_mul-eq-mul_right, pow-le-pow_right}
use native.Mathlib.Omega.{arith}
use borrow.Author.Tests.{lt-ltb, le-ltb}
use lib.IntN.{ℤ, pos, neg_ℤ, nat_abs, sub_ℕ, ◌-ℤ◌, ◌*ℤ◌}
use mir.Syntax.{w64}
use mir.Val.{SFits}
use mir.Facts.{Fits-nat_abs}
use Rattle.numbers.proofs.Parts.{split}
use Rattle.conversions.specs.Single.{units, value, low, inf, with_sign, away}
use Rattle.conversions.specs.Round.{Finite, Signed, Nearest, is_negative, ratio_of, mag_of, with_bit, f32_of}
use Rattle.conversions.specs.Decimal.{f32_of_decimal, RoundedDecimal}
use Rattle.conversions.specs.declared.decimal.Decimal.{Decimal}
use Rattle.conversions.proofs.Best.{dist, Best}
use Rattle.conversions.proofs.Ratio.{ratio_best, ratio_high, mag_of_best, mag_of_high}

-- ---- how far apart two signed numbers are, by their signs

sub_abs : (a b : ℕ) → nat_abs (sub_ℕ a b) ≡ dist a b
sub_abs a b = ⊎_elim less more (split a b) where
  less : a < b → nat_abs (sub_ℕ a b) ≡ dist a b
  less h = rw (lt-ltb a b h) (omega arith)

  more : b ≤ a → nat_abs (sub_ℕ a b) ≡ dist a b
  more h = rw (le-ltb a b h) (omega arith)

abs_same : (minus : Bool) (a b : ℕ) → nat_abs (with_sign minus a -ℤ with_sign minus b) ≡ dist a b
abs_same false a zero = omega arith
abs_same false a (suc b) = sub_abs a (suc b)
abs_same true zero zero = refl
abs_same true zero (suc b) = omega arith
abs_same true (suc a) zero = sub_abs 0 (suc a) ∙ omega arith
abs_same true (suc a) (suc b) = sub_abs (suc b) (suc a) ∙ omega arith

abs_other : (minus : Bool) (a b : ℕ) → nat_abs (with_sign minus a -ℤ with_sign (not minus) b) ≡ a + b
abs_other false a zero = refl
abs_other false a (suc b) = refl
abs_other true zero zero = refl
abs_other true zero (suc b) = sub_abs 0 (suc b) ∙ omega arith
abs_other true (suc a) zero = sub_abs 0 (suc a) ∙ omega arith
abs_other true (suc a) (suc b) = omega arith

-- ---- a pattern's value by its sign bit

pub value_low : (b : ℕ) → b < 2 ^ 31 → value b ≡ pos (units b)
value_low b h = rw (lt-ltb b (2 ^ 31) h)

value_high : (b : ℕ) → 2 ^ 31 ≤ b → value b ≡ neg_ℤ (pos (units (b - 2 ^ 31)))
value_high b h = rw (le-ltb b (2 ^ 31) h)

pub value_set : (p : ℕ) → value (2 ^ 31 + p) ≡ neg_ℤ (pos (units p))
value_set p =
    let e : 2 ^ 31 + p - 2 ^ 31 ≡ p = omega arith in
    value_high (2 ^ 31 + p) (omega arith) ∙ ap (λ (k : ℕ). neg_ℤ (pos (units k))) e

pub value_signed : (minus : Bool) (b : ℕ) → b < 2 ^ 32 → Signed minus b → value b ≡ with_sign minus (units (low b))
value_signed false b f h =
    let e : b ≡ low b = omega arith in
    value_low b h ∙ ap (λ (x : ℕ). pos (units x)) e
value_signed true b f h =
    let e : b - 2 ^ 31 ≡ low b = omega arith in
    value_high b h ∙ ap (λ (x : ℕ). neg_ℤ (pos (units x))) e

-- a pattern has this sign or the other
pub sides : (minus : Bool) (b : ℕ) → Signed minus b ⊎ Signed (not minus) b
sides false b = split b (2 ^ 31)
sides true b = ⊎_elim inr inl (split b (2 ^ 31))

times : (minus : Bool) (u d : ℕ) → with_sign minus u *ℤ pos d ≡ with_sign minus (u * d)
times false u d = refl
times true zero d =
    let e : 0 * d ≡ 0 = omega arith in
    ap pos e ∙ sym (ap (with_sign true) e)
times true (suc u) d = refl

-- ---- how far a fraction is from a pattern

module _ (minus : Bool) (n d y : ℕ) (f : y < 2 ^ 32) where
  pub away_same : Signed minus y → away minus n d y ≡ dist (n * 2 ^ 149) (units (low y) * d)
  away_same h =
      ap (λ (v : ℤ). nat_abs (with_sign minus (n * 2 ^ 149) -ℤ v *ℤ pos d)) (value_signed minus y f h)
      ∙ ap (λ (v : ℤ). nat_abs (with_sign minus (n * 2 ^ 149) -ℤ v)) (times minus (units (low y)) d)
      ∙ abs_same minus (n * 2 ^ 149) (units (low y) * d)

  pub away_other : Signed (not minus) y → away minus n d y ≡ n * 2 ^ 149 + units (low y) * d
  away_other h =
      ap (λ (v : ℤ). nat_abs (with_sign minus (n * 2 ^ 149) -ℤ v *ℤ pos d)) (value_signed (not minus) y f h)
      ∙ ap (λ (v : ℤ). nat_abs (with_sign minus (n * 2 ^ 149) -ℤ v)) (times (not minus) (units (low y)) d)
      ∙ abs_other minus (n * 2 ^ 149) (units (low y) * d)

-- what the pattern p is with the sign bit
pub record Bit (minus : Bool) (p : ℕ) : Type 0 where
  pub top : with_bit minus p < 2 ^ 32
  pub low_is : low (with_bit minus p) ≡ p
  pub last : with_bit minus p % 2 ≡ p % 2
  pub sign : Signed minus (with_bit minus p)

pub bit : (minus : Bool) (p : ℕ) → p < 2 ^ 31 → Bit minus p
bit false p h = record { top = omega arith; low_is = omega arith; last = refl; sign = h }
bit true p h = record { top = omega arith; low_is = omega arith; last = omega arith; sign = omega arith }

module _ (minus : Bool) (n d p : ℕ) (pos_d : 0 < d) (b : Best d (n * 2 ^ 149) p) (h : p < inf) where
  abbrev r : ℕ
  r = with_bit minus p

  abbrev M : ℕ
  M = n * 2 ^ 149

  v : Bit minus p
  v = bit minus p (omega arith)

  r_away : away minus n d r ≡ dist M (units p * d)
  r_away = away_same minus n d r v.top v.sign ∙ ap (λ (x : ℕ). dist M (units x * d)) v.low_is

  r_value : value r ≡ with_sign minus (units p)
  r_value = value_signed minus r v.top v.sign ∙ ap (λ (x : ℕ). with_sign minus (units x)) v.low_is

  near : (y : ℕ) → Finite y → away minus n d r ≤ away minus n d y
  near y f = ⊎_elim (λ s. omega (arith, r_away, away_same minus n d y f.0 s, b.best (low y))) (λ s. omega (arith, r_away, away_other minus n d y f.0 s, b.best 0)) (sides minus y)

  same_units : (a c : ℕ) → a * d ≡ c * d → a ≡ c
  same_units a c e = eq_of_mul-eq-mul_right d pos_d a c e

  none : (u : ℕ) → M + u * d ≡ dist M (units p * d) → u ≡ 0
  none u e = same_units u 0 (omega (arith, e, b.best 0))

  tied : (y : ℕ) → Finite y → away minus n d y ≡ away minus n d r → (value y ≡ value r → ⊥) → r % 2 ≡ 0
  tied y f e k = v.last ∙ ⊎_elim same other (sides minus y) where
    same : Signed minus y → p % 2 ≡ 0
    same s =
        b.tied (low y) (sym (away_same minus n d y f.0 s) ∙ e ∙ r_away)
        (λ q. k (value_signed minus y f.0 s ∙ ap (with_sign minus) (same_units (units (low y)) (units p) q) ∙ sym r_value))

    other : Signed (not minus) y → p % 2 ≡ 0
    other s =
        let g = sym (away_other minus n d y f.0 s) ∙ e ∙ r_away in
        let u : units (low y) ≡ 0 = none (units (low y)) g in
        b.tied 0 (omega (arith, g, b.best 0))
        (λ q. k (value_signed (not minus) y f.0 s ∙ ap (with_sign (not minus)) u ∙ zero_signs ∙ ap (with_sign minus) (same_units 0 (units p) q) ∙ sym r_value))
      where
        zero_signs : with_sign (not minus) 0 ≡ with_sign minus 0
        zero_signs = by minus where
          by : (m : Bool) → with_sign (not m) 0 ≡ with_sign m 0
          by false = refl
          by true = refl

  pub best_nearest : Nearest minus n d r
  best_nearest = record { finite = (v.top, rw v.low_is h); nearest = near; even = tied; sign = v.sign }

-- ---- whole numbers of 64 bits

pub f32_of_nearest : (x : ℤ) → SFits w64 x → Nearest (is_negative x) (nat_abs x) 1 (f32_of x)
unfolding f32_of
f32_of_nearest x s =
    let h = (Fits-nat_abs {w = w64} {w' = w64} tt s).fits in
    best_nearest (is_negative x) (nat_abs x) 1 (mag_of (nat_abs x)) (omega arith) (mag_of_best (nat_abs x) h) (omega (arith, mag_of_high (nat_abs x) h))

-- ---- decimals

pub ten_pos : (k : ℕ) → 0 < 10 ^ k
ten_pos k = omega (arith, pow-le-pow_right {n = 10} (omega arith) {i = 0} {j = k} (omega arith))

pub ten_high : (k : ℕ) → k ≤ 9 → 10 ^ k ≤ 10 ^ 9
ten_high k h = pow-le-pow_right {n = 10} (omega arith) {i = k} {j = 9} h

module _ (x : Decimal) (d : x.digits < 2 ^ 64) (h : x.places ≤ 9) where
  abbrev ten : ℕ
  ten = 10 ^ x.places

  decimal_high : ratio_of x.digits ten ≤ 191 * 2 ^ 23
  decimal_high = ratio_high x.digits ten d (ten_pos x.places) (omega (arith, ten_high x.places h))

  pub decimal_nearest : Nearest x.minus x.digits ten (f32_of_decimal x)
  unfolding f32_of_decimal
  decimal_nearest =
      best_nearest x.minus x.digits ten (ratio_of x.digits ten) (ten_pos x.places)
      (ratio_best x.digits ten d (ten_pos x.places) (omega (arith, ten_high x.places h))) (omega (arith, decimal_high))

  -- p is the ratio of the digits n and the power t
  module _ (p n t : ℕ) (e : p ≡ ratio_of n t) (k : n ≡ x.digits) (l : t ≡ ten) where
    p_is : p ≡ ratio_of x.digits ten
    p_is = rw (← k, ← l) e

    pub p_high : p ≤ 191 * 2 ^ 23
    p_high = rw p_is decimal_high

    pub rounded_decimal : (minus : Bool) → x.minus ≡ minus → RoundedDecimal x (with_bit minus p)
    unfolding f32_of_decimal
    rounded_decimal minus m =
        let g : with_bit minus p ≡ f32_of_decimal x = rw (m, p_is) in
        record { is = g; nearest = subst (Nearest x.minus x.digits ten) (sym g) decimal_nearest }
