-- The whole part of a pattern, by its exponent, and `i64_of` by its cases. Assumes nothing.
use mathlib.Core.Path.{◌≡◌, sym, ap, ◌∙◌}
use Prim.Native.Nat.{ℕ, zero, suc, ◌+◌, ◌-◌, ◌*◌, ◌/◌, ◌%◌, ◌^◌, ◌≤◌, ◌<◌, min}
use native.Mathlib.Nat.{add_comm, mul_assoc, lt_of_lt_of_le, mul-le-mul_left, div-eq_of_lt, div-lt_iff_lt-mul, le-div_iff_mul-le, mul-div-mul_right, mul-div_cancel}
use native.Mathlib.Omega.{arith}
use borrow.Author.Tests.{lt-ltb, le-ltb}
use lib.Pow.{pow_pos, pow-add, pow_mono, shl_exact}
use lib.IntN.{ℤ, pos, neg_ℤ, ◌-ℤ◌, +ℤ_idl}
use mir.Syntax.{w64}
use mir.Val.{SFits, of_z, to_z}
use mir.Facts.{to_z-of_z, to_z_pos}
use Rattle.conversions.specs.Single.{fields, units, low, inf}
use Rattle.conversions.specs.Trunc.{whole, i64_of}
use Rattle.conversions.proofs.Units.{fields_below, units_mono}

units_under : (p e : ℕ) → p < suc e * 2 ^ 23 → units p < 2 ^ 23 * 2 ^ e
units_under p e h =
    let d : p / 2 ^ 23 ≤ e = omega arith in
    lt_of_lt_of_le (fields_below (p / 2 ^ 23) (p % 2 ^ 23) (omega arith)) (mul-le-mul_left (2 ^ 23) (pow_mono d))

pub whole_none : (p : ℕ) → p < 127 * 2 ^ 23 → whole p ≡ 0
unfolding whole
whole_none p h = div-eq_of_lt (units_under p 126 h)

pub whole_under : (p : ℕ) → p < 190 * 2 ^ 23 → whole p < 2 ^ 63
unfolding whole
whole_under p h = (div-lt_iff_lt-mul (pow_pos 149)).1 (units_under p 189 h)

pub whole_over : (p : ℕ) → 190 * 2 ^ 23 ≤ p → 2 ^ 63 ≤ whole p
unfolding whole
whole_over p h = (le-div_iff_mul-le (pow_pos 149)).1 (units_mono (190 * 2 ^ 23) p h)

mid : (e f : ℕ) → 127 ≤ e → e < 150 → (f + 2 ^ 23) / 2 ^ (150 - e) ≡ fields e f / 2 ^ 149
mid zero f h k = absurd (omega arith)
mid (suc e) f h k =
    let a : 149 ≡ (150 - suc e) + e = omega arith in
    ap (λ (x : ℕ). x / 2 ^ (150 - suc e)) (add_comm f (2 ^ 23))
    ∙ sym (ap (λ (x : ℕ). (2 ^ 23 + f) * 2 ^ e / x) (ap (λ (x : ℕ). 2 ^ x) a ∙ pow-add 2 (150 - suc e) e) ∙ mul-div-mul_right (2 ^ 23 + f) (2 ^ (150 - suc e)) (pow_pos e))

big : (e f : ℕ) → 150 ≤ e → (f + 2 ^ 23) * 2 ^ (e - 150) ≡ fields e f / 2 ^ 149
big zero f h = absurd (omega arith)
big (suc e) f h =
    let a : e ≡ (suc e - 150) + 149 = omega arith in
    let c = 2 ^ 23 + f in
    let s = 2 ^ (suc e - 150) in
    ap (λ (x : ℕ). x * s) (add_comm f (2 ^ 23))
    ∙ sym (ap (λ (x : ℕ). x / 2 ^ 149) (ap (λ (x : ℕ). c * x) (ap (λ (x : ℕ). 2 ^ x) a ∙ pow-add 2 (suc e - 150) 149) ∙ sym (mul_assoc c s (2 ^ 149))) ∙ mul-div_cancel (c * s) (pow_pos 149))

pub whole_mid : (p : ℕ) → 127 ≤ p / 2 ^ 23 → p / 2 ^ 23 < 150 → (p % 2 ^ 23 + 2 ^ 23) / 2 ^ (150 - p / 2 ^ 23) ≡ whole p
unfolding whole
whole_mid p h k = mid (p / 2 ^ 23) (p % 2 ^ 23) h k

pub whole_big : (p : ℕ) → 150 ≤ p / 2 ^ 23 → p < 191 * 2 ^ 23 → (p % 2 ^ 23 + 2 ^ 23) * 2 ^ (p / 2 ^ 23 - 150) % 2 ^ 64 ≡ whole p
unfolding whole
whole_big p h k = shl_exact 24 (p / 2 ^ 23 - 150) 64 (omega arith) (omega arith) ∙ big (p / 2 ^ 23) (p % 2 ^ 23) h

-- ---- `i64_of` by its cases

module _ (b : ℕ) where
  pub i64_of_nan : inf < low b → pos 0 ≡ i64_of b
  unfolding i64_of
  i64_of_nan h = rw (lt-ltb inf (low b) h)

  module _ (n : low b ≤ inf) where
    pub i64_of_plus : b < 2 ^ 31 → i64_of b ≡ pos (min (whole (low b)) (2 ^ 63 - 1))
    unfolding i64_of
    i64_of_plus h = rw (le-ltb inf (low b) n, lt-ltb b (2 ^ 31) h)

    pub i64_of_minus : 2 ^ 31 ≤ b → i64_of b ≡ neg_ℤ (pos (min (whole (low b)) (2 ^ 63)))
    unfolding i64_of
    i64_of_minus h = rw (le-ltb inf (low b) n, le-ltb b (2 ^ 31) h)

-- ---- the machine's numbers

pub sfits_neg : (r : ℕ) → r < 2 ^ 63 → SFits w64 (neg_ℤ (pos r))
sfits_neg zero h = record { sfits = h }
sfits_neg (suc r) h = record { sfits = omega arith }

pub minus_is_law : (r : ℕ) → r < 2 ^ 63 → pos 0 -ℤ to_z w64 r ≡ neg_ℤ (pos r)
minus_is_law r h = ap (λ (z : ℤ). pos 0 -ℤ z) (to_z_pos w64 h) ∙ +ℤ_idl (neg_ℤ (pos r))

pub minus_read : (r : ℕ) → r < 2 ^ 63 → to_z w64 (of_z w64 (pos 0 -ℤ to_z w64 r)) ≡ neg_ℤ (pos r)
minus_read r h = ap (λ (z : ℤ). to_z w64 (of_z w64 z)) (minus_is_law r h) ∙ to_z-of_z {w = w64} (sfits_neg r h)
