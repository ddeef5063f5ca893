-- The f32 nearest to a whole number is a whole number, and not far. Assumes nothing.
use mathlib.Core.Path.{◌≡◌, refl, sym, ap, ◌∙◌, subst}
use mathlib.Core.Logic.{⊎_elim}
use Prim.Native.Nat.{ℕ, zero, suc, ◌+◌, ◌-◌, ◌*◌, ◌/◌, ◌%◌, ◌^◌, ◌≤◌, ◌<◌}
use native.Mathlib.Nat.{mul_assoc, mul-div_cancel, le_of_mul-le-mul_right, mul-le-mul_right}
use native.Mathlib.Omega.{arith}
use lib.Pow.{pow_pos, pow-add}
use lib.Count.{count_leading_zeros}
use Rattle.numbers.proofs.Parts.{split}
use Rattle.conversions.specs.Single.{units}
use Rattle.conversions.specs.Round.{ratio_of, mag_of}
use Rattle.conversions.specs.Trunc.{whole}
use Rattle.conversions.proofs.Units.{units_at}
use Rattle.conversions.proofs.Best.{dist, Best, moved}
use Rattle.conversions.proofs.Ratio.{round40, round40_le, round40_ge, round40_next, mag_at, mag_of_best}

-- what is rounded has its 24 digits
units_of : (k : ℕ) → suc k < 2 ^ 64 → units (mag_of (suc k)) ≡ round40 (suc k * 2 ^ count_leading_zeros 64 (suc k)) * 2 ^ (189 - count_leading_zeros 64 (suc k))
units_of k h =
    let v = moved (suc k) (omega arith) h in
    let n = suc k * 2 ^ count_leading_zeros 64 (suc k) in
    ap units (mag_at k h) ∙ units_at (189 - count_leading_zeros 64 (suc k)) (round40 n) (round40_ge n v.n_low) (round40_le n v.n_high)

-- the significand c at the exponent 189 - z is a whole number: where digits were cut, since the exponent is large, and else since none were
cut : (c z : ℕ) → z ≤ 40 → c * 2 ^ (189 - z) ≡ c * 2 ^ (40 - z) * 2 ^ 149
cut c z h =
    let e : 189 - z ≡ (40 - z) + 149 = omega arith in
    ap (λ (x : ℕ). c * x) (ap (λ (x : ℕ). 2 ^ x) e ∙ pow-add 2 (40 - z) 149) ∙ sym (mul_assoc c (2 ^ (40 - z)) (2 ^ 149))

kept : (m z : ℕ) → 40 < z → z ≤ 63 → round40 (m * 2 ^ z) * 2 ^ (189 - z) ≡ m * 2 ^ 149
kept m z h k =
    let e₁ : z ≡ (z - 40) + 40 = omega arith in
    let e₂ : (z - 40) + (189 - z) ≡ 149 = omega arith in
    let n : m * 2 ^ z ≡ m * 2 ^ (z - 40) * 2 ^ 40 =
    ap (λ (x : ℕ). m * x) (ap (λ (x : ℕ). 2 ^ x) e₁ ∙ pow-add 2 (z - 40) 40) ∙ sym (mul_assoc m (2 ^ (z - 40)) (2 ^ 40)) in
    let q : m * 2 ^ z / 2 ^ 40 ≡ m * 2 ^ (z - 40) = omega (arith, n) in
    let r : m * 2 ^ z % 2 ^ 40 ≡ 0 = omega (arith, n) in
    rw (r, q) (mul_assoc m (2 ^ (z - 40)) (2 ^ (189 - z)) ∙ ap (λ (x : ℕ). m * x) (sym (pow-add 2 (z - 40) (189 - z)) ∙ ap (λ (x : ℕ). 2 ^ x) e₂))

exact_of : (p w : ℕ) → units p ≡ w * 2 ^ 149 → units p ≡ whole p * 2 ^ 149
unfolding whole
exact_of p w e = e ∙ ap (λ (x : ℕ). x * 2 ^ 149) (sym (ap (λ (x : ℕ). x / 2 ^ 149) e ∙ mul-div_cancel w (pow_pos 149)))

mag_zero : mag_of 0 ≡ 0
unfolding ratio_of
mag_zero = refl

pub exact : (m : ℕ) → m < 2 ^ 64 → units (mag_of m) ≡ whole (mag_of m) * 2 ^ 149
exact zero h = exact_of (mag_of zero) 0 (ap units mag_zero)
exact (suc k) h =
    let z = count_leading_zeros 64 (suc k) in
    let v = moved (suc k) (omega arith) h in
    ⊎_elim
    (λ l. exact_of (mag_of (suc k)) (suc k) (units_of k h ∙ kept (suc k) z l v.z_high))
    (λ l. exact_of (mag_of (suc k)) (round40 (suc k * 2 ^ z) * 2 ^ (40 - z)) (units_of k h ∙ cut (round40 (suc k * 2 ^ z)) z l))
    (split 40 z)

-- ---- how far the whole number w of the pattern is from m

scale : (m w U : ℕ) → 0 < U → 1 ≤ m → dist (m * U) (w * U) ≤ dist (m * U) U → dist m w ≤ m - 1
scale m w U u h d = ⊎_elim above below (split m w) where
  above : m < w → dist m w ≤ m - 1
  above l =
      let a : m * U ≤ w * U = mul-le-mul_right U (omega arith) in
      let b : 1 * U ≤ m * U = mul-le-mul_right U h in
      let k : (w + 1) * U ≤ (2 * m) * U = omega arith in
      omega (arith, le_of_mul-le-mul_right k u)

  below : w ≤ m → dist m w ≤ m - 1
  below l = ⊎_elim (λ g. absurd (none (omega arith))) (λ g. omega arith) (split w 1) where
    none : w ≡ 0 → ⊥
    none e =
        let z : w * U ≡ 0 = ap (λ (x : ℕ). x * U) e ∙ omega arith in
        let b : 1 * U ≤ m * U = mul-le-mul_right U h in
        omega arith

best_one : (m p y : ℕ) → Best 1 m p → dist m (units p) ≤ dist m (units y)
best_one m p y b =
    let e : units p * 1 ≡ units p = omega arith in
    let f : units y * 1 ≡ units y = omega arith in
    rw (← e, ← f) (b.best y)

whole_zero : whole (mag_of 0) ≡ 0
unfolding ratio_of whole
whole_zero = refl

pub near_by : (m : ℕ) → m < 2 ^ 64 → dist m (whole (mag_of m)) ≤ m - 1
near_by zero h = rw whole_zero (omega arith)
near_by (suc k) h =
    scale (suc k) (whole (mag_of (suc k))) (2 ^ 149) (pow_pos 149) (omega arith)
    (subst (λ (x : ℕ). dist (suc k * 2 ^ 149) x ≤ dist (suc k * 2 ^ 149) (2 ^ 149)) (exact (suc k) h) (best_one (suc k * 2 ^ 149) (mag_of (suc k)) (127 * 2 ^ 23) (mag_of_best (suc k) h)))

-- ---- a number of 63 digits, or 2 ^ 63, has a pattern whose whole part fits 64

pub mag_of_half : (m : ℕ) → m ≤ 2 ^ 63 → mag_of m < 191 * 2 ^ 23
mag_of_half zero h = omega (arith, mag_zero)
mag_of_half (suc k) h = ⊎_elim (one (count_leading_zeros 64 (suc k)) refl) more (split (count_leading_zeros 64 (suc k)) 1) where
  at : mag_of (suc k) ≡ (189 - count_leading_zeros 64 (suc k)) * 2 ^ 23 + round40 (suc k * 2 ^ count_leading_zeros 64 (suc k))
  at = mag_at k (omega arith)

  more : 1 ≤ count_leading_zeros 64 (suc k) → mag_of (suc k) < 191 * 2 ^ 23
  more l = omega (arith, at, round40_le (suc k * 2 ^ count_leading_zeros 64 (suc k)) (moved (suc k) (omega arith) (omega arith)).n_high)

  one : (z : ℕ) → count_leading_zeros 64 (suc k) ≡ z → z < 1 → mag_of (suc k) < 191 * 2 ^ 23
  one z q l =
      let e : count_leading_zeros 64 (suc k) ≡ 0 = omega arith in
      let f : mag_of (suc k) ≡ (189 - 0) * 2 ^ 23 + round40 (suc k * 2 ^ 0) = at ∙ ap (λ (x : ℕ). (189 - x) * 2 ^ 23 + round40 (suc k * 2 ^ x)) e in
      omega (arith, f, round40_next (suc k * 1))
