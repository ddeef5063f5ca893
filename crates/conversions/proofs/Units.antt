-- The units of a pattern: at an exponent and a significand, and that they grow with the pattern. Assumes nothing.
use mathlib.Core.Path.{◌≡◌, ap}
use mathlib.Core.Logic.{⊎_elim}
use Prim.Native.Nat.{ℕ, zero, suc, ◌+◌, ◌-◌, ◌*◌, ◌/◌, ◌%◌, ◌^◌, ◌≤◌, ◌<◌}
use native.Mathlib.Nat.{mul-le-mul_left, mul-le-mul_right, mul-lt-mul_of_pos_right}
use native.Mathlib.Omega.{arith}
use lib.Pow.{pow_pos, pow_mono}
use Rattle.numbers.proofs.Parts.{split}
use Rattle.conversions.specs.Single.{fields, units}

-- the exponent field is e + 1 for a significand of 24 digits, and one more for the next power of two
pub units_at : (e c : ℕ) → 2 ^ 23 ≤ c → c ≤ 2 ^ 24 → units (e * 2 ^ 23 + c) ≡ c * 2 ^ e
units_at e c h k = ⊎_elim below top (split c (2 ^ 24)) where
  below : c < 2 ^ 24 → units (e * 2 ^ 23 + c) ≡ c * 2 ^ e
  below l =
      let d : (e * 2 ^ 23 + c) / 2 ^ 23 ≡ suc e = omega arith in
      let m : (e * 2 ^ 23 + c) % 2 ^ 23 ≡ c - 2 ^ 23 = omega arith in
      let a : 2 ^ 23 + (c - 2 ^ 23) ≡ c = omega arith in
      rw (d, m) (ap (λ (x : ℕ). x * 2 ^ e) a)

  top : 2 ^ 24 ≤ c → units (e * 2 ^ 23 + c) ≡ c * 2 ^ e
  top l =
      let d : (e * 2 ^ 23 + c) / 2 ^ 23 ≡ suc (suc e) = omega arith in
      let m : (e * 2 ^ 23 + c) % 2 ^ 23 ≡ 0 = omega arith in
      let a : c ≡ 2 ^ 24 = omega arith in
      rw (d, m, a) (omega arith)

pub fields_below : (e f : ℕ) → f < 2 ^ 23 → fields e f < 2 ^ 23 * 2 ^ e
fields_below zero f h = omega arith
fields_below (suc e) f h = omega (arith, mul-lt-mul_of_pos_right {k = 2 ^ e} h (pow_pos e))

fields_mono : (e f g : ℕ) → f ≤ g → fields e f ≤ fields e g
fields_mono zero f g h = h
fields_mono (suc e) f g h = omega (arith, mul-le-mul_right (2 ^ e) h)

fields_next : (e d f g : ℕ) → f < 2 ^ 23 → e < d → fields e f ≤ fields d g
fields_next e zero f g h l = omega arith
fields_next e (suc d) f g h l =
    let k : e ≤ d = omega arith in
    omega (arith, fields_below e f h, mul-le-mul_left (2 ^ 23) (pow_mono k))

-- a larger pattern has no fewer units
pub units_mono : (p q : ℕ) → p ≤ q → units p ≤ units q
units_mono p q h = ⊎_elim next same (split (p / 2 ^ 23) (q / 2 ^ 23)) where
  next : p / 2 ^ 23 < q / 2 ^ 23 → units p ≤ units q
  next l = fields_next (p / 2 ^ 23) (q / 2 ^ 23) (p % 2 ^ 23) (q % 2 ^ 23) (omega arith) l

  same : q / 2 ^ 23 ≤ p / 2 ^ 23 → units p ≤ units q
  same l =
      let e : p / 2 ^ 23 ≡ q / 2 ^ 23 = omega arith in
      rw e (fields_mono (q / 2 ^ 23) (p % 2 ^ 23) (q % 2 ^ 23) (omega arith))

-- the next pattern has more units
fields_step : (e f : ℕ) → fields e f < fields e (suc f)
fields_step zero f = omega arith
fields_step (suc e) f = omega (arith, pow_pos e)

pub units_step : (p : ℕ) → units p < units (suc p)
units_step p = ⊎_elim inside over (split (p % 2 ^ 23) (2 ^ 23 - 1)) where
  inside : p % 2 ^ 23 < 2 ^ 23 - 1 → units p < units (suc p)
  inside l =
      let d : suc p / 2 ^ 23 ≡ p / 2 ^ 23 = omega arith in
      let m : suc p % 2 ^ 23 ≡ suc (p % 2 ^ 23) = omega arith in
      rw (d, m) (fields_step (p / 2 ^ 23) (p % 2 ^ 23))

  over : 2 ^ 23 - 1 ≤ p % 2 ^ 23 → units p < units (suc p)
  over l =
      let d : suc p / 2 ^ 23 ≡ suc (p / 2 ^ 23) = omega arith in
      let m : suc p % 2 ^ 23 ≡ 0 = omega arith in
      rw (d, m) (omega (arith, fields_below (p / 2 ^ 23) (p % 2 ^ 23) (omega arith)))
