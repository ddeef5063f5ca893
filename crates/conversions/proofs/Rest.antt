-- What a whole number has more than its f32, in units. Assumes nothing.
use mathlib.Core.Path.{◌≡◌, refl, sym, ap, ◌∙◌}
use mathlib.Core.Logic.{⊎_elim}
use Prim.Native.Nat.{ℕ, zero, suc, ◌+◌, ◌-◌, ◌*◌, ◌^◌, ◌≤◌, ◌<◌}
use native.Mathlib.Nat.{mul-le-mul_right, mul-lt-mul_of_pos_right}
use native.Mathlib.Omega.{arith}
use borrow.Author.Tests.{lt-ltb, le-ltb}
use lib.Pow.{pow_pos}
use lib.IntN.{ℤ, pos, negsuc, neg_ℤ, sub_ℕ, ◌+ℤ◌, ◌-ℤ◌, ◌*ℤ◌, +ℤ_comm, neg_ℤ-neg_ℤ}
use Rattle.numbers.proofs.Parts.{split}
use Rattle.conversions.specs.Single.{value}
use Rattle.conversions.specs.Round.{mag_of}
use Rattle.conversions.specs.Trunc.{whole}
use Rattle.conversions.proofs.Ratio.{mag_of_high}
use Rattle.conversions.proofs.Exact.{exact}
use Rattle.conversions.proofs.Nearest.{value_low, value_set}

pub sub_less : (a b : ℕ) → a < b → neg_ℤ (pos (b - a)) ≡ sub_ℕ a b
sub_less a b h =
    let e : b - a ≡ suc (b - suc a) = omega arith in
    rw (e, lt-ltb a b h)

pub sub_more : (a b : ℕ) → b ≤ a → pos (a - b) ≡ sub_ℕ a b
sub_more a b h = rw (le-ltb a b h)

pos_sub : (a b : ℕ) → pos a -ℤ pos b ≡ sub_ℕ a b
pos_sub a zero = ap pos (omega arith) ∙ sub_more a 0 (omega arith)
pos_sub a (suc b) = refl

scaled : (a b U : ℕ) → 0 < U → sub_ℕ (a * U) (b * U) ≡ sub_ℕ a b *ℤ pos U
scaled a b U u = ⊎_elim less more (split a b) where
  less : a < b → sub_ℕ (a * U) (b * U) ≡ sub_ℕ a b *ℤ pos U
  less h =
      let t : ℕ = b - suc a in
      let k : a * U < b * U = mul-lt-mul_of_pos_right h u in
      let e : b * U ≡ (a + suc t) * U = ap (λ (x : ℕ). x * U) (omega arith) in
      let f : b * U - a * U ≡ suc t * U = omega arith in
      sym (sub_less (a * U) (b * U) k) ∙ ap (λ (x : ℕ). neg_ℤ (pos x)) f ∙ ap (λ (z : ℤ). z *ℤ pos U) (lesser h)
    where
      lesser : a < b → negsuc (b - suc a) ≡ sub_ℕ a b
      lesser h = rw (lt-ltb a b h)

  more : b ≤ a → sub_ℕ (a * U) (b * U) ≡ sub_ℕ a b *ℤ pos U
  more h =
      let t : ℕ = a - b in
      let k : b * U ≤ a * U = mul-le-mul_right U h in
      let e : a * U ≡ (b + t) * U = ap (λ (x : ℕ). x * U) (omega arith) in
      let f : a * U - b * U ≡ t * U = omega arith in
      sym (sub_more (a * U) (b * U) k) ∙ ap pos f ∙ ap (λ (z : ℤ). z *ℤ pos U) (sub_more a b h)

neg_sub : (a b : ℕ) → neg_ℤ (pos a) -ℤ neg_ℤ (pos b) ≡ sub_ℕ b a
neg_sub a b = ap (λ (z : ℤ). neg_ℤ (pos a) +ℤ z) (neg_ℤ-neg_ℤ (pos b)) ∙ +ℤ_comm (neg_ℤ (pos a)) (pos b) ∙ pos_sub b a

-- x is m or -m, and w is the whole number of its pattern
module _ (m : ℕ) (h : m < 2 ^ 64) where
  pub rest_plus : pos m *ℤ pos (2 ^ 149) -ℤ value (mag_of m) ≡ sub_ℕ m (whole (mag_of m)) *ℤ pos (2 ^ 149)
  rest_plus =
      ap (λ (z : ℤ). pos (m * 2 ^ 149) -ℤ z) (value_low (mag_of m) (omega (arith, mag_of_high m h)) ∙ ap pos (exact m h))
      ∙ pos_sub (m * 2 ^ 149) (whole (mag_of m) * 2 ^ 149) ∙ scaled m (whole (mag_of m)) (2 ^ 149) (pow_pos 149)

  pub rest_minus : neg_ℤ (pos (m * 2 ^ 149)) -ℤ value (2 ^ 31 + mag_of m) ≡ sub_ℕ (whole (mag_of m)) m *ℤ pos (2 ^ 149)
  rest_minus =
      ap (λ (z : ℤ). neg_ℤ (pos (m * 2 ^ 149)) -ℤ z) (value_set (mag_of m) ∙ ap (λ (x : ℕ). neg_ℤ (pos x)) (exact m h))
      ∙ neg_sub (m * 2 ^ 149) (whole (mag_of m) * 2 ^ 149) ∙ scaled (whole (mag_of m)) m (2 ^ 149) (pow_pos 149)
