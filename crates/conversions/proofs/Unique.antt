-- `Nearest` determines the pattern. Assumes nothing.
use Rattle.std.specs.Prelude.{Bool, true, false}
use mathlib.Core.Path.{◌≡◌, refl, sym, ap, ◌∙◌}
use mathlib.Core.Logic.{⊎_elim}
use Prim.Native.Nat.{ℕ, zero, suc, ◌*◌, ◌%◌, ◌^◌, ◌≤◌, ◌<◌}
use native.Mathlib.Nat.{mul-le-mul_right, mul-lt-mul_of_pos_right}
use native.Mathlib.Omega.{arith}
use lib.IntN.{nat_abs}
use Rattle.numbers.proofs.Parts.{split}
use Rattle.conversions.specs.Single.{units, value, low, with_sign, away}
use Rattle.conversions.specs.Round.{Finite, Signed, Nearest}
use Rattle.conversions.proofs.Units.{units_step, units_mono}
use Rattle.conversions.proofs.Best.{dist}
use Rattle.conversions.proofs.Nearest.{value_signed, away_same}

-- two patterns p < q at the same distance from M, each unit counted d times, both even, and none between them nearer: there is none such
between : (d M p q : ℕ) → 0 < d → p < q → p % 2 ≡ 0 → q % 2 ≡ 0 → dist M (units p * d) ≡ dist M (units q * d) → dist M (units p * d) ≤ dist M (units (suc p) * d) → ⊥
between d M p q pos_d l ep eq e n =
    omega (
      arith,
      mul-lt-mul_of_pos_right (units_step p) pos_d,
      mul-lt-mul_of_pos_right (units_step (suc p)) pos_d,
      mul-le-mul_right d (units_mono (suc (suc p)) q (omega arith)),
    )

grows : (p q : ℕ) → p < q → units p < units q
grows p q l = omega (arith, units_step p, units_mono (suc p) q l)

signed_one : (minus : Bool) (a b : ℕ) → with_sign minus a ≡ with_sign minus b → a ≡ b
signed_one minus a b e = sym (abs minus a) ∙ ap nat_abs e ∙ abs minus b where
  abs : (m : Bool) (n : ℕ) → nat_abs (with_sign m n) ≡ n
  abs false n = refl
  abs true zero = refl
  abs true (suc n) = refl

-- the next pattern of the same sign
next_low : (minus : Bool) (r q : ℕ) → Signed minus r → Signed minus q → q < 2 ^ 32 → r < q
    → (low r < low q) × (low (suc r) ≡ suc (low r)) × Signed minus (suc r)
next_low false r q a b f l = (omega arith, omega arith, omega arith)
next_low true r q a b f l = (omega arith, omega arith, omega arith)

even_low : (b : ℕ) → b % 2 ≡ 0 → low b % 2 ≡ 0
even_low b e = omega arith

not_less : (minus : Bool) (n d r q : ℕ) → 0 < d → Nearest minus n d r → Nearest minus n d q → r < q → ⊥
not_less minus n d r q pos_d a b l = between d (n * 2 ^ 149) (low r) (low q) pos_d s.0 (even_low r er) (even_low q eq) at_same at_next where
  s : (low r < low q) × (low (suc r) ≡ suc (low r)) × Signed minus (suc r)
  s = next_low minus r q a.sign b.sign b.finite.0 l

  same : away minus n d r ≡ away minus n d q
  same = omega (arith, a.nearest q b.finite, b.nearest r a.finite)

  apart : value q ≡ value r → ⊥
  apart e =
      omega (
        arith,
        grows (low r) (low q) s.0,
        signed_one minus (units (low q)) (units (low r)) (sym (value_signed minus q b.finite.0 b.sign) ∙ e ∙ value_signed minus r a.finite.0 a.sign),
      )

  er : r % 2 ≡ 0
  er = a.even q b.finite (sym same) apart

  eq : q % 2 ≡ 0
  eq = b.even r a.finite same (λ e. apart (sym e))

  at_same : dist (n * 2 ^ 149) (units (low r) * d) ≡ dist (n * 2 ^ 149) (units (low q) * d)
  at_same = sym (away_same minus n d r a.finite.0 a.sign) ∙ same ∙ away_same minus n d q b.finite.0 b.sign

  next : Finite (suc r)
  next = (omega (arith, b.finite.0), omega (arith, s.1, s.0, b.finite.1))

  at_next : dist (n * 2 ^ 149) (units (low r) * d) ≤ dist (n * 2 ^ 149) (units (suc (low r)) * d)
  at_next =
      omega (
        arith,
        a.nearest (suc r) next,
        away_same minus n d r a.finite.0 a.sign,
        away_same minus n d (suc r) next.0 s.2 ∙ ap (λ (x : ℕ). dist (n * 2 ^ 149) (units x * d)) s.1,
      )

pub nearest_one : (minus : Bool) (n d r q : ℕ) → 0 < d → Nearest minus n d r → Nearest minus n d q → r ≡ q
nearest_one minus n d r q pos_d a b =
    ⊎_elim (λ l. absurd (not_less minus n d r q pos_d a b l)) (λ l. ⊎_elim (λ k. absurd (not_less minus n d q r pos_d b a k)) (λ k. omega arith) (split q r)) (split r q)
