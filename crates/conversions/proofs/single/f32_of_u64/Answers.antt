-- `conversions::single::f32_of_u64` meets its contract: the shift by the leading zeros loses nothing. Assumes nothing.
use mathlib.Core.Path.{◌≡◌, refl, sym, ap, ◌∙◌}
use Prim.Native.Nat.{ℕ, zero, suc, ◌+◌, ◌-◌, ◌*◌, ◌%◌, ◌^◌, ◌≤◌, ◌<◌}
use native.Mathlib.Nat.{mod-eq_of_lt}
use native.Mathlib.Omega.{arith}
use lib.Count.{count_leading_zeros, leading_le}
use borrow.Author.Rules.{rules}
use Rattle.conversions.specs.Round.{ratio_of, mag_of}
use Rattle.conversions.proofs.Best.{moved}
use Rattle.conversions.proofs.Ratio.{round40, round40_le, mag_at}
use Rattle.conversions.proofs.single.f32_of_u64.Goals as goal

abbrev Shifted : ℕ → ℕ → Type 0
Shifted m r = (r ≤ 2 ^ 24) × ((189 - count_leading_zeros 64 m) * 2 ^ 23 + r ≡ mag_of m)

-- the shift loses nothing, so what is rounded is all of m's digits
shifted : (m r : ℕ) → (m ≡ 0 → ⊥) → m < 2 ^ 64 → r ≡ round40 (m * 2 ^ count_leading_zeros 64 m % 2 ^ 64) → Shifted m r
shifted zero r n h e = absurd (n refl)
shifted (suc k) r n h e =
    let v = moved (suc k) (omega arith) h in
    let f : r ≡ round40 (suc k * 2 ^ count_leading_zeros 64 (suc k)) = e ∙ ap round40 (mod-eq_of_lt v.n_high) in (
      omega (arith, f, round40_le (suc k * 2 ^ count_leading_zeros 64 (suc k)) v.n_high),
      ap (λ (x : ℕ). (189 - count_leading_zeros 64 (suc k)) * 2 ^ 23 + x) f ∙ sym (mag_at k h),
    )

pub returns-then-m-eq0 : goal.returns-then-m-eq0
unfolding ratio_of
returns-then-m-eq0 c = rw c.if-m-eq0.true

pub overflow_cast-z : goal.overflow_cast-z
overflow_cast-z c = omega (arith, leading_le 64 c.args.m)

pub overflow_shl-m : goal.overflow_shl-m
overflow_shl-m c = omega (arith, moved c.args.m (omega (arith, c.if-m-eq0.false)) c.ranges.m.fits)

pub overflow_sub-result : goal.overflow_sub-result
overflow_sub-result c = omega (arith, leading_le 64 c.args.m)

pub overflow_mul-result : goal.overflow_mul-result
overflow_mul-result c = search rules

pub overflow_cast-result : goal.overflow_cast-result
overflow_cast-result c = omega (arith, (shifted c.args.m c.quotient_even-c.result c.if-m-eq0.false c.ranges.m.fits c.quotient_even-c.ensures).0)

pub overflow_add-result : goal.overflow_add-result
overflow_add-result c = omega (arith, (shifted c.args.m c.quotient_even-c.result c.if-m-eq0.false c.ranges.m.fits c.quotient_even-c.ensures).0, leading_le 64 c.args.m)

pub returns : goal.returns
returns c = (shifted c.args.m c.quotient_even-c.result c.if-m-eq0.false c.ranges.m.fits c.quotient_even-c.ensures).1
