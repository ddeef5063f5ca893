-- `conversions::single::f32_of_i64` meets its contract, by the law `f32_of_nearest`. Assumes nothing.
use mathlib.Core.Path.{◌≡◌, sym, ap, ◌∙◌, subst}
use Prim.Native.Nat.{ℕ, ◌+◌, ◌*◌, ◌^◌, ◌≤◌}
use native.Mathlib.Omega.{arith}
use lib.IntN.{ℤ, nat_abs}
use mir.Syntax.{w64}
use mir.Val.{SFits, of_z, to_z}
use mir.Facts.{Fits-nat_abs, to_z-of_z}
use Rattle.conversions.specs.Round.{Nearest, is_negative, mag_of, f32_of}
use Rattle.conversions.proofs.Ratio.{mag_of_high}
use Rattle.conversions.proofs.Nearest.{f32_of_nearest}
use Rattle.conversions.proofs.Signs.{Below, Above, is_below, is_above}
use Rattle.conversions.proofs.single.f32_of_i64.Goals as goal

-- a callee is handed x as the machine reads it back from its bits
module _ (x : ℤ) (m r : ℕ) (s : SFits w64 x) (e : m ≡ nat_abs (to_z w64 (of_z w64 x))) (f : r ≡ mag_of m) where
  is : r ≡ mag_of (nat_abs x)
  is = f ∙ ap mag_of (e ∙ ap nat_abs (to_z-of_z s))

  high_of : r ≤ 191 * 2 ^ 23
  high_of = rw is (mag_of_high (nat_abs x) (Fits-nat_abs {w = w64} {w' = w64} tt s).fits)

  minus : Below x → 2 ^ 31 + r ≡ f32_of x
  unfolding f32_of
  minus v = rw (is, v.is)

  plus : Above x → r ≡ f32_of x
  unfolding f32_of
  plus v = rw (is, v.is)

pub overflow_add-result : goal.overflow_add-result
overflow_add-result c = omega (arith, high_of _ _ _ c.ranges.x c.unsigned_abs.ensures.value c.f32_of_u64-m.ensures)

pub returns-then-x-lt0 : goal.returns-then-x-lt0
returns-then-x-lt0 c =
    let e = minus _ _ _ c.ranges.x c.unsigned_abs.ensures.value c.f32_of_u64-m.ensures (is_below c.ranges.x c.if-x-lt0.true) in
    record { is = e; nearest = subst (Nearest (is_negative c.args.x) (nat_abs c.args.x) 1) (sym e) (f32_of_nearest c.args.x c.ranges.x) }

pub returns-else-x-lt0 : goal.returns-else-x-lt0
returns-else-x-lt0 c =
    let e = plus _ _ _ c.ranges.x c.unsigned_abs.ensures.value c.f32_of_u64-m.ensures (is_above c.ranges.x c.if-x-lt0.false) in
    record { is = e; nearest = subst (Nearest (is_negative c.args.x) (nat_abs c.args.x) 1) (sym e) (f32_of_nearest c.args.x c.ranges.x) }
