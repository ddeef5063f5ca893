-- `conversions::single::f32_rest` meets its contract: the f32 is a whole number, so its difference from x is too. Assumes nothing.
use mathlib.Core.Path.{◌≡◌, refl, sym, ap, ◌∙◌}
use Prim.Native.Nat.{ℕ, suc, ◌+◌, ◌*◌, ◌^◌, ◌≤◌, ◌<◌}
use native.Mathlib.Omega.{arith}
use lib.IntN.{ℤ, pos, nat_abs, sub_ℕ, ◌-ℤ◌, ◌*ℤ◌}
use lib.Signed.{nat_abs-le}
use mir.Syntax.{w64}
use mir.Val.{SFits, of_z, to_z}
use mir.Facts.{to_z-of_z}
use Rattle.conversions.specs.Single.{value}
use Rattle.conversions.specs.Round.{mag_of, f32_of}
use Rattle.conversions.specs.Trunc.{whole}
use Rattle.conversions.proofs.Signs.{Below, Above, is_below, is_above}
use Rattle.conversions.proofs.Exact.{near_by, mag_of_half}
use Rattle.conversions.proofs.Rest.{rest_plus, rest_minus}
use Rattle.conversions.proofs.single.f32_rest.Goals as goal

module _ (x : ℤ) (m p w : ℕ) (s : SFits w64 x) (e : m ≡ nat_abs (to_z w64 (of_z w64 x))) (f : p ≡ mag_of m) (g : w ≡ whole p) where
  m_is : m ≡ nat_abs x
  m_is = e ∙ ap nat_abs (to_z-of_z s)

  m_half : m ≤ 2 ^ 63
  m_half = rw m_is (nat_abs-le x s.sfits)

  p_half : p < 191 * 2 ^ 23
  p_half = rw f (mag_of_half m m_half)

  w_is : w ≡ whole (mag_of m)
  w_is = g ∙ ap whole f

  close : (w < m + 2 ^ 63) × (m < w + 2 ^ 63)
  close = omega (arith, m_half, w_is, near_by m (omega (arith, m_half)))

  below : Below x → (d : ℤ) → SFits w64 d → d ≡ sub_ℕ w m → x *ℤ pos (2 ^ 149) -ℤ value (f32_of x) ≡ to_z w64 (of_z w64 d) *ℤ pos (2 ^ 149)
  unfolding f32_of
  below v d t q =
      let k : suc v.n ≡ m = sym (m_is ∙ ap nat_abs v.is) in
      ap (λ (z : ℤ). z *ℤ pos (2 ^ 149) -ℤ value (f32_of z)) v.is
      ∙ rest_minus (suc v.n) (omega (arith, v.high))
      ∙ ap (λ (i : ℕ). sub_ℕ (whole (mag_of i)) i *ℤ pos (2 ^ 149)) k
      ∙ ap (λ (z : ℤ). z *ℤ pos (2 ^ 149)) (sym (to_z-of_z t ∙ q ∙ ap (λ (i : ℕ). sub_ℕ i m) w_is))

  above : Above x → (d : ℤ) → SFits w64 d → d ≡ sub_ℕ m w → x *ℤ pos (2 ^ 149) -ℤ value (f32_of x) ≡ to_z w64 (of_z w64 d) *ℤ pos (2 ^ 149)
  unfolding f32_of
  above v d t q =
      let k : v.n ≡ m = sym (m_is ∙ ap nat_abs v.is) in
      ap (λ (z : ℤ). z *ℤ pos (2 ^ 149) -ℤ value (f32_of z)) v.is
      ∙ rest_plus v.n (omega (arith, v.high))
      ∙ ap (λ (i : ℕ). sub_ℕ i (whole (mag_of i)) *ℤ pos (2 ^ 149)) k
      ∙ ap (λ (z : ℤ). z *ℤ pos (2 ^ 149)) (sym (to_z-of_z t ∙ q ∙ ap (λ (i : ℕ). sub_ℕ m i) w_is))

pub whole_of-w-requires : goal.whole_of-w-requires
whole_of-w-requires c = p_half _ _ _ _ c.ranges.x c.unsigned_abs-m.ensures.value c.f32_of_u64.ensures refl

pub difference-requires : goal.difference-requires
difference-requires c = close _ _ _ _ c.ranges.x c.unsigned_abs-m.ensures.value c.f32_of_u64.ensures c.whole_of-w.ensures

pub difference-requires-else-x-lt0 : goal.difference-requires-else-x-lt0
difference-requires-else-x-lt0 c =
    let k = close _ _ _ _ c.ranges.x c.unsigned_abs-m.ensures.value c.f32_of_u64.ensures c.whole_of-w.ensures in (k.1, k.0)

pub returns-then-x-lt0 : goal.returns-then-x-lt0
returns-then-x-lt0 c =
    let s = c.ranges.x in
    below _ _ _ _ s c.unsigned_abs-m.ensures.value c.f32_of_u64.ensures c.whole_of-w.ensures
    (is_below s c.if-x-lt0.true) c.difference.result (record { sfits = c.difference.type_inv }) c.difference.ensures

pub returns-else-x-lt0 : goal.returns-else-x-lt0
returns-else-x-lt0 c =
    let s = c.ranges.x in
    above _ _ _ _ s c.unsigned_abs-m.ensures.value c.f32_of_u64.ensures c.whole_of-w.ensures
    (is_above s c.if-x-lt0.false) c.difference-else-x-lt0.result (record { sfits = c.difference-else-x-lt0.type_inv }) c.difference-else-x-lt0.ensures
