-- `conversions::single::i64_of_f32` meets its contract, by the cases of `i64_of`. Assumes nothing.
use mathlib.Core.Path.{◌≡◌, sym, ap, ◌∙◌}
use Prim.Native.Nat.{ℕ, ◌-◌, ◌*◌, ◌^◌, ◌≤◌, ◌<◌, min}
use native.Mathlib.Omega.{arith}
use lib.IntN.{pos, negsuc, neg_ℤ, ◌-ℤ◌}
use mir.Syntax.{w64}
use mir.Val.{of_z, to_z}
use mir.Facts.{to_z_pos}
use Rattle.conversions.specs.Single.{low, inf}
use Rattle.conversions.specs.Trunc.{whole, i64_of}
use Rattle.conversions.proofs.Trunc.{whole_under, whole_over, i64_of_plus, i64_of_minus, sfits_neg, minus_is_law, minus_read}
use Rattle.conversions.proofs.single.i64_of_f32.Goals as goal

small : (p r : ℕ) → r ≡ whole p → p < 190 * 2 ^ 23 → r < 2 ^ 63
small p r e h = rw e (whole_under p h)

module _ (b r : ℕ) (n : low b ≤ inf) where
  plus : b < 2 ^ 31 → low b < 190 * 2 ^ 23 → r ≡ whole (low b) → to_z w64 r ≡ i64_of b
  plus h l e =
      let k : r < 2 ^ 63 = small (low b) r e l in
      let m : r ≡ min (whole (low b)) (2 ^ 63 - 1) = omega arith in
      to_z_pos w64 k ∙ ap pos m ∙ sym (i64_of_plus b n h)

  minus : 2 ^ 31 ≤ b → low b < 190 * 2 ^ 23 → r ≡ whole (low b) → to_z w64 (of_z w64 (pos 0 -ℤ to_z w64 r)) ≡ i64_of b
  minus h l e =
      let k : r < 2 ^ 63 = small (low b) r e l in
      let m : r ≡ min (whole (low b)) (2 ^ 63) = omega arith in
      minus_read r k ∙ ap (λ (x : ℕ). neg_ℤ (pos x)) m ∙ sym (i64_of_minus b n h)

module _ (b : ℕ) (n : low b ≤ inf) where
  plus_end : b < 2 ^ 31 → 190 * 2 ^ 23 ≤ low b → pos (2 ^ 63 - 1) ≡ i64_of b
  plus_end h l =
      let m : 2 ^ 63 - 1 ≡ min (whole (low b)) (2 ^ 63 - 1) = omega (arith, whole_over (low b) l) in
      ap pos m ∙ sym (i64_of_plus b n h)

  minus_end : 2 ^ 31 ≤ b → 190 * 2 ^ 23 ≤ low b → negsuc (2 ^ 63 - 1) ≡ i64_of b
  minus_end h l =
      let m : 2 ^ 63 ≡ min (whole (low b)) (2 ^ 63) = omega (arith, whole_over (low b) l) in
      ap (λ (x : ℕ). neg_ℤ (pos x)) m ∙ sym (i64_of_minus b n h)

pub overflow_cast-n : goal.overflow_cast-n
overflow_cast-n c = record { sfits = small _ _ c.whole_of-n.ensures (omega arith) }

pub overflow_sub-result : goal.overflow_sub-result
overflow_sub-result c =
    let h = small _ _ c.whole_of-n.ensures (omega arith) in rw (minus_is_law c.whole_of-n.result h) (sfits_neg c.whole_of-n.result h)

pub returns-then-negative : goal.returns-then-negative
returns-then-negative c = minus c.args.b _ (omega arith) (omega arith) (omega arith) c.whole_of-n.ensures

pub returns-else-negative : goal.returns-else-negative
returns-else-negative c = plus c.args.b _ (omega arith) (omega arith) (omega arith) c.whole_of-n.ensures

pub returns-then-negative-2 : goal.returns-then-negative-2
returns-then-negative-2 c = minus_end c.args.b (omega arith) (omega arith) (omega arith)

pub returns-else-negative-2 : goal.returns-else-negative-2
returns-else-negative-2 c = plus_end c.args.b (omega arith) (omega arith) (omega arith)
