-- `conversions::decimal::Decimal::to_i64` meets its contract. Assumes nothing.
use Prim.Native.Nat.{ℕ, ◌/◌, ◌^◌, ◌<◌}
use mathlib.Core.Path.{◌≡◌, subst}
use native.Mathlib.Omega.{arith}
use lib.IntN.{ℤ, pos, neg_ℤ, ◌-ℤ◌}
use lib.Signed.{mag}
use mir.Syntax.{w64}
use mir.Val.{of_z, to_z}
use mir.Facts.{to_z_pos}
use Rattle.conversions.specs.Decimal.{i64_of_decimal}
use Rattle.conversions.proofs.Nearest.{ten_pos}
use Rattle.conversions.proofs.Trunc.{minus_read}
use Rattle.conversions.proofs.decimal.Decimal.to_i64.Goals as goal

-- x is the whole number n / d
module _ (x : ℤ) (n d : ℕ) (e : x ≡ pos (n / d)) (f : mag x < 2 ^ 63) where
  h : n / d < 2 ^ 63
  h = subst (λ (y : ℤ). mag y < 2 ^ 63) e f

  plus : to_z w64 (of_z w64 x) ≡ pos (n / d)
  plus = rw e (to_z_pos w64 h)

  minus : to_z w64 (of_z w64 (pos 0 -ℤ to_z w64 (of_z w64 x))) ≡ neg_ℤ (pos (n / d))
  minus = rw e (minus_read (n / d) h)

pub nonzero_div-self : goal.nonzero_div-self
nonzero_div-self c = omega (arith, c.pow.ensures, ten_pos c.args.self.places)

pub returns-then-self : goal.returns-then-self
unfolding i64_of_decimal
returns-then-self c = rw (c.if-self.true, ← c.pow.ensures) (minus _ _ _ c.from-n.ensures c.from-n.type_inv)

pub returns-else-self : goal.returns-else-self
unfolding i64_of_decimal
returns-else-self c = rw (c.if-self.false, ← c.pow.ensures) (plus _ _ _ c.from-n.ensures c.from-n.type_inv)
