-- A signed number below 0 and one that is not, and the definitions' views of bits as std says them. Assumes nothing.
use mathlib.Core.Path.{◌≡◌, refl, sym, ap, ◌∙◌}
use mathlib.Core.Bool.{Bool, true, false, cond}
use Prim.Native.Nat.{ℕ, suc, ◌-◌, ◌^◌, ◌<◌}
use native.Mathlib.Omega.{arith}
use borrow.Author.Tests.{ltb-true}
use lib.IntN.{ℤ, pos, negsuc, neg_ℤ}
use lib.Dec.{ltb}
use lib.Signed.{lt_z}
use mir.Syntax.{w32, w64}
use mir.Val.{sel, SFits, of_z, to_z}
use mir.Facts.{to_z-of_z}
use Rattle.conversions.specs.Signed.{signed_of, word_of}

-- x is -(n + 1)
pub record Below (x : ℤ) : Type 0 where
  pub n : ℕ
  pub is : x ≡ negsuc n
  pub high : n < 2 ^ 63

pub record Above (x : ℤ) : Type 0 where
  pub n : ℕ
  pub is : x ≡ pos n
  pub high : n < 2 ^ 63

below : (x : ℤ) → SFits w64 x → lt_z x (pos 0) ≡ true → Below x
below (pos n) s t = absurd (omega (arith, ltb-true n 0 t))
below (negsuc n) s t = record { n = n; is = refl; high = s.sfits }

above : (x : ℤ) → SFits w64 x → lt_z x (pos 0) ≡ false → Above x
above (pos n) s t = record { n = n; is = refl; high = s.sfits }
above (negsuc n) s t = let z : ◌≡◌ {A = ℕ} 0 1 = cc in absurd (omega arith)

-- the same at a test of the machine's, which reads x back from its bits
pub is_below : {x : ℤ} → SFits w64 x → lt_z (to_z w64 (of_z w64 x)) (pos 0) ≡ true → Below x
is_below {x} s t = below x s (sym (ap (λ (z : ℤ). lt_z z (pos 0)) (to_z-of_z s)) ∙ t)

pub is_above : {x : ℤ} → SFits w64 x → lt_z (to_z w64 (of_z w64 x)) (pos 0) ≡ false → Above x
is_above {x} s t = above x s (sym (ap (λ (z : ℤ). lt_z z (pos 0)) (to_z-of_z s)) ∙ t)

-- ---- the definitions' views: `cast_signed` of 64 and of 32 bits, and `cast_unsigned`

signs : (m h v : ℕ) → v < m → (t : Bool) → ltb v h ≡ t → sel (ltb v h) (pos v) (negsuc (m - suc v)) ≡ cond (ltb v h) (pos v) (neg_ℤ (pos (m - v)))
signs m h v g true q = rw q
signs m h v g false q =
    let e : m - v ≡ suc (m - suc v) = omega arith in
    rw (q, e)

pub signed64 : (v : ℕ) → v < 2 ^ 64 → to_z w64 v ≡ signed_of 64 v
signed64 v g = signs (2 ^ 64) (2 ^ 63) v g (ltb v (2 ^ 63)) refl

pub signed32 : (v : ℕ) → v < 2 ^ 32 → to_z w32 v ≡ signed_of 32 v
signed32 v g = signs (2 ^ 32) (2 ^ 31) v g (ltb v (2 ^ 31)) refl

pub word64 : (x : ℤ) → SFits w64 x → of_z w64 x ≡ word_of 64 x
word64 (pos n) s = let h : n < 2 ^ 63 = s.sfits in omega arith
word64 (negsuc n) s = let h : n < 2 ^ 63 = s.sfits in omega arith
