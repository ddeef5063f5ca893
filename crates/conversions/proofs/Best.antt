-- A fraction between two patterns: the nearer one, and at a tie the even one, is nearest among all patterns. Assumes nothing.
use mathlib.Core.Path.{◌≡◌, ap, ◌∙◌, subst}
use mathlib.Core.Bool.{Bool, true, false, cond}
use mathlib.Core.Logic.{⊎_elim}
use Prim.Native.Nat.{ℕ, suc, ◌+◌, ◌-◌, ◌*◌, ◌/◌, ◌%◌, ◌^◌, ◌≤◌, ◌<◌}
use native.Mathlib.Nat.{mul-le-mul_right, mul-lt-mul_of_pos_right, mul_assoc}
use native.Mathlib.Omega.{arith}
use borrow.Author.Tests.{lt-ltb, le-ltb, eq-eqb, ne_eqb}
use lib.Pow.{pow-add, shl_lt}
use lib.Count.{count_leading_zeros, leading_top}
use Rattle.numbers.proofs.Parts.{split}
use Rattle.conversions.specs.Round.{even_up}
use Rattle.conversions.specs.Single.{units}
use Rattle.conversions.proofs.Units.{units_at, units_mono}

-- how far apart two numbers are
abbrev pub dist : ℕ → ℕ → ℕ
dist a b = (a - b) + (b - a)

-- no pattern y is nearer to m / d units than p, and where one of another value is as near, p is even
pub record Best (d m p : ℕ) : Type 0 where
  pub best : (y : ℕ) → dist m (units p * d) ≤ dist m (units y * d)
  pub tied : (y : ℕ) → dist m (units y * d) ≡ dist m (units p * d) → (units y * d ≡ units p * d → ⊥) → p % 2 ≡ 0

grow : (d p q : ℕ) → p ≤ q → units p * d ≤ units q * d
grow d p q h = mul-le-mul_right d (units_mono p q h)

-- m lies between the patterns p and p + 1
module _ (d m p : ℕ) (above : units p * d ≤ m) (below : m ≤ units (suc p) * d) where
  abbrev low : ℕ
  low = units p * d

  abbrev high : ℕ
  high = units (suc p) * d

  pub lower : m * 2 ≤ low + high → (m * 2 ≡ low + high → p % 2 ≡ 0) → Best d m p
  lower h t = record { best = b; tied = e } where
    b : (y : ℕ) → dist m low ≤ dist m (units y * d)
    b y = ⊎_elim (λ l. omega (arith, grow d (suc p) y l)) (λ l. omega (arith, grow d y p l)) (split p y)

    e : (y : ℕ) → dist m (units y * d) ≡ dist m low → (units y * d ≡ low → ⊥) → p % 2 ≡ 0
    e y q n = ⊎_elim (λ l. t (omega (arith, grow d (suc p) y l))) (λ l. absurd (n (omega (arith, grow d y p l)))) (split p y)

  pub upper : low + high ≤ m * 2 → (m * 2 ≡ low + high → suc p % 2 ≡ 0) → Best d m (suc p)
  upper h t = record { best = b; tied = e } where
    b : (y : ℕ) → dist m high ≤ dist m (units y * d)
    b y = ⊎_elim (λ l. omega (arith, grow d (suc p) y l)) (λ l. omega (arith, grow d y p l)) (split p y)

    e : (y : ℕ) → dist m (units y * d) ≡ dist m high → (units y * d ≡ high → ⊥) → suc p % 2 ≡ 0
    e y q n = ⊎_elim (λ l. absurd (n (omega (arith, grow d (suc p) y l)))) (λ l. t (omega (arith, grow d y p l))) (split p y)

-- q and a rest of the divisor D, each counted S times: rounding to even gives the best pattern at the exponent e
module _ (d e q rest D S : ℕ) (q_low : 2 ^ 23 ≤ q) (q_high : q < 2 ^ 24) (r_high : rest < D) (halves : D % 2 ≡ 0) (pe : 2 ^ e * d ≡ D * S) (pos_S : 0 < S) where
  abbrev M : ℕ
  M = (q * D + rest) * S

  abbrev lo : ℕ
  lo = e * 2 ^ 23 + q

  at : (c : ℕ) → 2 ^ 23 ≤ c → c ≤ 2 ^ 24 → units (e * 2 ^ 23 + c) * d ≡ c * (D * S)
  at c l h = ap (λ (x : ℕ). x * d) (units_at e c l h) ∙ mul_assoc c (2 ^ e) d ∙ ap (λ (x : ℕ). c * x) pe

  at_lo : units lo * d ≡ q * (D * S)
  at_lo = at q q_low (omega arith)

  hi_is : suc lo ≡ e * 2 ^ 23 + (q + 1)
  hi_is = omega arith

  at_hi : units (suc lo) * d ≡ (q + 1) * (D * S)
  at_hi = ap (λ (x : ℕ). units x * d) hi_is ∙ at (q + 1) (omega arith) (omega arith)

  above : units lo * d ≤ M
  above = omega (arith, at_lo)

  under : M ≤ units (suc lo) * d
  under = omega (arith, at_hi, mul-le-mul_right {m = rest} {n = D} S (omega arith))

  down : rest < D / 2 → Best d M lo
  down h =
      let k : rest * 2 * S < D * S = mul-lt-mul_of_pos_right {m = rest * 2} (omega arith) pos_S in
      lower d M lo above under (omega (arith, at_lo, at_hi, k)) (λ t. absurd (omega (arith, at_lo, at_hi, k)))

  up : D / 2 < rest → Best d M (suc lo)
  up h =
      let k : D * S < rest * 2 * S = mul-lt-mul_of_pos_right {n = rest * 2} (omega arith) pos_S in
      upper d M lo above under (omega (arith, at_lo, at_hi, k)) (λ t. absurd (omega (arith, at_lo, at_hi, k)))

  tie_sum : rest ≡ D / 2 → M * 2 ≡ units lo * d + units (suc lo) * d
  tie_sum h =
      let k : rest * 2 * S ≡ D * S = ap (λ (x : ℕ). x * S) (omega arith) in
      omega (arith, at_lo, at_hi, k)

  tie : rest ≡ D / 2 → Best d M (e * 2 ^ 23 + (q + q % 2))
  tie h = ⊎_elim even odd (split (q % 2) 1) where
    even : q % 2 < 1 → Best d M (e * 2 ^ 23 + (q + q % 2))
    even l =
        let k : e * 2 ^ 23 + q ≡ e * 2 ^ 23 + (q + q % 2) = omega arith in
        subst (Best d M) k (lower d M lo above under (omega (arith, tie_sum h)) (λ t. omega arith))

    odd : 1 ≤ q % 2 → Best d M (e * 2 ^ 23 + (q + q % 2))
    odd l =
        let k : suc lo ≡ e * 2 ^ 23 + (q + q % 2) = omega arith in
        subst (Best d M) k (upper d M lo above under (omega (arith, tie_sum h)) (λ t. omega arith))

  pub rounded : Best d M (e * 2 ^ 23 + even_up q rest (D / 2))
  rounded = ⊎_elim (λ l. rw (lt-ltb rest (D / 2) l) (down l)) (λ l. ⊎_elim (λ k. high k) (λ k. mid (omega arith)) (split (D / 2) rest)) (split rest (D / 2)) where
    mid : rest ≡ D / 2 → Best d M (e * 2 ^ 23 + even_up q rest (D / 2))
    mid h = rw (le-ltb rest (D / 2) (omega arith), eq-eqb rest (D / 2) h) (tie h)

    high : D / 2 < rest → Best d M (e * 2 ^ 23 + even_up q rest (D / 2))
    high h = rw (le-ltb rest (D / 2) (omega arith), ne_eqb rest (D / 2) (λ n. omega arith)) (subst (Best d M) hi_is (up h))

-- the digits of a number above 0, moved up as far as they go
pub record Moved (m z : ℕ) : Type 0 where
  pub z_high : z ≤ 63
  pub n_low : 2 ^ 63 ≤ m * 2 ^ z
  pub n_high : m * 2 ^ z < 2 ^ 64

pub moved : (m : ℕ) → 0 < m → m < 2 ^ 64 → Moved m (count_leading_zeros 64 m)
moved m h k =
    let t = leading_top 64 m h k in
    let j = t.0 in
    let z = count_leading_zeros 64 m in
    let a : 63 ≡ j + z = omega (arith, t.1) in
    let b : suc j + z ≡ 64 = omega (arith, t.1) in
    record {
      z_high = omega (arith, t.1);
      n_low = omega (arith, ap (λ (x : ℕ). 2 ^ x) a ∙ pow-add 2 j z, mul-le-mul_right (2 ^ z) t.2);
      n_high = subst (λ (x : ℕ). m * 2 ^ z < 2 ^ x) b (shl_lt (suc j) z t.3);
    }

pub even_up_le : (q : ℕ) (a b : Bool) → cond a q (cond b (q + q % 2) (q + 1)) ≤ q + 1
even_up_le q true b = omega arith
even_up_le q false true = omega arith
even_up_le q false false = omega arith

pub even_up_ge : (q : ℕ) (a b : Bool) → q ≤ cond a q (cond b (q + q % 2) (q + 1))
even_up_ge q true b = omega arith
even_up_ge q false true = omega arith
even_up_ge q false false = omega arith
