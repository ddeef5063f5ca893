-- `ratio_of n d` is the best pattern of n / d: moved up, the two give a quotient of 24 binary digits, which is rounded. Assumes nothing.
use Rattle.std.specs.Prelude.{eqb, ltb}
use mathlib.Core.Path.{◌≡◌, refl, sym, ap, ◌∙◌, subst}
use mathlib.Core.Logic.{⊎_elim}
use Prim.Native.Nat.{ℕ, zero, suc, ◌+◌, ◌-◌, ◌*◌, ◌/◌, ◌%◌, ◌^◌, ◌≤◌, ◌<◌}
use native.Mathlib.Nat.{mul-le-mul_right, mul-le-mul_left, div-add-mod', mod-lt, mod-eq_of_lt, mul_assoc, div-lt_iff_lt-mul, le-div_iff_mul-le}
use native.Mathlib.Omega.{arith}
use borrow.Author.Tests.{lt-ltb, le-ltb}
use lib.Pow.{pow_pos, pow-add, pow_mono}
use lib.Count.{count_leading_zeros}
use Rattle.numbers.proofs.Parts.{split}
use Rattle.conversions.specs.Single.{units}
use Rattle.conversions.specs.Round.{round_quotient, divisor_shift, ratio_of, mag_of}
use Rattle.conversions.proofs.Best.{dist, Best, Moved, moved, rounded, even_up_le, even_up_ge}

-- t, of 64 binary digits, by the divisor D: the quotient has 24, and D is even
pub record Divides (t D s : ℕ) : Type 0 where
  pub s_low : 9 ≤ s
  pub s_high : s ≤ 40
  pub under : D * 2 ^ 23 ≤ t
  pub over : t < D * 2 ^ 24

module _ (d : ℕ) (d_pos : 0 < d) (d_high : d ≤ 2 ^ 30) where
  abbrev v : ℕ
  v = count_leading_zeros 64 d

  d_top : Moved d v
  d_top = moved d d_pos (omega arith)

  pub v_low : 33 ≤ v
  v_low = ⊎_elim (λ l. absurd (none l)) (λ l. l) (split v 33) where
    none : v < 33 → ⊥
    none l =
        omega
        (arith, d_top.n_low, mul-le-mul_right {m = d} (2 ^ v) d_high, mul-le-mul_left (2 ^ 30) (pow_mono {i = v} {j = 32} (omega arith)))

  -- the shift of 64 bits loses nothing
  pub shift_23 : (t : ℕ) → d * 2 ^ v % 2 ^ 64 ≤ t → v - 23 ≡ divisor_shift t d
  shift_23 t h = rw (le-ltb t (d * 2 ^ v) (omega (arith, h, mod-eq_of_lt d_top.n_high)))

  up_by : (s k : ℕ) → s + k ≡ v → d * 2 ^ s * 2 ^ k ≡ d * 2 ^ v
  up_by s k e = mul_assoc d (2 ^ s) (2 ^ k) ∙ ap (λ (x : ℕ). d * x) (sym (pow-add 2 s k) ∙ ap (λ (x : ℕ). 2 ^ x) e)

  module _ (t : ℕ) (t_low : 2 ^ 63 ≤ t) (t_high : t < 2 ^ 64) where
    less : t < d * 2 ^ v → Divides t (d * 2 ^ (v - 24)) (v - 24)
    less l =
        let e : v - 24 + 24 ≡ v = omega (arith, v_low) in
        let k = up_by (v - 24) 24 e in
        record { s_low = omega (arith, v_low); s_high = omega (arith, d_top.z_high); under = omega (arith, k, d_top.n_high, t_low); over = omega (arith, k, l) }

    more : d * 2 ^ v ≤ t → Divides t (d * 2 ^ (v - 23)) (v - 23)
    more l =
        let e : v - 23 + 23 ≡ v = omega (arith, v_low) in
        let k = up_by (v - 23) 23 e in
        record { s_low = omega (arith, v_low); s_high = omega (arith, d_top.z_high); under = omega (arith, k, l); over = omega (arith, k, d_top.n_low, t_high) }

    divides : Divides t (d * 2 ^ divisor_shift t d) (divisor_shift t d)
    divides = ⊎_elim (λ l. rw (lt-ltb t (d * 2 ^ v) l) (less l)) (λ l. rw (le-ltb t (d * 2 ^ v) l) (more l)) (split t (d * 2 ^ v))

ratio_at : (n d : ℕ) → 0 < n → ratio_of n d ≡ (149 + divisor_shift (n * 2 ^ count_leading_zeros 64 n) d - count_leading_zeros 64 n) * 2 ^ 23
    + round_quotient (n * 2 ^ count_leading_zeros 64 n) (d * 2 ^ divisor_shift (n * 2 ^ count_leading_zeros 64 n) d)
unfolding ratio_of
ratio_at zero d h = absurd (omega arith)
ratio_at (suc k) d h = refl

module _ (n d : ℕ) (n_pos : 0 < n) (n_high : n < 2 ^ 64) (d_pos : 0 < d) (d_high : d ≤ 2 ^ 30) where
  abbrev z : ℕ
  z = count_leading_zeros 64 n

  abbrev t : ℕ
  t = n * 2 ^ z

  abbrev s : ℕ
  s = divisor_shift t d

  abbrev D : ℕ
  D = d * 2 ^ s

  top : Moved n z
  top = moved n n_pos n_high

  by_D : Divides t D s
  by_D = divides d d_pos d_high t top.n_low top.n_high

  pos_D : 0 < D
  pos_D = omega (arith, mul-le-mul_right {m = 1} {n = d} (2 ^ s) (omega arith), pow_pos s)

  q_low : 2 ^ 23 ≤ t / D
  q_low = (le-div_iff_mul-le pos_D).1 (omega (arith, by_D.under))

  q_high : t / D < 2 ^ 24
  q_high = (div-lt_iff_lt-mul pos_D).1 (omega (arith, by_D.over))

  halves : D % 2 ≡ 0
  halves =
      let e : s ≡ s - 1 + 1 = omega (arith, by_D.s_low) in
      let k : 2 ^ s ≡ 2 ^ (s - 1) * 2 = ap (λ (x : ℕ). 2 ^ x) e ∙ pow-add 2 (s - 1) 1 in
      let h : D ≡ d * 2 ^ (s - 1) * 2 = ap (λ (x : ℕ). d * x) k ∙ omega arith in
      omega (arith, h)

  abbrev S : ℕ
  S = 2 ^ (149 - z)

  pe : 2 ^ (149 + s - z) * d ≡ D * S
  pe =
      let e : 149 + s - z ≡ s + (149 - z) = omega (arith, top.z_high) in
      ap (λ (x : ℕ). x * d) (ap (λ (x : ℕ). 2 ^ x) e ∙ pow-add 2 s (149 - z)) ∙ omega arith

  number : (t / D * D + t % D) * S ≡ n * 2 ^ 149
  number =
      let k : z + (149 - z) ≡ 149 = omega (arith, top.z_high) in
      ap (λ (x : ℕ). x * S) (div-add-mod' t D) ∙ mul_assoc n (2 ^ z) S ∙ ap (λ (x : ℕ). n * x) (sym (pow-add 2 z (149 - z)) ∙ ap (λ (x : ℕ). 2 ^ x) k)

  abbrev p : ℕ
  p = (149 + s - z) * 2 ^ 23 + round_quotient t D

  best : Best d (n * 2 ^ 149) p
  best =
      subst (λ (x : ℕ). Best d x p) number
      (rounded d (149 + s - z) (t / D) (t % D) D S q_low q_high (mod-lt t pos_D) halves pe (pow_pos (149 - z)))

  quotient_high : round_quotient t D ≤ 2 ^ 24
  quotient_high = omega (arith, q_high, even_up_le (t / D) (ltb (t % D) (D / 2)) (eqb (t % D) (D / 2)))

  high : p ≤ 191 * 2 ^ 23
  high = omega (arith, quotient_high, by_D.s_high)

  is_ratio : p ≡ ratio_of n d
  is_ratio = sym (ratio_at n d n_pos)

  -- the same in numbers of 64 bits, in which nothing is lost
  t_kept : t % 2 ^ 64 ≡ t
  t_kept = mod-eq_of_lt top.n_high

  module _ (x : ℕ) (e : x ≡ divisor_shift (t % 2 ^ 64) d) where
    x_is : x ≡ s
    x_is = e ∙ ap (λ (y : ℕ). divisor_shift y d) t_kept

    D_kept : d * 2 ^ x % 2 ^ 64 ≡ D
    D_kept = ap (λ (y : ℕ). d * 2 ^ y % 2 ^ 64) x_is ∙ mod-eq_of_lt (omega (arith, by_D.under, top.n_high))

    pub shift_high : x ≤ 40
    shift_high = omega (arith, x_is, by_D.s_high)

    pub divisor_even : (0 < d * 2 ^ x % 2 ^ 64) × (d * 2 ^ x % 2 ^ 64 % 2 ≡ 0)
    divisor_even = (omega (arith, D_kept, pos_D), ap (λ (y : ℕ). y % 2) D_kept ∙ halves)

    module _ (c : ℕ) (f : c ≡ round_quotient (t % 2 ^ 64) (d * 2 ^ x % 2 ^ 64)) where
      c_is : c ≡ round_quotient t D
      c_is = f ∙ ap (λ (y : ℕ). round_quotient y (d * 2 ^ x % 2 ^ 64)) t_kept ∙ ap (round_quotient t) D_kept

      pub c_high : c ≤ 2 ^ 24
      c_high = rw c_is quotient_high

      pub ratio_is : (149 + x - z) * 2 ^ 23 + c ≡ ratio_of n d
      ratio_is = rw (x_is, c_is) is_ratio

least : (d u : ℕ) → dist 0 (0 * d) ≤ dist 0 u
least d u = omega arith

pub ratio_best : (n d : ℕ) → n < 2 ^ 64 → 0 < d → d ≤ 2 ^ 30 → Best d (n * 2 ^ 149) (ratio_of n d)
unfolding ratio_of
ratio_best zero d l h k = record { best = λ y. least d (units y * d); tied = λ y q n. refl }
ratio_best (suc n) d l h k = best (suc n) d (omega arith) l h k

pub ratio_high : (n d : ℕ) → n < 2 ^ 64 → 0 < d → d ≤ 2 ^ 30 → ratio_of n d ≤ 191 * 2 ^ 23
unfolding ratio_of
ratio_high zero d l h k = omega arith
ratio_high (suc n) d l h k = high (suc n) d (omega arith) l h k

-- ---- whole numbers: over 1 the divisor is 2 ^ 40

abbrev pub round40 : ℕ → ℕ
round40 n = round_quotient n (2 ^ 40)

pub round40_next : (n : ℕ) → round40 n ≤ n / 2 ^ 40 + 1
round40_next n = even_up_le (n / 2 ^ 40) (ltb (n % 2 ^ 40) (2 ^ 39)) (eqb (n % 2 ^ 40) (2 ^ 39))

pub round40_le : (n : ℕ) → n < 2 ^ 64 → round40 n ≤ 2 ^ 24
round40_le n h = omega (arith, round40_next n)

pub round40_ge : (n : ℕ) → 2 ^ 63 ≤ n → 2 ^ 23 ≤ round40 n
round40_ge n h = omega (arith, even_up_ge (n / 2 ^ 40) (ltb (n % 2 ^ 40) (2 ^ 39)) (eqb (n % 2 ^ 40) (2 ^ 39)))

zeros_of_1 : count_leading_zeros 64 1 ≡ 63
unfolding count_leading_zeros
zeros_of_1 = refl

pub mag_at : (k : ℕ) → suc k < 2 ^ 64
    → mag_of (suc k) ≡ (189 - count_leading_zeros 64 (suc k)) * 2 ^ 23 + round40 (suc k * 2 ^ count_leading_zeros 64 (suc k))
unfolding ratio_of
mag_at k h =
    let t = suc k * 2 ^ count_leading_zeros 64 (suc k) in
    let v = moved (suc k) (omega arith) h in
    let e : divisor_shift t 1 ≡ 40 = rw (zeros_of_1, le-ltb t (1 * 2 ^ 63) (omega (arith, v.n_low))) in
    rw e

pub mag_of_high : (m : ℕ) → m < 2 ^ 64 → mag_of m ≤ 191 * 2 ^ 23
mag_of_high m h = ratio_high m 1 h (omega arith) (omega arith)

pub mag_of_best : (m : ℕ) → m < 2 ^ 64 → Best 1 (m * 2 ^ 149) (mag_of m)
mag_of_best m h = ratio_best m 1 h (omega arith) (omega arith)
