-- The number of digits in two parts, and how large it is. Assumes nothing.
use Rattle.std.specs.Prelude.{Bool, true, false, cond, ◌&&◌, [], ◌∷◌, ◌++◌, leb, ltb, length, take, drop, Option, Some, None}
use Rattle.std.proofs.lemmas.List.{drop_more, length-append}
use mathlib.Core.Path.{◌≡◌, refl, sym, ap, ◌∙◌}
use mathlib.Core.Logic.{⊎_elim}
use Prim.Native.Nat.{ℕ, suc, ◌+◌, ◌-◌, ◌*◌, ◌^◌, ◌≤◌, ◌<◌}
use native.Mathlib.Nat.{mul-le-mul_right, one-le-pow, pow-succ', pow-le-pow_right}
use native.Mathlib.Omega.{arith}
use borrow.Author.Tests.{lt-ltb, le-ltb, leb-true, le-leb}
use lib.ListN.{get_or, drop_of_length-le}
use lib.Pow.{pow-add}
use Rattle.numbers.specs.Words.{Bytes}
use Rattle.numbers.proofs.Parts.{split, part_rest}
use Rattle.conversions.specs.Radix.{digit_of, number}
use Rattle.texts.specs.Float.{is_digit, leading_digits, after_sign}
use Rattle.texts.specs.Decimal.{is_minus, whole_digits, without_point, after_point, nine_digits, decimal_of}

pub some_is : {A : Type 0} (a b : A) → Some a ≡ Some b → a ≡ b
some_is a b e = cc

pub none_some : (m : ℕ) → None ≡ Some m → ⊥
none_some m e = cc

-- ---- one digit

and_left : (a b : Bool) → (a && b) ≡ true → a ≡ true
and_left true b h = refl
and_left false b h = h

and_right : (a b : Bool) → (a && b) ≡ true → b ≡ true
and_right true b h = h
and_right false b h = cc

digit_low : (b : ℕ) → is_digit b ≡ true → 48 ≤ b
digit_low b e = leb-true 48 b (and_left (leb 48 b) (leb b 57) e)

digit_top : (b : ℕ) → is_digit b ≡ true → b ≤ 57
digit_top b e = leb-true b 57 (and_right (leb 48 b) (leb b 57) e)

digit_is : (b : ℕ) → 48 ≤ b → b ≤ 57 → digit_of b ≡ b - 48
unfolding digit_of
digit_is b l h = rw (le-ltb b 48 l, lt-ltb b 58 (omega arith))

digit_less : (b : ℕ) → b < 48 → digit_of b ≡ 36
unfolding digit_of
digit_less b l = rw (lt-ltb b 48 l)

-- a letter, or none
digit_more : (b : ℕ) → 58 ≤ b → 10 ≤ digit_of b
unfolding digit_of
digit_more b h = rw (le-ltb b 48 (omega arith), le-ltb b 58 h) (⊎_elim (λ l. rw (lt-ltb b 65 l) (omega arith)) (λ l. rw (le-ltb b 65 l) (capital l)) (split b 65)) where
  small : 97 ≤ b → 10 ≤ cond (ltb b 123) (b - 87) 36
  small k = ⊎_elim (λ l. rw (lt-ltb b 123 l) (omega arith)) (λ l. rw (le-ltb b 123 l) (omega arith)) (split b 123)

  between : 91 ≤ b → 10 ≤ cond (ltb b 97) 36 (cond (ltb b 123) (b - 87) 36)
  between k = ⊎_elim (λ l. rw (lt-ltb b 97 l) (omega arith)) (λ l. rw (le-ltb b 97 l) (small l)) (split b 97)

  capital : 65 ≤ b → 10 ≤ cond (ltb b 91) (b - 55) (cond (ltb b 97) 36 (cond (ltb b 123) (b - 87) 36))
  capital k = ⊎_elim (λ l. rw (lt-ltb b 91 l) (omega arith)) (λ l. rw (le-ltb b 91 l) (between l)) (split b 91)

pub digit_none : (b : ℕ) → is_digit b ≡ false → 10 ≤ digit_of b
digit_none b e = ⊎_elim (λ l. omega (arith, digit_less b l)) (λ l. ⊎_elim (λ k. absurd (none l k)) (λ k. digit_more b k) (split b 58)) (split b 48) where
  none : 48 ≤ b → b < 58 → ⊥
  none l k = false_true (sym e ∙ ap (λ (t : Bool). t && leb b 57) (le-leb 48 b l) ∙ le-leb b 57 (omega arith)) where
    false_true : false ≡ true → ⊥
    false_true q = cc

-- ---- one byte more

pub step : (n b : ℕ) (l : Bytes) → digit_of b < 10 → number 10 n (b ∷ l) ≡ number 10 (n * 10 + digit_of b) l
unfolding number
step n b l h = rw (lt-ltb (digit_of b) 10 h, number)

pub stop : (n b : ℕ) (l : Bytes) → 10 ≤ digit_of b → number 10 n (b ∷ l) ≡ None
unfolding number
stop n b l h = rw (le-ltb (digit_of b) 10 h, number)

-- at a place of a slice
module _ (s : Bytes) (i m : ℕ) (h : i < length s) where
  abbrev at : ℕ
  at = get_or s i 0

  pub next_digit : is_digit at ≡ true → number 10 m (drop i s) ≡ number 10 (m * 10 + (at - 48)) (drop (i + 1) s)
  next_digit e =
      let d = digit_is at (digit_low at e) (digit_top at e) in
      rw (drop_more s i 0 h) (step m at (drop (i + 1) s) (omega (arith, d, digit_top at e)) ∙ ap (λ (x : ℕ). number 10 (m * 10 + x) (drop (i + 1) s)) d)

  pub no_digit : is_digit at ≡ false → number 10 m (drop i s) ≡ None
  no_digit e = rw (drop_more s i 0 h) (stop m at (drop (i + 1) s) (digit_none at e))

pub number_end : (s : Bytes) (i m : ℕ) → length s ≤ i → number 10 m (drop i s) ≡ Some m
unfolding number
number_end s i m h = rw (drop_of_length-le s h)

-- ---- two parts

pub number_some : (n m : ℕ) (a b : Bytes) → number 10 n a ≡ Some m → number 10 n (a ++ b) ≡ number 10 m b
unfolding number
number_some n m [] b e = ap (λ (x : ℕ). number 10 x b) (some_is n m e)
number_some n m (c ∷ a) b e =
    ⊎_elim (λ l. step n c (a ++ b) l ∙ number_some (n * 10 + digit_of c) m a b (sym (step n c a l) ∙ e)) (λ l. absurd (none_some m (sym (stop n c a l) ∙ e)))
    (split (digit_of c) 10)

pub number_none : (n : ℕ) (a b : Bytes) → number 10 n a ≡ None → number 10 n (a ++ b) ≡ None
unfolding number
number_none n [] b e = absurd (none_some n (sym e))
number_none n (c ∷ a) b e =
    ⊎_elim (λ l. step n c (a ++ b) l ∙ number_none (n * 10 + digit_of c) a b (sym (step n c a l) ∙ e)) (λ l. stop n c (a ++ b) l) (split (digit_of c) 10)

-- ---- how large it is

tenfold : (n d P m : ℕ) → d < 10 → m + 1 ≤ (n * 10 + d + 1) * P → m + 1 ≤ (n + 1) * (10 * P)
tenfold n d P m h l =
    let k : (n * 10 + d + 1) * P ≤ (n * 10 + 10) * P = mul-le-mul_right P (omega arith) in
    omega (arith, l, k)

pub number_high : (n m : ℕ) (l : Bytes) → number 10 n l ≡ Some m → m + 1 ≤ (n + 1) * 10 ^ length l
unfolding number
number_high n m [] e = omega (arith, some_is n m e)
number_high n m (b ∷ l) e =
    ⊎_elim
    (λ k. rw (pow-succ' 10 (length l)) (tenfold n (digit_of b) (10 ^ length l) m k (number_high (n * 10 + digit_of b) m l (sym (step n b l k) ∙ e))))
    (λ k. absurd (none_some m (sym (stop n b l k) ∙ e))) (split (digit_of b) 10)

-- a digit more, and one place less left
module _ (s : Bytes) (i m : ℕ) (h : i < length s) (e : is_digit (get_or s i 0) ≡ true) (k : (m + 1) * 10 ^ (length s - i) ≤ 10 ^ 9) where
  abbrev left : ℕ
  left = length s - (i + 1)

  pub room_left : (m * 10 + (get_or s i 0 - 48) + 1) * 10 ^ left ≤ 10 ^ 9
  room_left =
      let j : length s - i ≡ suc left = omega arith in
      let p : 10 ^ (length s - i) ≡ 10 * 10 ^ left = ap (λ (x : ℕ). 10 ^ x) j ∙ pow-succ' 10 left in
      let q : (m + 1) * 10 ^ (length s - i) ≡ (m + 1) * (10 * 10 ^ left) = ap (λ (x : ℕ). (m + 1) * x) p in
      let r : (m * 10 + (get_or s i 0 - 48) + 1) * 10 ^ left ≤ (m * 10 + 10) * 10 ^ left = mul-le-mul_right (10 ^ left) (omega (arith, digit_top (get_or s i 0) e)) in
      omega (arith, k, q, r)

  pub digit_fits : m * 10 + (get_or s i 0 - 48) < 10 ^ 9
  digit_fits =
      let r = mul-le-mul_right {m = 1} {n = 10 ^ left} (m * 10 + (get_or s i 0 - 48) + 1) (one-le-pow left 10 (omega arith)) in
      omega (arith, room_left, r)

-- ---- a text's decimal

module _ (w r : Bytes) where
  pub nine_none : number 10 0 w ≡ None → nine_digits (w ++ r) ≡ None
  nine_none e = rw (number_none 0 w r e) (none (leb 1 (length (w ++ r)) && leb (length (w ++ r)) 9)) where
    none : (t : Bool) → cond {A = Option ℕ} t None None ≡ None
    none true = refl
    none false = refl

  module _ (m : ℕ) (e : number 10 0 w ≡ Some m) (h : length w + length r ≤ 9) where
    pub rest_fits : (m + 1) * 10 ^ length r ≤ 10 ^ 9
    rest_fits =
        let j : (m + 1) * 10 ^ length r ≤ (0 + 1) * 10 ^ length w * 10 ^ length r = mul-le-mul_right (10 ^ length r) (number_high 0 m w e) in
        omega (arith, j, pow-add 10 (length w) (length r), pow-le-pow_right {n = 10} (omega arith) {i = length w + length r} {j = 9} h)

    pub nine_some : 1 ≤ length w + length r → number 10 m r ≡ nine_digits (w ++ r)
    nine_some l = rw (length-append w r, le-leb 1 (length w + length r) l, le-leb (length w + length r) 9 h, number_some 0 m w r e)

-- in the code's parts: t behind the sign, n digits in front of the point, u behind it
module _ (s t u : Bytes) (n : ℕ) (t_is : t ≡ after_sign s) (n_is : n ≡ leading_digits t) (u_is : u ≡ without_point (take (length t - n) (drop n t))) where
  rest_is : u ≡ after_point t
  rest_is = u_is ∙ ap without_point (part_rest t n ∙ ap (λ (k : ℕ). drop k t) n_is)

  parted : nine_digits (take n t ++ u) ≡ nine_digits (whole_digits (after_sign s) ++ after_point (after_sign s))
  parted = rw (rest_is, n_is, t_is)

  pub decimal_none : nine_digits (take n t ++ u) ≡ None → decimal_of s ≡ None
  unfolding decimal_of
  decimal_none e = rw (sym parted ∙ e)

  pub decimal_some : (d : ℕ) → nine_digits (take n t ++ u) ≡ Some d → (minus : Bool) → minus ≡ is_minus s
      → decimal_of s ≡ Some (record { minus = minus; digits = d; places = length u })
  unfolding decimal_of
  decimal_some d e minus m = rw (m, rest_is, t_is, sym parted ∙ e)
