-- Whole numbers in a text: digits one at a time, over any radix and any limit; signs; the answers. Assumes nothing.
use Rattle.std.specs.Prelude.{Option, Some, None, option_map, SomeIff, Result, Ok, Err, OkIff}
use Rattle.std.specs.Result.{result_ok}
use mathlib.Core.Path.{◌≡◌, refl, ap, ◌∙◌, sym}
use mathlib.Core.List.{List, [], ◌∷◌}
use Prim.Native.Nat.{ℕ, suc, ◌+◌, ◌-◌, ◌*◌, ◌≤◌, ◌<◌, ◌^◌, zero}
use native.Mathlib.Nat.{mul-le-mul_left}
use native.Mathlib.Numerals.{add-one}
use native.Mathlib.Omega.{arith}
use borrow.Author.Tests.{lt-ltb, le-ltb, le-leb, lt-leb, eq-eqb, ne_eqb}
use lib.ListN.{length, get_or, drop, drop_of_length-le, get_or-eq_default}
use lib.Seq.{drop-cons}
use lib.IntN.{pos}
use mathlib.Core.Logic.{⊎_elim}
use Rattle.std.specs.Char.{digit_value}
use Rattle.numbers.proofs.Parts.{split}
use mir.Syntax.{w64}
use mir.Val.{SFits}
use Rattle.conversions.specs.Radix.{digit_of, number, up_to, plain, digits, first_of, after_plus, minus_of, signed}
use Rattle.numbers.specs.Words.{Bytes}

-- ---- digits

pub digits_is : (r max : ℕ) (s : Bytes) → 0 < length s → up_to max (number r 0 s) ≡ digits r max s
unfolding plain
digits_is r max [] h = absurd (omega arith)
digits_is r max (b ∷ bs) h = refl

pub digits_none : (r max : ℕ) (s : Bytes) → length s ≡ 0 → digits r max s ≡ None
unfolding plain
digits_none r max [] h = refl
digits_none r max (b ∷ bs) h = absurd (omega arith)

-- one digit more, or the end: `number` computes by its test only
number_next : (r n b : ℕ) (l : Bytes) → digit_of b < r → number r n (b ∷ l) ≡ number r (n * r + digit_of b) l
unfolding number
number_next r n b l h = rw (lt-ltb (digit_of b) r h, number)

number_none : (r n b : ℕ) (l : Bytes) → r ≤ digit_of b → number r n (b ∷ l) ≡ None
unfolding number
number_none r n b l h = rw (le-ltb (digit_of b) r h, number)

module _ (r max : ℕ) (r-low : 1 ≤ r) where
  -- once above the limit, always above
  over : (l : Bytes) (n : ℕ) → max < n → up_to max (number r n l) ≡ None
  unfolding number
  over [] n h = rw (lt-leb n max h)
  over (b ∷ l) n h =
      ⊎_elim (λ k. ap (up_to max) (number_next r n b l k) ∙ over l (n * r + digit_of b) (omega (arith, mul-le-mul_left n r-low)))
      (λ k. ap (up_to max) (number_none r n b l k)) (split (digit_of b) r)

  -- b is the byte at i
  module _ (s : Bytes) (n i b : ℕ) (h : i < length s) (e : b ≡ get_or s i 0) where
    here : drop i s ≡ b ∷ drop (i + 1) s
    here = rw (e, drop-cons s i 0 h, add-one)

    pub turn : (m : ℕ) → digit_value b < r → m ≡ n * r + digit_value b → up_to max (number r n (drop i s)) ≡ up_to max (number r m (drop (i + 1) s))
    unfolding digit_of
    turn m l k = rw (here, k) (ap (up_to max) (number_next r n b (drop (i + 1) s) l))

    pub bad : (digit_value b < r → ⊥) → up_to max (number r n (drop i s)) ≡ None
    unfolding digit_of
    bad l = rw here (ap (up_to max) (number_none r n b (drop (i + 1) s) (omega (arith, l))))

    pub full : digit_value b < r → max < n * r + digit_value b → up_to max (number r n (drop i s)) ≡ None
    full l k = turn (n * r + digit_value b) l refl ∙ over (drop (i + 1) s) (n * r + digit_value b) k

pub done : (r max : ℕ) (s : Bytes) (n i : ℕ) → length s ≤ i → n ≤ max → up_to max (number r n (drop i s)) ≡ Some n
unfolding number
done r max s n i h k = rw (drop_of_length-le s h, le-leb n max k)

-- ---- the first byte, and what follows it

pub first_none : (s : List ℕ) → length s ≤ 0 → 0 ≡ first_of s
first_none s h = sym (get_or-eq_default s 0 h)

pub plus_there : (s : Bytes) → first_of s ≡ 43 → drop 1 s ≡ after_plus s
unfolding after_plus
plus_there s h = rw (eq-eqb (first_of s) 43 h)

pub plus_none : (s : Bytes) → (first_of s ≡ 43 → ⊥) → s ≡ after_plus s
unfolding after_plus
plus_none s h = rw (ne_eqb (first_of s) 43 h)

module _ (r : ℕ) (s : Bytes) where
  pub signed_minus : first_of s ≡ 45 → option_map minus_of (digits r (2 ^ 63) (drop 1 s)) ≡ signed 64 r s
  unfolding signed
  signed_minus h = rw (eq-eqb (first_of s) 45 h)

  pub signed_plus : (first_of s ≡ 45 → ⊥) → option_map pos (digits r (2 ^ 63 - 1) (after_plus s)) ≡ signed 64 r s
  unfolding signed
  signed_plus h = rw (ne_eqb (first_of s) 45 h)

-- ---- a number read up to the limit b, and a smaller limit a

some_is : {A : Type 0} (m n : A) → Some m ≡ Some n → m ≡ n
some_is m n e = cc

none_some : (n : ℕ) → None ≡ Some n → ⊥
none_some n e = cc

within : (max n : ℕ) → n ≤ max → up_to max (Some n) ≡ Some n
within max n h = rw (le-leb n max h)

above : (max n : ℕ) → max < n → up_to max (Some n) ≡ None
above max n h = rw (lt-leb n max h)

-- carried on by f
module _ {Z : Type 0} (f : ℕ → Z) (a b : ℕ) (h : a ≤ b) where
  pub narrow_none : (o : Option ℕ) → None ≡ up_to b o → None ≡ option_map f (up_to a o)
  narrow_none None e = refl
  narrow_none (Some n) e = ⊎_elim (λ l. rw (above a n l)) (λ l. absurd (none_some n (e ∙ within b n (omega arith)))) (split a n)

  fitted : (n : ℕ) (P : Type 0) → (P → n ≤ a) → (n ≤ a → P) → (q : Option Z) → SomeIff q P (f n) → q ≡ option_map f (up_to a (Some n))
  fitted n P to of None g = ⊎_elim (λ l. rw (above a n l)) (λ l. absurd (g (of l))) (split a n)
  fitted n P to of (Some z) g = rw (within a n (to g.0), g.1)

  pub narrow_some : (o : Option ℕ) (n : ℕ) → Some n ≡ up_to b o → (P : Type 0) → (P → n ≤ a) → (n ≤ a → P) → (q : Option Z) → SomeIff q P (f n) → q ≡ option_map f (up_to a o)
  narrow_some None n e P to of q g = absurd (none_some n (sym e))
  narrow_some (Some m) n e P to of q g =
      ⊎_elim (λ l. absurd (none_some n (sym (e ∙ above b m l))))
      (λ l. fitted n P to of q g ∙ ap (λ (k : ℕ). option_map f (up_to a (Some k))) (some_is n m (e ∙ within b m l))) (split b m)

pub same : (o : Option ℕ) → option_map (λ n. n) o ≡ o
same None = refl
same (Some n) = refl

pub ok_some : {Z E : Type 0} (P : Type 0) (z : Z) (o : Result Z E) → OkIff o P z → SomeIff (result_ok o) P z
ok_some P z (Ok x) g = g
ok_some P z (Err x) g = g

-- minus a number up to 2 ^ 63
pub minus_fits : (n : ℕ) → n ≤ 2 ^ 63 → SFits w64 (minus_of n)
minus_fits zero h = record { sfits = omega arith }
minus_fits (suc k) h = record { sfits = omega arith }

pub minus_low : (n : ℕ) → SFits w64 (minus_of n) → n ≤ 2 ^ 63
minus_low zero l = omega arith
minus_low (suc k) l = let q : k < 2 ^ 63 = l.sfits in omega arith

pub plus_fits : (n : ℕ) → n ≤ 2 ^ 63 - 1 → SFits w64 (pos n)
plus_fits n h = record { sfits = omega arith }

pub plus_low : (n : ℕ) → SFits w64 (pos n) → n ≤ 2 ^ 63 - 1
plus_low n l = let q : n < 2 ^ 63 = l.sfits in omega arith
