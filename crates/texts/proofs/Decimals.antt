-- The float grammar's parts. Assumes nothing.
use mathlib.Core.Path.{◌≡◌, refl, ap, ◌∙◌}
use Rattle.std.specs.Prelude.{not, ◌==◌}
use mathlib.Core.Bool.{Bool, true, false, ◌&&◌, ◌||◌}
use mathlib.Core.List.{List, [], ◌∷◌}
use native.Mathlib.Omega.{arith}
use Prim.Native.Nat.{ℕ, zero, suc, ◌+◌, ◌-◌, ◌≤◌, ◌<◌}
use borrow.Author.Tests.{eq-eqb, ne_eqb}
use lib.Dec.{leb, eqb-suc-suc}
use lib.ListN.{length, take, drop}
use Rattle.numbers.specs.Words.{is_empty}
use Rattle.numbers.proofs.Parts.{part_rest}
use Rattle.conversions.specs.Radix.{first_of}
use Rattle.texts.specs.Float.{is_digit, leading_digits, after_sign, only_digits, exponent, decimal, special, parses_float}

-- ---- the digits in front

-- what is no digit, which `position` looks for
abbrev pub other : ℕ → Bool
other b = not (is_digit b)

pub digits_stop : (b : ℕ) (l : List ℕ) → other b ≡ true → leading_digits (b ∷ l) ≡ 0
unfolding leading_digits
digits_stop b l t = by (is_digit b) refl t where
  by : (k : Bool) → is_digit b ≡ k → not k ≡ true → leading_digits (b ∷ l) ≡ 0
  by true q e = cc
  by false q e = rw (q, leading_digits)

pub digits_go : (b : ℕ) (l : List ℕ) → other b ≡ false → leading_digits (b ∷ l) ≡ suc (leading_digits l)
unfolding leading_digits
digits_go b l t = by (is_digit b) refl t where
  by : (k : Bool) → is_digit b ≡ k → not k ≡ false → leading_digits (b ∷ l) ≡ suc (leading_digits l)
  by true q e = rw (q, leading_digits)
  by false q e = cc

-- the digits end where the text does
pub only_is : (s : List ℕ) (n : ℕ) → n ≡ leading_digits s → n ≤ length s → (leb 1 n && (n == length s)) ≡ only_digits s
unfolding only_digits
only_is s n e h = rw (← e) (ap (λ (t : Bool). leb 1 n && t) (ends n s h)) where
  ends : (n : ℕ) (s : List ℕ) → n ≤ length s → (n == length s) ≡ is_empty (drop n s)
  ends zero [] h = refl
  ends zero (b ∷ s) h = ne_eqb 0 (length (b ∷ s)) (λ e. omega (arith, e))
  ends (suc n) [] h = absurd (omega arith)
  ends (suc n) (b ∷ s) h = rw eqb-suc-suc (ends n s (omega arith))

-- ---- the first byte

module _ (s : List ℕ) where
  pub sign_there : ((first_of s == 43) || (first_of s == 45)) ≡ true → drop 1 s ≡ after_sign s
  unfolding after_sign
  sign_there e = rw e

  pub sign_none : ((first_of s == 43) || (first_of s == 45)) ≡ false → s ≡ after_sign s
  unfolding after_sign
  sign_none e = rw e

pub sign_past : (s : List ℕ) → length s < 1 → s ≡ after_sign s
unfolding after_sign
sign_past [] l = refl
sign_past (b ∷ s) l = absurd (omega arith)

pub mark_there : (s : List ℕ) → 1 ≤ length s → ((first_of s == 101) || (first_of s == 69)) ≡ true → only_digits (after_sign (drop 1 s)) ≡ exponent s
unfolding exponent
mark_there [] l e = absurd (omega arith)
mark_there (b ∷ s) l e = rw e

pub mark_none : (s : List ℕ) → 1 ≤ length s → ((first_of s == 101) || (first_of s == 69)) ≡ false → false ≡ exponent s
unfolding exponent
mark_none [] l e = absurd (omega arith)
mark_none (b ∷ s) l e = rw e

pub mark_past : (s : List ℕ) → length s < 1 → true ≡ exponent s
unfolding exponent
mark_past [] l = refl
mark_past (b ∷ s) l = absurd (omega arith)

-- ---- a number's parts

-- what follows the first byte of what follows n bytes, as the machine's slices give it
pub after_part : (s : List ℕ) (n : ℕ) → take (length (take (length s - n) (drop n s)) - 1) (drop 1 (take (length s - n) (drop n s))) ≡ drop 1 (drop n s)
after_part s n = part_rest (take (length s - n) (drop n s)) 1 ∙ ap (drop 1) (part_rest s n)

module _ (s : List ℕ) (n : ℕ) (pn : n ≡ leading_digits s) where
  pub point_is : first_of (drop n s) ≡ 46 → (m : ℕ) → m ≡ leading_digits (drop 1 (drop n s)) → (leb 1 (n + m) && exponent (drop m (drop 1 (drop n s)))) ≡ decimal s
  unfolding decimal
  point_is e m pm = rw (← pn) (rw (eq-eqb (first_of (drop n s)) 46 e, ← pm))

  pub pointless_is : (first_of (drop n s) ≡ 46 → ⊥) → (leb 1 n && exponent (drop n s)) ≡ decimal s
  unfolding decimal
  pointless_is e = rw (← pn) (rw (ne_eqb (first_of (drop n s)) 46 e))

-- ---- a test that runs only where the one before it holds, or does not

pub and_then : (a b r : Bool) → (a && b) ≡ r → a ≡ true → b ≡ r
and_then true b r e q = e
and_then false b r e q = cc

pub and_else : (a b r : Bool) → (a && b) ≡ r → a ≡ false → a ≡ r
and_else true b r e q = cc
and_else false b r e q = e

pub or_then : (a b r : Bool) → (a || b) ≡ r → a ≡ true → a ≡ r
or_then true b r e q = e
or_then false b r e q = cc

pub or_else : (a b r : Bool) → (a || b) ≡ r → a ≡ false → b ≡ r
or_else true b r e q = cc
or_else false b r e q = e

pub parses_is : (s t : List ℕ) → t ≡ after_sign s → (special t || decimal t) ≡ parses_float s
unfolding parses_float
parses_is s t e = rw e
