-- Words, letters in either case; slices' own tests as the definitions say them. Assumes nothing.
use mathlib.Core.Path.{◌≡◌, refl, sym, ap, ◌∙◌}
use Rattle.std.specs.Prelude.{◌==◌}
use Rattle.std.specs.Char.{to_ascii_lowercase}
use Rattle.std.specs.List.{starts_with as starts_with_slice}
use Rattle.std.proofs.lemmas.Bool.Decides.{nat_tests}
use mathlib.Core.Bool.{Bool, true, false, ◌&&◌}
use mathlib.Core.List.{List, [], ◌∷◌, map}
use Prim.Native.Nat.{ℕ, zero, suc, ◌<◌}
use native.Mathlib.Omega.{arith}
use borrow.Author.Tests.{eq-eqb, ne_eqb}
use lib.Dec.{eqb}
use lib.ListN.{length, get_or}
use Rattle.numbers.specs.Words.{is_empty, same_bytes, starts_with}
use Rattle.numbers.proofs.Equal.{same_lengths}
use Rattle.texts.specs.Text.{lower, is_word}

pub empty_is : {A : Type 0} (s : List A) → (length s == 0) ≡ is_empty s
empty_is [] = refl
empty_is (b ∷ s) = ne_eqb (length (b ∷ s)) 0 (λ e. omega (arith, e))

length_lower : (l : List ℕ) → length (map lower l) ≡ length l
length_lower [] = refl
length_lower (b ∷ l) = ap suc (length_lower l)

pub word_length : (w s : List ℕ) → (length s ≡ length w → ⊥) → is_word w s ≡ false
unfolding is_word
word_length w s h = same_lengths (map lower s) w (λ e. h (sym (length_lower s) ∙ e))

-- the small letter as std says it
lower_is : (b : ℕ) → to_ascii_lowercase b ≡ lower b
lower_is b = grind (arith, nat_tests)

word_same : (w s : List ℕ) → length s ≡ length w → ((k : ℕ) → k < length s → to_ascii_lowercase (get_or s k 0) ≡ get_or w k 0) → true ≡ is_word w s
unfolding is_word same_bytes
word_same [] [] e h = refl
word_same [] (c ∷ s) e h = absurd (omega arith)
word_same (b ∷ w) [] e h = absurd (omega arith)
word_same (b ∷ w) (c ∷ s) e h = rw (eq-eqb (lower c) b (sym (lower_is c) ∙ h 0 (omega arith))) (word_same w s (omega arith) (λ k l. h (suc k) (omega arith)))

word_differs : (w s : List ℕ) (k : ℕ) → length s ≡ length w → k < length s → (to_ascii_lowercase (get_or s k 0) ≡ get_or w k 0 → ⊥) → false ≡ is_word w s
unfolding is_word same_bytes
word_differs [] [] k e l h = absurd (omega arith)
word_differs [] (c ∷ s) k e l h = absurd (omega arith)
word_differs (b ∷ w) [] k e l h = absurd (omega arith)
word_differs (b ∷ w) (c ∷ s) zero e l h = rw (ne_eqb (lower c) b (λ x. h (lower_is c ∙ x)))
word_differs (b ∷ w) (c ∷ s) (suc k) e l h = rw (← word_differs w s k (omega arith) (omega arith) h) (and_false (eqb (lower c) b)) where
  and_false : (a : Bool) → false ≡ (a && false)
  and_false true = refl
  and_false false = refl

-- r: whether each letter of s, as a small one, is w's
pub word_all : (w s : List ℕ) (r : Bool) → length s ≡ length w
    → (r ≡ true → (k : ℕ) → k < length s → to_ascii_lowercase (get_or s k 0) ≡ get_or w k 0)
    → (r ≡ false → (k : ℕ) × (k < length s) × (to_ascii_lowercase (get_or s k 0) ≡ get_or w k 0 → ⊥)) → r ≡ is_word w s
word_all w s true e y n = word_same w s e (y refl)
word_all w s false e y n = let k = n refl in word_differs w s k.0 e k.1 k.2

-- ---- slices' own tests

pub prefix_is : (p s : List ℕ) → starts_with_slice eqb s p ≡ starts_with p s
unfolding starts_with
prefix_is [] s = refl
prefix_is (b ∷ p) [] = refl
prefix_is (b ∷ p) (c ∷ s) = ap (λ (t : Bool). eqb b c && t) (prefix_is p s)
