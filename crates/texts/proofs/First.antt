-- How many elements stand before the first that passes a test, as `position` finds it. Assumes nothing.
use Rattle.std.specs.Prelude.{Option, Some, None, MatchOption, unwrap_or}
use Rattle.std.specs.List.{AllWithin, HoldsAt}
use Rattle.std.proofs.lemmas.Iterator.{index_from_first}
use mathlib.Core.Path.{◌≡◌, sym, ◌∙◌}
use mathlib.Core.Bool.{Bool, true, false}
use mathlib.Core.List.{List, [], ◌∷◌}
use Prim.Native.Nat.{ℕ, suc, ◌≤◌, ◌<◌}
use native.Mathlib.Omega.{arith}
use lib.ListN.{length}

-- what `position` found in s: the first element that passes p, or that none does
abbrev pub IsFirst : (ℕ → Bool) → List ℕ → Option ℕ → Type 0
IsFirst p s r =
    MatchOption r (AllWithin (λ x. p x ≡ false) s 0 (length s))
    (λ i. (i < length s) × HoldsAt (λ x. p x ≡ true) s i × AllWithin (λ x. p x ≡ false) s 0 i)

within : (p : ℕ → Bool) (s : List ℕ) (r : Option ℕ) → IsFirst p s r → unwrap_or r (length s) ≤ length s
within p s None f = omega arith
within p s (Some i) f = omega (arith, f.0)

-- n counts the elements before the first that passes p
module _ (n : List ℕ → ℕ) (p : ℕ → Bool) (none : n [] ≡ 0)
    (hit : (x : ℕ) (xs : List ℕ) → p x ≡ true → n (x ∷ xs) ≡ 0) (miss : (x : ℕ) (xs : List ℕ) → p x ≡ false → n (x ∷ xs) ≡ suc (n xs)) where
  pub counted : (s : List ℕ) (r : Option ℕ) → IsFirst p s r → (u : ℕ) → u ≡ unwrap_or r (length s) → (u ≡ n s) × (u ≤ length s)
  counted s r f u e =
      let g : n s ≡ unwrap_or r (length s) = index_from_first n (λ x. p x ≡ true) (λ x. p x ≡ false) none hit (λ x xs q. miss x xs q ∙ omega arith) s r f in
      (e ∙ sym g, omega (arith, within p s r f))
