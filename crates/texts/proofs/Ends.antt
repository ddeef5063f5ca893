-- Trimming a list from its two ends, one element at a time. Assumes nothing.
use Rattle.std.specs.Prelude.{Option, Some, None, MatchOption}
use mathlib.Core.Path.{◌≡◌, refl, sym, ap}
use mathlib.Core.Bool.{Bool, true, false, not}
use mathlib.Core.List.{List, [], ◌∷◌}
use Prim.Native.Nat.{ℕ, zero, suc, ◌+◌, ◌≤◌, ◌<◌}
use native.Mathlib.Numerals.{add-one}
use native.Mathlib.Omega.{arith}
use lib.ListN.{length, get_or, take, drop}
use Rattle.texts.specs.Text.{space, trim_start, trim_end}

-- ---- the front

-- what is no white space, which `position` and `rposition` look for
abbrev pub other : ℕ → Bool
other b = not (space b)

-- how many stand before it
abbrev pub spaces : List ℕ → ℕ
spaces [] = 0
spaces (b ∷ l) = elim (other b) [ true ↦ 0 | false ↦ suc (spaces l) ]

pub spaces_stop : (b : ℕ) (l : List ℕ) → other b ≡ true → spaces (b ∷ l) ≡ 0
spaces_stop b l q = rw (q, spaces)

pub spaces_go : (b : ℕ) (l : List ℕ) → other b ≡ false → spaces (b ∷ l) ≡ suc (spaces l)
spaces_go b l q = rw (q, spaces)

pub start_is : (s : List ℕ) → drop (spaces s) s ≡ trim_start s
unfolding trim_start
start_is [] = refl
start_is (b ∷ l) = by (space b) refl (start_is l) where
  by : (t : Bool) → space b ≡ t → drop (spaces l) l ≡ trim_start l → drop (spaces (b ∷ l)) (b ∷ l) ≡ trim_start (b ∷ l)
  by true q e = rw (spaces_go b l (ap not q)) (rw (q, trim_start) e)
  by false q e = rw (spaces_stop b l (ap not q)) (rw (q, trim_start))

-- ---- the end

-- nothing but white space
blank : (s : List ℕ) → ((k : ℕ) → k < length s → space (get_or s k 0) ≡ true) → trim_end s ≡ []
unfolding trim_end
blank [] h = refl
blank (b ∷ l) h = rw (blank l (λ k g. h (suc k) (omega arith)), h 0 (omega arith))

-- the last that is no white space
end_is : (s : List ℕ) (i : ℕ) → i < length s → space (get_or s i 0) ≡ false → ((k : ℕ) → i < k → k < length s → space (get_or s k 0) ≡ true)
    → take (suc i) s ≡ trim_end s
unfolding trim_end
end_is [] i l q h = absurd (omega arith)
end_is (b ∷ s) zero l q h = rw (blank s (λ k g. h (suc k) (omega arith) (omega arith)), q)
end_is (b ∷ c ∷ s) (suc i) l q h = rw (← end_is (c ∷ s) i (omega arith) q (λ k g m. h (suc k) (omega arith) (omega arith)))
end_is (b ∷ []) (suc i) l q h = absurd (omega arith)

-- behind the last that is no white space, if there is one, is the end
module _ (s : List ℕ) where
  abbrev pub Blank : ℕ → Type 0
  Blank k = k < length s → space (get_or s k 0) ≡ true

  pub ended : (r : Option ℕ) (n : ℕ) → MatchOption r (n ≡ 0) (λ i. n ≡ i + 1) → (r ≡ None → (k : ℕ) → Blank k)
      → ((i : ℕ) → r ≡ Some i → i < length s) → ((i : ℕ) → r ≡ Some i → space (get_or s i 0) ≡ false) → ((i : ℕ) → r ≡ Some i → (k : ℕ) → i < k → Blank k)
      → (n ≤ length s) × (take n s ≡ trim_end s)
  ended None n e z l h k = rw e (omega arith, sym (blank s (z refl)))
  ended (Some i) n e z l h k = rw (e, add-one) (omega (arith, l i refl), end_is s i (l i refl) (h i refl) (k i refl))
