-- The comparisons: bytes that are all the same, records that are as they must be. Assumes nothing.
use mathlib.Core.Path.{◌≡◌, refl, subst, ◌∙◌}
use mathlib.Core.Bool.{Bool, true, false, ◌&&◌}
use mathlib.Core.List.{List, [], ◌∷◌}
use Prim.Native.Nat.{ℕ, zero, suc, ◌<◌}
use native.Mathlib.Omega.{arith}
use lib.Dec.{eqb}
use lib.ListN.{length, get_or}
use borrow.Author.Tests.{eq-eqb, ne_eqb, eqb-true, eqb-false}
use Rattle.numbers.specs.Words.{Bytes}
use Rattle.layout.specs.State.{Remark, same_remark}
use Rattle.layout.specs.Build.{zero_remark}
use Rattle.vectors.specs.Judge.{all_are, wanted_at, records_are}

-- all bytes are b, or one is not
all_yes : (b : ℕ) (s : Bytes) → ((k : ℕ) → k < length s → get_or s k 0 ≡ b) → true ≡ all_are b s
unfolding all_are
all_yes b [] every = refl
all_yes b (x ∷ l) every = rw (eq-eqb x b (every 0 (omega arith))) (all_yes b l (λ k h. every (suc k) (omega (arith, h))))

all_no : (b : ℕ) (s : Bytes) (k : ℕ) → k < length s → (get_or s k 0 ≡ b → ⊥) → false ≡ all_are b s
unfolding all_are
all_no b [] k h n = absurd (omega (arith, h))
all_no b (x ∷ l) zero h n = rw (ne_eqb x b n) refl
all_no b (x ∷ l) (suc k) h n = and_right (eqb x b) (all_no b l k (omega (arith, h)) n)
  where
    and_right : (t : Bool) {u : Bool} → false ≡ u → false ≡ t && u
    and_right true e = e
    and_right false e = refl

-- whether all bytes are b, from what stands at each place
pub all_is : (b : ℕ) (s : Bytes) (r : Bool) → (r ≡ true → (k : ℕ) → k < length s → get_or s k 0 ≡ b) → (r ≡ false → (k : ℕ) × (k < length s) × (get_or s k 0 ≡ b → ⊥))
    → r ≡ all_are b s
all_is b s true y n = all_yes b s (y refl)
all_is b s false y n = let p = n refl in all_no b s p.0 p.1 p.2

-- what `==` says of records
abbrev pub alike : Remark → Remark → Bool
alike q r = eqb q.kind r.kind && (eqb q.structure r.structure && (eqb q.member r.member && eqb q.detail r.detail))

all_four : (a b c d : Bool) → ((a && b) && c) && d ≡ a && (b && (c && d))
all_four true true c d = refl
all_four true false c d = refl
all_four false b c d = refl

same_by : (q r : Remark) → same_remark q r ≡ alike q r
same_by q r = all_four (eqb q.kind r.kind) (eqb q.structure r.structure) (eqb q.member r.member) (eqb q.detail r.detail)

-- the first k records, from what stands at each place
module _ (s : Bytes) (count n : ℕ) (l : List Remark) where
  records_yes : (k : ℕ) → ((i : ℕ) → i < k → alike (get_or l i zero_remark) (wanted_at s count n i) ≡ true) → true ≡ records_are s count n l k
  unfolding records_are
  records_yes zero every = refl
  records_yes (suc k) every =
      rw (← records_yes k (λ i h. every i (omega (arith, h))), same_by (get_or l k zero_remark) (wanted_at s count n k), every k (omega arith)) refl

  records_no : (i k : ℕ) → i < k → alike (get_or l i zero_remark) (wanted_at s count n i) ≡ false → false ≡ records_are s count n l k
  unfolding records_are
  records_no i zero h e = absurd (omega (arith, h))
  records_no i (suc k) h e = go (eqb i k) refl (λ f. records_no i k f e)
    where
      and_false : (t : Bool) → false ≡ t && false
      and_false true = refl
      and_false false = refl

      go : (t : Bool) → eqb i k ≡ t → (i < k → false ≡ records_are s count n l k) → false ≡ records_are s count n l (suc k)
      go true q before =
          let f : same_remark (get_or l k zero_remark) (wanted_at s count n k) ≡ false =
          same_by (get_or l k zero_remark) (wanted_at s count n k) ∙ subst (λ (j : ℕ). alike (get_or l j zero_remark) (wanted_at s count n j) ≡ false) (eqb-true i k q) e in
          rw f (and_false (records_are s count n l k))
      go false q before = rw (← before (omega (arith, h, eqb-false i k q))) refl

  -- whether all 64 records are as they must be
  pub records_is : (r : Bool) → (r ≡ true → (k : ℕ) → k < 64 → alike (get_or l k zero_remark) (wanted_at s count n k) ≡ true)
      → (r ≡ false → (k : ℕ) × (k < 64) × (alike (get_or l k zero_remark) (wanted_at s count n k) ≡ false)) → r ≡ records_are s count n l 64
  records_is true y n = records_yes 64 (y refl)
  records_is false y n = let p = n refl in records_no p.0 64 p.1 p.2
