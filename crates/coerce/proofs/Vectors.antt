-- Vectors: an Array's items, a text's parts. Assumes nothing.
use Rattle.std.specs.Prelude.{◌≡◌, Bool, cond, List, [], ◌∷◌, ℕ, zero, suc, ◌+◌, leb, length, take, Ok, Err}
use mathlib.Core.Path.{refl, ap, ◌∙◌}
use native.Mathlib.Omega.{arith}
use borrow.Author.Tests.{lt-ltb}
use Rattle.numbers.specs.Words.{Bytes}
use Rattle.value.specs.Rows
use Rattle.coerce.specs.Numbers
use Rattle.coerce.specs.Numbers.{Fit, fit_then, map_fit}
use Rattle.coerce.specs.Answer
use Rattle.coerce.specs.declared.misfit.Misfit.TheVariants.{Unfit}

-- ---- four items

pub same_then : {A B : Type 0} (x : Fit A) (k l : A → Fit B) → ((a : A) → k a ≡ l a) → fit_then x k ≡ fit_then x l
same_then (Ok a) k l h = h a
same_then (Err e) k l h = refl

pub map_then : (m : Fit (List ℕ)) (a : ℕ) (k : List ℕ → Fit (List ℕ)) → fit_then (map_fit (a ∷◌) m) k ≡ fit_then m (λ xs. k (a ∷ xs))
map_then (Ok xs) a k = refl
map_then (Err e) a k = refl

-- an item, then those behind it
next : (x : Fit ℕ) (m : Fit (List ℕ)) (k : List ℕ → Fit (List ℕ)) → fit_then (fit_then x (λ a. map_fit (a ∷◌) m)) k ≡ fit_then x (λ a. fit_then m (λ xs. k (a ∷ xs)))
next (Ok a) m k = map_then m a k
next (Err e) m k = refl

-- the four, or the first failure, or what b says
abbrev four : Bool → Fit ℕ → Fit ℕ → Fit ℕ → Fit ℕ → Fit (List ℕ)
four b x y z w = fit_then x (λ i. fit_then y (λ j. fit_then z (λ k. fit_then w (λ l. cond b (Ok (i ∷ j ∷ k ∷ l ∷ [])) (Err Unfit)))))

module _ (T : Bytes) (b : Bool) where
  abbrev at : ℕ → Fit ℕ
  at r = Numbers.float_of T (Rows.row T r)

  -- the numbers of some rows, filled up to four
  abbrev filled : List ℕ → Fit (List ℕ)
  filled rs = fit_then (Numbers.each_fit at rs) (Numbers.four_of b)

  filled_one : (r : ℕ) → filled (r ∷ []) ≡ four b (at r) (Ok 0) (Ok 0) (Ok 0)
  unfolding Numbers.each_fit
  filled_one r = next (at r) (Ok []) _

  filled_two : (r s : ℕ) → filled (r ∷ s ∷ []) ≡ four b (at r) (at s) (Ok 0) (Ok 0)
  unfolding Numbers.each_fit
  filled_two r s = next (at r) (Numbers.each_fit at (s ∷ [])) _ ∙ same_then (at r) _ _ (λ a. next (at s) (Ok []) _)

  filled_three : (r s t : ℕ) → filled (r ∷ s ∷ t ∷ []) ≡ four b (at r) (at s) (at t) (Ok 0)
  unfolding Numbers.each_fit
  filled_three r s t =
      next (at r) (Numbers.each_fit at (s ∷ t ∷ [])) _
      ∙ same_then (at r) _ _ (λ a. next (at s) (Numbers.each_fit at (t ∷ [])) _ ∙ same_then (at s) _ _ (λ b. next (at t) (Ok []) _))

  filled_four : (r s t u : ℕ) → filled (r ∷ s ∷ t ∷ u ∷ []) ≡ four b (at r) (at s) (at t) (at u)
  unfolding Numbers.each_fit
  filled_four r s t u =
      next (at r) (Numbers.each_fit at (s ∷ t ∷ u ∷ [])) _
      ∙ same_then (at r) _ _ (λ a. next (at s) (Numbers.each_fit at (t ∷ u ∷ [])) _
      ∙ same_then (at s) _ _ (λ b. next (at t) (Numbers.each_fit at (u ∷ [])) _ ∙ same_then (at t) _ _ (λ c. next (at u) (Ok []) _)))

  -- the first four of the rows f, f + 1, .. of which there are c
  rows : (f c : ℕ) → filled (take 4 (Rows.rows_from f c)) ≡ four b (Answer.item_at T f c 0) (Answer.item_at T f c 1) (Answer.item_at T f c 2) (Answer.item_at T f c 3)
  unfolding Rows.rows_from Numbers.each_fit
  rows f c =
      let e0 : f + 0 ≡ f = omega arith in
      let e1 : f + 1 ≡ suc f = omega arith in
      let e2 : f + 2 ≡ suc (suc f) = omega arith in
      let e3 : f + 3 ≡ suc (suc (suc f)) = omega arith in
      by c e0 e1 e2 e3 where
        by : (c : ℕ) → f + 0 ≡ f → f + 1 ≡ suc f → f + 2 ≡ suc (suc f) → f + 3 ≡ suc (suc (suc f))
            → filled (take 4 (Rows.rows_from f c)) ≡ four b (Answer.item_at T f c 0) (Answer.item_at T f c 1) (Answer.item_at T f c 2) (Answer.item_at T f c 3)
        by zero e0 e1 e2 e3 = refl
        by (suc zero) e0 e1 e2 e3 = rw e0 (filled_one f)
        by (suc (suc zero)) e0 e1 e2 e3 = rw (e0, e1) (filled_two f (suc f))
        by (suc (suc (suc zero))) e0 e1 e2 e3 = rw (e0, e1, e2) (filled_three f (suc f) (suc (suc f)))
        by (suc (suc (suc (suc m)))) e0 e1 e2 e3 =
            let c = suc (suc (suc (suc m))) in
            rw (lt-ltb 0 c (omega arith), lt-ltb 1 c (omega arith), lt-ltb 2 c (omega arith), lt-ltb 3 c (omega arith), e0, e1, e2, e3) (filled_four f (suc f) (suc (suc f)) (suc (suc (suc f))))

length_rows : (f c : ℕ) → length (Rows.rows_from f c) ≡ c
unfolding Rows.rows_from
length_rows f zero = refl
length_rows f (suc c) = ap suc (length_rows (suc f) c)

-- an Array's items one by one
pub vec_array_items : (T : Bytes) (n f c : ℕ) → Numbers.vec_array T n (Rows.rows_from f c)
    ≡ four (leb n c) (Answer.item_at T f c 0) (Answer.item_at T f c 1) (Answer.item_at T f c 2) (Answer.item_at T f c 3)
unfolding Numbers.vec_array
vec_array_items T n f c = rw (length_rows f c) (rows T (leb n c) f c)
