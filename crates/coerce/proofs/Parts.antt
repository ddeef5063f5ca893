-- A text's parts as the numbers of a vector, one part at a time. Assumes nothing.
use Rattle.std.specs.Prelude.{◌≡◌, true, false, cond, List, [], ◌∷◌, ◌++◌, ℕ, suc, ◌+◌, ◌≤◌, ◌<◌, leb, length, take, drop, replicate, max, get_or, ◌==◌, Ok, Err}
use Rattle.std.proofs.lemmas.List.{drop_more, at_drop_all}
use mathlib.Core.Path.{refl, sym, ap, ◌∙◌}
use native.Mathlib.Nat.{add-zero}
use native.Mathlib.Omega.{arith}
use borrow.Author.Tests.{le-ltb, le-leb, lt-leb, ne_eqb}
use Rattle.numbers.specs.Words.{Bytes, is_empty}
use Rattle.texts.specs.Text.{split, non_empty, parts}
use Rattle.coerce.specs.Numbers.{Fit, fit_then, each_fit, float_text, four_of, vec_text}
use Rattle.coerce.specs.Answer.{placed}
use Rattle.coerce.specs.declared.misfit.Misfit.{Misfit}
use Rattle.coerce.specs.declared.misfit.Misfit.TheVariants.{Unfit}
use Rattle.coerce.proofs.Vectors.{same_then, map_then}

-- ---- numbers put at the places i, i + 1, .. of v

unfoldable pub put : List ℕ → ℕ → List ℕ → List ℕ
put v i [] = v
put v i (x ∷ xs) = put (placed v i x) (i + 1) xs

put_full : (v : List ℕ) (i : ℕ) (xs : List ℕ) → 4 ≤ i → put v i xs ≡ v
unfolding put
put_full v i [] h = refl
put_full v i (x ∷ xs) h = rw (le-ltb i 4 h) (put_full v (i + 1) xs (omega arith))

abbrev pub zeros : List ℕ
zeros = 0 ∷ 0 ∷ 0 ∷ 0 ∷ []

put_four : (xs : List ℕ) → put zeros 0 xs ≡ take 4 (xs ++ replicate 4 0)
unfolding put
put_four [] = refl
put_four (a ∷ []) = refl
put_four (a ∷ b ∷ []) = refl
put_four (a ∷ b ∷ c ∷ []) = refl
put_four (a ∷ b ∷ c ∷ d ∷ xs) = put_full (a ∷ b ∷ c ∷ d ∷ []) 4 xs (omega arith)

-- ---- what the parts ps make of the m numbers in v

abbrev pub left : ℕ → List ℕ → ℕ → List Bytes → Fit (List ℕ)
left n v m ps = fit_then (each_fit float_text ps) (λ xs. cond (leb n (m + length xs)) (Ok (put v m xs)) (Err Unfit))

left_first : (n : ℕ) (ps : List Bytes) → left (max n 1) zeros 0 ps ≡ vec_text n ps
unfolding vec_text
left_first n ps = same_then (each_fit float_text ps) _ _ all where
  all : (xs : List ℕ) → cond {A = Fit (List ℕ)} (leb (max n 1) (0 + length xs)) (Ok (put zeros 0 xs)) (Err Unfit) ≡ four_of (leb (max n 1) (length xs)) xs
  all xs =
      let e : 0 + length xs ≡ length xs = omega arith in
      rw (e, put_four xs)

left_next : (n : ℕ) (v : List ℕ) (m : ℕ) (p : Bytes) (ps : List Bytes) (x : ℕ) → float_text p ≡ Ok x → left n v m (p ∷ ps) ≡ left n (placed v m x) (m + 1) ps
unfolding each_fit put
left_next n v m p ps x e = rw e (map_then (each_fit float_text ps) x _ ∙ same_then (each_fit float_text ps) _ _ all) where
  all : (xs : List ℕ) → cond {A = Fit (List ℕ)} (leb n (m + suc (length xs))) (Ok (put (placed v m x) (m + 1) xs)) (Err Unfit)
      ≡ cond (leb n (m + 1 + length xs)) (Ok (put (placed v m x) (m + 1) xs)) (Err Unfit)
  all xs =
      let k : m + suc (length xs) ≡ m + 1 + length xs = omega arith in
      rw k

left_err : (n : ℕ) (v : List ℕ) (m : ℕ) (p : Bytes) (ps : List Bytes) (k : Misfit) → float_text p ≡ Err k → left n v m (p ∷ ps) ≡ Err k
unfolding each_fit
left_err n v m p ps k e = rw e

left_end : (n : ℕ) (v : List ℕ) (m : ℕ) → left n v m [] ≡ cond (leb n m) (Ok v) (Err Unfit)
unfolding each_fit put
left_end n v m = rw add-zero

-- ---- the parts from i on

abbrev pub parts_from : Bytes → ℕ → List Bytes
parts_from s i = non_empty (drop i (split s))

pub parts_first : (n : ℕ) (s : Bytes) → left (max n 1) zeros 0 (parts_from s 0) ≡ vec_text n (parts s)
unfolding parts
parts_first n s = left_first n (non_empty (split s))

empty_is : (p : Bytes) → (length p == 0) ≡ is_empty p
empty_is [] = refl
empty_is (b ∷ p) = ne_eqb (length (b ∷ p)) 0 (λ e. omega (arith, e))

-- one turn: p is the part i
module _ (s p : Bytes) (i j : ℕ) (h : (i < length (split s)) × (p ≡ get_or (split s) i p)) (next : j ≡ i + 1) where
  part_is : parts_from s i ≡ cond (is_empty p) (parts_from s j) (p ∷ parts_from s j)
  unfolding non_empty
  part_is = ap non_empty (drop_more (split s) i p h.0 ∙ ap (λ (q : Bytes). q ∷ drop (i + 1) (split s)) (sym h.1)) ∙ rw next

  module _ (n : ℕ) (v : List ℕ) (m : ℕ) where
    pub turn_empty : (length p == 0) ≡ true → left n v m (parts_from s i) ≡ left n v m (parts_from s j)
    turn_empty e = ap (left n v m) (part_is ∙ rw (sym (empty_is p) ∙ e))

    here : (length p == 0) ≡ false → parts_from s i ≡ p ∷ parts_from s j
    here e = part_is ∙ rw (sym (empty_is p) ∙ e)

    pub turn_part : (x : ℕ) → (length p == 0) ≡ false → float_text p ≡ Ok x → left n v m (parts_from s i) ≡ left n (placed v m x) (m + 1) (parts_from s j)
    turn_part x e f = ap (left n v m) (here e) ∙ left_next n v m p (parts_from s j) x f

    pub turn_err : (k : Misfit) → (length p == 0) ≡ false → float_text p ≡ Err k → left n v m (parts_from s i) ≡ Err k
    turn_err k e f = ap (left n v m) (here e) ∙ left_err n v m p (parts_from s j) k f

module _ (n : ℕ) (s : Bytes) (v : List ℕ) (m i : ℕ) (h : length (split s) ≤ i) where
  done : left n v m (parts_from s i) ≡ cond (leb n m) (Ok v) (Err Unfit)
  unfolding non_empty
  done = ap (left n v m) (at_drop_all non_empty (split s) i h) ∙ left_end n v m

  pub enough : n ≤ m → Ok v ≡ left n v m (parts_from s i)
  enough k = sym (done ∙ rw (le-leb n m k))

  pub too_few : m < n → Err Unfit ≡ left n v m (parts_from s i)
  too_few k = sym (done ∙ rw (lt-leb n m k))
