-- What a store does to one segment of an area, whatever stands before and behind it. Assumes nothing.
use mathlib.Core.Path.{◌≡◌, refl, sym, ap, ◌∙◌}
use mathlib.Core.List.{List, [], ◌∷◌, ◌++◌, append_assoc, append-nil}
use Prim.Native.Nat.{ℕ, ◌+◌, ◌-◌, ◌≤◌}
use native.Mathlib.Omega.{arith}
use lib.ListN.{length, take, length-append, length-replicate, replicate-append-replicate}
use lib.Seq.{length-take-le, take-append-add}
use Rattle.numbers.specs.Words.{Bytes, over, padded, zeros, Stands}
use Rattle.area.specs.Segments.{Segment, flat, rooms}
use Rattle.area.proofs.Over.{over_left, over_mid, over_part, length_over}

pub length_zeros : (k : ℕ) → length (zeros k) ≡ k
length_zeros k = length-replicate k 0

take_zeros : (k n : ℕ) → k ≤ n → take k (zeros n) ≡ zeros k
take_zeros k n h =
    let e : k + (n - k) ≡ n = omega arith in
    let l : length (zeros k) ≡ k = length_zeros k in
    let m : k ≡ length (zeros k) + 0 = omega arith in
    ap (λ (x : ℕ). take k (zeros x)) (sym e) ∙ ap (take k) (sym (replicate-append-replicate k (n - k) 0))
    ∙ ap (λ (x : ℕ). take x (zeros k ++ zeros (n - k))) m ∙ take-append-add (zeros k) (zeros (n - k)) 0 ∙ append-nil (zeros k)

-- what fits is followed by zeros
pub padded_is : (c : ℕ) (a : Bytes) → length a ≤ c → padded c a ≡ a ++ zeros (c - length a)
unfolding padded
padded_is c a h =
    let e : c ≡ length a + (c - length a) = omega arith in
    ap (λ (x : ℕ). take x (a ++ zeros c)) e ∙ take-append-add a (zeros c) (c - length a) ∙ ap (λ (l : Bytes). a ++ l) (take_zeros (c - length a) c (omega arith))

pub length_padded : (c : ℕ) (a : Bytes) → length (padded c a) ≡ c
unfolding padded
length_padded c a = length-take-le c (a ++ zeros c) (omega (arith, length-append a (zeros c), length_zeros c))

pub length_flat : (ss : List Segment) → length (flat ss) ≡ rooms ss
length_flat [] = refl
length_flat (s ∷ ss) = omega (arith, length-append (padded s.0 s.1) (flat ss), length_padded s.0 s.1, length_flat ss)

-- room at the end is zeros already
pub grow : (c : ℕ) (a : Bytes) (k : ℕ) → length a + k ≤ c → padded c (a ++ zeros k) ≡ padded c a
grow c a k h =
    let l : length (a ++ zeros k) ≡ length a + k = length-append a (zeros k) ∙ ap (λ (j : ℕ). length a + j) (length_zeros k) in
    let e : k + (c - length (a ++ zeros k)) ≡ c - length a = omega arith in
    padded_is c (a ++ zeros k) (omega arith) ∙ append_assoc a (zeros k) (zeros (c - length (a ++ zeros k)))
    ∙ ap (λ (z : Bytes). a ++ z) (replicate-append-replicate k (c - length (a ++ zeros k)) 0 ∙ ap zeros e)
    ∙ sym (padded_is c a (omega arith))

module _ (xs ys : List Segment) (c : ℕ) where
  -- one segment between the others
  pub between : (ss : List Segment) (a : Bytes) → flat (ss ++ ((c, a) ∷ ys)) ≡ flat ss ++ (padded c a ++ flat ys)
  between [] a = refl
  between (s ∷ ss) a = rw (between ss a, append_assoc)

  stored : (a b s : Bytes) (off at : ℕ) → rooms xs + off ≡ at → off + length s ≤ c → over (padded c a) off s ≡ padded c b
      → over (flat (xs ++ ((c, a) ∷ ys))) at s ≡ flat (xs ++ ((c, b) ∷ ys))
  stored a b s off at e h q =
      let l : length (flat xs) ≡ rooms xs = length_flat xs in
      let p : at ≡ length (flat xs) + off = omega arith in
      ap (λ (x : Bytes). over x at s) (between xs a) ∙ ap (λ (k : ℕ). over (flat xs ++ (padded c a ++ flat ys)) k s) p
      ∙ over_mid (flat xs) (padded c a) (flat ys) off s (omega (arith, length_padded c a))
      ∙ ap (λ (x : Bytes). flat xs ++ (x ++ flat ys)) q ∙ sym (between xs b)

  -- room at the segment's end is zeros already
  pub push : (a : Bytes) (k : ℕ) → length a + k ≤ c → flat (xs ++ ((c, a) ∷ ys)) ≡ flat (xs ++ ((c, a ++ zeros k) ∷ ys))
  push a k h = between xs a ∙ ap (λ (x : Bytes). flat xs ++ (x ++ flat ys)) (sym (grow c a k h)) ∙ sym (between xs (a ++ zeros k))

  -- bytes behind what the segment holds
  pub append : (a b : Bytes) (at : ℕ) → length a + length b ≤ c → rooms xs + length a ≡ at
      → over (flat (xs ++ ((c, a) ∷ ys))) at b ≡ flat (xs ++ ((c, a ++ b) ∷ ys))
  append a b at h e = stored a (a ++ b) b (length a) at e h inside
    where
      inside : over (padded c a) (length a) b ≡ padded c (a ++ b)
      inside =
          let l : length (zeros (length b)) ≡ length b = length_zeros (length b) in
          let m : length (a ++ b) ≡ length a + length b = length-append a b in
          let n : length (a ++ zeros (length b)) ≡ length (a ++ b) = omega (arith, length-append a (zeros (length b))) in
          ap (λ (x : Bytes). over x (length a) b)
          (sym (grow c a (length b) h) ∙ padded_is c (a ++ zeros (length b)) (omega arith) ∙ append_assoc a (zeros (length b)) (zeros (c - length (a ++ zeros (length b)))))
          ∙ over_part a (zeros (length b)) (zeros (c - length (a ++ zeros (length b)))) b (length a) refl l
          ∙ sym (append_assoc a b (zeros (c - length (a ++ zeros (length b))))) ∙ ap (λ (k : ℕ). (a ++ b) ++ zeros (c - k)) n
          ∙ sym (padded_is c (a ++ b) (omega arith))

  -- bytes in the place of some that the segment holds
  pub replace : (a b : Bytes) (off at : ℕ) → off + length b ≤ length a → length a ≤ c → rooms xs + off ≡ at
      → over (flat (xs ++ ((c, a) ∷ ys))) at b ≡ flat (xs ++ ((c, over a off b) ∷ ys))
  replace a b off at h g e = stored a (over a off b) b off at e (omega arith) inside
    where
      inside : over (padded c a) off b ≡ padded c (over a off b)
      inside =
          let l : length (over a off b) ≡ length a = length_over a off b h in
          ap (λ (x : Bytes). over x off b) (padded_is c a g) ∙ over_left a (zeros (c - length a)) off b h
          ∙ ap (λ (k : ℕ). over a off b ++ zeros (c - k)) (sym l) ∙ sym (padded_is c (over a off b) (omega arith))

  -- the last bytes of the segment cleared
  pub pop : (a b : Bytes) (k at : ℕ) → length b ≡ k → length a + k ≤ c → rooms xs + length a ≡ at
      → over (flat (xs ++ ((c, a ++ b) ∷ ys))) at (zeros k) ≡ flat (xs ++ ((c, a) ∷ ys))
  pop a b k at q h e = stored (a ++ b) a (zeros k) (length a) at e (omega (arith, length_zeros k)) inside
    where
      inside : over (padded c (a ++ b)) (length a) (zeros k) ≡ padded c a
      inside =
          let l : length (zeros k) ≡ k = length_zeros k in
          let m : length (a ++ b) ≡ length a + length b = length-append a b in
          let n : length (a ++ zeros k) ≡ length (a ++ b) = omega (arith, length-append a (zeros k)) in
          ap (λ (x : Bytes). over x (length a) (zeros k)) (padded_is c (a ++ b) (omega arith) ∙ append_assoc a b (zeros (c - length (a ++ b))))
          ∙ over_part a b (zeros (c - length (a ++ b))) (zeros k) (length a) refl (omega arith)
          ∙ sym (append_assoc a (zeros k) (zeros (c - length (a ++ b)))) ∙ ap (λ (j : ℕ). (a ++ zeros k) ++ zeros (c - j)) (sym n)
          ∙ sym (padded_is c (a ++ zeros k) (omega arith)) ∙ grow c a k h

  -- what the segment holds stands there
  pub holds : (a : Bytes) (at : ℕ) → length a ≤ c → rooms xs ≡ at → Stands (flat (xs ++ ((c, a) ∷ ys))) at a
  holds a at h e =
      record {
        before = flat xs;
        after = zeros (c - length a) ++ flat ys;
        split = between xs a ∙ ap (λ (x : Bytes). flat xs ++ (x ++ flat ys)) (padded_is c a h) ∙ simp append_assoc;
        at = length_flat xs ∙ e;
      }
