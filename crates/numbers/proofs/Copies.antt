-- Copies byte by byte: what is still to be stored, over what stands already, is the whole. Assumes nothing.
use mathlib.Core.Path.{◌≡◌, refl, sym, ap, ◌∙◌}
use mathlib.Core.List.{[], ◌∷◌, ◌++◌, append_assoc}
use Prim.Native.Nat.{ℕ, suc, ◌+◌, ◌-◌, ◌≤◌, ◌<◌}
use native.Mathlib.Numerals.{add-one}
use native.Mathlib.Omega.{arith}
use lib.ListN.{length, get_or, take, drop, set, length-append, length-drop, length-set, drop_of_length-le}
use lib.Seq.{length-take-le, drop-cons, take-suc, take-suc-set, take-set-le, drop-set-lt, get_or-set_same, get_or-drop}
use Rattle.numbers.specs.Words.{Bytes, over}
use Rattle.numbers.proofs.Laws.{over_nil}
use Rattle.numbers.proofs.Parts.{take_cons, take_drop}

pub over_cons : (w : Bytes) (p x : ℕ) (xs : Bytes) → p < length w → over w p (x ∷ xs) ≡ over (set w p x) (p + 1) xs
unfolding over
over_cons w p x xs h =
    let e : p + suc (length xs) ≡ suc p + length xs = omega arith in
    let g : p < suc p + length xs = omega arith in
    rw (add-one, take-suc-set w p x h, append_assoc, e, drop-set-lt (suc p + length xs) w p x g)

-- the last byte, then the others
pub over_snoc : (w : Bytes) (p x : ℕ) (xs : Bytes) → p + length xs < length w → over w p (xs ++ (x ∷ [])) ≡ over (set w (p + length xs) x) p xs
unfolding over
over_snoc w p x xs h =
    let q = p + length xs in
    let g : q < length (set w q x) = omega (arith, length-set w q x) in
    let e : p + length (xs ++ (x ∷ [])) ≡ suc q = omega (arith, length-append xs (x ∷ [])) in
    let t : p ≤ q = omega arith in
    let d : drop q (set w q x) ≡ x ∷ drop (suc q) w =
    drop-cons (set w q x) q 0 g ∙ ap (λ (b : ℕ). b ∷ drop (suc q) (set w q x)) (get_or-set_same w q x 0 h)
    ∙ ap (x ∷◌) (drop-set-lt (suc q) w q x (omega arith)) in
    ap (λ (k : ℕ). take p w ++ ((xs ++ (x ∷ [])) ++ drop k w)) e ∙ ap (take p w ++◌) (append_assoc xs (x ∷ []) (drop (suc q) w))
    ∙ sym (ap (λ (a : Bytes). a ++ (xs ++ drop q (set w q x))) (take-set-le p w q x t) ∙ ap (λ (a : Bytes). take p w ++ (xs ++ a)) d)

module _ (w : Bytes) (at i : ℕ) (g : at + i < length w) (r : Bytes) where
  place : (x : ℕ) (xs : Bytes) → over w (at + i) (x ∷ xs) ≡ over (set w (at + i) x) (at + (i + 1)) xs
  place x xs =
      let e : at + (i + 1) ≡ at + i + 1 = omega arith in
      rw e (over_cons w (at + i) x xs g)

  pub copy_turn : (s : Bytes) → i < length s → over w (at + i) (drop i s) ≡ r → over (set w (at + i) (get_or s i 0)) (at + (i + 1)) (drop (i + 1) s) ≡ r
  copy_turn s h e = sym (place (get_or s i 0) (drop (i + 1) s)) ∙ ap (over w (at + i)) (rw (add-one, ← drop-cons s i 0 h)) ∙ e

module _ (w : Bytes) (p : ℕ) (r : Bytes) where
  pub copy_done : (s : Bytes) (i : ℕ) → length s ≤ i → over w p (drop i s) ≡ r → w ≡ r
  copy_done s i h e = sym (ap (over w p) (drop_of_length-le s h) ∙ over_nil w p) ∙ e

-- a move in one slice: what is still to be moved is not stored over
module _ (w : Bytes) (from to i : ℕ) (r : Bytes) where
  pub down_turn : (n : ℕ) → to ≤ from → i < n → from + n ≤ length w → over w (to + i) (take (n - i) (drop (from + i) w)) ≡ r
      → over (set w (to + i) (get_or w (from + i) 0)) (to + (i + 1)) (take (n - (i + 1)) (drop (from + (i + 1)) (set w (to + i) (get_or w (from + i) 0)))) ≡ r
  down_turn n h g k e =
      let b = get_or w (from + i) 0 in
      let m = n - (i + 1) in
      let q : n - i ≡ suc m = omega arith in
      let a : from + i + 1 ≡ from + (i + 1) = omega arith in
      let s : take (n - i) (drop (from + i) w) ≡ b ∷ take m (drop (from + (i + 1)) w) =
      ap (λ (x : ℕ). take x (drop (from + i) w)) q ∙ take_cons w (from + i) m (omega arith) ∙ ap (λ (x : ℕ). b ∷ take m (drop x w)) a in
      ap (λ (x : Bytes). over (set w (to + i) b) (to + (i + 1)) (take m x)) (drop-set-lt (from + (i + 1)) w (to + i) b (omega arith))
      ∙ sym (place w to i (omega arith) r b (take m (drop (from + (i + 1)) w))) ∙ ap (over w (to + i)) (sym s) ∙ e

  pub down_done : (n : ℕ) → n ≤ i → over w (to + i) (take (n - i) (drop (from + i) w)) ≡ r → w ≡ r
  down_done n h e =
      let q : n - i ≡ 0 = omega arith in
      sym (ap (λ (x : ℕ). over w (to + i) (take x (drop (from + i) w))) q ∙ over_nil w (to + i)) ∙ e

module _ (w : Bytes) (from to i : ℕ) (r : Bytes) where
  step_up : from ≤ to → to + i < length w → over w to (take (i + 1) (drop from w)) ≡ r
      → over (set w (to + i) (get_or w (from + i) 0)) to (take i (drop from (set w (to + i) (get_or w (from + i) 0)))) ≡ r
  step_up h g e =
      let b = get_or w (from + i) 0 in
      let xs = take i (drop from w) in
      let n : length xs ≡ i = length-take-le i (drop from w) (omega (arith, length-drop from w)) in
      let s : take (i + 1) (drop from w) ≡ xs ++ (b ∷ []) =
      rw (add-one, take-suc (drop from w) i 0 (omega (arith, length-drop from w)), get_or-drop) in
      let kept : take i (drop from (set w (to + i) b)) ≡ xs =
      take_drop from i (set w (to + i) b) ∙ ap (drop from) (take-set-le (from + i) w (to + i) b (omega arith)) ∙ sym (take_drop from i w) in
      ap (over (set w (to + i) b) to) kept ∙ ap (λ (x : ℕ). over (set w (to + x) b) to xs) (sym n)
      ∙ sym (over_snoc w to b xs (omega arith)) ∙ ap (over w to) (sym s) ∙ e

module _ (w : Bytes) (from to i : ℕ) (r : Bytes) where
  pub up_turn : 0 < i → from ≤ to → to + i ≤ length w → over w to (take i (drop from w)) ≡ r
      → over (set w (to + (i - 1)) (get_or w (from + (i - 1)) 0)) to (take (i - 1) (drop from (set w (to + (i - 1)) (get_or w (from + (i - 1)) 0)))) ≡ r
  up_turn z h g e =
      let q : i ≡ i - 1 + 1 = omega arith in
      step_up w from to (i - 1) r h (omega arith) (ap (λ (x : ℕ). over w to (take x (drop from w))) (sym q) ∙ e)

  pub up_done : i ≤ 0 → over w to (take i (drop from w)) ≡ r → w ≡ r
  up_done h e =
      let q : i ≡ 0 = omega arith in
      sym (ap (λ (x : ℕ). over w to (take x (drop from w))) q ∙ over_nil w to) ∙ e
