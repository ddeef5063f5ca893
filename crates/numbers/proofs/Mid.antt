-- A part of a slice that is written, as `over` says it; a number's bytes, as the library says them. Assumes nothing.
use Rattle.std.specs.Prelude.{◌≡◌, refl, ℕ, zero, suc, ◌+◌, ◌-◌, ◌*◌, ◌/◌, ◌%◌, ◌^◌, ◌≤◌, eqb, [], ◌∷◌, ◌++◌, length, get_or, take, drop, ◌<◌, Bool, true, false, ◌&&◌}
use Rattle.std.specs.Int.{byte_at, bytes_high_first}
use Rattle.std.proofs.Common.{arith, ap, sym, ◌∙◌}
use Rattle.std.proofs.lemmas.List.{drop-drop}
use borrow.Rule.Slice.PartMut.{put_mid}
use borrow.Author.Tests.{eq-eqb, ne_eqb, eqb-true, eqb-false}
use lib.ListN.{length-take, length-drop}
use lib.Pointwise.{pointwise}
use native.Mathlib.Nat.{pow-le-pow_right}
use lib.Seq.{length-take-le, take_all}
use Rattle.numbers.specs.Words.{Bytes, number, read_at, bytes_of, over, same_bytes, name_bytes, Named}
use Rattle.numbers.proofs.Bytes.{length_bytes, octets}
use Rattle.numbers.proofs.Parts.{below_all}
use Rattle.numbers.proofs.Equal.{name_number}

-- the k bytes at a place, written over
pub over_mid : (at k n : ℕ) (s ys zs : Bytes) → length ys ≡ length (take k (drop at s)) → k ≡ n → at + n ≤ length s → ys ≡ zs → put_mid at k s ys ≡ over s at zs
unfolding over
over_mid at k n s ys zs l e h f =
    let q : length zs ≡ k = ap length (sym f) ∙ l ∙ length-take-le k (drop at s) (omega (arith, e, length-drop at s)) in
    rw f (ap (λ (z : Bytes). take at s ++ (zs ++ z)) (drop-drop k at s ∙ ap (λ (m : ℕ). drop (at + m) s) (sym q)))

-- a byte of a number
byte_is : (k v : ℕ) → byte_at k v ≡ v / 256 ^ k % 256
byte_is zero v = omega arith
byte_is (suc k) v = refl

-- a number's bytes, the highest first
pub high_first : (k v : ℕ) → bytes_high_first k v ≡ bytes_of k v
unfolding bytes_of
high_first zero v = refl
high_first (suc k) v = ap (λ (b : ℕ). b ∷ bytes_high_first k v) (byte_is k v) ∙ ap (v / 256 ^ k % 256 ∷◌) (high_first k v)

-- the lowest j of them
pub lowest : (i j v : ℕ) → drop i (bytes_high_first (i + j) v) ≡ bytes_of j v
lowest zero j v = let e : 0 + j ≡ j = omega arith in ap (λ (n : ℕ). bytes_high_first n v) e ∙ high_first j v
lowest (suc i) j v = let e : suc i + j ≡ suc (i + j) = omega arith in ap (λ (n : ℕ). drop (suc i) (bytes_high_first n v)) e ∙ lowest i j v

-- the lowest k of eight
pub lowest_of : (k v : ℕ) → k ≤ 8 → take (8 - (8 - k)) (drop (8 - k) (bytes_high_first 8 v)) ≡ bytes_of k v
lowest_of k v h =
    let e : (8 - k) + k ≡ 8 = omega (arith, h) in
    let f : 8 - (8 - k) ≡ k = omega (arith, h) in
    let g : drop (8 - k) (bytes_high_first 8 v) ≡ bytes_of k v = ap (λ (n : ℕ). drop (8 - k) (bytes_high_first n v)) (sym e) ∙ lowest (8 - k) k v in
    rw (g, f) (take_all k (bytes_of k v) (omega (arith, length_bytes k v)))

-- four bytes, one by one
pub four_bytes : (n : Bytes) → length n ≡ 4 → n ≡ name_bytes n
four_bytes [] h = absurd (omega (arith, h))
four_bytes (a ∷ []) h = absurd (omega (arith, h))
four_bytes (a ∷ b ∷ []) h = absurd (omega (arith, h))
four_bytes (a ∷ b ∷ c ∷ []) h = absurd (omega (arith, h))
four_bytes (a ∷ b ∷ c ∷ d ∷ []) h = refl
four_bytes (a ∷ b ∷ c ∷ d ∷ e ∷ n) h = absurd (omega (arith, h))

-- what `==` answers at bytes
pub same_pairs : (a b : Bytes) → pointwise eqb a b ≡ same_bytes a b
unfolding same_bytes
same_pairs [] [] = refl
same_pairs [] (y ∷ b) = refl
same_pairs (x ∷ a) [] = refl
same_pairs (x ∷ a) (y ∷ b) = ap (λ (t : Bool). eqb x y && t) (same_pairs a b)

eqb_turned : (x y : ℕ) → eqb x y ≡ eqb y x
eqb_turned x y = by (eqb x y) refl where
  by : (t : Bool) → eqb x y ≡ t → eqb x y ≡ eqb y x
  by true e = rw (eqb-true x y e, eq-eqb y y refl)
  by false e = e ∙ sym (ne_eqb y x (λ f. eqb-false x y e (sym f)))

same_turned : (a b : Bytes) → same_bytes a b ≡ same_bytes b a
unfolding same_bytes
same_turned [] [] = refl
same_turned [] (y ∷ b) = refl
same_turned (x ∷ a) [] = refl
same_turned (x ∷ a) (y ∷ b) = rw (eqb_turned x y, same_turned a b)

-- whether a name begins what stands at a place
pub named_first : (n l : Bytes) (at : ℕ) (r : Bool) → length n ≡ 4 → ((i : ℕ) → get_or n i 0 < 256) → ((i : ℕ) → get_or l i 0 < 256)
    → r ≡ pointwise eqb n (take (length n) (drop at l)) → Named n l at r
named_first n l at r four o p e =
    let m : r ≡ same_bytes (take 4 (drop at l)) (name_bytes n) =
    e ∙ same_pairs n (take (length n) (drop at l)) ∙ same_turned n (take (length n) (drop at l))
    ∙ ap (λ (k : ℕ). same_bytes (take k (drop at l)) n) four ∙ ap (same_bytes (take 4 (drop at l))) (four_bytes n four) in
    record {
      bytes = m;
      number = λ z. m ∙ name_number n l at (octets l p) (o 0, (o 1, (o 2, (o 3, tt)))) z;
    }

-- the step of a loop over eight bytes at most
pub room_left : (n i : ℕ) → i < 8 → n < 256 ^ i → n * 256 + 255 < 2 ^ 64
room_left n i h b =
    let f : i ≤ 7 = omega (arith, h) in
    let e : 256 ^ i ≤ 256 ^ 7 = pow-le-pow_right (omega arith) f in
    omega (arith, b, e)

-- what was read of k bytes
pub read_parts : (k : ℕ) (s t : Bytes) (at n : ℕ) → t ≡ take k (drop at s) → n ≡ number 0 t → n < 256 ^ length t → (n ≡ read_at k s at) × (n < 256 ^ k)
unfolding read_at
read_parts k s t at n e f b =
    let l : length t ≤ k = omega (arith, ap length e, length-take k (drop at s)) in
    (f ∙ ap (number 0) e, below_all n (length t) k l b)
