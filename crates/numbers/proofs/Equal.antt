-- Whether two lists of bytes are equal, byte by byte and as numbers. Assumes nothing.
use mathlib.Core.Path.{◌≡◌, refl, sym, ap, ◌∙◌}
use mathlib.Core.Bool.{Bool, true, false, ◌&&◌}
use mathlib.Core.List.{[], ◌∷◌}
use Prim.Native.Nat.{ℕ, suc, ◌+◌, ◌*◌, ◌≤◌, ◌<◌}
use native.Mathlib.Numerals.{add-one}
use native.Mathlib.Omega.{arith}
use borrow.Author.Tests.{eq-eqb, ne_eqb, eqb-true, eqb-false}
use lib.Dec.{eqb}
use lib.ListN.{length, get_or, take, drop, length-take, length-drop, drop_of_length-le}
use mathlib.Core.Logic.{⊎_elim}
use lib.Seq.{drop-cons, length-take-le}
use Rattle.numbers.specs.Words.{Bytes, number, read_at, bytes_of, same_bytes, name_bytes, Named, Octets}
use Rattle.numbers.proofs.Parts.{take_cons, read_fewer, split}
use Rattle.numbers.proofs.Bytes.{octets, octets_take, octets_drop, below, read_below, bytes_number}

-- of two lengths, they differ
pub same_lengths : (a b : Bytes) → (length a ≡ length b → ⊥) → same_bytes a b ≡ false
unfolding same_bytes
same_lengths [] [] h = absurd (h refl)
same_lengths [] (y ∷ b) h = refl
same_lengths (x ∷ a) [] h = refl
same_lengths (x ∷ a) (y ∷ b) h = rw (same_lengths a b (λ e. h (ap suc e))) (and_false (eqb x y)) where
  and_false : (t : Bool) → t && false ≡ false
  and_false true = refl
  and_false false = refl

-- a loop that has passed i equal bytes
module _ (a b : Bytes) (i : ℕ) where
  heads : i < length a → i < length b → same_bytes (drop i a) (drop i b) ≡ eqb (get_or a i 0) (get_or b i 0) && same_bytes (drop (i + 1) a) (drop (i + 1) b)
  unfolding same_bytes
  heads h g = rw (drop-cons a i 0 h, drop-cons b i 0 g, add-one)

  pub same_done : length a ≤ i → length b ≤ i → true ≡ same_bytes (drop i a) (drop i b)
  unfolding same_bytes
  same_done h g = rw (drop_of_length-le a h, drop_of_length-le b g)

-- ---- as numbers

and_assoc : (a b c : Bool) → (a && b) && c ≡ a && (b && c)
and_assoc true b c = refl
and_assoc false b c = refl

-- a last byte apart
last : (m n b c : ℕ) → b < 256 → c < 256 → eqb (m * 256 + b) (n * 256 + c) ≡ eqb m n && eqb b c
last m n b c h g = by (eqb m n) (eqb b c) refl refl where
  by : (s t : Bool) → eqb m n ≡ s → eqb b c ≡ t → eqb (m * 256 + b) (n * 256 + c) ≡ s && t
  by true true p q = eq-eqb (m * 256 + b) (n * 256 + c) (omega (arith, eqb-true m n p, eqb-true b c q))
  by true false p q = ne_eqb (m * 256 + b) (n * 256 + c) (λ e. eqb-false b c q (omega (arith, e, eqb-true m n p)))
  by false t p q = ne_eqb (m * 256 + b) (n * 256 + c) (λ e. eqb-false m n p (omega (arith, e)))

same_after : (m n : ℕ) (k l : Bytes) → Octets k → Octets l → length k ≡ length l → eqb (number m k) (number n l) ≡ eqb m n && same_bytes k l
unfolding same_bytes
same_after m n [] [] o p e = by (eqb m n) where
  by : (t : Bool) → t ≡ t && true
  by true = refl
  by false = refl
same_after m n [] (c ∷ l) o p e = absurd (omega (arith, e))
same_after m n (b ∷ k) [] o p e = absurd (omega (arith, e))
same_after m n (b ∷ k) (c ∷ l) o p e =
    same_after (m * 256 + b) (n * 256 + c) k l o.1 p.1 (omega (arith, e))
    ∙ ap (λ (t : Bool). t && same_bytes k l) (last m n b c o.0 p.0) ∙ and_assoc (eqb m n) (eqb b c) (same_bytes k l)

-- as many bytes are the same just where their numbers are
pub same_number : (k l : Bytes) → Octets k → Octets l → length k ≡ length l → same_bytes k l ≡ eqb (number 0 k) (number 0 l)
same_number k l o p e = sym (same_after 0 0 k l o p e)

-- ---- a name of four bytes

module _ (n l : Bytes) (at : ℕ) (o : (i : ℕ) → get_or l i 0 < 256) where
  -- where four bytes are not left, neither the bytes nor the number is a name's
  pub named_short : length l < at + 4 → Named n l at false
  named_short h =
      record {
        bytes = sym (same_lengths (take 4 (drop at l)) (name_bytes n) (λ e. omega (arith, e, length-take 4 (drop at l), length-drop at l)));
        number = λ z. sym (ne_eqb (read_at 4 l at) (number 0 (name_bytes n)) (λ e. omega (arith, z, e, read_below 3 l at (octets l o), read_fewer 3 4 l at (omega arith) (omega arith))));
      }

  four_bytes : at + 4 ≤ length l → take 4 (drop at l) ≡ get_or l at 0 ∷ get_or l (at + 1) 0 ∷ get_or l (at + 2) 0 ∷ get_or l (at + 3) 0 ∷ []
  four_bytes h =
      let e2 : at + 1 + 1 ≡ at + 2 = omega arith in
      let e3 : at + 2 + 1 ≡ at + 3 = omega arith in
      rw (take_cons l at 3 (omega arith), take_cons l (at + 1) 2 (omega arith), e2, take_cons l (at + 2) 1 (omega arith), e3, take_cons l (at + 3) 0 (omega arith))

  pub named : at + 4 ≤ length l → (p q r s : Bool) → (p ≡ eqb (get_or l at 0) (get_or n 0 0)) × (get_or n 0 0 < 256)
      → (q ≡ eqb (get_or l (at + 1) 0) (get_or n 1 0)) × (get_or n 1 0 < 256) → (r ≡ eqb (get_or l (at + 2) 0) (get_or n 2 0)) × (get_or n 2 0 < 256)
      → (s ≡ eqb (get_or l (at + 3) 0) (get_or n 3 0)) × (get_or n 3 0 < 256) → Named n l at (((p && q) && r) && s)
  unfolding same_bytes read_at
  named h p q r s a b c d =
      let k = get_or l at 0 ∷ get_or l (at + 1) 0 ∷ get_or l (at + 2) 0 ∷ get_or l (at + 3) 0 ∷ [] in
      let e : ((p && q) && r) && s ≡ same_bytes k (name_bytes n) = in_turn p q r s ∙ rw (a.0, b.0, c.0, d.0) in
      record {
        bytes = e ∙ ap (λ (x : Bytes). same_bytes x (name_bytes n)) (sym (four_bytes h));
        number = λ z. e ∙ same_number k (name_bytes n) (o at, (o (at + 1), (o (at + 2), (o (at + 3), tt)))) (a.1, (b.1, (c.1, (d.1, tt)))) refl
            ∙ ap (λ (x : Bytes). eqb (number 0 x) (number 0 (name_bytes n))) (sym (four_bytes h));
      }
    where
      in_turn : (s t u v : Bool) → ((s && t) && u) && v ≡ s && (t && (u && (v && true)))
      in_turn true true true true = refl
      in_turn true true true false = refl
      in_turn true true false v = refl
      in_turn true false u v = refl
      in_turn false t u v = refl

-- a name's bytes stand there just where its number does
pub name_number : (n l : Bytes) (at : ℕ) → Octets l → Octets (name_bytes n) → 0 < get_or n 0 0 → same_bytes (take 4 (drop at l)) (name_bytes n) ≡ eqb (read_at 4 l at) (number 0 (name_bytes n))
unfolding read_at
name_number n l at o p z = ⊎_elim short long (split (length l) (at + 4)) where
  short : length l < at + 4 → same_bytes (take 4 (drop at l)) (name_bytes n) ≡ eqb (read_at 4 l at) (number 0 (name_bytes n))
  short h = let s = named_short n l at (below l o) h in sym s.bytes ∙ s.number z

  long : at + 4 ≤ length l → same_bytes (take 4 (drop at l)) (name_bytes n) ≡ eqb (read_at 4 l at) (number 0 (name_bytes n))
  long h = same_number (take 4 (drop at l)) (name_bytes n) (octets_take 4 (drop at l) (octets_drop at l o)) p (length-take-le 4 (drop at l) (omega (arith, length-drop at l)))

-- a name is the four bytes of its number
pub name_bytes_law : (n : Bytes) → Octets (name_bytes n) → bytes_of 4 (number 0 (name_bytes n)) ≡ name_bytes n
name_bytes_law n o = bytes_number (name_bytes n) o
