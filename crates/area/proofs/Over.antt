-- A paste in a list of parts. Assumes nothing.
use mathlib.Core.Path.{◌≡◌, refl, sym, ap, ◌∙◌}
use mathlib.Core.List.{List, [], ◌∷◌, ◌++◌, append_assoc, append-nil}
use Prim.Native.Nat.{ℕ, ◌+◌, ◌*◌, ◌≤◌, ◌<◌}
use native.Mathlib.Numerals.{add-one}
use native.Mathlib.Omega.{arith}
use lib.ListN.{length, get_or, take, drop, length-append, length-drop, drop_of_length-le}
use lib.Seq.{take-suc, take-append-le, drop-append-le, take-append-add, drop-append-add, drop-drop, length-take-le}
use Rattle.numbers.specs.Words.{Bytes, bytes_of, words, over}
use Rattle.numbers.proofs.Bytes.{length_words}

-- behind a part
pub over_right : (P d : Bytes) (off : ℕ) (s : Bytes) → over (P ++ d) (length P + off) s ≡ P ++ over d off s
unfolding over
over_right P d off s =
    let e : length P + off + length s ≡ length P + (off + length s) = omega arith in
    rw (take-append-add P d off, e, drop-append-add P d (off + length s)) (append_assoc P (take off d) (s ++ drop (off + length s) d))

-- in the first part
pub over_left : (d Q : Bytes) (off : ℕ) (s : Bytes) → off + length s ≤ length d → over (d ++ Q) off s ≡ over d off s ++ Q
unfolding over
over_left d Q off s h =
    let a : off ≤ length d = omega arith in
    rw (take-append-le off d Q a, drop-append-le (off + length s) d Q h) (simp append_assoc)

-- in a part between two others
pub over_mid : (P d Q : Bytes) (off : ℕ) (s : Bytes) → off + length s ≤ length d → over (P ++ (d ++ Q)) (length P + off) s ≡ P ++ (over d off s ++ Q)
over_mid P d Q off s h = over_right P (d ++ Q) off s ∙ ap (λ (l : Bytes). P ++ l) (over_left d Q off s h)

-- in the place of a part of the same length
pub over_part : (P d Q s : Bytes) (at : ℕ) → length P ≡ at → length d ≡ length s → over (P ++ (d ++ Q)) at s ≡ P ++ (s ++ Q)
unfolding over
over_part P d Q s at e h =
    let z : at ≡ length P + 0 = omega arith in
    let g : length d ≤ 0 + length s = omega arith in
    ap (λ (k : ℕ). over (P ++ (d ++ Q)) k s) z ∙ over_mid P d Q 0 s (omega arith)
    ∙ ap (λ (l : Bytes). P ++ ((s ++ l) ++ Q)) (drop_of_length-le d g) ∙ ap (λ (l : Bytes). P ++ (l ++ Q)) (append-nil s)

pub length_over : (l : Bytes) (off : ℕ) (s : Bytes) → off + length s ≤ length l → length (over l off s) ≡ length l
unfolding over
length_over l off s h =
    omega (
      arith,
      length-append (take off l) (s ++ drop (off + length s) l),
      length-append s (drop (off + length s) l),
      length-take-le off l (omega arith),
      length-drop (off + length s) l,
    )

over_split : (l : Bytes) (p : ℕ) (a : Bytes) → over l p a ≡ (take p l ++ a) ++ drop (p + length a) l
unfolding over
over_split l p a = sym (append_assoc (take p l) a (drop (p + length a) l))

over_zero : (l a : Bytes) → over l 0 a ≡ a ++ drop (length a) l
unfolding over
over_zero l a =
    let u : 0 + length a ≡ length a = omega arith in
    ap (λ (k : ℕ). a ++ drop k l) u

-- a paste right behind a paste is one paste of both
pub over_seq : (l : Bytes) (p : ℕ) (a b : Bytes) → p + length a ≤ length l → over (over l p a) (p + length a) b ≡ over l p (a ++ b)
over_seq l p a b h =
    let P = take p l ++ a in
    let R = drop (p + length a) l in
    let e : p + length a ≡ length P + 0 = omega (arith, length-append (take p l) a, length-take-le p l (omega arith)) in
    let m : p + length a + length b ≡ p + length (a ++ b) = omega (arith, length-append a b) in
    ap (λ (x : Bytes). over x (p + length a) b) (over_split l p a) ∙ ap (λ (k : ℕ). over (P ++ R) k b) e ∙ over_right P R 0 b
    ∙ ap (λ (x : Bytes). P ++ x) (over_zero R b ∙ ap (λ (x : Bytes). b ++ x) (drop-drop (length b) (p + length a) l ∙ ap (λ (k : ℕ). drop k l) m))
    ∙ regroup (take p l) a b (drop (p + length (a ++ b)) l) ∙ sym (over_split l p (a ++ b))
  where
    regroup : (t a b d : Bytes) → (t ++ a) ++ (b ++ d) ≡ (t ++ (a ++ b)) ++ d
    regroup t a b d = simp append_assoc

-- numbers of 4 bytes one behind the other
pub words_one : (n : ℕ) → words (n ∷ []) ≡ bytes_of 4 n
unfolding words
words_one n = append-nil (bytes_of 4 n)

pub words_append : (ms ns : List ℕ) → words (ms ++ ns) ≡ words ms ++ words ns
unfolding words
words_append [] ns = refl
words_append (m ∷ ms) ns = rw (words_append ms ns, append_assoc)

-- numbers stored right behind numbers
pub words_behind : (l k j : Bytes) (at to : ℕ) (ms ns : List ℕ) → at + 4 * length ms ≡ to → to ≤ length l → k ≡ over l at (words ms) → j ≡ over k to (words ns)
    → j ≡ over l at (words (ms ++ ns))
words_behind l k j at to ms ns e h f g =
    let q : to ≡ at + length (words ms) = omega (arith, length_words ms) in
    g ∙ ap (λ (x : Bytes). over x to (words ns)) f ∙ ap (λ (p : ℕ). over (over l at (words ms)) p (words ns)) q
    ∙ over_seq l at (words ms) (words ns) (omega arith) ∙ ap (over l at) (sym (words_append ms ns))

-- one number more, stored behind the first i
pub words_next : (l k j : Bytes) (at i : ℕ) (ns : List ℕ) → i < length ns → at + 4 * length ns ≤ length l → k ≡ over l at (words (take i ns))
    → j ≡ over k (at + 4 * i) (bytes_of 4 (get_or ns i 0)) → j ≡ over l at (words (take (i + 1) ns))
words_next l k j at i ns t h f g =
    let x = get_or ns i 0 in
    let n = length-take-le i ns (omega arith) in
    rw (add-one, take-suc ns i 0 t)
    (words_behind l k j at (at + 4 * i) (take i ns) (x ∷ []) (omega (arith, n)) (omega arith) f (rw words_one g))
