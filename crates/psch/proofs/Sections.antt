-- The head of a section; nothing written. Assumes nothing.
use Prim.Native.Nat.{ℕ, ◌+◌, ◌≤◌}
use native.Mathlib.Omega.{arith}
use native.Mathlib.Nat.{add-zero}
use mathlib.Core.Path.{◌≡◌, refl, sym, ◌∙◌, ap}
use mathlib.Core.List.{[], ◌∷◌}
use lib.ListN.{length, take-append-drop}
use Rattle.numbers.specs.Words.{Bytes, Octets, number, bytes_of, words, over, name_bytes}
use Rattle.numbers.proofs.Equal.{name_bytes_law}
use Rattle.area.proofs.Over.{words_one, words_behind}

pub over_none : (l : Bytes) (p : ℕ) → over l p [] ≡ l
unfolding over
over_none l p = rw add-zero (take-append-drop p l)

-- a name and a number behind it are two numbers
pub name_first : (o o1 o2 n : Bytes) (at v : ℕ) → Octets (name_bytes n) → at + 8 ≤ length o → o1 ≡ over o at (name_bytes n) → o2 ≡ over o1 (at + 4) (bytes_of 4 v)
    → o2 ≡ over o at (words (number 0 (name_bytes n) ∷ v ∷ []))
name_first o o1 o2 n at v k h e1 e2 =
    words_behind o o1 o2 at (at + 4) (number 0 (name_bytes n) ∷ []) (v ∷ []) refl (omega arith) (e1 ∙ ap (over o at) (sym (words_one (number 0 (name_bytes n)) ∙ name_bytes_law n k))) (e2 ∙ ap (over o1 (at + 4)) (sym (words_one v)))
