-- Lists of names in the work area: reading, search, one more behind the others. Assumes nothing.
use mathlib.Core.Path.{◌≡◌, refl, ap, ◌∙◌}
use mathlib.Core.Bool.{true, false}
use mathlib.Core.List.{List, [], ◌∷◌, ◌++◌}
use Prim.Native.Nat.{ℕ, zero, suc, ◌+◌, ◌*◌}
use native.Mathlib.Nat.{add-zero}
use native.Mathlib.Omega.{arith}
use lib.Dec.{eqb}
use lib.ListN.{length}
use Rattle.std.specs.List.{list_any, range_with_len}
use Rattle.numbers.specs.Words.{Bytes, words, bytes_of, read_at, Stands, Below}
use Rattle.numbers.proofs.Bytes.{head_at, behind}
use Rattle.layout.specs.State.{contains, insert}
use Rattle.area.specs.Rows.{names_in}
use Rattle.area.proofs.Anys.{or_cond}
use Rattle.area.proofs.Over.{words_one, words_append}

-- names that stand there are read
pub names_stand : (w : Bytes) (at : ℕ) (ns : List ℕ) → Below ns → Stands w at (words ns) → names_in w at (length ns) ≡ ns
unfolding names_in words
names_stand w at [] b h = refl
names_stand w at (n ∷ ns) b h =
    rw (head_at 4 n (words ns) w at b.0 h, names_stand w (at + 4) ns b.1 (behind 4 n (words ns) w at (at + 4) refl h))

-- whether one of them is the name
any_from : (w : Bytes) (at name n k : ℕ) → list_any (λ (i : ℕ). eqb (read_at 4 w (at + 4 * i)) name) (range_with_len k n) ≡ contains name (names_in w (at + 4 * k) n)
unfolding names_in contains
any_from w at name zero k = refl
any_from w at name (suc n) k =
    let f : at + 4 * (k + 1) ≡ at + 4 * k + 4 = omega arith in
    or_cond (eqb (read_at 4 w (at + 4 * k)) name) (list_any (λ (i : ℕ). eqb (read_at 4 w (at + 4 * i)) name) (range_with_len (k + 1) n))
    ∙ rw (any_from w at name n (k + 1), f)

pub any_name : (w : Bytes) (at n name : ℕ) → list_any (λ (i : ℕ). eqb (read_at 4 w (at + 4 * i)) name) (range_with_len 0 n) ≡ contains name (names_in w at n)
any_name w at n name = any_from w at name n 0 ∙ rw add-zero

-- one more behind the others
pub words_snoc : (ns : List ℕ) (n : ℕ) → words (ns ++ (n ∷ [])) ≡ words ns ++ bytes_of 4 n
words_snoc ns n = words_append ns (n ∷ []) ∙ ap (λ (x : Bytes). words ns ++ x) (words_one n)

-- the two ways of an insertion
pub insert_there : (n : ℕ) (ns : List ℕ) → contains n ns ≡ true → insert n ns ≡ ns
unfolding insert
insert_there n ns h = rw h

pub insert_new : (n : ℕ) (ns : List ℕ) → contains n ns ≡ false → insert n ns ≡ ns ++ (n ∷ [])
unfolding insert
insert_new n ns h = rw h
