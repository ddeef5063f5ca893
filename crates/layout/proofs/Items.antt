-- The items of a block and their bytes: laws of `items_in`, `bytes_in` and `ItemsTile`.
-- Assumes nothing.
use Prim.Native.Nat.{ℕ, ◌+◌}
use native.Mathlib.Omega.{arith}
use native.Mathlib.Nat.{add-zero}
use mathlib.Core.Path.{◌≡◌, refl, sym, ◌∙◌, ap}
use mathlib.Core.Bool.{Bool, true, false, cond}
use mathlib.Core.List.{List, [], ◌∷◌, ◌++◌, map, append_assoc}
use lib.Dec.{eqb}
use lib.ListN.{length, length-append}
use borrow.Author.Tests.{eq-eqb, ne_eqb}
use Rattle.numbers.specs.Words.{Bytes}
use Rattle.layout.specs.State.{Item}
use Rattle.layout.specs.Assemble.{joined, items_in}
use Rattle.layout.specs.Demand3.{ItemsTile}

-- the bytes of items, one after the other
abbrev pub bytes_in : List Item → Bytes
bytes_in is = joined (map (λ i. i.bytes) is)

pub bytes_append : (a b : List Item) → bytes_in (a ++ b) ≡ bytes_in a ++ bytes_in b
unfolding joined
bytes_append [] b = refl
bytes_append (i ∷ a) b = rw (bytes_append a b, append_assoc)

pub items_in_append : (k : ℕ) (a b : List Item) → items_in k (a ++ b) ≡ items_in k a ++ items_in k b
unfolding items_in
items_in_append k [] b = refl
items_in_append k (i ∷ a) b = go (eqb i.block k) (items_in_append k a b)
  where
    go : (t : Bool) → items_in k (a ++ b) ≡ items_in k a ++ items_in k b
        → cond t (i ∷ items_in k (a ++ b)) (items_in k (a ++ b)) ≡ cond t (i ∷ items_in k a) (items_in k a) ++ items_in k b
    go true e = ap (λ l. i ∷ l) e
    go false e = e

pub items_in_own : (i : Item) (k : ℕ) (b : List Item) → i.block ≡ k → items_in k (i ∷ b) ≡ i ∷ items_in k b
unfolding items_in
items_in_own i k b e = rw (eq-eqb i.block k e)

pub items_in_other : (i : Item) (k : ℕ) (b : List Item) → (i.block ≡ k → ⊥) → items_in k (i ∷ b) ≡ items_in k b
unfolding items_in
items_in_other i k b e = rw (ne_eqb i.block k e)

-- an item among those of its block
pub items_in_mid : (k : ℕ) (a : List Item) (i : Item) (b : List Item) → i.block ≡ k → items_in k (a ++ (i ∷ b)) ≡ items_in k a ++ (i ∷ items_in k b)
items_in_mid k a i b e = items_in_append k a (i ∷ b) ∙ ap (λ l. items_in k a ++ l) (items_in_own i k b e)

-- items that follow each other

pub tile_snoc : (p e : ℕ) (is : List Item) (i : Item) → ItemsTile p is e → i.start ≡ e → ItemsTile p (is ++ (i ∷ [])) (e + length i.bytes)
tile_snoc p e [] i t h = (h ∙ sym t, ap (λ k. k + length i.bytes) t)
tile_snoc p e (j ∷ is) i t h = (t.0, tile_snoc (p + length j.bytes) e is i t.1 h)

pub tile_len : (p e : ℕ) (is : List Item) → ItemsTile p is e → p + length (bytes_in is) ≡ e
unfolding joined
tile_len p e [] t = rw add-zero t
tile_len p e (i ∷ is) t = omega (arith, tile_len (p + length i.bytes) e is t.1, length-append i.bytes (bytes_in is))

pub tile_start : (p e : ℕ) (a : List Item) (i : Item) (b : List Item) → ItemsTile p (a ++ (i ∷ b)) e → i.start ≡ p + length (bytes_in a)
unfolding joined
tile_start p e [] i b t = omega (arith, t.0)
tile_start p e (j ∷ a) i b t = omega (arith, tile_start (p + length j.bytes) e a i b t.1, length-append j.bytes (bytes_in a))

-- what stands behind an item is what is left of the block
pub tile_rest : (p e : ℕ) (a : List Item) (i : Item) (b : List Item) → ItemsTile p (a ++ (i ∷ b)) e → i.start + length i.bytes + length (bytes_in b) ≡ e
tile_rest p e [] i b t = omega (arith, t.0, tile_len (p + length i.bytes) e b t.1)
tile_rest p e (j ∷ a) i b t = tile_rest (p + length j.bytes) e a i b t.1
