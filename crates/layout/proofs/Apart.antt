-- Alone, the root opens a new last block, and nothing else is filed there (`apart_law`).
-- Assumes nothing.
use Prim.Native.Nat.{ℕ, suc, ◌+◌, ◌%◌, ◌≤◌, ◌<◌}
use native.Mathlib.Omega.{arith}
use mathlib.Core.Path.{◌≡◌, refl, ◌∙◌, ap, subst}
use mathlib.Core.Bool.{Bool, true, false, ◌&&◌}
use mathlib.Core.List.{List, [], ◌∷◌, ◌++◌}
use lib.Dec.{leb}
use lib.ListN.{length}
use borrow.Author.Tests.{leb-true}
use Rattle.std.proofs.lemmas.Bool.{ne_eqb}
use Rattle.numbers.specs.Words.{Bytes}
use Rattle.numbers.specs.Result.{given}
use Rattle.pso.specs.Reader as R
use Rattle.layout.specs.State.{Item, Block, Core, State, Out, done, stop, Spot, spot, pointer_at, file, settle, on_core, lay_item, lay_item_c}
use Rattle.layout.specs.Assemble.{items_in}
use Rattle.layout.specs.Build.{Laid}
use Rattle.layout.specs.Demand3.{read_back, pointer_start, Apart}
use Rattle.layout.specs.Always.{AllIn, Tiled}
use Rattle.layout.proofs.Items.{items_in_append, items_in_own}
use Rattle.layout.proofs.Places.{places_length}
use Rattle.layout.proofs.Laying.{Added}

-- the place behind all blocks

pub behind_all : (n need : ℕ) (bs : List Block) → (spot true n need bs).before ≡ length bs
unfolding spot
behind_all n need [] = refl
behind_all n need (b ∷ bs) = ap suc (behind_all n need bs)

pub at_its_start : (n need : ℕ) (bs : List Block) → (spot true n need bs).start ≡ 0
unfolding spot
at_its_start n need [] = refl
at_its_start n need (b ∷ bs) = at_its_start n need bs

pub block_more : (n need : ℕ) (bs : List Block) → length (spot true n need bs).blocks ≡ suc (length bs)
unfolding spot
block_more n need [] = refl
block_more n need (b ∷ bs) = ap suc (block_more n need bs)

-- an item was laid alone: its pointer is its block's number, that of the new last block
record Alone (p : ℕ) (c c' : Core) : Type 0 where
  pub number : p ≡ suc (length c.blocks)
  pub most : suc (length c.blocks) ≤ 4095
  pub blocks : length c'.blocks ≡ suc (length c.blocks)

abbrev LaysAlone : Core → Out ℕ → Type 0
LaysAlone c (done p s) = Alone p c s.core
LaysAlone c (stop k es) = Unit {0}

lays_alone : (n : ℕ) (bs : Bytes) (s : State) → LaysAlone s.core (lay_item true n bs s)
unfolding lay_item on_core settle lay_item_c file
lays_alone n bs s = go (leb (suc p.before) 4095) refl (leb p.start 0xFFFFF)
  where
    p : Spot
    p = spot true n (length bs) s.core.blocks

    at : p.before ≡ length s.core.blocks
    at = behind_all n (length bs) s.core.blocks

    go : (a : Bool) → leb (suc p.before) 4095 ≡ a → (b : Bool) → LaysAlone s.core (settle s 10 (given (a && b) (pointer_at p, file bs (pointer_at p) s.core p)))
    go false e b = tt
    go true e false = tt
    go true e true =
        record {
          number = omega (arith, at, at_its_start n (length bs) s.core.blocks);
          most = omega (arith, at, leb-true (suc p.before) 4095 e);
          blocks = block_more n (length bs) s.core.blocks;
        }

-- no item is filed behind the blocks that there are
none_behind : (n k : ℕ) (is : List Item) → n < k → AllIn n is → items_in k is ≡ []
unfolding items_in
none_behind n k [] h a = refl
none_behind n k (i ∷ is) h a = rw (ne_eqb i.block k (λ e. omega (arith, e, a.1, h))) (none_behind n k is h a.4)

-- the last item of a layout, which was laid alone, has its block for itself
module _ (l : Laid) (n : ℕ) (bs : Bytes) (t : State) (tiled : Tiled t.core) (lays : lay_item true n bs t ≡ done l.pointer l.state)
    (a : Added n bs l.pointer t.core l.state.core) where
  abbrev i : Item
  i = a.lays.item

  abbrev k : ℕ
  k = l.pointer % 4096

  opened : Alone l.pointer t.core l.state.core
  opened = subst (LaysAlone t.core) lays (lays_alone n bs t)

  own : i.block ≡ k
  own = omega (arith, a.formed, a.most, a.lays.pointer)

  only : items_in k l.state.core.items ≡ i ∷ []
  unfolding items_in
  only =
      ap (items_in k) a.lays.laid ∙ items_in_append k t.core.items (i ∷ []) ∙ ap (λ is. items_in k t.core.items ++ is) (items_in_own i k [] own)
      ∙ ap (λ is. is ++ (i ∷ [])) (none_behind (length t.core.blocks) k t.core.items (omega (arith, opened.number, opened.most)) tiled.within)

  pub apart_law : (b : R.Block) → pointer_start i.pointer + length i.bytes ≡ b.length' → Apart l (read_back l) i b
  unfolding read_back
  apart_law b ends =
      record {
        number = omega (arith, opened.number, opened.most);
        last = omega (arith, opened.number, opened.most, opened.blocks, places_length 16 l.state.core.blocks);
        only = only;
        all = omega (arith, ends, a.lays.pointer, opened.number, opened.most);
      }
