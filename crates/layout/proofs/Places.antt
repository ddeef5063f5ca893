-- The blocks tile the data section, and each item's bytes stand at its block's place plus its pointer's start.
-- Assumes nothing.
use Rattle.std.specs.Prelude.{Option, Some, None}
use Prim.Native.Nat.{ℕ, zero, suc, ◌+◌, ◌-◌, ◌≤◌, ◌<◌}
use native.Mathlib.Omega.{arith}
use native.Mathlib.Nat.{add-zero, zero-add, suc-add, add-suc}
use mathlib.Core.Path.{◌≡◌, refl, sym, ◌∙◌, ap, subst}
use mathlib.Core.List.{List, [], ◌∷◌, ◌++◌, append_assoc}
use lib.ListN.{length, take, drop, length-append}
use lib.Seq.{take-append_seam, drop-append_seam}
use Rattle.numbers.specs.Words.{Bytes, words, bytes_of}
use Rattle.numbers.specs.Result.{nth, Every}
use Rattle.schema.specs.Sections.{PSIN}
use Rattle.pso.specs.Reader as R
use Rattle.pso.specs.Blocks.{numbered}
use Rattle.layout.specs.State.{Item, Block, Core}
use Rattle.layout.specs.Assemble.{joined, items_in, blocks_from, data_of, psin_of}
use Rattle.layout.specs.Demand3.{places_from, BlocksTile, ItemsTile, Stands}
use Rattle.layout.specs.Always.{len_at, AllIn, Formed, Tiled, before, total}
use Rattle.layout.proofs.Items.{bytes_in, bytes_append, items_in_mid, tile_len, tile_start}
use Rattle.layout.proofs.Tiling.{all_mid, every_mid, says_block, says_start}

-- lengths

pub before_all : (bs : List Block) → before (length bs) bs ≡ total bs
unfolding before total
before_all [] = refl
before_all (b ∷ bs) = ap (λ n. b.len + n) (before_all bs)

pub before_ends : (k : ℕ) (bs : List Block) → before k bs + len_at k bs ≤ total bs
unfolding before len_at total
before_ends zero [] = omega arith
before_ends (suc k) [] = omega arith
before_ends zero (b ∷ bs) = omega arith
before_ends (suc k) (b ∷ bs) = omega (arith, before_ends k bs)

none_before : (k : ℕ) → before k [] ≡ 0
unfolding before
none_before zero = refl
none_before (suc k) = refl

-- blocks from number j on that are as long as their items
lengths : (is : List Item) (j : ℕ) (bs : List Block) → ((k : ℕ) → length (bytes_in (items_in (j + k) is)) ≡ len_at k bs) → (n : ℕ) → length (blocks_from j n is) ≡ before n bs
unfolding blocks_from before len_at
lengths is j bs h zero = refl
lengths is j [] h (suc n) =
    omega (
      arith,
      length-append (bytes_in (items_in j is)) (blocks_from (suc j) n is),
      subst (λ m. length (bytes_in (items_in m is)) ≡ 0) (add-zero j) (h 0),
      lengths is (suc j) [] (λ k. subst (λ m. length (bytes_in (items_in m is)) ≡ 0) (add-suc j k ∙ sym (suc-add j k)) (h (suc k))) n,
      none_before n,
    )
lengths is j (b ∷ bs) h (suc n) =
    omega (
      arith,
      length-append (bytes_in (items_in j is)) (blocks_from (suc j) n is),
      subst (λ m. length (bytes_in (items_in m is)) ≡ b.len) (add-zero j) (h 0),
      lengths is (suc j) bs (λ k. subst (λ m. length (bytes_in (items_in m is)) ≡ len_at k bs) (add-suc j k ∙ sym (suc-add j k)) (h (suc k))) n,
    )

module _ (c : Core) (t : Tiled c) where
  -- a block is as long as its items
  pub whole_block : (k : ℕ) → length (bytes_in (items_in (1 + k) c.items)) ≡ len_at k c.blocks
  whole_block k =
      let e : suc k ≡ 1 + k = omega arith in
      subst (λ n. length (bytes_in (items_in n c.items)) ≡ len_at k c.blocks) e
      (omega (arith, tile_len 0 (len_at k c.blocks) (items_in (suc k) c.items) (t.tiles k)))

  pub data_before : (k : ℕ) → length (blocks_from 1 k c.items) ≡ before k c.blocks
  data_before k = lengths c.items 1 c.blocks whole_block k

  -- the data is as long as the blocks
  pub data_total : length (data_of c) ≡ total c.blocks
  unfolding data_of
  data_total = data_before (length c.blocks) ∙ before_all c.blocks

pub psin_length : (b : Bytes) → length (psin_of b) ≡ 16 + length b
unfolding psin_of words bytes_of
psin_length b = omega (arith, length-append (words (PSIN ∷ (16 + length b) ∷ 0 ∷ 0 ∷ [])) b)

-- blocks

pub places_length : (at : ℕ) (bs : List Block) → length (places_from at bs) ≡ length bs
unfolding places_from
places_length at [] = refl
places_length at (b ∷ bs) = ap suc (places_length (at + b.len) bs)

blocks_tile_law : (at : ℕ) (bs : List Block) → BlocksTile at (places_from at bs) (at + total bs)
unfolding places_from total
blocks_tile_law at [] = sym (add-zero at)
blocks_tile_law at (b ∷ bs) = (refl, subst (λ n. BlocksTile (at + b.len) (places_from (at + b.len) bs) n) (omega arith) (blocks_tile_law (at + b.len) bs))

-- "the last ends with PSIN"
pub blocks_tiled : (c : Core) → Tiled c → BlocksTile 16 (places_from 16 c.blocks) (length (psin_of (data_of c)))
blocks_tiled c t = subst (λ n. BlocksTile 16 (places_from 16 c.blocks) n) (omega (arith, psin_length (data_of c), data_total c t)) (blocks_tile_law 16 c.blocks)

pub place_length : (at k : ℕ) (bs : List Block) (b : R.Block) → nth (places_from at bs) k ≡ Some b → b.length' ≡ len_at k bs
unfolding places_from len_at nth
place_length at k [] b e = let z : ◌≡◌ {A = ℕ} 0 1 = cc in absurd (omega arith)
place_length at zero (c ∷ bs) b e = sym (ap length_of e)
  where
    length_of : Option R.Block → ℕ
    length_of None = 0
    length_of (Some x) = x.length'
place_length at (suc k) (c ∷ bs) b e = place_length (at + c.len) k bs b e

-- where a block stands
pub place_at : (at k : ℕ) (bs : List Block) → k < length bs → (b : R.Block) × (nth (places_from at bs) k ≡ Some b) × (b.place ≡ at + before k bs)
unfolding places_from nth before
place_at at k [] h = absurd (omega (arith, h))
place_at at zero (c ∷ bs) h = (_, refl, sym (add-zero at))
place_at at (suc k) (c ∷ bs) h =
    let (b, e, p) = place_at (at + c.len) k bs (omega (arith, h)) in
    (b, e, omega (arith, p))

pub items_tiled : (c : Core) → Tiled c → (k : ℕ) (b : R.Block) → numbered (places_from 16 c.blocks) k ≡ Some b → ItemsTile 0 (items_in k c.items) b.length'
items_tiled c t zero b e = let z : ◌≡◌ {A = ℕ} 0 1 = cc in absurd (omega arith)
items_tiled c t (suc k) b e = rw (place_length 16 k c.blocks b e) (t.tiles k)

-- an item in the data

data_split : (j k m : ℕ) (is : List Item) → blocks_from j (k + suc m) is ≡ blocks_from j k is ++ (bytes_in (items_in (j + k) is) ++ blocks_from (suc (j + k)) m is)
unfolding blocks_from
data_split j zero m is = rw (zero-add, add-zero)
data_split j (suc k) m is = rw (suc-add k (suc m), data_split (suc j) k m is) (simp (suc-add, add-suc, append_assoc))

first_split : (k m : ℕ) (is : List Item) → blocks_from 1 (k + suc m) is ≡ blocks_from 1 k is ++ (bytes_in (items_in (suc k) is) ++ blocks_from (suc (suc k)) m is)
first_split k m is =
    let q : 1 + k ≡ suc k = omega arith in
    subst (λ n. blocks_from 1 (k + suc m) is ≡ blocks_from 1 k is ++ (bytes_in (items_in n is) ++ blocks_from (suc n) m is)) q (data_split 1 k m is)

regroup : (h b a i c d : Bytes) → h ++ (b ++ ((a ++ (i ++ c)) ++ d)) ≡ (h ++ (b ++ a)) ++ (i ++ (c ++ d))
regroup h b a i c d = simp append_assoc

every_split : {A : Type 0} (Q : A → Type 0) (a l : List A) → ((b : List A) (x : A) (c : List A) → a ++ l ≡ b ++ (x ∷ c) → Q x) → Every Q l
every_split Q a [] h = tt
every_split Q a (x ∷ l) h = (h a x l refl, every_split Q (a ++ (x ∷ [])) l (λ b y c e. h b y c (sym (append_assoc a (x ∷ []) l) ∙ e)))

-- a part that stands behind so many bytes
part_at : (before part after : Bytes) (n : ℕ) → length before ≡ n → take (length part) (drop n (before ++ (part ++ after))) ≡ part
part_at before part after n e = rw (← e, drop-append_seam, take-append_seam)

module _ (c : Core) (t : Tiled c) where
  -- the items of an item's own block
  pub own_tile : (a : List Item) (i : Item) (b : List Item) (k : ℕ) → c.items ≡ a ++ (i ∷ b) → i.block ≡ suc k
      → ItemsTile 0 (items_in (suc k) a ++ (i ∷ items_in (suc k) b)) (len_at k c.blocks)
  own_tile a i b k e q = subst (λ l. ItemsTile 0 l (len_at k c.blocks)) (ap (items_in (suc k)) e ∙ items_in_mid (suc k) a i b q) (t.tiles k)

  -- the data section around an item of the block that k blocks stand before
  around : (k : ℕ) (a : List Item) (i : Item) (b : List Item) → c.items ≡ a ++ (i ∷ b) → i.block ≡ suc k → suc k ≤ length c.blocks
      → (front : Bytes) × (back : Bytes) × (psin_of (data_of c) ≡ front ++ (i.bytes ++ back)) × (length front ≡ 16 + before k c.blocks + i.start)
  unfolding data_of psin_of words bytes_of
  around k a i b e q h =
      (head ++ (blocks_from 1 k is ++ bytes_in (items_in (suc k) a)), bytes_in (items_in (suc k) b) ++ blocks_from (suc (suc k)) m is, split, at)
    where
      is : List Item
      is = c.items

      m : ℕ
      m = length c.blocks - suc k

      head : Bytes
      head = words (PSIN ∷ (16 + length (blocks_from 1 (length c.blocks) is)) ∷ 0 ∷ 0 ∷ [])

      n_is : k + suc m ≡ length c.blocks
      n_is = omega (arith, h)

      own : bytes_in (items_in (suc k) is) ≡ bytes_in (items_in (suc k) a) ++ (i.bytes ++ bytes_in (items_in (suc k) b))
      own = rw (ap (items_in (suc k)) e ∙ items_in_mid (suc k) a i b q, bytes_append) (unfold joined in refl)

      split : head ++ blocks_from 1 (length c.blocks) is
          ≡ (head ++ (blocks_from 1 k is ++ bytes_in (items_in (suc k) a))) ++ (i.bytes ++ (bytes_in (items_in (suc k) b) ++ blocks_from (suc (suc k)) m is))
      split =
          ap (λ n. head ++ blocks_from 1 n is) (sym n_is) ∙ ap (λ l. head ++ l) (first_split k m is)
          ∙ ap (λ l. head ++ (blocks_from 1 k is ++ (l ++ blocks_from (suc (suc k)) m is))) own
          ∙ regroup head (blocks_from 1 k is) (bytes_in (items_in (suc k) a)) i.bytes (bytes_in (items_in (suc k) b)) (blocks_from (suc (suc k)) m is)

      at : length (head ++ (blocks_from 1 k is ++ bytes_in (items_in (suc k) a))) ≡ 16 + before k c.blocks + i.start
      at =
          omega (
            arith,
            length-append head (blocks_from 1 k is ++ bytes_in (items_in (suc k) a)),
            length-append (blocks_from 1 k is) (bytes_in (items_in (suc k) a)),
            data_before c t k,
            tile_start 0 (len_at k c.blocks) (items_in (suc k) a) i (items_in (suc k) b) (own_tile a i b k e q),
          )

  -- "an item's bytes stand at its block's place plus its pointer's start"
  module _ (P : R.Pso) (pb : P.blocks ≡ places_from 16 c.blocks) (pd : P.data' ≡ psin_of (data_of c)) where
    item_stands : (a : List Item) (i : Item) (b : List Item) → c.items ≡ a ++ (i ∷ b) → Stands P i
    item_stands a i b e =
        let (h1, h2, h3, h4) = all_mid (length c.blocks) a i b (subst (AllIn (length c.blocks)) e t.within) in
        let k = i.block - 1 in
        let q : i.block ≡ suc k = omega (arith, h1) in
        let (blk, nb, pl) = place_at 16 k c.blocks (omega (arith, h1, h2)) in
        let (front, back, sp, len) = around k a i b e q (omega (arith, h1, h2)) in
        let f : Formed i = every_mid Formed a i b (subst (Every Formed) e t.formed) in
        let ss = says_start i f h3 in
        record {
          block = blk;
          number = says_block i f h3;
          start = ss;
          found = subst (λ n. numbered P.blocks n ≡ Some blk) (sym (says_block i f h3 ∙ q)) (rw pb nb);
          bytes = rw (pd, ss, sp) (part_at front i.bytes back (blk.place + i.start) (omega (arith, len, pl)));
        }

    pub items_stand_law : Every (Stands P) c.items
    items_stand_law = every_split (Stands P) [] c.items (λ a i b e. item_stands a i b e)
