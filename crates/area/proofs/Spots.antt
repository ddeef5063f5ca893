-- Block rows in the work area, and where an item goes. Assumes nothing.
use mathlib.Core.Path.{◌≡◌, refl, sym, ap, ◌∙◌}
use mathlib.Core.Bool.{Bool, true, false, false≢true, ◌&&◌, not}
use mathlib.Core.List.{List, [], ◌∷◌, ◌++◌, append_assoc, append-nil}
use Prim.Native.Nat.{ℕ, zero, suc, ◌+◌, ◌-◌, ◌*◌, ◌^◌, ◌≤◌, ◌<◌}
use native.Mathlib.Nat.{sub-zero}
use native.Mathlib.Omega.{arith}
use lib.Dec.{leb, eqb}
use lib.ListN.{length, length-append}
use borrow.Author.Tests.{eq-eqb, eqb-true, le-leb, lt-leb, leb-true}
use Rattle.numbers.specs.Words.{Bytes, words, read_at, over, Stands, Below}
use Rattle.numbers.specs.Result.{Every}
use Rattle.numbers.proofs.Bytes.{left, next, word_at, length_words}
use Rattle.layout.specs.State.{Block, Spot, spot, past, max_block}
use Rattle.layout.proofs.Apart.{behind_all, at_its_start}
use Rattle.area.specs.Rows.{blocks_in}
use Rattle.area.specs.Area.{rows_of, Small}
use Rattle.area.specs.Posts.{Finds}
use Rattle.area.proofs.Over.{over_right, over_part}

pub length_rows_of : (bs : List Block) → length (rows_of bs) ≡ 8 * length bs
unfolding rows_of
length_rows_of [] = refl
length_rows_of (b ∷ bs) = omega (arith, length-append (words (b.name ∷ b.len ∷ [])) (rows_of bs), length_words (b.name ∷ b.len ∷ []), length_rows_of bs)

-- a block behind the others
pub rows_of_snoc : (bs : List Block) (b : Block) → rows_of (bs ++ (b ∷ [])) ≡ rows_of bs ++ words (b.name ∷ b.len ∷ [])
unfolding rows_of
rows_of_snoc [] b = append-nil (words (b.name ∷ b.len ∷ []))
rows_of_snoc (c ∷ bs) b = rw (rows_of_snoc bs b, append_assoc)

-- a block's row that stands there is read
pub record RowAt (w : Bytes) (at : ℕ) (b : Block) (bs : List Block) : Type 0 where
  pub name : read_at 4 w at ≡ b.name
  pub len : read_at 4 w (at + 4) ≡ b.len
  pub rest : Stands w (at + 8) (rows_of bs)

pub row_at : (w : Bytes) (at : ℕ) (b : Block) (bs : List Block) → Small b → Stands w at (rows_of (b ∷ bs)) → RowAt w at b bs
unfolding rows_of
row_at w at b bs t h =
    let l : List ℕ = b.name ∷ b.len ∷ [] in
    let s : Stands w at (words l) = left w (words l) (rows_of bs) at h in
    let q : Below l = (t.name, (t.len, tt)) in
    record {
      name = word_at w at l q s 0 at (omega arith) (omega arith);
      len = word_at w at l q s 1 (at + 4) (omega arith) (omega arith);
      rest = next w (words l) (rows_of bs) at (at + 8) 8 (length_words l) refl h;
    }

left_true : (a b : Bool) → a && b ≡ true → a ≡ true
left_true true b e = refl
left_true false b e = e

right_true : (a b : Bool) → a && b ≡ true → b ≡ true
right_true true b e = e
right_true false b e = absurd (false≢true e)

-- the first block takes the item, or not
takes : (name need : ℕ) (b : Block) → b.name ≡ name → b.len + need ≤ 0x100000 → eqb b.name name && leb (b.len + need) max_block ≡ true
takes name need b e f = rw (eq-eqb b.name name e, le-leb (b.len + need) max_block f)

passes : (name need : ℕ) (b : Block) → (b.name ≡ name → 0x100000 < b.len + need) → eqb b.name name && leb (b.len + need) max_block ≡ false
passes name need b f = go (eqb b.name name) refl
  where
    go : (t : Bool) → eqb b.name name ≡ t → t && leb (b.len + need) max_block ≡ false
    go false e = refl
    go true e = lt-leb (b.len + need) max_block (f (eqb-true b.name name e))

-- the search stops at the block
abbrev taken : Bool → ℕ → ℕ → Block → Bool
taken alone name need b = not alone && (eqb b.name name && leb (b.len + need) max_block)

same_name : (alone : Bool) (name need : ℕ) (b : Block) → taken alone name need b ≡ true → b.name ≡ name
same_name alone name need b e =
    eqb-true b.name name (left_true (eqb b.name name) (leb (b.len + need) max_block) (right_true (not alone) (eqb b.name name && leb (b.len + need) max_block) e))

has_room : (alone : Bool) (name need : ℕ) (b : Block) → taken alone name need b ≡ true → leb (b.len + need) max_block ≡ true
has_room alone name need b e = right_true (eqb b.name name) (leb (b.len + need) max_block) (right_true (not alone) (eqb b.name name && leb (b.len + need) max_block) e)

spot_here : (alone : Bool) (name need : ℕ) (b : Block) (bs : List Block) → taken alone name need b ≡ true
    → spot alone name need (b ∷ bs) ≡ record { before = 0; start = b.len; blocks = record { name = name; len = b.len + need } ∷ bs }
unfolding spot
spot_here alone name need b bs h = rw h

spot_past : (alone : Bool) (name need : ℕ) (b : Block) (bs : List Block) → taken alone name need b ≡ false
    → spot alone name need (b ∷ bs) ≡ past b (spot alone name need bs)
unfolding spot
spot_past alone name need b bs h = rw h

-- blocks whose rows stand there are read
pub blocks_stand : (w : Bytes) (at : ℕ) (bs : List Block) → Every Small bs → Stands w at (rows_of bs) → blocks_in w at (length bs) ≡ bs
unfolding blocks_in
blocks_stand w at [] t h = refl
blocks_stand w at (b ∷ bs) t h = let r = row_at w at b bs t.0 h in rw (r.name, r.len, blocks_stand w (at + 8) bs t.1 r.rest)

-- as many blocks are read as rows
blocks_read : (w : Bytes) (at n : ℕ) → length (blocks_in w at n) ≡ n
unfolding blocks_in
blocks_read w at zero = refl
blocks_read w at (suc n) = ap suc (blocks_read w (at + 8) n)

module _ (w : Bytes) (n name need : ℕ) where
  -- the blocks behind the first k
  abbrev rest : ℕ → List Block
  rest k = blocks_in w (8 * k) (n - k)

  abbrev row : ℕ → Block
  row k = record { name = read_at 4 w (8 * k); len = read_at 4 w (8 * k + 4) }

  rest_next : (k : ℕ) → k < n → rest k ≡ row k ∷ rest (k + 1)
  unfolding blocks_in
  rest_next k h =
      let e : n - k ≡ suc (n - (k + 1)) = omega arith in
      let f : 8 * k + 8 ≡ 8 * (k + 1) = omega arith in
      ap (blocks_in w (8 * k)) e ∙ ap (λ (i : ℕ). row k ∷ blocks_in w i (n - (k + 1))) f

  -- the search so far: k blocks are passed, and the spot is that among the others
  pub record Seeking (k : ℕ) : Type 0 where
    pub before : (spot false name need (blocks_in w 0 n)).before ≡ k + (spot false name need (rest k)).before
    pub start : (spot false name need (blocks_in w 0 n)).start ≡ (spot false name need (rest k)).start

  pub seek_begin : Seeking 0
  seek_begin = record { before = rw sub-zero (omega arith); start = rw sub-zero }

  -- the block at k takes the item
  pub seek_here : (k : ℕ) → k < n → Seeking k → read_at 4 w (8 * k) ≡ name → read_at 4 w (8 * k + 4) + need ≤ 0x100000
      → ((spot false name need (blocks_in w 0 n)).before ≡ k) × ((spot false name need (blocks_in w 0 n)).start ≡ read_at 4 w (8 * k + 4))
  seek_here k h s e f =
      let x = ap (spot false name need) (rest_next k h) ∙ spot_here false name need (row k) (rest (k + 1)) (takes name need (row k) e f) in
      (s.before ∙ ap (λ (y : Spot). k + y.before) x ∙ omega arith, s.start ∙ ap (λ (y : Spot). y.start) x)

  -- it does not
  pub seek_on : (k : ℕ) → k < n → Seeking k → (read_at 4 w (8 * k) ≡ name → 0x100000 < read_at 4 w (8 * k + 4) + need) → Seeking (k + 1)
  seek_on k h s f =
      let x = ap (spot false name need) (rest_next k h) ∙ spot_past false name need (row k) (rest (k + 1)) (passes name need (row k) f) in
      record { before = s.before ∙ ap (λ (y : Spot). k + y.before) x ∙ omega arith; start = s.start ∙ ap (λ (y : Spot). y.start) x }

  -- no block takes it
  pub seek_none : (k : ℕ) → k ≤ n → n ≤ k → Seeking k → ((spot false name need (blocks_in w 0 n)).before ≡ n) × ((spot false name need (blocks_in w 0 n)).start ≡ 0)
  unfolding spot blocks_in
  seek_none k g h s =
      let e : n - k ≡ 0 = omega arith in
      let x = ap (λ (i : ℕ). spot false name need (blocks_in w (8 * k) i)) e in
      (s.before ∙ ap (λ (y : Spot). k + y.before) x ∙ omega arith, s.start ∙ ap (λ (y : Spot). y.start) x)

-- ---- the blocks with the item

-- in a block that is there, or in a new last one
pub data Filed (name need : ℕ) (bs : List Block) (p : Spot) : Type 0 where
  inside : p.before < length bs → length p.blocks ≡ length bs → rows_of p.blocks ≡ over (rows_of bs) (8 * p.before) (words (name ∷ (p.start + need) ∷ []))
      → Filed name need bs p
  behind : p.before ≡ length bs → p.start ≡ 0 → p.blocks ≡ bs ++ (record { name = name; len = need } ∷ []) → Filed name need bs p

filed_past : (name need : ℕ) (b : Block) (bs : List Block) (p : Spot) → Filed name need bs p → Filed name need (b ∷ bs) (past b p)
unfolding rows_of
filed_past name need b bs p (inside h l e) =
    let w : Bytes = words (b.name ∷ b.len ∷ []) in
    let v : Bytes = words (name ∷ (p.start + need) ∷ []) in
    let m : length w ≡ 8 = length_words (b.name ∷ b.len ∷ []) in
    let q : 8 * suc p.before ≡ length w + 8 * p.before = omega arith in
    inside (omega (arith, h)) (ap suc l)
    (ap (λ (x : Bytes). w ++ x) e ∙ sym (over_right w (rows_of bs) (8 * p.before) v) ∙ ap (λ (k : ℕ). over (w ++ rows_of bs) k v) (sym q))
filed_past name need b bs p (behind h z e) = behind (ap suc h) z (ap (λ (l : List Block). b ∷ l) e)

filed_here : (name need : ℕ) (b : Block) (bs : List Block) → b.name ≡ name
    → Filed name need (b ∷ bs) (record { before = 0; start = b.len; blocks = record { name = name; len = b.len + need } ∷ bs })
unfolding rows_of
filed_here name need b bs e =
    inside (omega arith) refl
    (sym (over_part [] (words (b.name ∷ b.len ∷ [])) (rows_of bs) (words (name ∷ (b.len + need) ∷ [])) 0 refl
    (length_words (b.name ∷ b.len ∷ []) ∙ sym (length_words (name ∷ (b.len + need) ∷ [])))))

pub filed : (alone : Bool) (name need : ℕ) (bs : List Block) → Filed name need bs (spot alone name need bs)
unfolding spot
filed alone name need [] = behind refl refl refl
filed alone name need (b ∷ bs) = go (taken alone name need b) refl (filed alone name need bs)
  where
    go : (t : Bool) → taken alone name need b ≡ t → Filed name need bs (spot alone name need bs) → Filed name need (b ∷ bs) (spot alone name need (b ∷ bs))
    go true e f = rw (spot_here alone name need b bs e) (filed_here name need b bs (same_name alone name need b e))
    go false e f = rw (spot_past alone name need b bs e) (filed_past name need b bs (spot alone name need bs) f)

-- numbers of 4 bytes stay so
pub spot_small : (alone : Bool) (name need : ℕ) (bs : List Block) → name < 256 ^ 4 → Every Small bs → (spot alone name need bs).start + need < 256 ^ 4
    → Every Small (spot alone name need bs).blocks
unfolding spot
spot_small alone name need [] h t e = (record { name = h; len = omega (arith, e) }, tt)
spot_small alone name need (b ∷ bs) h t e = go (taken alone name need b) refl (spot_small alone name need bs h t.1)
  where
    go : (x : Bool) → taken alone name need b ≡ x
        → ((spot alone name need bs).start + need < 256 ^ 4 → Every Small (spot alone name need bs).blocks) → Every Small (spot alone name need (b ∷ bs)).blocks
    go true q f =
        let r = spot_here alone name need b bs q in
        let l : b.len + need < 256 ^ 4 = omega (arith, e, ap (λ (y : Spot). y.start) r) in
        rw r (record { name = h; len = l }, t.1)
    go false q f =
        let r = spot_past alone name need b bs q in
        rw r (t.0, f (omega (arith, e, ap (λ (y : Spot). y.start) r)))

-- a start is a block's length: it is at most 0x100000 with what is needed, or 0
pub spot_start : (alone : Bool) (name need : ℕ) (bs : List Block) → (spot alone name need bs).start ≤ 0x100000
unfolding spot
spot_start alone name need [] = omega arith
spot_start alone name need (b ∷ bs) = go (taken alone name need b) refl (spot_start alone name need bs)
  where
    go : (x : Bool) → taken alone name need b ≡ x → (spot alone name need bs).start ≤ 0x100000 → (spot alone name need (b ∷ bs)).start ≤ 0x100000
    go true q f = rw (spot_here alone name need b bs q) (omega (arith, leb-true (b.len + need) max_block (has_room alone name need b q)))
    go false q f = rw (spot_past alone name need b bs q) f

-- alone, an item goes behind all blocks
pub finds_alone : (w : Bytes) (n name need : ℕ) → Finds true w n name need (record { before = n; start = 0 })
finds_alone w n name need =
    let l = blocks_read w 0 n in
    record {
      before = omega arith;
      start = omega arith;
      is = (sym (behind_all name need (blocks_in w 0 n) ∙ l), sym (at_its_start name need (blocks_in w 0 n)));
    }
