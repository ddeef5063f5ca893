-- The blocks that PMAP is written with are read back from it.
-- Assumes nothing.
use Prim.Native.Nat.{ℕ, ◌+◌, ◌*◌, ◌^◌, ◌≤◌, ◌<◌}
use native.Mathlib.Omega.{arith}
use mathlib.Core.Path.{◌≡◌, refl, ◌∙◌, ap, ap₂}
use mathlib.Core.Bool.{false}
use mathlib.Core.List.{List, [], ◌∷◌, ◌++◌}
use lib.ListN.{length, get_or}
use borrow.Author.Tests.{le-ltb, lt-leb, ne_eqb}
use Rattle.numbers.specs.Words.{Bytes, read_at, bytes_of, words, Stands}
use Rattle.numbers.specs.Result.{ok}
use Rattle.numbers.proofs.Bytes.{left, next, behind, head_at, word_at, length_words}
use Rattle.pso.specs.Reader as R
use Rattle.layout.specs.State.{Block}
use Rattle.layout.specs.Assemble.{block_rows, pmap_of}
use Rattle.layout.specs.Demand3.{places_from, BlocksTile}
use Rattle.layout.specs.Always.{ShortNames}
use Rattle.layout.proofs.ReadSchema.{pmap_length, pmap_word, pmap_behind}

-- blocks that tile end behind where they begin
tile_le : (at end : ℕ) (bs : List Block) → BlocksTile at (places_from at bs) end → at ≤ end
unfolding places_from
tile_le at end [] t = omega (arith, t)
tile_le at end (b ∷ bs) t = omega (arith, tile_le (at + b.len) end bs t.1)

rows_back : (P : Bytes) (end : ℕ) → end < 256 ^ 4 → (i at : ℕ) (bs : List Block) → ShortNames bs → BlocksTile at (places_from at bs) end
    → Stands P i (block_rows at bs) → R.blocks_at P (length bs) i ≡ places_from at bs
unfolding places_from block_rows R.blocks_at R.block_at
rows_back P end h i at [] f t s = refl
rows_back P end h i at (b ∷ bs) f t s =
    ap₂ (λ x l. x ∷ l) row
    (rows_back P end h (i + 16) (at + b.len) bs f.1 t.1 (next P (words ws) (block_rows (at + b.len) bs) i (i + 16) 16 (length_words ws) refl s))
  where
    ws : List ℕ
    ws = b.name ∷ at ∷ 0 ∷ b.len ∷ []

    fin : at + b.len ≤ end
    fin = tile_le (at + b.len) end bs t.1

    word : (k j : ℕ) → k < 4 → i + 4 * k ≡ j → read_at 4 P j ≡ get_or ws k 0
    word k j g q =
        word_at P i ws (f.0, (omega (arith, fin, h), (omega arith, (omega (arith, fin, h), tt)))) (left P (words ws) (block_rows (at + b.len) bs) i s) k j g q

    row : R.block_at P i ≡ record { name = b.name; place = at; length' = b.len }
    row = rw (word 0 i (omega arith) (omega arith), word 1 (i + 4) (omega arith) (omega arith), word 3 (i + 12) (omega arith) (omega arith))

-- a count from 1 to 4,095 is no later layout
earlier : (P : Bytes) (n : ℕ) → read_at 2 P 12 ≡ n → 1 ≤ n → n ≤ 4095 → R.is_later P ≡ false
unfolding R.is_later
earlier P n q a b = rw (q, ne_eqb n 0 (λ z. omega (arith, z, a)), lt-leb 0x8000 n (omega (arith, b)))

-- a section with so many rows at 16
rows_at : (P : Bytes) (n : ℕ) → read_at 2 P 12 ≡ n → 1 ≤ n → n ≤ 4095 → length P ≡ 16 + 16 * n → R.pmap_of P ≡ ok (R.blocks_at P n 16)
unfolding R.pmap_of
rows_at P n q a b e =
    rw (now, q, le-ltb (length P) 16 (omega (arith, e)), le-ltb (length P) (16 + 16 * n) (omega (arith, e)))
  where
    now : R.is_later P ≡ false
    now = earlier P n q a b

module _ (root : ℕ) (bs : List Block) (some : 1 ≤ length bs) (most : length bs ≤ 4095) (names : ShortNames bs) where
  pub pmap_back : (end : ℕ) → end < 256 ^ 4 → BlocksTile 16 (places_from 16 bs) end → R.pmap_of (pmap_of root bs) ≡ ok (places_from 16 bs)
  pmap_back end h t =
      rows_at P (length bs) count some most (pmap_length root bs) ∙ ap ok (rows_back P end h 16 16 bs names t rows)
    where
      P : Bytes
      P = pmap_of root bs

      s12 : Stands P 12 (bytes_of 2 (length bs) ++ (bytes_of 2 0x7070 ++ block_rows 16 bs))
      s12 = pmap_behind root bs

      s14 : Stands P 14 (bytes_of 2 0x7070 ++ block_rows 16 bs)
      s14 = behind 2 (length bs) (bytes_of 2 0x7070 ++ block_rows 16 bs) P 12 14 refl s12

      rows : Stands P 16 (block_rows 16 bs)
      rows = behind 2 0x7070 (block_rows 16 bs) P 14 16 refl s14

      count : read_at 2 P 12 ≡ length bs
      count = head_at 2 (length bs) (bytes_of 2 0x7070 ++ block_rows 16 bs) P 12 (omega (arith, most)) s12

  pub root_back : root < 256 ^ 4 → read_at 4 (pmap_of root bs) 8 ≡ root
  root_back h = pmap_word root bs h (omega (arith, pmap_length root bs, most)) 2 8 (omega arith) (omega arith)
