-- The sections of a written file, and the schema that it carries: what the rebuild reads.
-- Assumes nothing.
use Rattle.std.specs.Prelude.{Option, Some, None}
use Prim.Native.Nat.{ℕ, ◌+◌, ◌*◌, ◌%◌, ◌^◌, ◌<◌}
use native.Mathlib.Omega.{arith}
use mathlib.Core.Path.{◌≡◌, refl, sym, ◌∙◌, ap}
use mathlib.Core.List.{List, [], ◌∷◌, ◌++◌, append-nil}
use lib.ListN.{length, get_or, length-append}
use Rattle.numbers.specs.Words.{Bytes, read_at, bytes_of, words, Stands}
use Rattle.numbers.specs.Result.{ok, and_then, map_result, Every}
use Rattle.numbers.proofs.Bytes.{all_of, left, next, word_at, length_bytes, length_words}
use Rattle.schema.specs.Sections.{section, end, PSIN, PMAP, PSCH, sections}
use Rattle.schema.specs.Defs.{Lookup}
use Rattle.schema.specs.Psch.{Def, psch_of, section_defs, defs_of, schema_from, schema_of}
use Rattle.schema.proofs.Three.{Headed, three}
use Rattle.schema.proofs.Bounds.{Fits, SchemaFits, StructFits, EnumFits}
use Rattle.layout.specs.State.{Block, Core}
use Rattle.layout.specs.Assemble.{data_of, psin_of, block_rows, pmap_of, records_of, psch_bytes, found, cons_option, used_of, file_of}
use Rattle.layout.proofs.Places.{psin_length}
use Rattle.layout.proofs.ReadDefs.{psch_headed, psch_reads, listed, apart}

-- PSIN

module _ (b : Bytes) where
  abbrev psin_heads : List ℕ
  psin_heads = PSIN ∷ (16 + length b) ∷ 0 ∷ 0 ∷ []

  pub psin_headed : length (psin_of b) < 256 ^ 4 → Headed PSIN (psin_of b)
  unfolding psin_of
  psin_headed h =
      record { named = word 0 0 (omega arith) (omega arith); measured = word 1 4 (omega arith) (omega arith) ∙ sym (psin_length b); eight = omega (arith, psin_length b) }
    where
      word : (k j : ℕ) → k < 4 → 0 + 4 * k ≡ j → read_at 4 (psin_of b) j ≡ get_or psin_heads k 0
      word k j g q =
          word_at (psin_of b) 0 psin_heads (omega arith, (omega (arith, h, psin_length b), (omega arith, (omega arith, tt))))
          (left (psin_of b) (words psin_heads) b 0 (all_of (psin_of b))) k j g q

-- PMAP

pub rows_length : (at : ℕ) (bs : List Block) → length (block_rows at bs) ≡ 16 * length bs
unfolding block_rows
rows_length at [] = refl
rows_length at (b ∷ bs) = rw (length-append, length_words, rows_length (at + b.len) bs) (omega arith)

module _ (root : ℕ) (bs : List Block) where
  abbrev pmap_heads : List ℕ
  pmap_heads = PMAP ∷ (16 + 16 * length bs) ∷ root ∷ []

  abbrev pmap_rest : Bytes
  pmap_rest = bytes_of 2 (length bs) ++ (bytes_of 2 0x7070 ++ block_rows 16 bs)

  pub pmap_length : length (pmap_of root bs) ≡ 16 + 16 * length bs
  unfolding pmap_of
  pmap_length = rw (length-append, length-append, length-append, length_words, length_bytes 2 (length bs), length_bytes 2 0x7070, rows_length 16 bs) (omega arith)

  pub pmap_word : root < 256 ^ 4 → length (pmap_of root bs) < 256 ^ 4 → (k j : ℕ) → k < 3 → 0 + 4 * k ≡ j → read_at 4 (pmap_of root bs) j ≡ get_or pmap_heads k 0
  unfolding pmap_of
  pmap_word r h k j g q =
      word_at (pmap_of root bs) 0 pmap_heads (omega arith, (omega (arith, h, pmap_length), (r, tt)))
      (left (pmap_of root bs) (words pmap_heads) pmap_rest 0 (all_of (pmap_of root bs))) k j g q

  pub pmap_behind : Stands (pmap_of root bs) 12 pmap_rest
  unfolding pmap_of
  pmap_behind = next (pmap_of root bs) (words pmap_heads) pmap_rest 0 12 12 (length_words pmap_heads) refl (all_of (pmap_of root bs))

  pub pmap_headed : root < 256 ^ 4 → length (pmap_of root bs) < 256 ^ 4 → Headed PMAP (pmap_of root bs)
  pmap_headed r h =
      record {
        named = pmap_word r h 0 0 (omega arith) (omega arith);
        measured = pmap_word r h 1 4 (omega arith) (omega arith) ∙ sym pmap_length;
        eight = omega (arith, pmap_length);
      }

-- the file

found_fits : {A : Type 0} (Q : A → Type 0) (f : ℕ → Option A) → ((n : ℕ) (d : A) → f n ≡ Some d → Q d) → (ns : List ℕ) → Every Q (found f ns)
unfolding found
found_fits Q f h [] = tt
found_fits {A = A} Q f h (n ∷ ns) = go (f n) refl (found_fits Q f h ns)
  where
    go : (o : Option A) → f n ≡ o → Every Q (found f ns) → Every Q (cons_option o (found f ns))
    go None e r = r
    go (Some d) e r = (h n d e, r)

-- the used definitions fit
pub used_fits : (L : Lookup) (c : Core) → Fits L → SchemaFits (used_of L c)
unfolding used_of
used_fits L c f =
    record { structs = found_fits StructFits L.struct f.structs c.structs; enums = found_fits EnumFits L.enum f.enums c.enums }

module _ (L : Lookup) (p : ℕ) (c : Core) where
  abbrev pub psin : Bytes
  psin = psin_of (data_of c)

  abbrev pub pmap : Bytes
  pmap = pmap_of (p % 4096) c.blocks

  abbrev pub psch : Bytes
  psch = psch_bytes (records_of (used_of L c))

  pub file_length : length (file_of L p c) ≡ length psin + (length pmap + length psch)
  unfolding file_of
  file_length = length-append psin (pmap ++ psch) ∙ ap (λ k. length psin + k) (length-append pmap psch)

  -- a file below 4 GiB has the sections PSIN, PMAP and PSCH as they were written, and nothing behind them
  pub file_sections : length (file_of L p c) < 256 ^ 4 → sections (file_of L p c) ≡ section PSIN psin (section PMAP pmap (section PSCH psch end))
  unfolding file_of
  file_sections h =
      three psin pmap psch PSIN PMAP PSCH
      (psin_headed (data_of c) (omega (arith, h, file_length)))
      (pmap_headed (p % 4096) c.blocks (omega arith) (omega (arith, h, file_length)))
      (psch_headed (records_of (used_of L c)) (omega (arith, h, file_length)))

  -- the file's definitions are the used ones, structures then enums
  pub reads_defs : Fits L → length (file_of L p c) < 256 ^ 4 → psch_of psch ≡ ok (listed (used_of L c))
  reads_defs f h = psch_reads (used_of L c) (used_fits L c f) (omega (arith, h, file_length))

only_psch : (A B C : Bytes) (ds : List Def) → psch_of C ≡ ok ds → defs_of (section PSIN A (section PMAP B (section PSCH C end))) ≡ ok ds
unfolding defs_of section_defs and_then map_result
only_psch A B C ds e = rw (e, append-nil)

-- "F as schema file" gives exactly the used definitions
pub reads_schema : (L : Lookup) (p : ℕ) (c : Core) → Fits L → length (file_of L p c) < 256 ^ 4 → schema_of (file_of L p c) ≡ ok (used_of L c)
unfolding schema_of map_result
reads_schema L p c f h =
    ap (λ ss. map_result schema_from (defs_of ss)) (file_sections L p c h)
    ∙ ap (map_result schema_from) (only_psch (psin L p c) (pmap L p c) (psch L p c) (listed (used_of L c)) (reads_defs L p c f h))
    ∙ ap ok (apart (used_of L c))
