-- The reader accepts a built file and finds in it what was laid.
-- Assumes nothing.
use Prim.Native.Nat.{ℕ, ◌%◌, ◌^◌, ◌≤◌, ◌<◌}
use native.Mathlib.Omega.{arith}
use mathlib.Core.Path.{◌≡◌, sym, ◌∙◌, ap, subst}
use mathlib.Core.List.{List, ◌++◌}
use mathlib.Core.Bool.{Bool}
use lib.ListN.{length, take}
use lib.Seq.{take-append_seam}
use borrow.Author.Tests.{le-ltb}
use Rattle.numbers.specs.Words.{Bytes, read_at, Octets}
use Rattle.numbers.specs.Result.{Result, ok, and_then, map_result, needed}
use Rattle.numbers.proofs.Bytes.{all_of, left, read_in}
use Rattle.schema.specs.Sections.{section, end, PSIN, PMAP, PSCH, sections}
use Rattle.schema.specs.Defs.{Lookup}
use Rattle.schema.specs.Psch.{Def, psch_of, schema_from, schema_of}
use Rattle.schema.proofs.Bounds.{Fits, winning_fits}
use Rattle.pso.specs.Reader as R
use Rattle.pso.specs.Answers.{data_from, data_at}
use Rattle.layout.specs.State.{Core}
use Rattle.layout.specs.Assemble.{data_of, psin_of, used_of, file_of}
use Rattle.layout.specs.Build.{Laid, packed}
use Rattle.layout.specs.Demand3.{places_from, read_back}
use Rattle.layout.specs.Always.{Tiled}
use Rattle.layout.proofs.Tiling.{tiled}
use Rattle.layout.proofs.Places.{psin_length, blocks_tiled}
use Rattle.layout.proofs.ReadDefs.{listed, apart}
use Rattle.layout.proofs.ReadSchema.{psin, pmap, psch, psin_headed, file_length, file_sections, reads_defs, reads_schema}
use Rattle.layout.proofs.ReadMap.{pmap_back, root_back}
use Rattle.layout.proofs.Blocks.{Numbered, numbered}
use Rattle.layout.proofs.Root.{some_block}
use Rattle.layout.proofs.Made.{Made}

-- PSIN, PMAP and PSCH, each once
seen : (A B C : Bytes) (n : ℕ) (bs : List R.Block) (ds : List Def) → read_at 4 B 8 ≡ n → R.pmap_of B ≡ ok bs → psch_of C ≡ ok ds
    → and_then (R.see_all (section PSIN A (section PMAP B (section PSCH C end))) R.nothing_seen) R.pso_from
    ≡ ok (record { root = n; data' = A; blocks = bs; schema = schema_from ds })
unfolding R.see_all R.see_section R.pso_from and_then map_result needed
seen A B C n bs ds q e f = rw (e, f, q)

-- a file that begins with PSIN
opens : (F : Bytes) (r : Result R.Pso) → 4 ≤ length F → read_at 4 F 0 ≡ PSIN → and_then (R.see_all (sections F) R.nothing_seen) R.pso_from ≡ r → R.parse_pso F ≡ r
unfolding R.parse_pso
opens F r h q e = rw (le-ltb (length F) 4 h, q) e

module _ (L : Lookup) (p : ℕ) (c : Core) where
  starts : length (file_of L p c) < 256 ^ 4 → read_at 4 (file_of L p c) 0 ≡ PSIN
  unfolding file_of
  starts h =
      read_in 4 (file_of L p c) (psin L p c) 0 0 (left (file_of L p c) (psin L p c) (pmap L p c ++ psch L p c) 0 (all_of (file_of L p c)))
      (omega (arith, psin_length (data_of c)))
      ∙ (psin_headed (data_of c) (omega (arith, h, file_length L p c))).named

  -- the file of a core with one block at least, 4,095 at most, and definitions that fit
  pub parses : Fits L → Tiled c → Numbered c → 1 ≤ length c.blocks → length (file_of L p c) < 256 ^ 4
      → R.parse_pso (file_of L p c) ≡ ok (record { root = p % 4096; data' = psin_of (data_of c); blocks = places_from 16 c.blocks; schema = used_of L c })
  parses f t k o h =
      opens (file_of L p c) _ (omega (arith, file_length L p c, psin_length (data_of c))) (starts h)
      (ap (λ ss. and_then (R.see_all ss R.nothing_seen) R.pso_from) (file_sections L p c h)
      ∙ seen (psin L p c) (pmap L p c) (psch L p c) (p % 4096) (places_from 16 c.blocks) (listed (used_of L c))
      (root_back (p % 4096) c.blocks o k.most k.names (omega arith))
      (pmap_back (p % 4096) c.blocks o k.most k.names (length (psin L p c)) (omega (arith, h, file_length L p c)) (blocks_tiled c t))
      (reads_defs L p c f h)
      ∙ ap (λ K. ok (record { root = p % 4096; data' = psin_of (data_of c); blocks = places_from 16 c.blocks; schema = K })) (apart (used_of L c)))

  -- of its sections only the first is named PSIN
  pub at_front : length (file_of L p c) < 256 ^ 4 → data_at (file_of L p c) ≡ 0
  unfolding data_at data_from
  at_front h = ap (λ ss. data_from ss 0 0) (file_sections L p c h)

-- of every layout whose file is not too long

module _ {alone : Bool} (T S : Bytes) (work : ℕ) (l : Laid) (m : Made alone T S work l) (o : Octets S) (h : length (packed l).file ≤ 16777216) where
  fits : Fits l.defs
  fits = subst Fits (sym m.defs_are) (winning_fits S m.schema o m.schema_is)

  -- the reader finds what was laid
  pub reads : R.parse_pso (packed l).file ≡ ok (read_back l)
  unfolding packed read_back
  reads =
      parses l.defs l.pointer l.state.core fits (tiled T S work l m) (numbered T S work l m o) (some_block T S work l m) (omega (arith, h))

  -- as a schema file it gives exactly the used definitions
  pub reads_used : schema_of (packed l).file ≡ ok (used_of l.defs l.state.core)
  unfolding packed
  reads_used = reads_schema l.defs l.pointer l.state.core fits (omega (arith, h))

  -- the data is the front of the file
  pub data_at_front_law : data_at (packed l).file ≡ 0
  unfolding packed
  data_at_front_law = at_front l.defs l.pointer l.state.core (omega (arith, h))

  pub data_first_law : take (length (read_back l).data') (packed l).file ≡ (read_back l).data'
  unfolding packed read_back file_of
  data_first_law = take-append_seam (psin_of (data_of l.state.core)) _
