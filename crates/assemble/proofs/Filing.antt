-- The file from a work area that holds a state: its length, what the writing of each section asks, and the whole. Assumes nothing.
use Rattle.schema.specs.declared.kind.Kind.TheVariants.{Structure, Enum}
use Rattle.std.specs.Prelude.{is_some}
use Prim.Native.Nat.{ℕ, ◌+◌, ◌-◌, ◌*◌, ◌%◌, ◌^◌, ◌≤◌, ◌<◌}
use native.Mathlib.Omega.{arith}
use mathlib.Core.Path.{◌≡◌, refl, sym, ◌∙◌, ap, ap₂, subst}
use mathlib.Core.Bool.{Bool, true, false, ◌||◌}
use mathlib.Core.List.{List, [], ◌∷◌, ◌++◌, append_assoc}
use lib.Dec.{ltb, leb}
use lib.ListN.{length, take, drop, length-append, length-drop, take-append-drop}
use lib.Seq.{length-take-le}
use borrow.Author.Tests.{leb-true, leb-false, lt-ltb}
use borrow.Rule.Slice.PartMut.{put_mid}
use Rattle.numbers.specs.Words.{Bytes, words, over, Stands}
use Rattle.numbers.specs.Result.{Every}
use Rattle.numbers.proofs.Bytes.{length_words}
use Rattle.schema.specs.Defs.{Schema, winning}
use Rattle.layout.specs.State.{Block, Core, State}
use Rattle.layout.specs.Always.{total, ShortNames}
use Rattle.layout.specs.Assemble.{Records, records_of, used_of, data_of, psin_of, pmap_of, psch_bytes, file_of}
use Rattle.layout.proofs.Places.{data_total, psin_length}
use Rattle.layout.proofs.ReadSchema.{pmap_length, file_length}
use Rattle.area.specs.declared.Round.{Round}
use Rattle.area.specs.declared.Progress.{Progress}
use Rattle.area.specs.Segments.{flat}
use Rattle.area.specs.Rows.{names_in}
use Rattle.area.specs.Kept.{kept, rows_bytes}
use Rattle.area.specs.Area.{rows_of, encode, items_at, stack_at, Small}
use Rattle.area.specs.Posts.{Safe}
use Rattle.area.proofs.Flat as flat
use Rattle.area.proofs.Lending.{mid_over}
use Rattle.area.proofs.Names.{names_stand}
use Rattle.area.proofs.Over.{over_mid, over_part, over_seq, length_over}
use Rattle.area.proofs.Spots.{length_rows_of}
use Rattle.assemble.specs.Map.{Whole, places_of}
use Rattle.psch.specs.Used.{records_for, size_of, Counts}
use Rattle.assemble.specs.Packed.{Holds, Fitting, table_at}
use Rattle.psch.specs.Used.{used_records, AllStored}
use Rattle.assemble.proofs.Maps.{count_places}
use Rattle.psch.proofs.Sections.{over_none}
use Rattle.assemble.proofs.Heads.{stands_behind}
use Rattle.psch.proofs.Listing.{count_records}
use Rattle.psch.proofs.Schemas.{kind_records, used_size}
use Rattle.assemble.proofs.Holding.{each, used_records_law, structs_stored, enums_stored}

-- a length that was counted so far judges 13 as the file's length does
pub judged : (r x out : ℕ) → Counts r x → (ltb out r || ltb 16777216 r) ≡ (ltb out x || ltb 16777216 x)
judged r x out c = go (leb r 16777216) refl
  where
    or_true : (b : Bool) → (b || true) ≡ true
    or_true true = refl
    or_true false = refl

    go : (t : Bool) → leb r 16777216 ≡ t → (ltb out r || ltb 16777216 r) ≡ (ltb out x || ltb 16777216 x)
    go true q = ap (λ (n : ℕ). ltb out n || ltb 16777216 n) (c.exact (leb-true r 16777216 q))
    go false q =
        let l = leb-false r 16777216 q in
        ap (λ (b : Bool). ltb out r || b) (lt-ltb 16777216 r l) ∙ or_true (ltb out r) ∙ sym (ap (λ (b : Bool). ltb out x || b) (lt-ltb 16777216 x (c.long l)) ∙ or_true (ltb out x))

short_names : (bs : List Block) → Every Small bs → ShortNames bs
short_names [] h = tt
short_names (b ∷ bs) h = (h.0.name, short_names bs h.1)

-- a part written from its first byte on is the whole written from the part's start on
pub part_written : (w x : Bytes) (at : ℕ) → at + length x ≤ length w → put_mid at (length w - at) w (over (take (length w - at) (drop at w)) 0 x) ≡ over w at x
part_written w x at h =
    let k = length w - at in
    let P : Bytes = take at w in
    let d : Bytes = take k (drop at w) in
    let Q : Bytes = drop k (drop at w) in
    let lp : length P ≡ at = length-take-le at w (omega arith) in
    let ld : length d ≡ k = length-take-le k (drop at w) (omega (arith, length-drop at w)) in
    let sp : w ≡ P ++ (d ++ Q) = sym (take-append-drop at w) ∙ ap (λ (z : Bytes). P ++ z) (sym (take-append-drop k (drop at w))) in
    let lo : length (over d 0 x) ≡ k = length_over d 0 x (omega (arith, ld)) ∙ ld in
    let z : at ≡ length P + 0 = omega (arith, lp) in
    mid_over at k w (over d 0 x) lo ∙ ap (λ (v : Bytes). over v at (over d 0 x)) sp ∙ over_part P d Q (over d 0 x) at lp (ld ∙ sym lo)
    ∙ sym (ap₂ (λ (v : Bytes) (j : ℕ). over v j x) sp z ∙ over_mid P d Q 0 x (omega (arith, ld)))

module _ {F : Bytes} {R : Round} {p : Progress} {w : Bytes} {S : Schema} {s : State} {σ : Bytes} (h : Safe R (length w) p) (H : Holds F R p w S s σ) where
  abbrev c : Core
  c = s.core

  abbrev below : Bytes
  below = rows_bytes (kept R.skip s.events).rows

  abbrev E : ℕ
  E = 4 * R.entries

  -- what stands in the area
  held : (at : ℕ) (b : Bytes) → Stands (flat ((32768, rows_of c.blocks) ∷ (16384, below) ∷ (16384, []) ∷ (E, words c.structs) ∷ (E, words c.enums) ∷ (R.cap, encode c.items) ∷ (length w - stack_at R, σ) ∷ [])) at b
      → Stands w at b
  held at b t = subst (λ (x : Bytes). Stands x at b) (sym H.rep.work) t

  pub rows_stand : Stands w 0 (rows_of c.blocks)
  rows_stand =
      held 0 (rows_of c.blocks)
      (flat.holds [] ((16384, below) ∷ (16384, []) ∷ (E, words c.structs) ∷ (E, words c.enums) ∷ (R.cap, encode c.items) ∷ (length w - stack_at R, σ) ∷ [])
      32768 (rows_of c.blocks) 0 (omega (arith, length_rows_of c.blocks, H.rep.blocks, h.blocks)) refl)

  structs_stand : Stands w 65536 (words c.structs)
  structs_stand =
      held 65536 (words c.structs)
      (flat.holds ((32768, rows_of c.blocks) ∷ (16384, below) ∷ (16384, []) ∷ []) ((E, words c.enums) ∷ (R.cap, encode c.items) ∷ (length w - stack_at R, σ) ∷ [])
      E (words c.structs) 65536 (omega (arith, length_words c.structs, H.rep.structs, h.structs)) (omega arith))

  enums_stand : Stands w (65536 + E) (words c.enums)
  enums_stand =
      held (65536 + E) (words c.enums)
      (flat.holds ((32768, rows_of c.blocks) ∷ (16384, below) ∷ (16384, []) ∷ (E, words c.structs) ∷ []) ((R.cap, encode c.items) ∷ (length w - stack_at R, σ) ∷ [])
      E (words c.enums) (65536 + E) (omega (arith, length_words c.enums, H.rep.enums, h.enums)) (omega arith))

  items_stand_law : Stands w (items_at R) (encode c.items)
  items_stand_law =
      held (items_at R) (encode c.items)
      (flat.holds ((32768, rows_of c.blocks) ∷ (16384, below) ∷ (16384, []) ∷ (E, words c.structs) ∷ (E, words c.enums) ∷ []) ((length w - stack_at R, σ) ∷ [])
      R.cap (encode c.items) (items_at R) (omega (arith, H.rep.end, h.items, h.within)) (omega arith))

  -- the used names, with or without the table of places
  module _ (t w' : Bytes) (lt : length t ≤ 4 * p.blocks) (e : w' ≡ over w table_at t) where
    stays : (at : ℕ) (b : Bytes) → 65536 ≤ at → Stands w at b → Stands w' at b
    stays at b g st = subst (λ (x : Bytes). Stands x at b) (sym e) (stands_behind w b at table_at t (omega (arith, g, lt, h.blocks)) st)

    struct_names_law : names_in w' 65536 p.structs ≡ c.structs
    struct_names_law = ap (names_in w' 65536) H.rep.structs ∙ names_stand w' 65536 c.structs H.rep.struct_names (stays 65536 (words c.structs) (omega arith) structs_stand)

    enum_names_law : names_in w' (65536 + E) p.enums ≡ c.enums
    enum_names_law = ap (names_in w' (65536 + E)) H.rep.enums ∙ names_stand w' (65536 + E) c.enums H.rep.enum_names (stays (65536 + E) (words c.enums) (omega arith) enums_stand)

    structs_known_law : Every (λ n. is_some ((winning S).struct n) ≡ true) c.structs
    structs_known_law = each (λ n. is_some ((winning S).struct n) ≡ true) c.structs H.rep.known.structs_known

    enums_known_law : Every (λ n. is_some ((winning S).enum n) ≡ true) c.enums
    enums_known_law = each (λ n. is_some ((winning S).enum n) ≡ true) c.enums H.rep.known.enums_known

    pub records_made : used_records F R p w' ≡ records_of (used_of (winning S) c)
    records_made = ap₂ (λ (x y : List ℕ). records_for F Structure x ++ records_for F Enum y) struct_names_law enum_names_law ∙ sym (used_records_law F S H.schema c structs_known_law enums_known_law)

    pub records_stored : AllStored F R p w'
    records_stored =
        record {
          structs = structs_stored F S H.schema (names_in w' 65536 p.structs) (subst (Every (λ n. is_some ((winning S).struct n) ≡ true)) (sym struct_names_law) structs_known_law);
          enums = enums_stored F S H.schema (names_in w' (65536 + E) p.enums) (subst (Every (λ n. is_some ((winning S).enum n) ≡ true)) (sym enum_names_law) enums_known_law);
        }

  -- lengths

  pub file_size : (pointer : ℕ) → length (file_of (winning S) pointer c) ≡ 16 + total c.blocks + (16 + 16 * p.blocks) + length (psch_bytes (records_of (used_of (winning S) c)))
  file_size pointer =
      omega (arith, file_length (winning S) pointer c, psin_length (data_of c), data_total c H.tiled, pmap_length (pointer % 4096) c.blocks, H.rep.blocks)

  file_sum : (pointer : ℕ)
      → length (file_of (winning S) pointer c) ≡ 16 + total c.blocks + (16 + 16 * p.blocks) + 12 + size_of (kind_records Structure F R p w) + size_of (kind_records Enum F R p w)
  file_sum pointer =
      let r = ap (λ (x : Records). length (psch_bytes x)) (records_made [] w (omega arith) (sym (over_none w table_at))) in
      omega (arith, file_size pointer, r, used_size F R p w, count_records F w Structure 65536 p.structs, count_records F w Enum (65536 + 4 * R.entries) p.enums)

  pub counted : (pointer size sum sum' : ℕ) → size ≡ total c.blocks → Counts sum (16 + size + (16 + 16 * p.blocks) + 12 + size_of (kind_records Structure F R p w))
      → Counts sum' (sum + size_of (kind_records Enum F R p w)) → Counts sum' (length (file_of (winning S) pointer c))
  counted pointer size sum sum' ed a b = go (leb sum 16777216) refl
    where
      go : (t : Bool) → leb sum 16777216 ≡ t → Counts sum' (length (file_of (winning S) pointer c))
      go true q =
          let e = a.exact (leb-true sum 16777216 q) in
          record { exact = λ g. omega (arith, b.exact g, e, ed, file_sum pointer); long = λ g. omega (arith, b.long g, e, ed, file_sum pointer) }
      go false q =
          let l = leb-false sum 16777216 q in
          let e = a.long l in
          record { exact = λ g. absurd (omega (arith, b.exact g, l, g)); long = λ g. omega (arith, e, ed, file_sum pointer) }

-- the sections
module _ {F : Bytes} {R : Round} {p : Progress} {w : Bytes} {pointer room : ℕ} {S : Schema} {s : State} {σ : Bytes} (h : Safe R (length w) p) (f : Fitting F R p w pointer room S s σ) where
  pub whole : Whole R p w room s.core
  whole =
      record {
        tiled = f.holds.tiled;
        rows = rows_stand h f.holds;
        many = sym f.holds.rep.blocks;
        few = h.blocks;
        names = short_names s.core.blocks f.holds.rep.small;
        small = omega (arith, file_size h f.holds pointer, f.small);
        items = items_stand_law h f.holds;
        ends = sym f.holds.rep.end;
        fits = omega (arith, file_size h f.holds pointer, f.fits, data_total s.core f.holds.tiled);
      }

  module _ (o : Bytes) {o1 w' : Bytes} {end : ℕ} (eo : o1 ≡ over o 0 (psin_of (data_of s.core) ++ pmap_of (pointer % 4096) s.core.blocks)) (ew : w' ≡ over w table_at (words (places_of 16 s.core.blocks)))
      (ee : end ≡ 16 + length (data_of s.core) + (16 + 16 * p.blocks)) where
    few_places : length (words (places_of 16 s.core.blocks)) ≤ 4 * p.blocks
    few_places = omega (arith, length_words (places_of 16 s.core.blocks), count_places 16 s.core.blocks, f.holds.rep.blocks)

    made : used_records F R p w' ≡ records_of (used_of (winning S) s.core)
    made = records_made h f.holds (words (places_of 16 s.core.blocks)) w' few_places ew

    pub stored : AllStored F R p w'
    stored = records_stored h f.holds (words (places_of 16 s.core.blocks)) w' few_places ew

    -- PSCH fits behind the two others
    pub rest_fits : end + length (psch_bytes (used_records F R p w')) ≤ room
    rest_fits = omega (arith, ap (λ (x : Records). length (psch_bytes x)) made, ee, data_total s.core f.holds.tiled, file_size h f.holds pointer, f.fits)

    pub rest_small : length (psch_bytes (used_records F R p w')) < 256 ^ 4
    rest_small = omega (arith, ap (λ (x : Records). length (psch_bytes x)) made, file_size h f.holds pointer, f.small)

    pub file_put : (o2 : Bytes) → room ≡ length o → length o1 ≡ length o → o2 ≡ put_mid end (length o1 - end) o1 (over (take (length o1 - end) (drop end o1)) 0 (psch_bytes (used_records F R p w')))
        → o2 ≡ over o 0 (file_of (winning S) pointer s.core)
    unfolding file_of
    file_put o2 er lo e =
        let A : Bytes = psin_of (data_of s.core) in
        let B : Bytes = pmap_of (pointer % 4096) s.core.blocks in
        let C : Bytes = psch_bytes (records_of (used_of (winning S) s.core)) in
        let la : end ≡ 0 + length (A ++ B) = omega (arith, ee, length-append A B, psin_length (data_of s.core), pmap_length (pointer % 4096) s.core.blocks, f.holds.rep.blocks) in
        e ∙ part_written o1 (psch_bytes (used_records F R p w')) end (omega (arith, rest_fits, er, lo))
        ∙ ap₂ (λ (x : Bytes) (r : Records). over x end (psch_bytes r)) eo made ∙ ap (λ (k : ℕ). over (over o 0 (A ++ B)) k C) la
        ∙ over_seq o 0 (A ++ B) C (omega (arith, la, rest_fits, er)) ∙ ap (over o 0) (append_assoc A B C)
