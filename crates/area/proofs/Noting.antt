-- A remark is met: the four ways of `note`. Assumes nothing.
use mathlib.Core.Path.{◌≡◌, refl, sym, ap, ◌∙◌}
use mathlib.Core.Bool.{true, false, ◌||◌}
use mathlib.Core.List.{[], ◌∷◌, ◌++◌, append-nil}
use Prim.Native.Nat.{ℕ, ◌+◌, ◌-◌, ◌*◌, ◌≤◌, ◌<◌}
use native.Mathlib.Omega.{arith}
use lib.Dec.{ltb}
use lib.ListN.{length, drop, length-append, drop_of_length-le}
use lib.Seq.{drop_at}
use borrow.Author.Tests.{lt-ltb, le-ltb}
use Rattle.numbers.specs.Words.{Bytes, words, over, Stands}
use Rattle.numbers.specs.Result.{Every}
use Rattle.numbers.proofs.Bytes.{length_words, every_append}
use Rattle.numbers.proofs.Laws.{over_nil}
use Rattle.schema.specs.Defs.{Schema}
use Rattle.layout.specs.State.{Remark, State, remarked, with_remark}
use Rattle.area.specs.declared.Round.{Round}
use Rattle.area.specs.declared.Progress.{Progress}
use Rattle.area.specs.Segments.{flat}
use Rattle.area.specs.Kept.{Kept, meet, kept, max_rows, row_bytes, rows_bytes}
use Rattle.area.specs.Rows.{rows_in, Tiny}
use Rattle.area.specs.Area.{rows_of, encode, stack_at, segments, Rep, with_notes}
use Rattle.area.specs.Posts.{Safe, keeps_in, noted_in, Notes}
use Rattle.area.proofs.Flat as flat
use Rattle.area.proofs.Remarks.{kept_snoc, length_rows, rows_stand, rows_snoc, length_rows_in}

module _ (R : Round) (n : ℕ) (p : Progress) (w : Bytes) (r : Remark) (safe : Safe R n p) where
  -- what is kept, as the numbers say it
  rep_noted : (S : Schema) (s : State) (σ : Bytes) (w' : Bytes) (rows seen next : ℕ) → Rep S R n s σ p w → (K : Kept) → meet R.skip (kept R.skip s.events) r ≡ K
      → rows ≡ length K.rows → seen ≡ K.seen → next ≡ K.next → Every Tiny K.rows → w' ≡ flat (segments R n s.core K.rows σ)
      → Rep S R n (with_remark r s) σ (with_notes p rows seen next) w'
  rep_noted S s σ w' rows seen next h K e er es en t f =
      let k : kept R.skip (s.events ++ (r ∷ [])) ≡ K = kept_snoc R.skip s.events r ∙ e in
      record {
        work = rw k f;
        blocks = h.blocks;
        rows = rw k er;
        structs = h.structs;
        enums = h.enums;
        end = h.end;
        top = h.top;
        charge = h.charge;
        seen = rw k es;
        next = rw k en;
        tiny = rw k t;
        small = h.small;
        struct_names = h.struct_names;
        enum_names = h.enum_names;
        known = h.known;
        entries = h.entries;
      }

  notes : (w' : Bytes) (rows next : ℕ) → rows ≤ 1024 → next ≤ p.seen + 1
      → ((S : Schema) (s : State) (σ : Bytes) → Rep S R n s σ p w → Rep S R n (with_remark r s) σ (with_notes p rows (p.seen + 1) next) w')
      → (with_notes p rows (p.seen + 1) next, w') ≡ noted_in R p w r → Notes R n p w r (with_notes p rows (p.seen + 1) next) w'
  notes w' rows next h l f e =
      record { blocks = refl; structs = refl; enums = refl; end = refl; top = refl; charge = refl; seen = refl; next = l; rows = h; says = f; exact = e }

  -- no row more, and one row more
  same_rows : (next seen : ℕ) → (with_notes p p.rows seen next, w) ≡ keeps_in p w (record { rows = rows_in w 32768 p.rows; next = next; seen = seen })
  unfolding rows_bytes
  same_rows next seen =
      let l = length_rows_in w 32768 p.rows in
      let d : drop p.rows (rows_in w 32768 p.rows) ≡ [] = drop_of_length-le (rows_in w 32768 p.rows) {i = p.rows} (omega arith) in
      rw (l, d, over_nil)

  one_row : (next seen : ℕ) → (with_notes p (p.rows + 1) seen next, over w (32768 + 16 * p.rows) (row_bytes r))
      ≡ keeps_in p w (record { rows = rows_in w 32768 p.rows ++ (r ∷ []); next = next; seen = seen })
  unfolding rows_bytes
  one_row next seen =
      let l = length_rows_in w 32768 p.rows in
      let m : length (rows_in w 32768 p.rows ++ (r ∷ [])) ≡ p.rows + 1 = length-append (rows_in w 32768 p.rows) (r ∷ []) ∙ omega arith in
      let d : drop p.rows (rows_in w 32768 p.rows ++ (r ∷ [])) ≡ r ∷ [] = drop_at (rows_in w 32768 p.rows) (r ∷ []) p.rows l in
      rw (m, d, append-nil)

  -- the rows were full before
  pub note_late : p.next < p.seen → Notes R n p w r (with_notes p p.rows (p.seen + 1) p.next) w
  unfolding meet noted_in
  note_late h = notes w p.rows p.next safe.rows (omega arith) says (rw (lt-ltb p.next p.seen h) (same_rows p.next (p.seen + 1)))
    where
      says : (S : Schema) (s : State) (σ : Bytes) → Rep S R n s σ p w → Rep S R n (with_remark r s) σ (with_notes p p.rows (p.seen + 1) p.next) w
      says S s σ q =
          let k = kept R.skip s.events in
          let t : ltb k.next k.seen ≡ true = lt-ltb k.next k.seen (omega (arith, q.next, q.seen)) in
          rep_noted S s σ w p.rows (p.seen + 1) p.next q (record { rows = k.rows; next = k.next; seen = k.seen + 1 }) (rw t) q.rows (ap (λ (x : ℕ). x + 1) q.seen) q.next q.tiny q.work

  -- the rows that stand there
  pub rows_are : (S : Schema) (s : State) (σ : Bytes) → Rep S R n s σ p w → rows_in w 32768 p.rows ≡ (kept R.skip s.events).rows
  rows_are S s σ q =
      let rs = (kept R.skip s.events).rows in
      let st : Stands w 32768 (rows_bytes rs) =
      rw q.work
      (flat.holds ((32768, rows_of s.core.blocks) ∷ [])
      ((16384, []) ∷ (4 * R.entries, words s.core.structs) ∷ (4 * R.entries, words s.core.enums) ∷ (R.cap, encode s.core.items) ∷ (n - stack_at R, σ) ∷ [])
      16384 (rows_bytes rs) 32768 (omega (arith, length_rows rs, q.rows, safe.rows)) (omega arith)) in
      ap (rows_in w 32768) q.rows ∙ rows_stand w 32768 rs q.tiny st

  -- it belongs to an earlier round, or stands there
  pub note_known : p.seen ≤ p.next → ltb p.seen R.skip || remarked r (rows_in w 32768 p.rows) ≡ true
      → Notes R n p w r (with_notes p p.rows (p.seen + 1) (p.next + 1)) w
  unfolding meet noted_in
  note_known h e = notes w p.rows (p.next + 1) safe.rows (omega (arith, safe.next)) says (rw (le-ltb p.next p.seen h, e) (same_rows (p.next + 1) (p.seen + 1)))
    where
      says : (S : Schema) (s : State) (σ : Bytes) → Rep S R n s σ p w → Rep S R n (with_remark r s) σ (with_notes p p.rows (p.seen + 1) (p.next + 1)) w
      says S s σ q =
          let k = kept R.skip s.events in
          let t : ltb k.next k.seen ≡ false = le-ltb k.next k.seen (omega (arith, q.next, q.seen)) in
          let u : ltb k.seen R.skip || remarked r k.rows ≡ true = rw (← q.seen, ← (rows_are S s σ q)) e in
          rep_noted S s σ w p.rows (p.seen + 1) (p.next + 1) q (record { rows = k.rows; next = k.next + 1; seen = k.seen + 1 }) (rw (t, u)) q.rows
          (ap (λ (x : ℕ). x + 1) q.seen) (ap (λ (x : ℕ). x + 1) q.next) q.tiny q.work

  -- it is new, and there is a row for it
  pub note_new : p.seen ≤ p.next → ltb p.seen R.skip || remarked r (rows_in w 32768 p.rows) ≡ false → p.rows < 1024 → Tiny r
      → Notes R n p w r (with_notes p (p.rows + 1) (p.seen + 1) (p.next + 1)) (over w (32768 + 16 * p.rows) (row_bytes r))
  unfolding meet noted_in
  note_new h e l y =
      notes (over w (32768 + 16 * p.rows) (row_bytes r)) (p.rows + 1) (p.next + 1) (omega arith) (omega (arith, safe.next)) says
      (rw (le-ltb p.next p.seen h, e, length_rows_in w 32768 p.rows, lt-ltb p.rows max_rows l) (one_row (p.next + 1) (p.seen + 1)))
    where
      says : (S : Schema) (s : State) (σ : Bytes) → Rep S R n s σ p w
          → Rep S R n (with_remark r s) σ (with_notes p (p.rows + 1) (p.seen + 1) (p.next + 1)) (over w (32768 + 16 * p.rows) (row_bytes r))
      says S s σ q =
          let k = kept R.skip s.events in
          let t : ltb k.next k.seen ≡ false = le-ltb k.next k.seen (omega (arith, q.next, q.seen)) in
          let u : ltb k.seen R.skip || remarked r k.rows ≡ false = rw (← q.seen, ← (rows_are S s σ q)) e in
          let v : ltb (length k.rows) max_rows ≡ true = lt-ltb (length k.rows) max_rows (omega (arith, q.rows)) in
          let m : length (row_bytes r) ≡ 16 = length_words (r.kind ∷ r.structure ∷ r.member ∷ r.detail ∷ []) in
          rep_noted S s σ (over w (32768 + 16 * p.rows) (row_bytes r)) (p.rows + 1) (p.seen + 1) (p.next + 1) q
          (record { rows = k.rows ++ (r ∷ []); next = k.next + 1; seen = k.seen + 1 }) (rw (t, u, v)) (omega (arith, q.rows, length-append k.rows (r ∷ [])))
          (ap (λ (x : ℕ). x + 1) q.seen) (ap (λ (x : ℕ). x + 1) q.next) (every_append Tiny k.rows (r ∷ []) q.tiny (y, tt))
          (ap (λ (x : Bytes). over x (32768 + 16 * p.rows) (row_bytes r)) q.work
          ∙ flat.append ((32768, rows_of s.core.blocks) ∷ [])
          ((16384, []) ∷ (4 * R.entries, words s.core.structs) ∷ (4 * R.entries, words s.core.enums) ∷ (R.cap, encode s.core.items) ∷ (n - stack_at R, σ) ∷ [])
          16384 (rows_bytes k.rows) (row_bytes r) (32768 + 16 * p.rows) (omega (arith, length_rows k.rows, q.rows)) (omega (arith, length_rows k.rows, q.rows))
          ∙ ap (λ (x : Bytes). flat ((32768, rows_of s.core.blocks) ∷ (16384, x) ∷ (16384, []) ∷ (4 * R.entries, words s.core.structs) ∷ (4 * R.entries, words s.core.enums) ∷ (R.cap, encode s.core.items) ∷ (n - stack_at R, σ) ∷ [])) (sym (rows_snoc k.rows r)))

  -- it is new, and the rows are full
  pub note_full : p.seen ≤ p.next → ltb p.seen R.skip || remarked r (rows_in w 32768 p.rows) ≡ false → 1024 ≤ p.rows
      → Notes R n p w r (with_notes p p.rows (p.seen + 1) p.next) w
  unfolding meet noted_in
  note_full h e l =
      notes w p.rows p.next safe.rows (omega (arith, safe.next)) says
      (rw (le-ltb p.next p.seen h, e, length_rows_in w 32768 p.rows, le-ltb p.rows max_rows l) (same_rows p.next (p.seen + 1)))
    where
      says : (S : Schema) (s : State) (σ : Bytes) → Rep S R n s σ p w → Rep S R n (with_remark r s) σ (with_notes p p.rows (p.seen + 1) p.next) w
      says S s σ q =
          let k = kept R.skip s.events in
          let t : ltb k.next k.seen ≡ false = le-ltb k.next k.seen (omega (arith, q.next, q.seen)) in
          let u : ltb k.seen R.skip || remarked r k.rows ≡ false = rw (← q.seen, ← (rows_are S s σ q)) e in
          let v : ltb (length k.rows) max_rows ≡ false = le-ltb (length k.rows) max_rows (omega (arith, q.rows)) in
          rep_noted S s σ w p.rows (p.seen + 1) p.next q (record { rows = k.rows; next = k.next; seen = k.seen + 1 }) (rw (t, u, v)) q.rows (ap (λ (x : ℕ). x + 1) q.seen) q.next q.tiny q.work
