-- The two ways of packing compared (`two_ways`).
-- Assumes nothing.
use Rattle.std.specs.Prelude.{Option, Some, None}
use Prim.Native.Nat.{ℕ, suc, ◌+◌, ◌*◌, ◌%◌, ◌≤◌, ◌<◌}
use native.Mathlib.Omega.{arith}
use mathlib.Core.Path.{◌≡◌, refl, sym, ◌∙◌, ap, subst}
use mathlib.Core.Logic.{◌⊎◌, inl, inr}
use mathlib.Core.Bool.{Bool, true, false, cond, ◌&&◌, ◌||◌}
use mathlib.Core.List.{List, [], ◌∷◌}
use lib.Dec.{eqb, leb, ltb}
use lib.ListN.{length}
use borrow.Author.Tests.{leb-true, leb-false, le-leb, ltb-true, ltb-false}
use Rattle.numbers.specs.Words.{Bytes}
use Rattle.numbers.specs.Result.{Result, ok, refused, and_then, needed}
use Rattle.value.specs.Rows.{row, fields_of}
use Rattle.schema.specs.Defs.{Schema, Lookup, StructDef, winning, index_entries}
use Rattle.schema.specs.Psch.{schema_of}
use Rattle.layout.specs.State.{Block, Core, State, Out, done, stop, Spot, spot, past, pointer_at, max_block, file, lies, thin, on_core, lay_item, lay_item_c, bind, after, empty_state}
use Rattle.layout.specs.Write.{write, root}
use Rattle.layout.specs.Assemble.{data_of, records_of, psch_bytes, used_of, file_of}
use Rattle.layout.specs.Build.{Laid, Built, sheet_ok, work_need, env_of, within, laid_from, layout_with, layout_of, layout, packed, fitted, build}
use Rattle.layout.specs.Always.{Tiled, total}
use Rattle.layout.specs.Ways.{RootWritten, blocks, place, Opened, Shares, OneMore, OneBlockMore, TwoWays}
use Rattle.layout.proofs.CoreOnly.{both}
use Rattle.layout.proofs.Laying.{laid_in, add_fits, add_none}
use Rattle.layout.proofs.Made.{fitted_ok}
use Rattle.layout.proofs.Tiling.{at_end, spot_case, root_tiled}
use Rattle.layout.proofs.Places.{data_total, psin_length}
use Rattle.layout.proofs.ReadSchema.{pmap_length, file_length}
use Rattle.layout.proofs.Apart.{behind_all, at_its_start, block_more}

-- where the root goes

-- in the ordinary way to a new last block: so alone
spot_same : (n need : ℕ) (bs : List Block) → (spot false n need bs).before ≡ length bs → spot false n need bs ≡ spot true n need bs
unfolding spot
spot_same n need [] h = refl
spot_same n need (b ∷ bs) h = go (eqb b.name n && leb (b.len + need) max_block) h (spot_same n need bs)
  where
    go : (t : Bool) → (cond t (at_end n need b bs) (past b (spot false n need bs))).before ≡ suc (length bs)
        → ((spot false n need bs).before ≡ length bs → spot false n need bs ≡ spot true n need bs)
        → cond t (at_end n need b bs) (past b (spot false n need bs)) ≡ past b (spot true n need bs)
    go true e f = let z : ◌≡◌ {A = ℕ} 0 1 = omega (arith, e) in absurd (omega (arith, z))
    go false e f = ap (past b) (f (omega (arith, e)))

-- to a block that stands: there are as many as before
spot_shares : (n need : ℕ) (bs : List Block) → (spot false n need bs).before < length bs → length (spot false n need bs).blocks ≡ length bs
spot_shares n need [] h = absurd (omega (arith, h))
spot_shares n need (b ∷ bs) h =
    spot_case false (λ p. p.before < length (b ∷ bs) → length p.blocks ≡ length (b ∷ bs)) n need b bs (λ g. refl)
    (λ g. ap suc (spot_shares n need bs (omega (arith, g)))) h

-- it goes no further than behind all
spot_before : (n need : ℕ) (bs : List Block) → (spot false n need bs).before ≤ length bs
spot_before n need [] = unfold spot in omega arith
spot_before n need (b ∷ bs) =
    spot_case false (λ p. p.before ≤ length (b ∷ bs)) n need b bs (omega arith) (omega (arith, spot_before n need bs))

opened_or_shares : (k m : ℕ) → k ≤ m → (k ≡ m) ⊎ (k < m)
opened_or_shares k m h = go (ltb k m) refl
  where
    go : (t : Bool) → ltb k m ≡ t → (k ≡ m) ⊎ (k < m)
    go true e = inr (ltb-true k m e)
    go false e = inl (omega (arith, h, ltb-false k m e))

-- the blocks grow by what is needed, in both ways
spot_total : (alone : Bool) (n need : ℕ) (bs : List Block) → total (spot alone n need bs).blocks ≡ total bs + need
unfolding total
spot_total alone n need [] = unfold spot in (omega arith)
spot_total alone n need (b ∷ bs) =
    spot_case alone (λ p. total p.blocks ≡ total (b ∷ bs) + need) n need b bs (omega arith) (omega (arith, spot_total alone n need bs))

-- laying

-- a number is left, and yet the root has no place
far_start : (p : Spot) → suc p.before ≤ 4095 → lies p ≡ false → 0xFFFFF < p.start
far_start p h = rw (le-leb (suc p.before) 4095 h) (λ e. leb-false p.start 0xFFFFF e)

module _ (L : Lookup) (out records n : ℕ) (bytes : Bytes) (t : State) where
  abbrev at : Bool → Spot
  at alone = spot alone n (length bytes) t.core.blocks

  abbrev laid : Bool → Laid
  laid alone = record { state = laid_in alone n bytes t; pointer = pointer_at (at alone); defs = L }

  -- what building gives, from here on
  abbrev ending : Bool → Result Built
  ending alone = and_then (laid_from L records (lay_item alone n bytes t)) (λ l. fitted out (packed l))

  too_many : (alone : Bool) → ltb records (length (thin t.events)) ≡ true → ending alone ≡ refused 14
  unfolding laid_from within and_then
  too_many alone h = go (lies (at alone)) refl
    where
      go : (b : Bool) → lies (at alone) ≡ b → ending alone ≡ refused 14
      go true e = rw (add_fits alone n bytes t e, h)
      go false e = rw (add_none alone n bytes t e, h)

  ten : (alone : Bool) → ltb records (length (thin t.events)) ≡ false → lies (at alone) ≡ false → ending alone ≡ refused 10
  unfolding laid_from within and_then
  ten alone h e = rw (add_none alone n bytes t e, h)

  fits : (alone : Bool) → ltb records (length (thin t.events)) ≡ false → lies (at alone) ≡ true → ending alone ≡ fitted out (packed (laid alone))
  unfolding laid_from within and_then
  fits alone h e = rw (add_fits alone n bytes t e, h)

-- the file's length: a row of PMAP for each block, and all else but the data's length is the same in both ways
module _ (L : Lookup) (n : ℕ) (bytes : Bytes) (t : State) where
  abbrev ended : Bool → Core
  ended alone = (laid_in alone n bytes t).core

  same_used : (alone : Bool) → used_of L (ended alone) ≡ used_of L t.core
  unfolding file used_of
  same_used alone = refl

  file_size : (alone : Bool) (p : ℕ) → Tiled (ended alone)
      → length (file_of L p (ended alone)) ≡ 32 + (total t.core.blocks + length bytes) + 16 * length (spot alone n (length bytes) t.core.blocks).blocks
      + length (psch_bytes (records_of (used_of L t.core)))
  unfolding file
  file_size alone p tiled =
      omega (
        arith,
        file_length L p (ended alone),
        psin_length (data_of (ended alone)),
        data_total (ended alone) tiled,
        spot_total alone n (length bytes) t.core.blocks,
        pmap_length (p % 4096) (ended alone).blocks,
        ap (λ K. length (psch_bytes (records_of K))) (same_used alone),
      )

  one_row_more : (p q : ℕ) → Tiled (ended false) → Tiled (ended true) → (spot false n (length bytes) t.core.blocks).before < length t.core.blocks
      → length (file_of L q (ended true)) ≡ length (file_of L p (ended false)) + 16
  one_row_more p q a b h =
      omega (arith, file_size false p a, file_size true q b, spot_shares n (length bytes) t.core.blocks h, block_more n (length bytes) t.core.blocks)

-- whether a file fits

no_answer : {A : Type 0} (n : ℕ) (a : A) → refused n ≡ ok a → ⊥
no_answer n a e = let z : ◌≡◌ {A = ℕ} 0 1 = cc in omega (arith, z)

fitted_no : (out k : ℕ) (b : Built) → fitted out b ≡ refused k → (k ≡ 13) × ((out < length b.file) ⊎ (16777216 < length b.file))
unfolding fitted
fitted_no out k b = go (ltb out (length b.file)) refl (ltb 16777216 (length b.file)) refl
  where
    go : (s : Bool) → ltb out (length b.file) ≡ s → (t : Bool) → ltb 16777216 (length b.file) ≡ t → cond (s || t) (refused 13) (ok b) ≡ refused k
        → (k ≡ 13) × ((out < length b.file) ⊎ (16777216 < length b.file))
    go true e t f g = (cc, inl (ltb-true out (length b.file) e))
    go false e true f g = (cc, inr (ltb-true 16777216 (length b.file) f))
    go false e false f g = absurd (no_answer k b (sym g))

-- the two endings

module _ {T S : Bytes} {work : ℕ} (h : RootWritten T S work) (out records : ℕ) where
  abbrev L : Lookup
  L = winning h.schema

  abbrev n : ℕ
  n = h.def.name

  abbrev end : Bool → Result Built
  end alone = ending L out records n h.bytes h.state alone

  -- both ways come to the root, and end there
  ends : (alone : Bool) → build alone T S work out records ≡ end alone
  unfolding build layout layout_of layout_with root bind after and_then needed
  ends alone = rw (h.sheet_whole, h.whole, h.defined, h.room, h.written)

  abbrev spot_of : Bool → Spot
  spot_of alone = spot alone n (length h.bytes) h.state.core.blocks

  runs : (alone : Bool) → lies (spot_of alone) ≡ true
      → root (env_of T h.schema work) alone h.def (fields_of T (row T 0)) empty_state ≡ done (pointer_at (spot_of alone)) (laid_in alone n h.bytes h.state)
  unfolding root bind after
  runs alone e = rw h.written (add_fits alone n h.bytes h.state e)

  tiles : (alone : Bool) → lies (spot_of alone) ≡ true → Tiled (ended L n h.bytes h.state alone)
  tiles alone e = root_tiled alone (env_of T h.schema work) (row T 0).a h.def (fields_of T (row T 0)) _ _ h.defined (runs alone e)

  abbrev built_as : Bool → Built
  built_as alone = packed (laid L out records n h.bytes h.state alone)

  longer : Shares h → lies (spot_of false) ≡ true → lies (spot_of true) ≡ true → length (built_as true).file ≡ length (built_as false).file + 16
  unfolding packed
  longer s a b = one_row_more L n h.bytes h.state _ _ (tiles false a) (tiles true b) s

  same_remarks : (built_as true).remarks ≡ (built_as false).remarks
  unfolding packed
  same_remarks = refl

  -- alone, 10 says that no number is left
  no_number : lies (spot_of true) ≡ false → 4095 ≤ blocks h
  no_number e = go (leb (suc (spot_of true).before) 4095) refl (leb (spot_of true).start 0xFFFFF) refl e
    where
      at : (spot_of true).before ≡ blocks h
      at = behind_all n (length h.bytes) h.state.core.blocks

      zero_start : (spot_of true).start ≡ 0
      zero_start = at_its_start n (length h.bytes) h.state.core.blocks

      go : (a : Bool) → leb (suc (spot_of true).before) 4095 ≡ a → (b : Bool) → leb (spot_of true).start 0xFFFFF ≡ b → a && b ≡ false → 4095 ≤ blocks h
      go false f b g k = omega (arith, at, leb-false (suc (spot_of true).before) 4095 f)
      go true f false g k = absurd (omega (arith, zero_start, leb-false (spot_of true).start 0xFFFFF g))
      go true f true g k = let z : ◌≡◌ {A = ℕ} 0 1 = ap (λ x. cond x 0 1) k in absurd (omega (arith, z))

  -- a way ended with the file o: there were records enough, the root had its place, the file fits
  ended_ok : (alone : Bool) (o : Built) → end alone ≡ ok o → (ltb records (length (thin h.state.events)) ≡ false) × (lies (spot_of alone) ≡ true) × (fitted out (built_as alone) ≡ ok o)
  ended_ok alone o e = go (ltb records (length (thin h.state.events))) refl (lies (spot_of alone)) refl
    where
      go : (m : Bool) → ltb records (length (thin h.state.events)) ≡ m → (a : Bool) → lies (spot_of alone) ≡ a
          → (ltb records (length (thin h.state.events)) ≡ false) × (lies (spot_of alone) ≡ true) × (fitted out (built_as alone) ≡ ok o)
      go true f a g = absurd (no_answer 14 o (sym (too_many L out records n h.bytes h.state alone f) ∙ e))
      go false f false g = absurd (no_answer 10 o (sym (ten L out records n h.bytes h.state alone f g) ∙ e))
      go false f true g = (f, g, sym (fits L out records n h.bytes h.state alone f g) ∙ e)

  -- .. with a refusal other than 10 and 13: it is 14, whichever way
  ended_14 : (alone : Bool) (k : ℕ) → end alone ≡ refused k → (k ≡ 10 → ⊥) → (k ≡ 13 → ⊥) → (other : Bool) → end other ≡ refused k
  ended_14 alone k e ten_not thirteen_not other = go (ltb records (length (thin h.state.events))) refl (lies (spot_of alone)) refl
    where
      go : (m : Bool) → ltb records (length (thin h.state.events)) ≡ m → (a : Bool) → lies (spot_of alone) ≡ a → end other ≡ refused k
      go true f a g = too_many L out records n h.bytes h.state other f ∙ sym (too_many L out records n h.bytes h.state alone f) ∙ e
      go false f false g = let z : refused 10 ≡ refused k = sym (ten L out records n h.bytes h.state alone f g) ∙ e in absurd (ten_not (cc))
      go false f true g = absurd (thirteen_not (fitted_no out k (built_as alone) (sym (fits L out records n h.bytes h.state alone f g) ∙ e)).0)

  one_block_more : Shares h → OneBlockMore h out records
  one_block_more s =
      record {
        built = λ o e. built_too o (ended_ok false o (sym (ends false) ∙ e));
        refused_too = λ alone other k e x y. ends other ∙ ended_14 alone k (sym (ends alone) ∙ e) x y other;
        built_alone = λ a k e f. full a k (ended_ok true a (sym (ends true) ∙ e)) (sym (ends false) ∙ f);
      }
    where
      built_too : (o : Built) → (ltb records (length (thin h.state.events)) ≡ false) × (lies (spot_of false) ≡ true) × (fitted out (built_as false) ≡ ok o)
          → OneMore (blocks h) out o (build true T S work out records)
      built_too o x = rw (ends true) (go (lies (spot_of true)) refl)
        where
          is : built_as false ≡ o
          is = (fitted_ok out (built_as false) o x.2).0

          left : lies (spot_of true) ≡ true → blocks h < 4095
          left b = omega (arith, behind_all n (length h.bytes) h.state.core.blocks, leb-true (suc (spot_of true).before) 4095 (both _ _ b).0)

          fit : lies (spot_of true) ≡ true → (r : Result Built) → fitted out (built_as true) ≡ r → OneMore (blocks h) out o r
          fit b (ok a) e =
              let y = fitted_ok out (built_as true) a e in
              (left b, ap (λ c. length c.file) (sym y.0) ∙ longer s x.1 b ∙ ap (λ c. length c.file + 16) is, ap (λ c. c.remarks) (sym y.0) ∙ same_remarks ∙ ap (λ c. c.remarks) is)
          fit b (refused k) e =
              let y = fitted_no out k (built_as true) e in
              inr (y.0, left b, subst (λ m. (out < m) ⊎ (16777216 < m)) (longer s x.1 b ∙ ap (λ c. length c.file + 16) is) y.1)

          go : (b : Bool) → lies (spot_of true) ≡ b → OneMore (blocks h) out o (end true)
          go false b = rw (ten L out records n h.bytes h.state true x.0 b) (inl (refl, no_number b))
          go true b = rw (fits L out records n h.bytes h.state true x.0 b) (fit b (fitted out (built_as true)) refl)

      full : (a : Built) (k : ℕ) → (ltb records (length (thin h.state.events)) ≡ false) × (lies (spot_of true) ≡ true) × (fitted out (built_as true) ≡ ok a)
          → end false ≡ refused k → (k ≡ 10) × (0xFFFFF < (place h).start)
      full a k x e = go (lies (spot_of false)) refl
        where
          go : (b : Bool) → lies (spot_of false) ≡ b → (k ≡ 10) × (0xFFFFF < (place h).start)
          go true b =
              let y = (fitted_no out k (built_as false) (sym (fits L out records n h.bytes h.state false x.0 b) ∙ e)).1 in
              let z = fitted_ok out (built_as true) a x.2 in
              absurd (too_long y (omega (arith, z.1, longer s b x.1)) (omega (arith, z.2, longer s b x.1)))
            where
              too_long : {m : ℕ} → (out < m) ⊎ (16777216 < m) → m ≤ out → m ≤ 16777216 → ⊥
              too_long (inl u) p q = omega (arith, u, p)
              too_long (inr u) p q = omega (arith, u, q)
          go false b =
              let z : refused 10 ≡ refused k = sym (ten L out records n h.bytes h.state false x.0 b) ∙ e in
              (cc, far_start (spot_of false) (omega (arith, s, behind_all n (length h.bytes) h.state.core.blocks, leb-true (suc (spot_of true).before) 4095 (both _ _ x.1).0)) b)

-- where the ordinary way opens a block for the root, or none comes to it
module _ (T S : Bytes) (work out records : ℕ) (opened : (h : RootWritten T S work) → Opened h) where
  -- what a way gives behind the writing of the root, which gave o
  abbrev from : Schema → StructDef → Bool → Out Bytes → Result Built
  from K d alone o = and_then (laid_from (winning K) records (after o (λ bs. lay_item alone d.name bs))) (λ l. fitted out (packed l))

  same_spot : (n : ℕ) (bs : Bytes) (t : State) → spot false n (length bs) t.core.blocks ≡ spot true n (length bs) t.core.blocks → lay_item true n bs t ≡ lay_item false n bs t
  unfolding lay_item on_core lay_item_c
  same_spot n bs t e = rw e

  same_end : (K : Schema) (d : StructDef) → sheet_ok T ≡ ok tt → schema_of S ≡ ok K → (winning K).struct (row T 0).a ≡ Some d → ltb work (work_need (index_entries K)) ≡ false
      → (o : Out Bytes) → write (env_of T K work) 96 32 d (fields_of T (row T 0)) empty_state ≡ o → from K d true o ≡ from K d false o
  unfolding after
  same_end K d a b c e (stop k es) f = refl
  same_end K d a b c e (done bs t) f =
      let h : RootWritten T S work = record { schema = K; def = d; bytes = bs; state = t; sheet_whole = a; whole = b; defined = c; room = e; written = f } in
      rw (same_spot d.name bs t (spot_same d.name (length bs) t.core.blocks (opened h)))

  abbrev Same : Type 0
  Same = build true T S work out records ≡ build false T S work out records

  pub same : Same
  unfolding build layout layout_of layout_with root bind and_then needed
  same = sheets (sheet_ok T) refl
    where
      rooms : (K : Schema) (d : StructDef) → sheet_ok T ≡ ok tt → schema_of S ≡ ok K → (winning K).struct (row T 0).a ≡ Some d
          → (b : Bool) → ltb work (work_need (index_entries K)) ≡ b → Same
      rooms K d a b c true e = rw (a, b, c, e)
      rooms K d a b c false e = rw (a, b, c, e) (same_end K d a b c e (write (env_of T K work) 96 32 d (fields_of T (row T 0)) empty_state) refl)

      defs : (K : Schema) → sheet_ok T ≡ ok tt → schema_of S ≡ ok K → (o : Option StructDef) → (winning K).struct (row T 0).a ≡ o → Same
      defs K a b None c = rw (a, b, c)
      defs K a b (Some d) c = rooms K d a b c (ltb work (work_need (index_entries K))) refl

      schemas : sheet_ok T ≡ ok tt → (r : Result Schema) → schema_of S ≡ r → Same
      schemas a (refused k) b = rw (a, b)
      schemas a (ok K) b = defs K a b ((winning K).struct (row T 0).a) refl

      sheets : (r : Result (Unit {0})) → sheet_ok T ≡ r → Same
      sheets (refused k) a = rw a
      sheets (ok tt) a = schemas a (schema_of S) refl

pub two_ways : TwoWays
two_ways T S work out records = record { either = λ h. opened_or_shares _ _ (spot_before h.def.name (length h.bytes) h.state.core.blocks); same = same T S work out records; one_more = λ h s. one_block_more h out records s }
