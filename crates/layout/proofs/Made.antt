-- What a layout and a building are made of, both ways: `made` and `makes`, `built` and `builds`. What the primitive actions keep holds of every layout: `reached`.
-- Assumes nothing.
use Rattle.std.specs.Prelude.{Option, Some, None}
use Prim.Native.Nat.{ℕ, ◌≤◌, ◌<◌}
use native.Mathlib.Omega.{arith}
use mathlib.Core.Path.{◌≡◌, refl, sym, ap, subst}
use mathlib.Core.Bool.{Bool, true, false, cond, ◌||◌}
use mathlib.Core.List.{List}
use lib.Dec.{ltb}
use lib.ListN.{length}
use borrow.Author.Tests.{ltb-false, le-ltb, lt-ltb}
use Rattle.numbers.specs.Words.{Bytes}
use Rattle.numbers.specs.Result.{Result, ok, refused, and_then, needed}
use Rattle.value.specs.Rows.{row, fields_of}
use Rattle.schema.specs.Defs.{Schema, Lookup, StructDef, winning, index_entries}
use Rattle.schema.specs.Psch.{schema_of}
use Rattle.layout.specs.State.{Out, done, stop, Remark, thin, empty_state}
use Rattle.layout.specs.Write.{root}
pub use Rattle.layout.specs.Build.{env_of}
use Rattle.layout.specs.Build.{Laid, Built, sheet_ok, work_need, within, laid_from, layout_with, layout_of, layout, packed, fitted, build}
use Rattle.layout.proofs.Keep.{Claim, Okay, Keeps}
use Rattle.layout.proofs.Writers.{Prims, k_root}

-- an answer comes from an answer before it

pub then_ok : {A B : Type 0} (r : Result A) (k : A → Result B) (b : B) → and_then r k ≡ ok b → (a : A) × (r ≡ ok a) × (k a ≡ ok b)
unfolding and_then
then_ok (ok a) k b e = (a, refl, e)
then_ok (refused n) k b e = let z : ◌≡◌ {A = ℕ} 0 1 = cc in absurd (omega arith)

needed_ok : {A : Type 0} (o : Option A) (n : ℕ) (a : A) → needed o n ≡ ok a → o ≡ Some a
unfolding needed
needed_ok (Some b) n a e = cc
needed_ok None n a e = let z : ◌≡◌ {A = ℕ} 0 1 = cc in absurd (omega arith)

within_ok : {A : Type 0} (records : ℕ) (es : List Remark) (r : Result A) (a : A) → within records es r ≡ ok a → r ≡ ok a
unfolding within
within_ok {A = A} records es r a e = go (ltb records (length (thin es))) e
  where
    go : (b : Bool) → cond b (refused 14) r ≡ ok a → r ≡ ok a
    go true f = let z : ◌≡◌ {A = ℕ} 0 1 = cc in absurd (omega arith)
    go false f = f

-- the layout

-- the layout l of the sheet T and the schema file S: the definitions, the root's definition, the end that writing came to
pub record Made (alone : Bool) (T S : Bytes) (work : ℕ) (l : Laid) : Type 0 where
  pub schema : Schema
  pub def : StructDef
  pub sheet_ok_law : sheet_ok T ≡ ok tt
  pub schema_is : schema_of S ≡ ok schema
  pub defs_are : l.defs ≡ winning schema
  pub def_is : (winning schema).struct (row T 0).a ≡ Some def
  pub room : ltb work (work_need (index_entries schema)) ≡ false
  pub ran : root (env_of T schema work) alone def (fields_of T (row T 0)) empty_state ≡ done l.pointer l.state

record LaidBy (L : Lookup) (o : Out ℕ) (l : Laid) : Type 0 where
  is_done_law : o ≡ done l.pointer l.state
  is_defs : l.defs ≡ L

laid_by : (L : Lookup) (records : ℕ) (o : Out ℕ) (l : Laid) → laid_from L records o ≡ ok l → LaidBy L o l
unfolding laid_from
laid_by L records (stop n es) l e = let q = within_ok records es _ l e in let z : ◌≡◌ {A = ℕ} 0 1 = cc in absurd (omega arith)
laid_by L records (done p s) l e = subst (LaidBy L (done p s)) (ap laid_of (within_ok records s.events _ l e)) (record { is_done_law = refl; is_defs = refl })
  where
    laid_of : Result Laid → Laid
    laid_of (ok m) = m
    laid_of (refused n) = l

pub made : {alone : Bool} (T S : Bytes) (work records : ℕ) (l : Laid) → layout alone T S work records ≡ ok l → Made alone T S work l
unfolding layout layout_of layout_with
made {alone} T S work records l e =
    let (u, a, f) = then_ok (sheet_ok T) _ l e in
    let (K, b, g) = then_ok (schema_of S) _ l f in
    let (d, c, h) = then_ok (needed ((winning K).struct (row T 0).a) 7) _ l g in
    go u a K b d (needed_ok ((winning K).struct (row T 0).a) 7 d c) (ltb work (work_need (index_entries K))) refl h
  where
    go : (u : Unit {0}) → sheet_ok T ≡ ok u → (K : Schema) → schema_of S ≡ ok K → (d : StructDef) → (winning K).struct (row T 0).a ≡ Some d → (b : Bool)
        → ltb work (work_need (index_entries K)) ≡ b
        → cond b (refused 12) (laid_from (winning K) records (root (env_of T K work) alone d (fields_of T (row T 0)) empty_state)) ≡ ok l
        → Made alone T S work l
    go u a K k d q true r f = let z : ◌≡◌ {A = ℕ} 0 1 = cc in absurd (omega arith)
    go u a K k d q false r f =
        let y = laid_by (winning K) records (root (env_of T K work) alone d (fields_of T (row T 0)) empty_state) l f in
        record { schema = K; def = d; sheet_ok_law = a; schema_is = k; defs_are = y.is_defs; def_is = q; room = r; ran = y.is_done_law }

pub makes : {alone : Bool} (T S : Bytes) (work records : ℕ) (l : Laid) → Made alone T S work l → length (thin l.state.events) ≤ records → layout alone T S work records ≡ ok l
unfolding layout layout_of layout_with and_then needed laid_from within
makes T S work records l m h =
    rw (m.sheet_ok_law, m.schema_is, m.def_is, m.room, m.ran, le-ltb records (length (thin l.state.events)) h)
    (ap (λ L. ok (record { state = l.state; pointer = l.pointer; defs = L })) (sym m.defs_are))

-- one record too few
pub too_few_law : {alone : Bool} (T S : Bytes) (work records : ℕ) (l : Laid) → Made alone T S work l → records < length (thin l.state.events) → layout alone T S work records ≡ refused 14
unfolding layout layout_of layout_with and_then needed laid_from within
too_few_law T S work records l m h = rw (m.sheet_ok_law, m.schema_is, m.def_is, m.room, m.ran, lt-ltb records (length (thin l.state.events)) h) refl

-- a claim that the primitive actions keep, and that holds before the first byte, holds of every layout
pub reached : {alone : Bool} (T S : Bytes) (work : ℕ) (l : Laid) (m : Made alone T S work l) (C : Claim) → Prims (env_of T m.schema work) C → C.holds empty_state → C.holds l.state
unfolding Keeps
reached {alone} T S work l m C h p =
    subst (Okay C) m.ran
    (k_root (env_of T m.schema work) C h alone m.def (fields_of T (row T 0)) (h.found (row T 0).a m.def m.def_is).0 empty_state p)

-- the building

-- a file that fits
pub fitted_ok : (out : ℕ) (b c : Built) → fitted out b ≡ ok c → (b ≡ c) × (length b.file ≤ out) × (length b.file ≤ 16777216)
unfolding fitted
fitted_ok out b c = go (ltb out (length b.file)) refl (ltb 16777216 (length b.file)) refl
  where
    go : (s : Bool) → ltb out (length b.file) ≡ s → (t : Bool) → ltb 16777216 (length b.file) ≡ t → cond (s || t) (refused 13) (ok b) ≡ ok c
        → (b ≡ c) × (length b.file ≤ out) × (length b.file ≤ 16777216)
    go true e t f g = let z : ◌≡◌ {A = ℕ} 0 1 = cc in absurd (omega arith)
    go false e true f g = let z : ◌≡◌ {A = ℕ} 0 1 = cc in absurd (omega arith)
    go false e false f g = (cc, ltb-false out (length b.file) e, ltb-false 16777216 (length b.file) f)

-- what was built is the layout's file, and it fitted
pub built : (alone : Bool) (T S : Bytes) (work out records : ℕ) (l : Laid) (b : Built) → layout alone T S work records ≡ ok l → build alone T S work out records ≡ ok b
    → (packed l ≡ b) × (length (packed l).file ≤ out) × (length (packed l).file ≤ 16777216)
unfolding build and_then
built alone T S work out records l b e f = fitted_ok out (packed l) b (subst (λ r. and_then r (λ m. fitted out (packed m)) ≡ ok b) e f)

pub builds : (alone : Bool) (T S : Bytes) (work out records : ℕ) (l : Laid) → layout alone T S work records ≡ ok l → length (packed l).file ≤ out → length (packed l).file ≤ 16777216
    → build alone T S work out records ≡ ok (packed l)
unfolding build and_then fitted
builds alone T S work out records l e h g = rw (e, le-ltb out (length (packed l).file) h, le-ltb 16777216 (length (packed l).file) g)
