-- The numbers of refusals: reading refuses with 4 to 18 (`read_among`), building with 1 to 14 (`build_among`); so 0 is no refusal's number.
-- Assumes nothing.
use Rattle.std.specs.Prelude.{Option, Some, None}
use Prim.Native.Nat.{ℕ, zero, suc, ◌+◌, ◌*◌, ◌≤◌}
use native.Mathlib.Omega.{arith}
use mathlib.Core.Bool.{Bool, true, false, cond, not, ◌||◌}
use mathlib.Core.List.{◌∷◌, ◌++◌}
use lib.Dec.{leb, ltb, eqb}
use lib.ListN.{length}
use Rattle.numbers.specs.Words.{Bytes, read_at}
use Rattle.numbers.specs.Result.{Result, ok, refused, and_then, map_result, needed}
use Rattle.value.specs.Rows.{row, Fields, fields_of}
use Rattle.sheet.specs.Layout.{laid_out, ascii, rooted}
use Rattle.sheet.proofs.Laws.{refusal}
use Rattle.schema.specs.Sections.{Sections, section, end, broken, PSIN, PMAP, PSCH, sections}
use Rattle.schema.specs.Defs.{Lookup, StructDef, winning, index_entries}
use Rattle.schema.specs.Psch.{structure, enumeration, struct_here, enum_here, struct_at, enum_at, def_at, defs_from, psch_of, section_defs, defs_of, schema_of, outside}
use Rattle.pso.specs.Reader.{Seen, head_of, count_of, blocks_at, pmap_of, with_data, with_map, with_defs, see_section, see_all, pso_from, nothing_seen, parse_pso}
use Rattle.layout.specs.State.{State, Core, Env, Out, done, stop, thin, remark, pay, settle, on_core, bind, after, log_start, log_enum, use_struct, use_struct_c, use_enum, use_enum_c, lay_item_c, with_charge, empty_state, lay_item}
use Rattle.layout.specs.Write.{root}
use Rattle.layout.specs.Build.{sheet_ok, work_need, cap_of, within, laid_from, layout_with, layout_of, layout, packed, fitted, build}
use Rattle.layout.proofs.Keep.{Claim, Okay, Keeps}
use Rattle.layout.proofs.Writers.{Prims, k_root}

-- a refusal has a number from lo to hi
unfoldable pub Among : {A : Type 0} → ℕ → ℕ → Result A → Type 0
Among lo hi (ok a) = Unit {0}
Among lo hi (refused n) = (lo ≤ n) × (n ≤ hi)

module _ (lo hi : ℕ) where
  a_ok : {A : Type 0} (a : A) → Among lo hi (ok a)
  unfolding Among
  a_ok a = tt

  a_no : (A : Type 0) (n : ℕ) → lo ≤ n → n ≤ hi → Among {A = A} lo hi (refused n)
  unfolding Among
  a_no A n h g = (h, g)

  a_then : {A B : Type 0} (r : Result A) (k : A → Result B) → Among lo hi r → ((a : A) → Among lo hi (k a)) → Among lo hi (and_then r k)
  unfolding Among and_then
  a_then (ok a) k h g = g a
  a_then (refused n) k h g = h

  a_map : {A B : Type 0} (f : A → B) (r : Result A) → Among lo hi r → Among lo hi (map_result f r)
  unfolding Among map_result
  a_map f (ok a) h = tt
  a_map f (refused n) h = h

  a_cond : {A : Type 0} (b : Bool) (r s : Result A) → Among lo hi r → Among lo hi s → Among lo hi (cond b r s)
  unfolding Among
  a_cond true r s h g = h
  a_cond false r s h g = g

  a_needed : {A : Type 0} (o : Option A) (n : ℕ) → lo ≤ n → n ≤ hi → Among lo hi (needed o n)
  unfolding Among needed
  a_needed (Some a) n h g = tt
  a_needed None n h g = (h, g)

  a_wider : {A : Type 0} (low high : ℕ) (r : Result A) → lo ≤ low → high ≤ hi → Among low high r → Among lo hi r
  unfolding Among
  a_wider low high (ok a) h g x = tt
  a_wider low high (refused n) h g x = (omega (arith, h, x.0), omega (arith, g, x.1))

-- schema files: 4, 5, 6

def_among : (P : Bytes) (name at : ℕ) → Among 4 6 (def_at P name at)
unfolding def_at struct_at enum_at
def_among P name at =
    a_cond 4 6 (outside P 4 1 at) (refused 5) _ (a_no 4 6 _ 5 (omega arith) (omega arith))
    (a_cond 4 6 (eqb (read_at 1 P at) 0) (struct_at P name at) _
    (a_cond 4 6 (outside P 8 1 at || outside P 12 (read_at 2 P (at + 2)) (at + 12)) (refused 5) (ok (structure (struct_here P name at))) (a_no 4 6 _ 5 (omega arith) (omega arith)) (a_ok 4 6 _))
    (a_cond 4 6 (eqb (read_at 1 P at) 1) (enum_at P name at) (refused 6)
    (a_cond 4 6 (outside P 8 (read_at 3 P (at + 1)) (at + 4)) (refused 5) (ok (enumeration (enum_here P name at))) (a_no 4 6 _ 5 (omega arith) (omega arith)) (a_ok 4 6 _))
    (a_no 4 6 _ 6 (omega arith) (omega arith))))

defs_among : (P : Bytes) (n at : ℕ) → Among 4 6 (defs_from P n at)
unfolding defs_from
defs_among P zero at = a_ok 4 6 _
defs_among P (suc n) at =
    a_then 4 6 (def_at P (read_at 4 P at) (read_at 4 P (at + 4))) _ (def_among P (read_at 4 P at) (read_at 4 P (at + 4)))
    (λ d. a_map 4 6 (d ∷◌) (defs_from P n (at + 8)) (defs_among P n (at + 8)))

psch_among : (P : Bytes) → Among 4 6 (psch_of P)
unfolding psch_of
psch_among P = a_cond 4 6 (outside P 12 1 0 || outside P 8 (read_at 4 P 8) 12) (refused 5) (defs_from P (read_at 4 P 8) 12) (a_no 4 6 _ _ (omega arith) (omega arith)) (defs_among P (read_at 4 P 8) 12)

sections_among : (ss : Sections) → Among 4 6 (defs_of ss)
unfolding defs_of section_defs
sections_among end = a_ok 4 6 _
sections_among broken = a_no 4 6 _ _ (omega arith) (omega arith)
sections_among (section ident P ss) =
    a_then 4 6 (section_defs ident P) _ (a_cond 4 6 (eqb ident PSCH) (psch_of P) (ok _) (psch_among P) (a_ok 4 6 _))
    (λ ds. a_map 4 6 (ds ++◌) (defs_of ss) (sections_among ss))

schema_among : (F : Bytes) → Among 4 6 (schema_of F)
unfolding schema_of
schema_among F = a_map 4 6 _ (defs_of (sections F)) (sections_among (sections F))

-- reading: 4, 5, 6, 15 to 18

map_among : (P : Bytes) → Among 4 18 (pmap_of P)
unfolding pmap_of
map_among P =
    a_cond 4 18 (ltb (length P) 16 || ltb (length P) (head_of P) || ltb (length P) (head_of P + 16 * count_of P)) (refused 16) (ok (blocks_at P (count_of P) (head_of P)))
    (a_no 4 18 _ 16 (omega arith) (omega arith)) (a_ok 4 18 _)

see_among : (ident : ℕ) (P : Bytes) (s : Seen) → Among 4 18 (see_section ident P s)
unfolding see_section
see_among ident P s =
    a_cond 4 18 (eqb ident PSIN) (ok (with_data P s)) _ (a_ok 4 18 _)
    (a_cond 4 18 (eqb ident PMAP) (map_result (with_map P s) (pmap_of P)) _ (a_map 4 18 (with_map P s) (pmap_of P) (map_among P))
    (a_cond 4 18 (eqb ident PSCH) (map_result (with_defs s) (psch_of P)) (ok s) (a_map 4 18 (with_defs s) (psch_of P) (a_wider 4 18 4 6 (psch_of P) (omega arith) (omega arith) (psch_among P))) (a_ok 4 18 _)))

all_among : (ss : Sections) (s : Seen) → Among 4 18 (see_all ss s)
unfolding see_all
all_among end s = a_ok 4 18 _
all_among broken s = a_no 4 18 _ _ (omega arith) (omega arith)
all_among (section ident P ss) s = a_then 4 18 (see_section ident P s) (see_all ss) (see_among ident P s) (all_among ss)

pub read_among : (F : Bytes) → Among 4 18 (parse_pso F)
unfolding parse_pso pso_from
read_among F =
    a_cond 4 18 (ltb (length F) 4 || not (eqb (read_at 4 F 0) PSIN)) (refused 15) (and_then (see_all (sections F) nothing_seen) pso_from) (a_no 4 18 _ _ (omega arith) (omega arith))
    (a_then 4 18 (see_all (sections F) nothing_seen) pso_from (all_among (sections F) nothing_seen)
    (λ s. a_then 4 18 (needed s.data' 17) _ (a_needed 4 18 s.data' 17 (omega arith) (omega arith))
    (λ P. a_then 4 18 (needed s.root 18) _ (a_needed 4 18 s.root 18 (omega arith) (omega arith)) (λ n. (a_ok 4 18 _)))))

-- sheets: 1, 2, 3

sheet_among : (T : Bytes) → Among 1 3 (sheet_ok T)
unfolding sheet_ok
sheet_among T = rw (refusal T) (go (laid_out T) (ascii T) (rooted T))
  where
    passed : Result (Unit {0})
    passed = ok tt

    go : (a b c : Bool) → Among 1 3 (cond a (cond b (cond c passed (refused 3)) (refused 2)) (refused 1))
    go false b c = a_no 1 3 _ _ (omega arith) (omega arith)
    go true false c = a_no 1 3 _ _ (omega arith) (omega arith)
    go true true false = a_no 1 3 _ _ (omega arith) (omega arith)
    go true true true = a_ok 1 3 _

-- writing: 8 to 11

abbrev numbered : Claim
numbered = record { holds = λ s. Unit {0}; refused = λ n es. (8 ≤ n) × (n ≤ 11); files = λ n. Unit {0} }

paid : (s : State) (n : ℕ) (b : Bool) → Okay numbered (cond b (done (tt {0}) (with_charge (s.charge + n) s)) (stop 9 s.events))
paid s n true = tt
paid s n false = (omega arith, omega arith)

filed : {A : Type 0} (s : State) (o : Option (A × Core)) → Okay numbered (settle s 10 o)
unfolding settle
filed s None = (omega arith, omega arith)
filed s (Some r) = tt

number_prims : (E : Env) → Prims E numbered
unfolding Keeps remark pay use_struct use_enum lay_item bind after log_start log_enum on_core settle use_struct_c use_enum_c
number_prims E =
    record {
      starts = λ d. Unit {0};
      refusable = λ n s a b x. (a, b);
      remark_keeps = λ r s x. tt;
      pay_keeps = λ n s x. paid s n (leb (s.charge + n) E.charge_cap);
      struct_keeps = λ d k s x. tt;
      enum_keeps = λ n e s x. tt;
      add_keeps = λ alone n bs u s x. filed s (lay_item_c alone n bs s.core);
      found = λ n d e. (tt, tt);
      named = λ d k. tt;
      small = λ n h. tt;
    }

written : (alone : Bool) (E : Env) (d : StructDef) (fs : Fields) (s : State) → Okay numbered (root E alone d fs s)
unfolding Keeps number_prims
written alone E d fs s = k_root E numbered (number_prims E) alone d fs tt s tt

-- building: 1 to 14

laid_among : (L : Lookup) (records : ℕ) (o : Out ℕ) → Okay numbered o → Among 1 14 (laid_from L records o)
unfolding laid_from within
laid_among L records (stop n es) h = a_cond 1 14 (ltb records (length (thin es))) (refused 14) (refused n) (a_no 1 14 _ _ (omega arith) (omega arith)) (a_no 1 14 _ n (omega (arith, h.0)) (omega (arith, h.1)))
laid_among L records (done p s) h = a_cond 1 14 (ltb records (length (thin s.events))) (refused 14) (ok (record { state = s; pointer = p; defs = L })) (a_no 1 14 _ _ (omega arith) (omega arith)) (a_ok 1 14 _)

layout_among : (alone : Bool) (T F : Bytes) (work records : ℕ) → Among 1 14 (layout alone T F work records)
unfolding layout layout_of layout_with
layout_among alone T F work records =
    a_then 1 14 (sheet_ok T) _ (a_wider 1 14 1 3 (sheet_ok T) (omega arith) (omega arith) (sheet_among T))
    (λ u. a_then 1 14 (schema_of F) _ (a_wider 1 14 4 6 (schema_of F) (omega arith) (omega arith) (schema_among F))
    (λ S. a_then 1 14 (needed ((winning S).struct (row T 0).a) 7) _ (a_needed 1 14 ((winning S).struct (row T 0).a) 7 (omega arith) (omega arith))
    (λ d. a_cond 1 14 (ltb work (work_need (index_entries S))) (refused 12) _ (a_no 1 14 _ _ (omega arith) (omega arith))
    (laid_among (winning S) records _ (written alone (record { sheet = T; defs = winning S; charge_cap = cap_of work (index_entries S) }) d (fields_of T (row T 0)) empty_state)))))

pub build_among : (alone : Bool) (T F : Bytes) (work out records : ℕ) → Among 1 14 (build alone T F work out records)
unfolding build fitted
build_among alone T F work out records =
    a_then 1 14 (layout alone T F work records) _ (layout_among alone T F work records) (λ l. a_cond 1 14 (ltb out (length (packed l).file) || ltb 16777216 (length (packed l).file)) (refused 13) (ok (packed l)) (a_no 1 14 _ _ (omega arith) (omega arith)) (a_ok 1 14 _))
