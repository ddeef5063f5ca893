-- What the reader gives: the blocks of the sections, and the definitions of the schema file. Assumes nothing.
use Rattle.std.specs.Prelude.{Option, Some, None}
use mathlib.Core.Path.{◌≡◌, refl, sym, ap, ◌∙◌}
use mathlib.Core.Bool.{Bool, true, false, cond, not, ◌||◌}
use mathlib.Core.List.{List, [], ◌++◌, append_assoc, append-nil}
use Prim.Native.Nat.{ℕ}
use native.Mathlib.Omega.{arith}
use lib.Dec.{ltb, eqb}
use lib.ListN.{length}
use borrow.Author.Tests.{eqb-true}
use Rattle.numbers.specs.Words.{Bytes, read_at}
use Rattle.numbers.specs.Result.{Result, ok, refused, and_then, map_result, needed}
use Rattle.schema.specs.Sections.{Sections, section, end, broken, sections, PSIN, PMAP, PSCH}
use Rattle.schema.specs.Psch.{Def, psch_of, section_defs, defs_of, schema_from, schema_of}
use Rattle.pso.specs.Reader.{Block, Seen, Pso, pmap_of, with_data, with_map, with_defs, see_section, see_all, pso_from, nothing_seen, parse_pso}
use Rattle.pso.specs.Blocks.{or_none, section_blocks, blocks_of}

-- what is known after some sections: their blocks and definitions behind those before
pub record After (t : Seen) (bs : List Block) (X : Result (List Def)) (u : Seen) : Type 0 where
  pub defs : List Def
  pub is : X ≡ ok defs
  pub blocks_joined : u.blocks ≡ t.blocks ++ bs
  pub defs_joined : u.defs ≡ t.defs ++ defs

-- no more of either
same : (t u v : Seen) → v ≡ u → v.blocks ≡ t.blocks → v.defs ≡ t.defs → After t [] (ok []) u
same t u v e b d =
    record {
      defs = [];
      is = refl;
      blocks_joined = ap (λ (x : Seen). x.blocks) (sym e) ∙ b ∙ sym (append-nil t.blocks);
      defs_joined = ap (λ (x : Seen). x.defs) (sym e) ∙ d ∙ sym (append-nil t.defs);
    }

with_map_law : (P : Bytes) (t u : Seen) (X : Result (List Block)) → map_result (with_map P t) X ≡ ok u → After t (or_none X) (ok []) u
unfolding map_result
with_map_law P t u (ok bs) e =
    let f : with_map P t bs ≡ u = cc in
    record { defs = []; is = refl; blocks_joined = ap (λ (x : Seen). x.blocks) (sym f); defs_joined = ap (λ (x : Seen). x.defs) (sym f) ∙ sym (append-nil t.defs) }
with_map_law P t u (refused n) e = absurd (let z : ◌≡◌ {A = ℕ} 0 1 = cc in omega arith)

with_defs_law : (t u : Seen) (X : Result (List Def)) → map_result (with_defs t) X ≡ ok u → After t [] X u
unfolding map_result
with_defs_law t u (ok ds) e =
    let f : with_defs t ds ≡ u = cc in
    record { defs = ds; is = refl; blocks_joined = ap (λ (x : Seen). x.blocks) (sym f) ∙ sym (append-nil t.blocks); defs_joined = ap (λ (x : Seen). x.defs) (sym f) }
with_defs_law t u (refused n) e = absurd (let z : ◌≡◌ {A = ℕ} 0 1 = cc in omega arith)

-- one section
one : (ident : ℕ) (P : Bytes) (t u : Seen) → see_section ident P t ≡ ok u → After t (section_blocks ident P) (section_defs ident P) u
unfolding see_section section_defs section_blocks
one ident P t u = go (eqb ident PSIN) (eqb ident PMAP) (eqb ident PSCH) refl refl refl
  where
    go : (a b c : Bool) → eqb ident PSIN ≡ a → eqb ident PMAP ≡ b → eqb ident PSCH ≡ c
        → cond a (ok (with_data P t)) (cond b (map_result (with_map P t) (pmap_of P)) (cond c (map_result (with_defs t) (psch_of P)) (ok t))) ≡ ok u
        → After t (cond b (or_none (pmap_of P)) []) (cond c (psch_of P) (ok [])) u
    go true true c i j k e = absurd (omega (arith, eqb-true ident PSIN i, eqb-true ident PMAP j))
    go true false true i j k e = absurd (omega (arith, eqb-true ident PSIN i, eqb-true ident PSCH k))
    go true false false i j k e = same t u (with_data P t) (cc) refl refl
    go false true true i j k e = absurd (omega (arith, eqb-true ident PMAP j, eqb-true ident PSCH k))
    go false true false i j k e = with_map_law P t u (pmap_of P) e
    go false false true i j k e = with_defs_law t u (psch_of P) e
    go false false false i j k e = same t u t (cc) refl refl

joined : (t u : Seen) (bs : List Block) (ss : Sections) (X : Result Seen) (Y : Result (List Def)) → ((v : Seen) → X ≡ ok v → After t bs Y v)
    → ((v : Seen) → see_all ss v ≡ ok u → After v (blocks_of ss) (defs_of ss) u) → and_then X (see_all ss) ≡ ok u
    → After t (bs ++ blocks_of ss) (and_then Y (λ ds. map_result (ds ++◌) (defs_of ss))) u
unfolding and_then map_result
joined t u bs ss (refused n) Y a b e = absurd (let z : ◌≡◌ {A = ℕ} 0 1 = cc in omega arith)
joined t u bs ss (ok v) Y a b e =
    let x = a v refl in
    let y = b v e in
    record {
      defs = x.defs ++ y.defs;
      is = rw (x.is, y.is);
      blocks_joined = y.blocks_joined ∙ ap (λ (l : List Block). l ++ blocks_of ss) x.blocks_joined ∙ append_assoc t.blocks bs (blocks_of ss);
      defs_joined = y.defs_joined ∙ ap (λ (l : List Def). l ++ y.defs) x.defs_joined ∙ append_assoc t.defs x.defs y.defs;
    }

all : (ss : Sections) (t u : Seen) → see_all ss t ≡ ok u → After t (blocks_of ss) (defs_of ss) u
unfolding see_all blocks_of defs_of
all end t u e = same t u t (cc) refl refl
all broken t u e = absurd (let z : ◌≡◌ {A = ℕ} 0 1 = cc in omega arith)
all (section ident P ss) t u e =
    joined t u (section_blocks ident P) ss (see_section ident P t) (section_defs ident P) (λ v. one ident P t v) (λ v. all ss v u) e

-- what is given of a file
pub record Given (F : Bytes) (p : Pso) : Type 0 where
  pub blocks : p.blocks ≡ blocks_of (sections F)
  pub schema : schema_of F ≡ ok p.schema

from_seen : (F : Bytes) (t : Seen) (p : Pso) → After nothing_seen (blocks_of (sections F)) (defs_of (sections F)) t → pso_from t ≡ ok p → Given F p
unfolding pso_from and_then needed map_result schema_of
from_seen F t p a = go t.data' t.root
  where
    go : (d : Option Bytes) (r : Option ℕ)
        → and_then (needed d 17) (λ P. and_then (needed r 18) (λ n. ok (record { root = n; data' = P; blocks = t.blocks; schema = schema_from t.defs }))) ≡ ok p → Given F p
    go (Some P) (Some n) e =
        let f : record { root = n; data' = P; blocks = t.blocks; schema = schema_from t.defs } ≡ p = cc in
        record {
          blocks = ap (λ (x : Pso). x.blocks) (sym f) ∙ a.blocks_joined;
          schema = rw a.is (ap ok (ap schema_from (sym a.defs_joined) ∙ ap (λ (x : Pso). x.schema) f));
        }
    go (Some P) None e = absurd (let z : ◌≡◌ {A = ℕ} 0 1 = cc in omega arith)
    go None r e = absurd (let z : ◌≡◌ {A = ℕ} 0 1 = cc in omega arith)

from_sections : (F : Bytes) (p : Pso) (X : Result Seen) → see_all (sections F) nothing_seen ≡ X → and_then X pso_from ≡ ok p → Given F p
unfolding and_then
from_sections F p (refused n) q e = absurd (let z : ◌≡◌ {A = ℕ} 0 1 = cc in omega arith)
from_sections F p (ok t) q e = from_seen F t p (all (sections F) nothing_seen t q) e

-- a file that the reader accepts is a schema file, with the same definitions, and its blocks are those of its sections
pub parsed : (F : Bytes) (p : Pso) → parse_pso F ≡ ok p → Given F p
unfolding parse_pso
parsed F p = go (ltb (length F) 4 || not (eqb (read_at 4 F 0) PSIN))
  where
    go : (b : Bool) → cond b (refused 15) (and_then (see_all (sections F) nothing_seen) pso_from) ≡ ok p → Given F p
    go true e = absurd (let z : ◌≡◌ {A = ℕ} 0 1 = cc in omega arith)
    go false e = from_sections F p (see_all (sections F) nothing_seen) refl e
