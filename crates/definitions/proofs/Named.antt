-- The definitions of a name, in index order, are those at the places that the index entries of the name lead to. Assumes nothing.
use mathlib.Core.Path.{◌≡◌, refl, sym, ap, ap₂, subst, ◌∙◌}
use mathlib.Core.Bool.{Bool, true, false, cond, ◌&&◌}
use mathlib.Core.List.{List, [], ◌∷◌, ◌++◌, map, map-map}
use Prim.Native.Nat.{ℕ, zero, suc, ◌+◌, ◌<◌}
use native.Mathlib.Omega.{arith}
use lib.Dec.{ltb, eqb}
use lib.ListN.{length, take, drop}
use borrow.Author.Tests.{lt-ltb, eqb-true}
use Rattle.numbers.specs.Words.{Bytes, read_at}
use Rattle.numbers.specs.Result.{Result, ok, refused, and_then, map_result}
use Rattle.schema.specs.Sections.{Sections, PSCH, sections_from, sections}
use Rattle.schema.specs.Defs.{Schema, struct_name, enum_name}
use Rattle.schema.specs.Psch.{Def, structure, enumeration, struct_here, enum_here, def_at, defs_from, psch_of, section_defs, defs_of, schema_from, schema_of}
use Rattle.schema.specs.Index.{index_count, kept, places_from, places_in, section_places, places_of}
use Rattle.schema.specs.Steps.{def_here}
use Rattle.schema.proofs.Walk.{by_sections}
use Rattle.schema.proofs.Judge.{Read, def_read}
use Rattle.schema.proofs.Counts.{Indexed, indexed}
use Rattle.schema.proofs.Places.{def_part}

-- a definition of the kind and the name
abbrev wanted : ℕ → ℕ → Def → Bool
wanted k name (structure d) = eqb 0 k && eqb d.name name
wanted k name (enumeration d) = eqb 1 k && eqb d.name name

-- .. in order
abbrev chosen : ℕ → ℕ → List Def → List Def
chosen k name [] = []
chosen k name (d ∷ ds) = kept (wanted k name d) d (chosen k name ds)

-- those of a name
abbrev pub named : {A : Type 0} → (A → ℕ) → ℕ → List A → List A
named name_of n [] = []
named name_of n (d ∷ ds) = kept (eqb (name_of d) n) d (named name_of n ds)

map_append : {A B : Type 0} (f : A → B) (k l : List A) → map f (k ++ l) ≡ map f k ++ map f l
map_append f [] l = refl
map_append f (a ∷ k) l = ap (f a ∷◌) (map_append f k l)

pub kept_append : {A : Type 0} (b : Bool) (a : A) (k l : List A) → kept b a k ++ l ≡ kept b a (k ++ l)
kept_append true a k l = refl
kept_append false a k l = refl

chosen_append : (k name : ℕ) (ds es : List Def) → chosen k name (ds ++ es) ≡ chosen k name ds ++ chosen k name es
chosen_append k name [] es = refl
chosen_append k name (d ∷ ds) es = ap (kept (wanted k name d) d) (chosen_append k name ds es) ∙ sym (kept_append (wanted k name d) d (chosen k name ds) (chosen k name es))

wanted_here : (P : Bytes) (kind want entry name at : ℕ) → kind < 2 → wanted want name (def_here P kind entry at) ≡ (eqb kind want && eqb entry name)
unfolding struct_here enum_here
wanted_here P zero want entry name at h = refl
wanted_here P (suc zero) want entry name at h = refl
wanted_here P (suc (suc k)) want entry name at h = absurd (omega arith)

-- all entries of a sound section's index lie in it
pub all_indexed : (P : Bytes) (ds : List Def) (x : Indexed P ds) → index_count P ≡ x.count
all_indexed P ds x = go x.count refl
  where
    go : (n : ℕ) → x.count ≡ n → index_count P ≡ x.count
    go zero q = omega (arith, x.read, q)
    go (suc n) q = omega (arith, x.read, q, x.fits (omega (arith, q)))

-- ---- the entries of one section, which stands at `from` of the file
module _ (F : Bytes) (from len kind name : ℕ) (l : length (take len (drop from F)) ≡ len) where
  abbrev part : Bytes
  part = take len (drop from F)

  abbrev here : ℕ → Def
  here q = def_here F kind name (from + q)

  entry : (nm q : ℕ) (d : Def) (ps : List ℕ) (ds : List Def) → def_at part nm q ≡ ok d → map here ps ≡ chosen kind name ds
      → map here (kept (eqb nm name && (ltb q (length part) && eqb (read_at 1 part q) kind)) q ps) ≡ chosen kind name (d ∷ ds)
  entry nm q d ps ds e ih =
      rw (lt-ltb q (length part) (omega (arith, r.within.starts)), r.top, ap (wanted kind name) r.is ∙ wanted_here part r.kind kind nm name q r.few)
      (pick (eqb nm name) (eqb r.kind kind) refl refl)
    where
      r : Read part nm q d
      r = def_read part nm q d e

      same : r.kind ≡ kind → nm ≡ name → here q ≡ d
      same a b = sym (r.is ∙ def_part F from len l nm q r.kind r.few r.within ∙ ap₂ (λ k x. def_here F k x (from + q)) a b)

      pick : (a b : Bool) → eqb nm name ≡ a → eqb r.kind kind ≡ b → map here (kept (a && (true && b)) q ps) ≡ kept (b && a) d (chosen kind name ds)
      pick true true x y = ap₂ ◌∷◌ (same (eqb-true r.kind kind y) (eqb-true nm name x)) ih
      pick true false x y = ih
      pick false true x y = ih
      pick false false x y = ih

  with_one : (nm q : ℕ) (ds : List Def) (ps : List ℕ) (X : Result Def) (Y : Result (List Def)) → def_at part nm q ≡ X → ((es : List Def) → Y ≡ ok es → map here ps ≡ chosen kind name es)
      → and_then X (λ d. map_result (d ∷◌) Y) ≡ ok ds
      → map here (kept (eqb nm name && (ltb q (length part) && eqb (read_at 1 part q) kind)) q ps) ≡ chosen kind name ds
  unfolding and_then map_result
  with_one nm q ds ps (refused m) Y a ih e = cc
  with_one nm q ds ps (ok d) (refused m) a ih e = cc
  with_one nm q ds ps (ok d) (ok es) a ih e =
      let f : d ∷ es ≡ ds = cc in
      entry nm q d ps es a (ih es refl) ∙ ap (chosen kind name) f

  entries : (n pos : ℕ) (ds : List Def) → defs_from part n pos ≡ ok ds → map here (places_from part kind name n pos) ≡ chosen kind name ds
  unfolding defs_from places_from
  entries zero pos ds e =
      let f : [] ≡ ds = cc in
      ap (chosen kind name) f
  entries (suc n) pos ds e =
      with_one (read_at 4 part pos) (read_at 4 part (pos + 4)) ds (places_from part kind name n (pos + 8)) (def_at part (read_at 4 part pos) (read_at 4 part (pos + 4)))
      (defs_from part n (pos + 8)) refl (λ es. entries n (pos + 8) es) e

  in_section : (ident : ℕ) (ds : List Def) → section_defs ident part ≡ ok ds → map here (section_places ident part kind name) ≡ chosen kind name ds
  unfolding section_defs section_places
  in_section ident ds = go (eqb ident PSCH)
    where
      go : (b : Bool) → cond b (psch_of part) (ok []) ≡ ok ds → map here (cond b (places_in part kind name) []) ≡ chosen kind name ds
      go true e =
          let x = indexed part ds e in
          ap (λ (n : ℕ). map here (places_from part kind name n 12)) (all_indexed part ds x) ∙ entries x.count 12 ds x.defs
      go false e =
          let f : [] ≡ ds = cc in
          ap (chosen kind name) f

-- ---- the sections of a file
module _ (F : Bytes) (kind name : ℕ) where
  abbrev found : ℕ → Def
  found q = def_here F kind name q

  with_section : (at next : ℕ) (P : Bytes) (ss : Sections) (ds : List Def) (ps : List ℕ) (X Y : Result (List Def)) → at + length P ≡ next
      → ((es : List Def) → X ≡ ok es → map (λ q. found (at + q)) ps ≡ chosen kind name es) → ((es : List Def) → Y ≡ ok es → map found (places_of kind name ss next) ≡ chosen kind name es)
      → and_then X (λ es. map_result (es ++◌) Y) ≡ ok ds
      → map found (map (at +◌) ps ++ places_of kind name ss (at + length P)) ≡ chosen kind name ds
  unfolding and_then map_result
  with_section at next P ss ds ps (refused m) Y n a b e = cc
  with_section at next P ss ds ps (ok es) (refused m) n a b e = cc
  with_section at next P ss ds ps (ok es) (ok fs) n a b e =
      let f : es ++ fs ≡ ds = cc in
      ap (λ (x : ℕ). map found (map (at +◌) ps ++ places_of kind name ss x)) n ∙ map_append found (map (at +◌) ps) (places_of kind name ss next)
      ∙ ap₂ ◌++◌ (map-map found (at +◌) ps ∙ a es refl) (b fs refl) ∙ sym (chosen_append kind name es fs) ∙ ap (chosen kind name) f

  all_sections : (n at : ℕ) (ds : List Def) → defs_of (sections_from F n at) ≡ ok ds → map found (places_of kind name (sections_from F n at) at) ≡ chosen kind name ds
  unfolding defs_of places_of
  all_sections =
      by_sections F (λ at ss. (ds : List Def) → defs_of ss ≡ ok ds → map found (places_of kind name ss at) ≡ chosen kind name ds)
      (λ at ds e.
      let f : [] ≡ ds = cc in
      ap (chosen kind name) f)
      (λ at ds e. cc) λ at len ss l i ih ds e.
      let P = take len (drop at F) in
      with_section at (at + len) P ss ds (section_places (read_at 4 F at) P kind name) (section_defs (read_at 4 F at) P) (defs_of ss) (ap (at +◌) l)
      (λ es. in_section F at len kind name l (read_at 4 F at) es) ih e

-- ---- structures and enums apart
kept_map : {A B : Type 0} (f : A → B) (b : Bool) (a : A) (l : List A) → map f (kept b a l) ≡ kept b (f a) (map f l)
kept_map f true a l = refl
kept_map f false a l = refl

structs_chosen : (name : ℕ) (ds : List Def) → map structure (named struct_name name (schema_from ds).structs) ≡ chosen 0 name ds
unfolding schema_from
structs_chosen name [] = refl
structs_chosen name (structure d ∷ ds) =
    kept_map structure (eqb d.name name) d (named struct_name name (schema_from ds).structs) ∙ ap (kept (eqb d.name name) (structure d)) (structs_chosen name ds)
structs_chosen name (enumeration d ∷ ds) = structs_chosen name ds

enums_chosen : (name : ℕ) (ds : List Def) → map enumeration (named enum_name name (schema_from ds).enums) ≡ chosen 1 name ds
unfolding schema_from
enums_chosen name [] = refl
enums_chosen name (structure d ∷ ds) = enums_chosen name ds
enums_chosen name (enumeration d ∷ ds) =
    kept_map enumeration (eqb d.name name) d (named enum_name name (schema_from ds).enums) ∙ ap (kept (eqb d.name name) (enumeration d)) (enums_chosen name ds)

-- a constructor c is put away
apart : {A : Type 0} (c : A → Def) → ((x y : A) → c x ≡ c y → x ≡ y) → (h : ℕ → A) (l : List A) (ps : List ℕ) → map c l ≡ map (λ q. c (h q)) ps → l ≡ map h ps
apart c i h [] [] e = refl
apart c i h [] (q ∷ ps) e = cc
apart c i h (a ∷ l) [] e = cc
apart c i h (a ∷ l) (q ∷ ps) e =
    let x : c a ≡ c (h q) = cc in
    let y : map c l ≡ map (λ r. c (h r)) ps = cc in
    ap₂ ◌∷◌ (i a (h q) x) (apart c i h l ps y)

pub from_defs : (S : Schema) (X : Result (List Def)) → map_result schema_from X ≡ ok S → (Q : Schema → Type 0) → ((ds : List Def) → X ≡ ok ds → Q (schema_from ds)) → Q S
unfolding map_result
from_defs S (ok ds) e Q h =
    let f : schema_from ds ≡ S = cc in
    subst Q f (h ds refl)
from_defs S (refused n) e Q h = absurd (let z : ◌≡◌ {A = ℕ} 0 1 = cc in omega arith)

-- the structures of a name, in index order, by their places
pub structs_at : (F : Bytes) (S : Schema) (name : ℕ) → schema_of F ≡ ok S → named struct_name name S.structs ≡ map (struct_here F name) (places_of 0 name (sections F) 0)
unfolding schema_of sections
structs_at F S name e =
    from_defs S (defs_of (sections F)) e (λ s. named struct_name name s.structs ≡ map (struct_here F name) (places_of 0 name (sections F) 0))
    (λ ds q. apart structure (λ x y f. cc) (struct_here F name) (named struct_name name (schema_from ds).structs) (places_of 0 name (sections F) 0)
    (structs_chosen name ds ∙ sym (all_sections F 0 name (length F) 0 ds q)))

-- .. the enums
pub enums_at : (F : Bytes) (S : Schema) (name : ℕ) → schema_of F ≡ ok S → named enum_name name S.enums ≡ map (enum_here F name) (places_of 1 name (sections F) 0)
unfolding schema_of sections
enums_at F S name e =
    from_defs S (defs_of (sections F)) e (λ s. named enum_name name s.enums ≡ map (enum_here F name) (places_of 1 name (sections F) 0))
    (λ ds q. apart enumeration (λ x y f. cc) (enum_here F name) (named enum_name name (schema_from ds).enums) (places_of 1 name (sections F) 0)
    (enums_chosen name ds ∙ sym (all_sections F 1 name (length F) 0 ds q)))
