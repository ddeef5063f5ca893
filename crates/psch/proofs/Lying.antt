-- A definition that is found in a sound schema file lies in it, all of it. Assumes nothing.
use Rattle.schema.specs.declared.kind.Kind.{Kind}
use Rattle.std.specs.Prelude.{Some}
use Prim.Native.Nat.{ℕ, zero, suc, ◌+◌, ◌≤◌}
use native.Mathlib.Omega.{arith}
use mathlib.Core.Path.{◌≡◌, refl, sym, ◌∙◌, ap, subst}
use mathlib.Core.Bool.{Bool, true, false, cond, ◌&&◌}
use mathlib.Core.List.{List, [], ◌∷◌, ◌++◌, map}
use lib.Dec.{ltb, eqb}
use lib.ListN.{length, take, drop}
use borrow.Author.Tests.{eqb-true}
use Rattle.numbers.specs.Words.{Bytes, read_at}
use Rattle.numbers.specs.Result.{Result, ok, refused, and_then, map_result, Every}
use Rattle.numbers.proofs.Parts.{read_part}
use Rattle.numbers.proofs.Bytes.{every_append}
use Rattle.schema.specs.Sections.{Sections, PSCH, sections_from, sections}
use Rattle.schema.specs.Defs.{Schema}
use Rattle.schema.specs.Psch.{Def, def_at, defs_from, psch_of, section_defs, defs_of, schema_of, Within}
use Rattle.schema.specs.Index.{kept, places_from, places_in, section_places, places_of, last_place}
use Rattle.schema.proofs.Walk.{by_sections}
use Rattle.schema.proofs.Judge.{Read, def_read}
use Rattle.schema.proofs.Counts.{indexed}
use Rattle.definitions.proofs.Named.{all_indexed, from_defs}
use Rattle.definitions.proofs.Inside.{last_has}
use Rattle.schema.specs.Steps.{kind_number}
use Rattle.psch.specs.Used.{Lies}

module _ (F : Bytes) (k : Kind) (name : ℕ) where
  -- a section that stands at `from`
  module _ (from len : ℕ) (l : length (take len (drop from F)) ≡ len) (inside : from + len ≤ length F) where
    abbrev part : Bytes
    part = take len (drop from F)

    abbrev Here : ℕ → Type 0
    Here x = Lies F k (from + x)

    -- what lies in the section lies in the file
    within_file : (q : ℕ) → Within part (kind_number k) q → Within F (kind_number k) (from + q)
    within_file q w =
        let s = w.starts in
        let a : from + (q + 2) ≡ from + q + 2 = omega arith in
        let b : from + (q + 1) ≡ from + q + 1 = omega arith in
        let m : read_at 2 part (q + 2) ≡ read_at 2 F (from + q + 2) = read_part 2 F from len (q + 2) (omega (arith, s, l)) ∙ ap (read_at 2 F) a in
        let n : read_at 3 part (q + 1) ≡ read_at 3 F (from + q + 1) = read_part 3 F from len (q + 1) (omega (arith, s, l)) ∙ ap (read_at 3 F) b in
        record {
          starts = omega (arith, s, l, inside);
          head = λ g. omega (arith, w.head g, l, inside);
          members = λ g h. omega (arith, w.members g (omega (arith, m, h)), m, l, inside);
          entries = λ g h. omega (arith, w.entries g (omega (arith, n, h)), n, l, inside);
        }

    one : (nm q : ℕ) (d : Def) (ps : List ℕ) → def_at part nm q ≡ ok d → Every Here ps → Every Here (kept (eqb nm name && (ltb q (length part) && eqb (read_at 1 part q) (kind_number k))) q ps)
    one nm q d ps e h = go (eqb nm name) (ltb q (length part)) (eqb (read_at 1 part q) (kind_number k)) refl
      where
        r : Read part nm q d
        r = def_read part nm q d e

        here : read_at 1 part q ≡ kind_number k → Here q
        here t =
            let s = r.within.starts in
            record {
              top = sym (read_part 1 F from len q (omega (arith, s, l))) ∙ t;
              within = within_file q (subst (λ j. Within part j q) (sym r.top ∙ t) r.within);
            }

        go : (a b c : Bool) → eqb (read_at 1 part q) (kind_number k) ≡ c → Every Here (kept (a && (b && c)) q ps)
        go false b c f = h
        go true false c f = h
        go true true false f = h
        go true true true f = (here (eqb-true (read_at 1 part q) (kind_number k) f), h)

    with_one : (nm q : ℕ) (ds : List Def) (ps : List ℕ) (X : Result Def) (Y : Result (List Def)) → def_at part nm q ≡ X → ((es : List Def) → Y ≡ ok es → Every Here ps)
        → and_then X (λ d. map_result (d ∷◌) Y) ≡ ok ds → Every Here (kept (eqb nm name && (ltb q (length part) && eqb (read_at 1 part q) (kind_number k))) q ps)
    unfolding and_then map_result
    with_one nm q ds ps (refused m) Y a ih e = absurd (let z : ◌≡◌ {A = ℕ} 0 1 = cc in omega arith)
    with_one nm q ds ps (ok d) (refused m) a ih e = absurd (let z : ◌≡◌ {A = ℕ} 0 1 = cc in omega arith)
    with_one nm q ds ps (ok d) (ok es) a ih e = one nm q d ps a (ih es refl)

    entries : (n pos : ℕ) (ds : List Def) → defs_from part n pos ≡ ok ds → Every Here (places_from part (kind_number k) name n pos)
    unfolding defs_from places_from
    entries zero pos ds e = tt
    entries (suc n) pos ds e =
        with_one (read_at 4 part pos) (read_at 4 part (pos + 4)) ds (places_from part (kind_number k) name n (pos + 8)) (def_at part (read_at 4 part pos) (read_at 4 part (pos + 4)))
        (defs_from part n (pos + 8)) refl (λ es. entries n (pos + 8) es) e

    in_section : (ident : ℕ) (ds : List Def) → section_defs ident part ≡ ok ds → Every Here (section_places ident part (kind_number k) name)
    unfolding section_defs section_places
    in_section ident ds = go (eqb ident PSCH)
      where
        go : (b : Bool) → cond b (psch_of part) (ok []) ≡ ok ds → Every Here (cond b (places_in part (kind_number k) name) [])
        go true e =
            let x = indexed part ds e in
            subst (λ n. Every Here (places_from part (kind_number k) name n 12)) (sym (all_indexed part ds x)) (entries x.count 12 ds x.defs)
        go false e = tt

  moved : (from : ℕ) (l : List ℕ) → Every (λ x. Lies F k (from + x)) l → Every (Lies F k) (map (from +◌) l)
  moved from [] h = tt
  moved from (x ∷ l) h = (h.0, moved from l h.1)

  with_section : (at next : ℕ) (P : Bytes) (ss : Sections) (ds : List Def) (ps : List ℕ) (X Y : Result (List Def)) → at + length P ≡ next
      → ((es : List Def) → X ≡ ok es → Every (λ x. Lies F k (at + x)) ps) → ((es : List Def) → Y ≡ ok es → Every (Lies F k) (places_of (kind_number k) name ss next))
      → and_then X (λ es. map_result (λ fs. es ++ fs) Y) ≡ ok ds → Every (Lies F k) (map (at +◌) ps ++ places_of (kind_number k) name ss (at + length P))
  unfolding and_then map_result
  with_section at next P ss ds ps (refused m) Y n a b e = absurd (let z : ◌≡◌ {A = ℕ} 0 1 = cc in omega arith)
  with_section at next P ss ds ps (ok es) (refused m) n a b e = absurd (let z : ◌≡◌ {A = ℕ} 0 1 = cc in omega arith)
  with_section at next P ss ds ps (ok es) (ok fs) n a b e =
      every_append (Lies F k) (map (at +◌) ps) (places_of (kind_number k) name ss (at + length P)) (moved at ps (a es refl))
      (subst (λ x. Every (Lies F k) (places_of (kind_number k) name ss x)) (sym n) (b fs refl))

  all_sections : (n at : ℕ) (ds : List Def) → defs_of (sections_from F n at) ≡ ok ds → Every (Lies F k) (places_of (kind_number k) name (sections_from F n at) at)
  unfolding defs_of places_of
  all_sections =
      by_sections F (λ at ss. (ds : List Def) → defs_of ss ≡ ok ds → Every (Lies F k) (places_of (kind_number k) name ss at)) (λ at ds e. tt) (λ at ds e. tt)
      λ at len ss l i ih ds e.
      let P = take len (drop at F) in
      with_section at (at + len) P ss ds (section_places (read_at 4 F at) P (kind_number k) name) (section_defs (read_at 4 F at) P) (defs_of ss) (ap (at +◌) l)
      (λ es. in_section at len l i (read_at 4 F at) es) ih e

  pub found_lies : (S : Schema) → schema_of F ≡ ok S → (at : ℕ) → last_place F (kind_number k) name ≡ Some at → Lies F k at
  unfolding schema_of last_place sections
  found_lies S e at q =
      from_defs S (defs_of (sections F)) e (λ s. Lies F k at) λ ds f. last_has (Lies F k) (places_of (kind_number k) name (sections F) 0) (all_sections (length F) 0 ds f) at q
