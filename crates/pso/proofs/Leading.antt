-- The loops that find the first definition of a name. Assumes nothing.
use Rattle.std.specs.Prelude.{Option, Some, None, option_map}
use mathlib.Core.Logic.{◌⊎◌, inl, inr}
use Rattle.std.specs.Option.{option_or}
use mathlib.Core.Path.{◌≡◌, refl, sym, ap, ap₂, ◌∙◌}
use mathlib.Core.Bool.{Bool, true, false}
use mathlib.Core.List.{List, [], ◌∷◌, ◌++◌, map}
use denote.Param.Members.{Mut}
use Rattle.std.specs.Fn.{Called}
use Rattle.std.specs.Iterator.{FindsMapped, Yields}
use Rattle.std.specs.Iterator.Runs.{Run, SomeRun, YieldsRun, AllItemsGive, IsFirstToGive}
use Rattle.std.specs.Prelude.{slice_get, IfSome, IsTrue}
use Rattle.std.specs.List.{FoldsTo}
use Rattle.std.specs.Option.{MatchOption}
use Rattle.std.specs.Range.{range_steps}
use Rattle.std.specs.declared.ops.Range.{Range}
use Prim.Native.Nat.{ℕ, suc, ◌+◌, ◌-◌, ◌*◌, ◌≤◌, ◌<◌}
use native.Mathlib.Omega.{arith}
use lib.ListN.{length}
use Rattle.numbers.specs.Words.{Bytes, read_at}
use Rattle.numbers.specs.Result.{ok, given}
use Rattle.schema.specs.Sections.{Sections, section, end, broken}
use Rattle.schema.specs.Defs.{leading}
use Rattle.schema.specs.Index.{leads_to, kept, places_from, section_places, places_of, first_of, first_place}
use Rattle.schema.specs.Steps.{rest, kind_number}
use Rattle.definitions.specs.Answers.{struct_found, enum_found}
use Rattle.schema.specs.declared.kind.Kind.{Kind}
use Rattle.schema.specs.declared.kind.Kind.TheVariants.{Structure, Enum}
use Rattle.schema.proofs.Walk.{rest_all}
use Rattle.definitions.proofs.Seek.{given_none, given_some}
use Rattle.definitions.proofs.Finds.{first_map, first_append, leading_struct, leading_enum}
use Rattle.pso.proofs.Given.{parsed}
use Rattle.pso.specs.Reader.{Pso, parse_pso}
use Rattle.pso.specs.Answers.{definition_at, struct_defined, enum_defined}
use Rattle.pso.specs.declared.lookup.Definition.{Definition}

-- the definition at a place is the one that its numbers are of
struct_same : (F : Bytes) (name : ℕ) (o : Option ℕ) → struct_found F name o ≡ struct_defined F name (definition_at F Structure o)
struct_same F name (Some at) = refl
struct_same F name None = refl

enum_same : (F : Bytes) (name : ℕ) (o : Option ℕ) → enum_found F name o ≡ enum_defined F name (definition_at F Enum o)
enum_same F name (Some at) = refl
enum_same F name None = refl

-- ---- the index entries of a section, from the first on
module _ (P : Bytes) (kind name n : ℕ) where
  abbrev pub wanted : Option ℕ
  wanted = first_of (places_from P kind name n 12)

  -- what is left of the index leads to the same end
  abbrev pub Left : ℕ → Type 0
  Left k = first_of (places_from P kind name (n - k) (12 + 8 * k)) ≡ wanted

  pub first_start : Left 0
  first_start =
      let z : n - 0 ≡ n = omega arith in
      rw z

  module _ (i : ℕ) (lt : i < n) (g : Left i) where
    abbrev Finds : Option ℕ → Type 0
    Finds o = o ≡ given (leads_to P kind name (12 + 8 * i)) (read_at 4 P (12 + 8 * i + 4))

    one : (b : Bool) → leads_to P kind name (12 + 8 * i) ≡ b
        → first_of (kept b (read_at 4 P (12 + 8 * i + 4)) (places_from P kind name (n - (i + 1)) (12 + 8 * (i + 1)))) ≡ wanted
    unfolding places_from
    one b q =
        let z : n - i ≡ suc (n - (i + 1)) = omega arith in
        let f : 12 + 8 * i + 8 ≡ 12 + 8 * (i + 1) = omega arith in
        let at = 12 + 8 * i in
        sym
        (sym g ∙ ap (λ (x : ℕ). first_of (places_from P kind name x at)) z
        ∙ ap₂ (λ x y. first_of (kept x (read_at 4 P (at + 4)) (places_from P kind name (n - (i + 1)) y))) q f)

    pub first_hit : (q : ℕ) → Finds (Some q) → Some q ≡ wanted
    unfolding first_of
    first_hit q e =
        let x = given_some _ q _ e in
        ap Some x.1 ∙ one true x.0

    pub first_miss : Finds None → Left (i + 1)
    first_miss e = one false (given_none _ _ e)

  pub first_none : (i : ℕ) → n ≤ i → Left i → None ≡ wanted
  unfolding places_from first_of
  first_none i h g =
      let z : n - i ≡ 0 = omega arith in
      sym (ap (λ (x : ℕ). first_of (places_from P kind name x (12 + 8 * i))) z) ∙ g

  -- over the range of the entries: the calls of f on those that are passed over, and the last
  module _ {F : Type 0} (g : Mut F (ℕ × Unit {0}) (Option ℕ)) (f : F) (tells : (i : ℕ) (o : Option ℕ) (q : F) → Called g f (i, tt) o q → (q ≡ f) × (o ≡ given (leads_to P kind name (12 + 8 * i)) (read_at 4 P (12 + 8 * i + 4)))) where
    abbrev Steps : Range ℕ → Option ℕ → Range ℕ → Type 0
    Steps = range_steps (λ a b. b - a) (λ a b. b ≡ a + 1)

    first_mapped : (xs : List ℕ) (s t u : Range ℕ) (e : F) (o : Option ℕ) (q : ℕ) → s.end ≡ n → Left s.start → Yields Steps s xs t → Steps t o u
        → FoldsTo (λ p x q. Called g p (x, tt) None q) f xs e → MatchOption o (Some q ≡ None) (λ x. (h : F) × Called g e (x, tt) (Some q) h) → Some q ≡ wanted
    first_mapped [] s t u e None q k l y z c m = m ∙ first_none s.start (omega (arith, k, z.1.0, ap (λ (x : Range ℕ). x.start) y, ap (λ (x : Range ℕ). x.end) y)) l
    first_mapped [] s t u e (Some x) q k l y z c m =
        let w = tells x (Some q) m.0 (rw c m.1) in
        first_hit s.start (omega (arith, k, z.1.0, ap (λ (x : Range ℕ). x.start) y, ap (λ (x : Range ℕ). x.end) y)) l q (rw (ap (λ (x : Range ℕ). x.start) y, ← z.1.1) w.1)
    first_mapped (x ∷ xs) s t u e o q k l (j, a, y) z (d, b, c) m =
        let w = tells x None d b in
        first_mapped xs j t u e o q (a.0 ∙ k) (rw a.1.2 (first_miss s.start (omega (arith, k, a.1.0)) l (rw (← a.1.1) w.1))) y z (rw (← w.0) c) m

    all_miss : (xs : List ℕ) (s t u : Range ℕ) → s.end ≡ n → Left s.start → Yields Steps s xs t → Steps t None u
        → ((k : ℕ) → IfSome (slice_get xs k) (λ x. Called g f (x, tt) None f)) → None ≡ wanted
    all_miss [] s t u k l y z h = first_none s.start (omega (arith, k, z.1.0, ap (λ (x : Range ℕ). x.start) y, ap (λ (x : Range ℕ). x.end) y)) l
    all_miss (x ∷ xs) s t u k l (j, a, y) z h =
        let w = tells x None f (h 0) in
        all_miss xs j t u (a.0 ∙ k) (rw a.1.2 (first_miss s.start (omega (arith, k, a.1.0)) l (rw (← a.1.1) w.1))) y z (λ i. h (suc i))

    run_miss : (p : Run Steps) → p.from.start ≡ 0 → p.from.end ≡ n → p.whole ≡ true → AllItemsGive p g f None → None ≡ wanted
    unfolding YieldsRun
    run_miss p a b w h =
        let d = p.gave.0.2 w in
        all_miss p.items p.from p.gave.0.0 d.0 b (rw a first_start) p.gave.0.1 d.1 (λ k. rw (← p.gave.1 k) (h (λ x r q c. (tells x.0 r q c).0) k))

    pub first_maps : (s u : Range ℕ) (r : Option ℕ) → s.start ≡ 0 → s.end ≡ n → FindsMapped Steps g s f r u
        → SomeRun Steps s (λ p. MatchOption r (IsTrue p.whole × AllItemsGive p g f None) (λ y. (i : ℕ) × (i < p.len) × (p.len ≡ i + 1) × IsFirstToGive p g f (Some y) None i)) → r ≡ wanted
    first_maps s u None a b h (p, e, w) = run_miss p (ap (λ (x : Range ℕ). x.start) e ∙ a) (ap (λ (x : Range ℕ). x.end) e ∙ b) w.0 w.1
    first_maps s u (Some q) a b (xs, o, e, (t, y, z), c, m) w = first_mapped xs s t u e o q b (rw a first_start) y z c m

-- ---- the sections of a file
module _ (F : Bytes) (kind name : ℕ) where
  -- the sections that are left, the first of them at `at`, lead to the same end
  pub record Going (ss : Sections) (at : ℕ) : Type 0 where
    pub same : first_of (places_of kind name ss at) ≡ first_place F kind name

  pub begin : (ss : Sections) (at : ℕ) → ss ≡ rest F 0 → at ≡ 0 → Going ss at
  unfolding first_place
  begin ss at e z = record { same = ap₂ (λ (x : Sections) (n : ℕ). first_of (places_of kind name x n)) (e ∙ rest_all F) z }

  pub at_end_law : (ss : Sections) (at : ℕ) → Going ss at → (ss ≡ end) ⊎ (ss ≡ broken) → None ≡ first_place F kind name
  unfolding places_of first_of
  at_end_law ss at g (inl e) = ap (λ (x : Sections). first_of (places_of kind name x at)) (sym e) ∙ g.same
  at_end_law ss at g (inr e) = ap (λ (x : Sections). first_of (places_of kind name x at)) (sym e) ∙ g.same

  module _ (ident : ℕ) (P : Bytes) (ss : Sections) (at place next : ℕ) (r : Option ℕ) (g : Going (section ident P ss) at) (here : place ≡ at) (on : next ≡ at + length P)
      (q : r ≡ option_map (place +◌) (first_of (section_places ident P kind name))) where
    turn : option_or r (first_of (places_of kind name ss next)) ≡ first_place F kind name
    unfolding places_of
    turn =
        let ps = section_places ident P kind name in
        let behind = first_of (places_of kind name ss next) in
        ap (λ (x : Option ℕ). option_or x behind) (q ∙ sym (first_map (place +◌) ps)) ∙ sym (first_append (map (place +◌) ps) (places_of kind name ss next))
        ∙ ap₂ (λ x y. first_of (map (x +◌) ps ++ places_of kind name ss y)) here on ∙ g.same

    pub found : (a : ℕ) → r ≡ Some a → Some a ≡ first_place F kind name
    found a x = rw x at turn

    pub goes_on : r ≡ None → Going ss next
    goes_on x = record { same = rw x at turn }

-- ---- the answers
pub defines : (F : Bytes) (kind : Kind) (name : ℕ) (o : Option ℕ) (r : Option Definition) → o ≡ first_place F (kind_number kind) name → r ≡ definition_at F kind o
    → record {
      value : r ≡ definition_at F kind (first_place F (kind_number kind) name);
      structure_value : kind ≡ Structure → (p : Pso) → parse_pso F ≡ ok p → (leading p.schema).struct name ≡ struct_defined F name r;
      enum_value : kind ≡ Enum → (p : Pso) → parse_pso F ≡ ok p → (leading p.schema).enum name ≡ enum_defined F name r;
    }
defines F kind name o r e q =
    record {
      value = q ∙ ap (definition_at F kind) e;
      structure_value = λ k p h.
          leading_struct F name o p.schema (parsed F p h).schema (e ∙ ap (λ (x : Kind). first_place F (kind_number x) name) k)
          ∙ struct_same F name o ∙ ap (struct_defined F name) (sym (q ∙ ap (λ (x : Kind). definition_at F x o) k));
      enum_value = λ k p h.
          leading_enum F name o p.schema (parsed F p h).schema (e ∙ ap (λ (x : Kind). first_place F (kind_number x) name) k)
          ∙ enum_same F name o ∙ ap (enum_defined F name) (sym (q ∙ ap (λ (x : Kind). definition_at F x o) k));
    }
