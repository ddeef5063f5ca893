-- The plan of a member, by its kind and subtype. No line here names a place of the code. Assumes nothing.
use Rattle.std.specs.Prelude.{Option, Some, None, is_some, unwrap_or, option_map, ok_or, Err}
use Rattle.std.specs.Result.{result_ok}
use mathlib.Core.Path.{◌≡◌, refl, sym, ap, subst, ◌∙◌}
use mathlib.Core.Logic.{◌⊎◌, inl, inr}
use mathlib.Core.Bool.{Bool, true, false, ◌||◌}
use mathlib.Core.List.{[]}
use Prim.Native.Nat.{ℕ, ◌≤◌, ◌<◌, ◌^◌}
use native.Mathlib.Omega.{arith}
use lib.Dec.{eqb}
use borrow.Author.Tests.{le-leb, lt-leb, eq-eqb, ne_eqb, eqb-false}
use Rattle.numbers.specs.Words.{Bytes}
use Rattle.numbers.specs.Result.{ok}
use Rattle.value.specs.Rows.{Value}
use Rattle.schema.specs.Defs
use Rattle.schema.specs.Defs.{Schema, StructDef, winning}
use Rattle.schema.specs.Psch.{schema_of, enum_here}
use Rattle.schema.specs.Index.{last_place}
use Rattle.definitions.specs.Answers.{enum_found}
use Rattle.definitions.specs.declared.members.Member as coded
use Rattle.layout.specs.State.{M, if_m}
use Rattle.layout.specs.Kinds as Kinds
use Rattle.layout.specs.Members.{leaves, is_pointer_text, is_hash_text, enum_size, fixed_member, pointer_member, hash_member, text_member, enum_member, flags_member, reference_at, high16, low12}
use Rattle.area.specs.declared.Round.{Round}
use Rattle.area.specs.Area.{env_of}
use Rattle.area.specs.declared.fault.Fault.TheVariants as Faults
use Rattle.cells.specs.declared.defs.Def.{Def}
use Rattle.cells.specs.declared.Cell.TheVariants as C
use Rattle.cells.specs.declared.plan.Plan.{Plan}
use Rattle.cells.specs.declared.plan.Plan.TheVariants as P
use Rattle.cells.specs.Names.{def_of, member_of, EntriesOf, Named}
use Rattle.names.specs.Entries.{NoEntries}
use Rattle.names.specs.declared.entries.Entries.{Entries}
use Rattle.cells.specs.Cells.{Sane, cell_size, scalar_cell}
use Rattle.cells.specs.Plans.{named_member, plain_member}
use Rattle.cells.specs.Plans.{scalar_plan, fixed_plan, text_plan, NamedPlan, IsPlan, Known, Plans, PlansKind}
use Rattle.cells.proofs.Choosing.{scalar_cell_law, fixed_cell, hash_cell, named_cell, named_cell_law, named_sane}

seven_eight : (x : ℕ) → 7 ≤ x → x < 9 → eqb x 7 || eqb x 8 ≡ true
seven_eight x h g = go (eqb x 7) refl
  where
    go : (b : Bool) → eqb x 7 ≡ b → b || eqb x 8 ≡ true
    go true e = refl
    go false e = eq-eqb x 8 (let z : x ≡ 7 → ⊥ = eqb-false x 7 e in omega (arith, z))

-- the name is the enum's own
pub named_own : (F : Bytes) (h : ℕ) (e : Entries) (name : Option ℕ) → Named F h e name → (k : ℕ) → name ≡ Some k → k ≡ h
named_own F h e name a k q = by (last_place F 1 h) (sym q ∙ a.known) where
  by : (o : Option ℕ) → Some k ≡ option_map (λ at. h) o → k ≡ h
  by None r = cc
  by (Some at) r = cc

-- a name, with what is carried where there is none
name_kept : (name : Option ℕ) (h : ℕ) → result_ok (ok_or name h) ≡ name
name_kept None h = refl
name_kept (Some k) h = refl

-- no enum is used
unused : (S : Schema) → Known None S
unused S h z = cc

module _ (F : Bytes) (d : Def) (m : coded.Member) where
  abbrev D : StructDef
  D = def_of F d

  abbrev e : Defs.Member
  e = member_of m

  -- the tests of a text's subtype
  pointed_tests : (m.subtype ≡ 0 → ⊥) → m.subtype < 4 → (eqb m.subtype 0 ≡ false) × (is_pointer_text m.subtype ≡ true)
  pointed_tests h g = (ne_eqb m.subtype 0 h, rw (le-leb 1 m.subtype (omega (arith, h)), le-leb m.subtype 3 (omega arith)))

  hashed_tests : 7 ≤ m.subtype → m.subtype < 9 → (eqb m.subtype 0 ≡ false) × (is_pointer_text m.subtype ≡ false) × (is_hash_text m.subtype ≡ true)
  hashed_tests h g =
      (ne_eqb m.subtype 0 (λ z. omega (arith, z)), rw (le-leb 1 m.subtype (omega arith), lt-leb m.subtype 3 (omega arith)), seven_eight m.subtype h g)

  strange_tests : 4 ≤ m.subtype → (m.subtype < 7) ⊎ (9 ≤ m.subtype)
      → (eqb m.subtype 0 ≡ false) × (is_pointer_text m.subtype ≡ false) × (is_hash_text m.subtype ≡ false)
  strange_tests h g = (
    ne_eqb m.subtype 0 (λ z. omega (arith, z)),
    rw (le-leb 1 m.subtype (omega arith), lt-leb m.subtype 3 (omega arith)),
    rw (
      ne_eqb m.subtype 7 (far 7 (λ l. omega (arith, l)) (λ l. omega (arith, l)) g),
      ne_eqb m.subtype 8 (far 8 (λ l. omega (arith, l)) (λ l. omega (arith, l)) g),
    ),
  )
    where
      far : (k : ℕ) → (k < 7 → ⊥) → (9 ≤ k → ⊥) → (m.subtype < 7) ⊎ (9 ≤ m.subtype) → m.subtype ≡ k → ⊥
      far k a b (inl l) z = a (omega (arith, z))
      far k a b (inr l) z = b (omega (arith, z))

  -- a text by its subtype
  module _ (T : Bytes) (R : Round) (S : Schema) (v : Value) (buf : Bytes) where
    fixed_is : m.subtype ≡ 0 → text_member (env_of T S R) D e v buf ≡ fixed_member (env_of T S R) D e v buf
    unfolding text_member if_m
    fixed_is h = rw h refl

    pointed_is_law : (m.subtype ≡ 0 → ⊥) → m.subtype < 4 → text_member (env_of T S R) D e v buf ≡ pointer_member (env_of T S R) D e v buf
    unfolding text_member if_m
    pointed_is_law h g = let t = pointed_tests h g in rw (t.0, t.1) refl

    hashed_is : 7 ≤ m.subtype → m.subtype < 9 → text_member (env_of T S R) D e v buf ≡ hash_member (env_of T S R) D e v buf
    unfolding text_member if_m
    hashed_is h g = let t = hashed_tests h g in rw (t.0, t.1, t.2) refl

    strange_is : 4 ≤ m.subtype → (m.subtype < 7) ⊎ (9 ≤ m.subtype) → text_member (env_of T S R) D e v buf ≡ leaves D e 3 m.subtype buf
    unfolding text_member if_m
    strange_is h g = let t = strange_tests h g in rw (t.0, t.1, t.2) refl

  pub text_fixed : m.subtype ≡ 0 → high16 m.reference < 65536 → Plans F d m text_member (λ y. y ≡ text_plan m) (fixed_plan m.reference)
  text_fixed h l = record {
    exact = rw h;
    order = (omega (arith, l), refl, omega (arith, l));
    knows = λ S y. unused S;
    is = λ T R S y v buf s. ap (λ (x : M Bytes). x s) (fixed_is T R S v buf h) ∙ fixed_cell T S R D e v buf s;
  }

  pub text_pointed : (m.subtype ≡ 0 → ⊥) → m.subtype < 4 → Plans F d m text_member (λ y. y ≡ text_plan m) P.Pointer
  text_pointed h g = record {
    exact = let t = pointed_tests h g in rw (t.0, t.1);
    order = tt;
    knows = λ S y. tt;
    is = λ T R S y v buf s. ap (λ (x : M Bytes). x s) (pointed_is_law T R S v buf h g);
  }

  pub text_hashed : 7 ≤ m.subtype → m.subtype < 9 → Plans F d m text_member (λ y. y ≡ text_plan m) (P.Store C.Hash 4 (Err 0))
  text_hashed h g = record {
    exact = let t = hashed_tests h g in rw (t.0, t.1, t.2);
    order = (tt, refl, omega arith);
    knows = λ S y. unused S;
    is = λ T R S y v buf s. ap (λ (x : M Bytes). x s) (hashed_is T R S v buf h g) ∙ hash_cell T S R D e v buf s;
  }

  pub text_strange : 4 ≤ m.subtype → (m.subtype < 7) ⊎ (9 ≤ m.subtype) → Plans F d m text_member (λ y. y ≡ text_plan m) (P.Remark Faults.StringSubtype m.subtype)
  text_strange h g = record {
    exact = let t = strange_tests h g in rw (t.0, t.1, t.2);
    order = tt;
    knows = λ S y. tt;
    is = λ T R S y v buf s. ap (λ (x : M Bytes). x s) (strange_is T R S v buf h g);
  }

  -- flags or an enum by the entries of the enum h
  named_is : (flags : Bool) (h k : ℕ) → k ≡ enum_size m.subtype → k ≤ 4 → (en : Entries) (name : Option ℕ) → Named F h en name → (x : Plan → Type 0) → x (P.Store (named_cell flags en k) k (ok_or name h))
      → Plans F d m (λ E D e v buf. named_member flags E h D e v buf) x (P.Store (named_cell flags en k) k (ok_or name h))
  named_is flags h k size few en name a x y =
      let z = named_sane flags en k few in
      record {
        exact = y;
        order = (z.0, z.1, omega (arith, few));
        knows = λ S q. rw (name_kept name h) (known_as S q);
        is = λ T R S q v buf s. rw (size, name_kept name h) (named_cell_law T S R D e v buf s flags h en name (a.used S q) own (a.all S q));
      }
    where
      own : (k : ℕ) → name ≡ Some k → k ≡ h
      own = named_own F h en name a

      known_as : (S : Schema) → schema_of F ≡ ok S → Known name S
      known_as S q k r = rw (own k r) (a.used S q ∙ ap is_some r)

  -- a member whose kind is k
  module _ (k : Kinds.Kind) (kind : k ≡ Kinds.kind_of m.kind) where
    planned_as : (r : Plan) → PlansKind F d m k r → PlansKind F d m (Kinds.kind_of m.kind) r
    planned_as r a = subst (λ (y : Kinds.Kind). PlansKind F d m y r) kind a

    pub plan_scalar : (x : Kinds.Scalar) (r : Plan) → k ≡ Kinds.scalar x → Sane (scalar_cell x) → cell_size (scalar_cell x) ≡ Kinds.size_of x → Kinds.size_of x < 2 ^ 40 → r ≡ scalar_plan x
        → PlansKind F d m (Kinds.kind_of m.kind) r
    unfolding plain_member IsPlan
    plan_scalar x r z a b c q =
        planned_as r (rw (z, q) (record { exact = refl; order = (a, b, c); knows = λ S y. unused S; is = λ T R S y v buf s. scalar_cell_law T S R D e v buf s x }))

    pub plan_text : (r : Plan) → k ≡ Kinds.text → Plans F d m text_member (λ y. y ≡ text_plan m) r → PlansKind F d m (Kinds.kind_of m.kind) r
    unfolding plain_member IsPlan
    plan_text r z a = planned_as r (rw z (record { exact = a.exact; order = a.order; knows = a.knows; is = a.is }))

    pub plan_enum : (size : ℕ) (en : Entries) (name : Option ℕ) → k ≡ Kinds.enumeration → size ≡ enum_size m.subtype → size ≤ 4 → Named F m.reference en name
        → PlansKind F d m (Kinds.kind_of m.kind) (P.Store (C.Enum en size) size (ok_or name m.reference))
    unfolding plain_member IsPlan enum_member
    plan_enum size en name z q l a =
        let y = named_is false m.reference size q l en name a (NamedPlan F C.Enum (enum_size m.subtype) m.reference) (en, name, a, rw q) in
        planned_as (P.Store (C.Enum en size) size (ok_or name m.reference)) (rw z (record { exact = y.exact; order = y.order; knows = y.knows; is = y.is }))

    pub plan_flags : (size : ℕ) (en : Entries) (name : Option ℕ) (h : ℕ) → k ≡ Kinds.flags → h ≡ reference_at D (low12 m.reference) → size ≡ enum_size m.subtype → size ≤ 4 → Named F h en name
        → PlansKind F d m (Kinds.kind_of m.kind) (P.Store (C.Flags en size) size (ok_or name h))
    unfolding plain_member IsPlan flags_member
    plan_flags size en name h z g q l a =
        let b : Named F (reference_at D (low12 m.reference)) en name = subst (λ (y : ℕ). Named F y en name) g a in
        let y = named_is true (reference_at D (low12 m.reference)) size q l en name b (NamedPlan F C.Flags (enum_size m.subtype) (reference_at D (low12 m.reference))) (en, name, b, rw q) in
        rw g (planned_as (P.Store (C.Flags en size) size (ok_or name (reference_at D (low12 m.reference)))) (rw z (record { exact = y.exact; order = y.order; knows = y.knows; is = y.is })))

    -- a structure, an array or a map is left to others
    pub plan_left : (k ≡ Kinds.structure) ⊎ ((k ≡ Kinds.array) ⊎ (k ≡ Kinds.map)) → PlansKind F d m (Kinds.kind_of m.kind) P.Nothing
    unfolding plain_member IsPlan
    plan_left (inl z) = planned_as P.Nothing (rw z (record { exact = refl; order = tt; knows = λ S y. tt; is = λ T R S y v buf s. refl }))
    plan_left (inr (inl z)) = planned_as P.Nothing (rw z (record { exact = refl; order = tt; knows = λ S y. tt; is = λ T R S y v buf s. refl }))
    plan_left (inr (inr z)) = planned_as P.Nothing (rw z (record { exact = refl; order = tt; knows = λ S y. tt; is = λ T R S y v buf s. refl }))

    pub plan_other : k ≡ Kinds.other → PlansKind F d m (Kinds.kind_of m.kind) (P.Remark Faults.MemberType m.kind)
    unfolding plain_member IsPlan
    plan_other z = planned_as (P.Remark Faults.MemberType m.kind) (rw z (record { exact = refl; order = tt; knows = λ S y. tt; is = λ T R S y v buf s. refl }))

-- ---- the enum h and its entries
module _ (F : Bytes) (h : ℕ) (f : Option ℕ) (place : f ≡ last_place F 1 h) (found : (S : Schema) → schema_of F ≡ ok S → (winning S).enum h ≡ enum_found F h f) (e : Entries) where
  -- it is not there
  pub named_none : f ≡ None → NoEntries F e → Named F h e None
  named_none z a = record {
    known = let q : last_place F 1 h ≡ None = sym place ∙ z in rw q;
    there = λ at q. let r : ◌≡◌ {A = Option ℕ} None (Some at) = sym z ∙ place ∙ q in cc;
    missing = λ q. a;
    used = λ S y. ap is_some (found S y ∙ ap (enum_found F h) z);
    all = λ S y. ap (λ (o : Option Defs.EnumDef). unwrap_or (option_map (λ x. x.entries) o) []) (found S y ∙ ap (enum_found F h) z) ∙ sym a.all;
  }

  -- it is there
  pub named_some : (at : ℕ) → f ≡ Some at → EntriesOf F at e → Named F h e (Some h)
  unfolding enum_here
  named_some at z a = record {
    known = let q : last_place F 1 h ≡ Some at = sym place ∙ z in rw q;
    there = λ x q. let r : ◌≡◌ {A = Option ℕ} (Some at) (Some x) = sym z ∙ place ∙ q in let i : at ≡ x = cc in subst (λ (y : ℕ). EntriesOf F y e) i a;
    missing = λ q. let r : ◌≡◌ {A = Option ℕ} (Some at) None = sym z ∙ place ∙ q in cc;
    used = λ S y. ap is_some (found S y ∙ ap (enum_found F h) z);
    all = λ S y. ap (λ (o : Option Defs.EnumDef). unwrap_or (option_map (λ x. x.entries) o) []) (found S y ∙ ap (enum_found F h) z) ∙ sym a.all;
  }
