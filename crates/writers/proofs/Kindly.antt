-- Members and runs by their kind. No line here names a place of the code. Assumes nothing.
use Rattle.area.specs.Posts.{Ans}
use Rattle.std.specs.Prelude.{Option, Some, None}
use mathlib.Core.Path.{◌≡◌, refl, sym, ap, ◌∙◌}
use mathlib.Core.Bool.{Bool, true, false, cond, ◌||◌}
use mathlib.Core.List.{List}
use mathlib.Core.Logic.{◌⊎◌, inl, inr}
use Prim.Native.Nat.{ℕ}
use native.Mathlib.Omega.{arith}
use lib.Dec.{leb, eqb}
use borrow.Author.Tests.{eq-eqb, ne_eqb}
use Rattle.numbers.specs.Words.{Bytes}
use Rattle.numbers.specs.Result.{ok}
use Rattle.value.specs.Rows.{Value, Row, value_row, rows_from}
use Rattle.schema.specs.Defs
use Rattle.schema.specs.Defs.{Schema, StructDef, winning}
use Rattle.schema.specs.Psch.{schema_of}
use Rattle.definitions.specs.declared.members.Member as coded
use Rattle.layout.specs.State.{Env, M, if_m, opt_m}
use Rattle.layout.specs.Kinds
use Rattle.layout.specs.Kinds.{scalar, integer, vector, kind_of}
use Rattle.layout.specs.Members as members
use Rattle.layout.specs.Runs as runs
use Rattle.layout.specs.Runs.{Writer, Run, element_run}
use Rattle.layout.specs.Write.{Writers, is_struct_value, inline_member, pointed_member, struct_member, array_member, map_member, member}
use Rattle.area.specs.declared.Round.{Round}
use Rattle.area.specs.declared.Progress.{Progress}
use Rattle.area.specs.Area.{env_of}
use Rattle.cells.specs.declared.defs.Def.{Def}
use Rattle.cells.specs.Names.{def_of, member_of}
use Rattle.cells.specs.Plans.{plain_member}
use Rattle.members.specs.Names.{looked_is}
use Rattle.members.specs.Posts.{any_schema, Fills}
use Rattle.members.proofs.Filling.{def_name, fills_as}
use Rattle.runs.specs.Posts.{Yields, plain_run}
use Rattle.runs.proofs.Elements.{yields_as}
use Rattle.writers.specs.Posts.{Of, Named, inner, below, deeper, struct_run}
use Rattle.writers.proofs.Inlines.{looked_at_law, looked_none, looked_named}

-- a kind that leads to no structure
abbrev Plain : Kinds.Kind → Type 0
Plain (scalar s) = Unit {0}
Plain Kinds.text = Unit {0}
Plain Kinds.structure = ⊥
Plain Kinds.array = ⊥
Plain Kinds.enumeration = Unit {0}
Plain Kinds.flags = Unit {0}
Plain Kinds.map = ⊥
Plain Kinds.other = Unit {0}

-- .. to none as an element
abbrev Leaf : Kinds.Kind → Type 0
Leaf (scalar s) = Unit {0}
Leaf Kinds.text = Unit {0}
Leaf Kinds.structure = ⊥
Leaf Kinds.array = Unit {0}
Leaf Kinds.enumeration = Unit {0}
Leaf Kinds.flags = Unit {0}
Leaf Kinds.map = Unit {0}
Leaf Kinds.other = Unit {0}

abbrev ladder : Bool → Bool → Bool → Bool → Bool → Bool → Bool → Bool → Bool → Bool → Bool → Bool → Bool → Bool → Kinds.Kind
ladder a b c d e f g h i j k l m n =
    cond a (scalar (integer 1)) (cond b (scalar (integer 2)) (cond c (scalar (integer 4)) (cond d (scalar (integer 8)) (cond e (scalar Kinds.single) (cond f (scalar (vector 2))
    (cond g (scalar (vector 3)) (cond h (scalar (vector 4)) (cond i Kinds.text (cond j Kinds.structure (cond k Kinds.array (cond l Kinds.enumeration (cond m Kinds.flags
    (cond n Kinds.map Kinds.other)))))))))))))

-- whatever holds of every kind but structure, array and map
by_ladder : (P : Kinds.Kind → Type 0) → ((s : Kinds.Scalar) → P (scalar s)) → P Kinds.text → P Kinds.enumeration → P Kinds.flags → P Kinds.other
    → (a b c d e f g h i j k l m n : Bool) → (j ≡ false) ⊎ P Kinds.structure → (k ≡ false) ⊎ P Kinds.array → (n ≡ false) ⊎ P Kinds.map → P (ladder a b c d e f g h i j k l m n)
by_ladder P z t u v w true b c d e f g h i j k l m n x y q = z (integer 1)
by_ladder P z t u v w false true c d e f g h i j k l m n x y q = z (integer 2)
by_ladder P z t u v w false false true d e f g h i j k l m n x y q = z (integer 4)
by_ladder P z t u v w false false false true e f g h i j k l m n x y q = z (integer 8)
by_ladder P z t u v w false false false false true f g h i j k l m n x y q = z Kinds.single
by_ladder P z t u v w false false false false false true g h i j k l m n x y q = z (vector 2)
by_ladder P z t u v w false false false false false false true h i j k l m n x y q = z (vector 3)
by_ladder P z t u v w false false false false false false false true i j k l m n x y q = z (vector 4)
by_ladder P z t u v w false false false false false false false false true j k l m n x y q = t
by_ladder P z t u v w false false false false false false false false false true k l m n (inl x) y q = let e : ◌≡◌ {A = ℕ} 0 1 = cc in absurd (omega arith)
by_ladder P z t u v w false false false false false false false false false true k l m n (inr x) y q = x
by_ladder P z t u v w false false false false false false false false false false true l m n x (inl y) q = let e : ◌≡◌ {A = ℕ} 0 1 = cc in absurd (omega arith)
by_ladder P z t u v w false false false false false false false false false false true l m n x (inr y) q = y
by_ladder P z t u v w false false false false false false false false false false false true m n x y q = u
by_ladder P z t u v w false false false false false false false false false false false false true n x y q = v
by_ladder P z t u v w false false false false false false false false false false false false false true x y (inl q) = let e : ◌≡◌ {A = ℕ} 0 1 = cc in absurd (omega arith)
by_ladder P z t u v w false false false false false false false false false false false false false true x y (inr q) = q
by_ladder P z t u v w false false false false false false false false false false false false false false x y q = w

kind_plain : (x : ℕ) → (x ≡ 12 → ⊥) → (x ≡ 13 → ⊥) → (x ≡ 16 → ⊥) → Plain (kind_of x)
unfolding kind_of
kind_plain x a b c =
    by_ladder Plain (λ s. tt) tt tt tt tt (leb x 2) (leb x 4 || eqb x 30) (leb x 6) (eqb x 32) (eqb x 7) (eqb x 8) (eqb x 9 || eqb x 20) (eqb x 10 || eqb x 21) (eqb x 11) (eqb x 12) (eqb x 13) (eqb x 14)
    (eqb x 15) (eqb x 16) (inl (ne_eqb x 12 a)) (inl (ne_eqb x 13 b)) (inl (ne_eqb x 16 c))

kind_leaf : (x : ℕ) → (x ≡ 12 → ⊥) → Leaf (kind_of x)
unfolding kind_of
kind_leaf x a =
    by_ladder Leaf (λ s. tt) tt tt tt tt (leb x 2) (leb x 4 || eqb x 30) (leb x 6) (eqb x 32) (eqb x 7) (eqb x 8) (eqb x 9 || eqb x 20) (eqb x 10 || eqb x 21) (eqb x 11) (eqb x 12) (eqb x 13) (eqb x 14)
    (eqb x 15) (eqb x 16) (inl (ne_eqb x 12 a)) (inr tt) (inr tt)

-- a structure, an array, a map
kind_structure : (x : ℕ) → x ≡ 12 → kind_of x ≡ Kinds.structure
unfolding kind_of
kind_structure x e = rw e refl

kind_array : (x : ℕ) → x ≡ 13 → kind_of x ≡ Kinds.array
unfolding kind_of
kind_array x e = rw e refl

kind_map : (x : ℕ) → x ≡ 16 → kind_of x ≡ Kinds.map
unfolding kind_of
kind_map x e = rw e refl

-- the writers of members and of runs agree there
member_plain : (E : Env) (w : Writers) (d : StructDef) (e : Defs.Member) (k : Kinds.Kind) (v : Value) (buf : Bytes) → Plain k → member E w d e k v buf ≡ plain_member E d e k v buf
unfolding member plain_member
member_plain E w d e (scalar s) v buf h = refl
member_plain E w d e Kinds.text v buf h = refl
member_plain E w d e Kinds.structure v buf h = absurd h
member_plain E w d e Kinds.array v buf h = absurd h
member_plain E w d e Kinds.enumeration v buf h = refl
member_plain E w d e Kinds.flags v buf h = refl
member_plain E w d e Kinds.map v buf h = absurd h
member_plain E w d e Kinds.other v buf h = refl

run_leaf : (E : Env) (w : Writer) (d : StructDef) (e x : Defs.Member) (k : Kinds.Kind) (rs : List ℕ) → Leaf k → element_run E w d e x k rs ≡ plain_run E d e x k rs
unfolding element_run plain_run
run_leaf E w d e x (scalar s) rs h = refl
run_leaf E w d e x Kinds.text rs h = refl
run_leaf E w d e x Kinds.structure rs h = absurd h
run_leaf E w d e x Kinds.array rs h = refl
run_leaf E w d e x Kinds.enumeration rs h = refl
run_leaf E w d e x Kinds.flags rs h = refl
run_leaf E w d e x Kinds.map rs h = refl
run_leaf E w d e x Kinds.other rs h = refl

member_structure : (E : Env) (w : Writers) (d : StructDef) (e : Defs.Member) (v : Value) (buf : Bytes) → member E w d e Kinds.structure v buf ≡ struct_member E w d e v buf
unfolding member
member_structure E w d e v buf = refl

member_array : (E : Env) (w : Writers) (d : StructDef) (e : Defs.Member) (v : Value) (buf : Bytes) → member E w d e Kinds.array v buf ≡ array_member E w.afresh d e v buf
unfolding member
member_array E w d e v buf = refl

member_map : (E : Env) (w : Writers) (d : StructDef) (e : Defs.Member) (v : Value) (buf : Bytes) → member E w d e Kinds.map v buf ≡ map_member E w.afresh d e v buf
unfolding member
member_map E w d e v buf = refl

-- a structure by its value and subtype
struct_wrong : (E : Env) (w : Writers) (d : StructDef) (e : Defs.Member) (v : Value) (buf : Bytes) → is_struct_value E (value_row E.sheet v) ≡ false
    → struct_member E w d e v buf ≡ members.wrong d e v buf
unfolding struct_member if_m
struct_wrong E w d e v buf h = rw h refl

struct_inline : (E : Env) (w : Writers) (d : StructDef) (e : Defs.Member) (v : Value) (buf : Bytes) → is_struct_value E (value_row E.sheet v) ≡ true → eqb e.subtype 0 ≡ true
    → struct_member E w d e v buf ≡ inline_member E w.inline d e (value_row E.sheet v) buf
unfolding struct_member if_m
struct_inline E w d e v buf h k = rw (h, k) refl

struct_pointed : (E : Env) (w : Writers) (d : StructDef) (e : Defs.Member) (v : Value) (buf : Bytes) → is_struct_value E (value_row E.sheet v) ≡ true → eqb e.subtype 0 ≡ false
    → struct_member E w d e v buf ≡ pointed_member E w.afresh d e (value_row E.sheet v) buf
unfolding struct_member if_m
struct_pointed E w d e v buf h k = rw (h, k) refl

-- a run of structures
run_pointed : (E : Env) (w : Writer) (d : StructDef) (e x : Defs.Member) (rs : List ℕ) → eqb x.subtype 3 ≡ true
    → element_run E w d e x Kinds.structure rs ≡ runs.run E 8 12 (runs.pointer_element E w d e x.reference) rs
unfolding element_run runs.struct_run if_m
run_pointed E w d e x rs h = rw h refl

run_none : (E : Env) (w : Writer) (d : StructDef) (e x : Defs.Member) (rs : List ℕ) → eqb x.subtype 3 ≡ false → E.defs.struct x.reference ≡ None
    → element_run E w d e x Kinds.structure rs ≡ runs.stops d e 8 x.reference
unfolding element_run runs.struct_run if_m opt_m
run_none E w d e x rs h k = rw (h, k) refl

run_some : (E : Env) (w : Writer) (d : StructDef) (e x : Defs.Member) (rs : List ℕ) (i : StructDef) → eqb x.subtype 3 ≡ false → E.defs.struct x.reference ≡ Some i
    → element_run E w d e x Kinds.structure rs ≡ runs.run E i.size i.name (runs.struct_element E w d e i) rs
unfolding element_run runs.struct_run if_m opt_m
run_some E w d e x rs i h k = rw (h, k) refl

module _ (R : Round) (n : ℕ) (p : Progress) (w : Bytes) (T F : Bytes) (left depths : ℕ) (d : Def) (m : coded.Member) (v : Value) where
  abbrev as_struct : Schema → Bytes → M Bytes
  as_struct S buf = struct_member (env_of T S R) (below T R left depths S) (def_of F d) (member_of m) v buf

  abbrev as_member : Schema → Bytes → M Bytes
  as_member S buf = member (env_of T S R) (below T R left depths S) (def_of F d) (member_of m) (kind_of m.kind) v buf

  -- a structure member
  pub structure_wrong : (u : Row) (b : Bool) (r : Ans (Unit {0})) (w' : Bytes) → u ≡ value_row T v → ((E : Env) → b ≡ is_struct_value E u) → b ≡ false
      → ((F : Bytes) → Fills any_schema R n p w d.size (λ S buf. members.wrong (def_of F d) (member_of m) v buf) r w') → Fills (Of F) R n p w d.size as_struct r w'
  structure_wrong u b r w' z h e a =
      fills_as R n p w (Of F) any_schema d.size as_struct (λ S buf. members.wrong (def_of F d) (member_of m) v buf) r w'
      (λ S k. (
        tt,
        λ buf s. ap (λ (a : M Bytes). a s)
            (struct_wrong (env_of T S R) (below T R left depths S) (def_of F d) (member_of m) v buf (rw (← z) (sym (h (env_of T S R)) ∙ e))),
      )) (a F)

  pub structure_inline : (u : Row) (b : Bool) (r : Ans (Unit {0})) (w' : Bytes) → u ≡ value_row T v → ((E : Env) → b ≡ is_struct_value E u) → b ≡ true → m.subtype ≡ 0
      → Fills (Of F) R n p w d.size (λ S buf. inline_member (env_of T S R) (inner T R left depths S) (def_of F d) (member_of m) (value_row T v) buf) r w'
      → Fills (Of F) R n p w d.size as_struct r w'
  structure_inline u b r w' z h e f a =
      fills_as R n p w (Of F) (Of F) d.size as_struct (λ S buf. inline_member (env_of T S R) (inner T R left depths S) (def_of F d) (member_of m) (value_row T v) buf) r w'
      (λ S k. (
        k,
        λ buf s. ap (λ (a : M Bytes). a s)
            (struct_inline (env_of T S R) (below T R left depths S) (def_of F d) (member_of m) v buf (rw (← z) (sym (h (env_of T S R)) ∙ e)) (eq-eqb m.subtype 0 f)),
      )) a

  pub structure_pointed : (u : Row) (b : Bool) (r : Ans (Unit {0})) (w' : Bytes) → u ≡ value_row T v → ((E : Env) → b ≡ is_struct_value E u) → b ≡ true → (m.subtype ≡ 0 → ⊥)
      → Fills (Of F) R n p w d.size (λ S buf. pointed_member (env_of T S R) (deeper T R left S) (def_of F d) (member_of m) (value_row T v) buf) r w'
      → Fills (Of F) R n p w d.size as_struct r w'
  structure_pointed u b r w' z h e f a =
      fills_as R n p w (Of F) (Of F) d.size as_struct (λ S buf. pointed_member (env_of T S R) (deeper T R left S) (def_of F d) (member_of m) (value_row T v) buf) r w'
      (λ S k. (
        k,
        λ buf s. ap (λ (a : M Bytes). a s)
            (struct_pointed (env_of T S R) (below T R left depths S) (def_of F d) (member_of m) v buf (rw (← z) (sym (h (env_of T S R)) ∙ e)) (ne_eqb m.subtype 0 f)),
      )) a

  -- a member of a kind
  of_kind : (k : Kinds.Kind) (g : Schema → Bytes → M Bytes) (r : Ans (Unit {0})) (w' : Bytes) → kind_of m.kind ≡ k
      → ((S : Schema) (buf : Bytes) → member (env_of T S R) (below T R left depths S) (def_of F d) (member_of m) k v buf ≡ g S buf)
      → Fills (Of F) R n p w d.size g r w' → Fills (Of F) R n p w d.size as_member r w'
  of_kind k g r w' e h a =
      let eq : (S : Schema) (buf : Bytes) → as_member S buf ≡ g S buf = λ S buf. rw e (h S buf) in
      fills_as R n p w (Of F) (Of F) d.size as_member g r w' (λ S u. (u, λ buf s. ap (λ (a : M Bytes). a s) (eq S buf))) a

  pub member_as_structure : (r : Ans (Unit {0})) (w' : Bytes) → m.kind ≡ 12
      → Fills (Of F) R n p w d.size as_struct r w' → Fills (Of F) R n p w d.size as_member r w'
  member_as_structure r w' e a =
      of_kind Kinds.structure as_struct r w' (kind_structure m.kind e) (λ S buf. member_structure (env_of T S R) (below T R left depths S) (def_of F d) (member_of m) v buf) a

  pub member_as_array : (r : Ans (Unit {0})) (w' : Bytes) → m.kind ≡ 13
      → Fills (Of F) R n p w d.size (λ S buf. array_member (env_of T S R) (deeper T R left S) (def_of F d) (member_of m) v buf) r w' → Fills (Of F) R n p w d.size as_member r w'
  member_as_array r w' e a =
      of_kind Kinds.array (λ S buf. array_member (env_of T S R) (deeper T R left S) (def_of F d) (member_of m) v buf) r w' (kind_array m.kind e)
      (λ S buf. member_array (env_of T S R) (below T R left depths S) (def_of F d) (member_of m) v buf) a

  pub member_as_map : (r : Ans (Unit {0})) (w' : Bytes) → m.kind ≡ 16
      → Fills (Of F) R n p w d.size (λ S buf. map_member (env_of T S R) (deeper T R left S) (def_of F d) (member_of m) v buf) r w' → Fills (Of F) R n p w d.size as_member r w'
  member_as_map r w' e a =
      of_kind Kinds.map (λ S buf. map_member (env_of T S R) (deeper T R left S) (def_of F d) (member_of m) v buf) r w' (kind_map m.kind e)
      (λ S buf. member_map (env_of T S R) (below T R left depths S) (def_of F d) (member_of m) v buf) a

  pub member_as_plain : (r : Ans (Unit {0})) (w' : Bytes) → (m.kind ≡ 12 → ⊥) → (m.kind ≡ 13 → ⊥) → (m.kind ≡ 16 → ⊥)
      → Fills (Of F) R n p w d.size (λ S buf. plain_member (env_of T S R) (def_of F d) (member_of m) (kind_of m.kind) v buf) r w' → Fills (Of F) R n p w d.size as_member r w'
  member_as_plain r w' a b c h =
      of_kind (kind_of m.kind) (λ S buf. plain_member (env_of T S R) (def_of F d) (member_of m) (kind_of m.kind) v buf) r w' refl
      (λ S buf. member_plain (env_of T S R) (below T R left depths S) (def_of F d) (member_of m) (kind_of m.kind) v buf (kind_plain m.kind a b c)) h

module _ (R : Round) (n : ℕ) (p : Progress) (w : Bytes) (T F : Bytes) (left : ℕ) (d : Def) (m x : coded.Member) (first count : ℕ) where
  abbrev as_run : Schema → M (Option Run)
  as_run S = element_run (env_of T S R) (deeper T R left S) (def_of F d) (member_of m) (member_of x) (kind_of x.kind) (rows_from first count)

  pub run_plain : (r : Ans (Option ℕ)) (w' : Bytes) → (x.kind ≡ 12 → ⊥)
      → Yields (Of F) R n p w 1 (λ S. plain_run (env_of T S R) (def_of F d) (member_of m) (member_of x) (kind_of x.kind) (rows_from first count)) r w' → Yields (Of F) R n p w 1 as_run r w'
  run_plain r w' e a =
      yields_as R n p w (Of F) (Of F) 1 1 as_run (λ S. plain_run (env_of T S R) (def_of F d) (member_of m) (member_of x) (kind_of x.kind) (rows_from first count)) r w' (omega arith)
      (λ S k. (k, run_leaf (env_of T S R) (deeper T R left S) (def_of F d) (member_of m) (member_of x) (kind_of x.kind) (rows_from first count) (kind_leaf x.kind e))) a

  pub run_pointers : (r : Ans (Option ℕ)) (w' : Bytes) → x.kind ≡ 12 → x.subtype ≡ 3
      → Yields (Of F) R n p w 0 (λ S. runs.run (env_of T S R) 8 12 (runs.pointer_element (env_of T S R) (deeper T R left S) (def_of F d) (member_of m) x.reference) (rows_from first count)) r w'
      → Yields (Of F) R n p w 1 as_run r w'
  run_pointers r w' e f a =
      yields_as R n p w (Of F) (Of F) 0 1 as_run
      (λ S. runs.run (env_of T S R) 8 12 (runs.pointer_element (env_of T S R) (deeper T R left S) (def_of F d) (member_of m) x.reference) (rows_from first count)) r w' (omega arith)
      (λ S k. (k, rw (kind_structure x.kind e) (run_pointed (env_of T S R) (deeper T R left S) (def_of F d) (member_of m) (member_of x) (rows_from first count) (eq-eqb x.subtype 3 f)))) a

  pub run_missing : (l : Option Def) (r : Ans (Option ℕ)) (w' : Bytes) → x.kind ≡ 12 → (x.subtype ≡ 3 → ⊥) → ((S : Schema) → schema_of F ≡ ok S → (winning S).struct x.reference ≡ looked_is F l) → l ≡ None
      → ((F : Bytes) → Yields any_schema R n p w 1 (λ S. runs.stops (def_of F d) (member_of m) 8 x.reference) r w') → Yields (Of F) R n p w 1 as_run r w'
  run_missing l r w' e f h g a =
      yields_as R n p w (Of F) any_schema 1 1 as_run (λ S. runs.stops (def_of F d) (member_of m) 8 x.reference) r w' (omega arith)
      (λ S k. (
        tt,
        rw (kind_structure x.kind e)
            (run_none (env_of T S R) (deeper T R left S) (def_of F d) (member_of m) (member_of x) (rows_from first count) (ne_eqb x.subtype 3 f) (looked_none F x.reference l h g S k)),
      )) (a F)

  pub run_structs : (l : Option Def) (i : Def) (r : Ans (Option ℕ)) (w' : Bytes) → x.kind ≡ 12 → (x.subtype ≡ 3 → ⊥) → ((S : Schema) → schema_of F ≡ ok S → (winning S).struct x.reference ≡ looked_is F l) → l ≡ Some i
      → Yields (Named F i) R n p w 0 (λ S. struct_run (env_of T S R) (deeper T R left S) (def_of F d) (member_of m) (def_of F i) i.name first count false) r w' → Yields (Of F) R n p w 1 as_run r w'
  run_structs l i r w' e f h g a =
      yields_as R n p w (Of F) (Named F i) 0 1 as_run (λ S. struct_run (env_of T S R) (deeper T R left S) (def_of F d) (member_of m) (def_of F i) i.name first count false) r w' (omega arith)
      (λ S k. let y : (winning S).struct x.reference ≡ Some (def_of F i) = looked_at_law F x.reference l i h g S k in (
        looked_named F S x.reference i k y,
        rw (kind_structure x.kind e)
            (run_some (env_of T S R) (deeper T R left S) (def_of F d) (member_of m) (member_of x) (rows_from first count) (def_of F i) (ne_eqb x.subtype 3 f) y
            ∙ ap (λ (b : ℕ). runs.run (env_of T S R) (def_of F i).size b (runs.struct_element (env_of T S R) (deeper T R left S) (def_of F d) (member_of m) (def_of F i)) (rows_from first count)) (def_name F i)),
      )) a
