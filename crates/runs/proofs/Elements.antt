-- Runs that lead to no structure, by their elements' kind. No line here names a place of the code. Assumes nothing.
use Rattle.std.specs.Prelude.{Option, Some, None, is_some, option_map, Ok, Err}
use mathlib.Core.Path.{◌≡◌, refl, sym, ap, fun_ext, ◌∙◌}
use mathlib.Core.List.{List, ◌++◌, append-nil}
use mathlib.Core.Logic.{◌⊎◌, inl, inr}
use mathlib.Core.Bool.{Bool, true, false, cond, false≢true}
use Prim.Native.Nat.{ℕ, ◌-◌, ◌*◌, ◌≤◌, ◌<◌}
use native.Mathlib.Omega.{arith}
use borrow.Author.Tests.{eqb-true, eqb-false, eq-eqb, ne_eqb, le-leb, lt-leb}
use lib.Dec.{eqb}
use lib.ListN.{length, take}
use Rattle.numbers.specs.Words.{Bytes, bytes_of, padded, zeros}
use Rattle.numbers.specs.Result.{ok}
use Rattle.numbers.proofs.Bytes.{length_bytes}
use Rattle.value.specs.Rows.{row}
use Rattle.coerce.specs.Numbers.{Fit, map_fit, fit_or, str_of}
use Rattle.coerce.specs.declared.misfit.Misfit.TheVariants.{Unfit, FloatText}
use Rattle.names.specs.Names.{hash_of, enum_value}
use Rattle.schema.specs.Defs
use Rattle.schema.specs.Defs.{Schema, StructDef, winning}
use Rattle.schema.specs.Psch.{schema_of}
use Rattle.names.specs.Entries.{all_of}
use Rattle.names.specs.declared.entries.Entries.{Entries}
use Rattle.definitions.specs.declared.members.Member as coded
use Rattle.layout.specs.State.{State, Env, M, done, after, bind, ret, if_m, fit_m, remark, with_remark, use_enum, log_enum, on_core, settle, use_enum_c}
use Rattle.layout.specs.Kinds
use Rattle.layout.specs.Members.{says, high16, slot_size, entries_of, use_enum_of}
use Rattle.layout.specs.Runs.{Run, stops, run, text_run, fixed_run, enum_run, fixed_element, hash_element, enum_element, text_element, scalar_element, scalar_stride, scalar_block, slot_block}
use Rattle.area.specs.declared.Round.{Round}
use Rattle.area.specs.declared.Progress.{Progress}
use Rattle.area.specs.Area.{used_in, env_of}
use Rattle.area.specs.Posts.{Safe, Open, Notes, Marks, Ans, gives, refuses}
use Rattle.area.proofs.Flat.{padded_is}
use Rattle.cells.specs.declared.defs.Def.{Def}
use Rattle.cells.specs.declared.Cell.TheVariants as C
use Rattle.cells.specs.Names.{def_of, member_of, Named}
use Rattle.cells.proofs.Planning.{named_own}
use Rattle.cells.specs.Cells.{cell_bytes, cell_element, scalar_cell}
use Rattle.members.specs.Posts.{remark_on, Marked, any_schema}
use Rattle.members.proofs.Filling.{went_noted}
use Rattle.runs.specs.Posts.{Grew, Yields, plain_run}

-- a remark stops a run
stops_is : (F : Bytes) (d : Def) (m : coded.Member) (kind detail : ℕ) (s : State) → stops (def_of F d) (member_of m) kind detail s ≡ done None (with_remark (remark_on d m kind detail) s)
unfolding stops says remark bind after ret def_of
stops_is F d m kind detail s = refl

module _ (R : Round) (n : ℕ) (p : Progress) (w : Bytes) where
  pub run_said : (d : Def) (m : coded.Member) (kind detail : ℕ) (q : Progress) (w' : Bytes) → Safe R n p → Open p → Notes R n p w (remark_on d m kind detail) q w'
      → (F : Bytes) → Yields any_schema R n p w 1 (λ S. stops (def_of F d) (member_of m) kind detail) (gives None q) w'
  run_said d m kind detail q w' h o t F = record {
    grew = went_noted R n p w (remark_on d m kind detail) q w' h o t;
    says = λ S k s σ r. rw (stops_is F d m kind detail s) (rw (append-nil σ) (t.says S s σ r), refl);
  }

  -- nothing is done
  nothing_run : Safe R n p → Yields any_schema R n p w 0 (λ S. ret None) (gives None p) w
  unfolding ret
  nothing_run h = record {
    grew = (h, record { more = omega arith; paid = omega arith; top = omega arith; met = omega arith });
    says = λ S k s σ r. (rw (append-nil σ) r, refl);
  }

  -- fewer remarks than there may be
  grew_more : (j k : ℕ) (r : Ans (Option ℕ)) → j ≤ k → Grew R n p j r → Grew R n p k r
  grew_more j k (gives (Some b) q) l h = h
  grew_more j k (gives None q) l h = (h.0, record { more = h.1.more; paid = h.1.paid; top = h.1.top; met = omega (arith, h.1.met, l) })
  grew_more j k (refuses b q) l h = h

  -- another run that does the same, where less is known of the schema
  pub yields_as : (known less : Schema → Type 0) (j k : ℕ) (f g : Schema → M (Option Run)) (r : Ans (Option ℕ)) (w' : Bytes) → j ≤ k
      → ((S : Schema) → known S → less S × (f S ≡ g S)) → Yields less R n p w j g r w' → Yields known R n p w k f r w'
  yields_as known less j k f g r w' l e a =
      record { grew = grew_more j k r l a.grew; says = λ S z s σ q. rw (e S z).1 (a.says S (e S z).0 s σ q) }

-- elements as cells

padded_exact : (k : ℕ) (b : Bytes) → length b ≡ k → padded k b ≡ b
padded_exact k b e = let z : k - length b ≡ 0 = omega (arith, e) in padded_is k b (omega (arith, e)) ∙ ap (λ (j : ℕ). b ++ zeros j) z ∙ append-nil b

module _ (E : Env) where
  -- a hash
  hash_cells : hash_element E ≡ cell_element E.sheet C.Hash 4
  unfolding hash_element cell_element cell_bytes fit_m
  hash_cells = fun_ext λ r. by_hash (hash_of E.sheet (row E.sheet r))
    where
      by_hash : (o : Option ℕ) → ret (option_map (bytes_of 4) o) ≡ fit_m (fit_or (option_map (bytes_of 4) o) (Err Unfit)) (ret None) (λ bs. ret (Some (padded 4 bs)))
      by_hash None = refl
      by_hash (Some h) = ap (λ (b : Bytes). ret (Some b)) (sym (padded_exact 4 (bytes_of 4 h) (length_bytes 4 h)))

  -- a text in len bytes
  fixed_cells : (len : ℕ) → fixed_element E len ≡ cell_element E.sheet (C.Fixed len) len
  unfolding fixed_element cell_element cell_bytes fit_m
  fixed_cells len = fun_ext λ r. by_text (str_of E.sheet (row E.sheet r))
    where
      by_text : (o : Option Bytes) → ret (option_map (λ t. padded len (take (len - 1) t)) o) ≡ fit_m (fit_or (option_map (take (len - 1)) o) (Err Unfit)) (ret None) (λ bs. ret (Some (padded len bs)))
      by_text None = refl
      by_text (Some t) = refl

  -- an enum's value
  enum_cells : (h : ℕ) (en : Entries) → entries_of E.defs h ≡ all_of en → enum_element E h ≡ cell_element E.sheet (C.Enum en 4) 4
  unfolding enum_element cell_element cell_bytes fit_m
  enum_cells h en e = fun_ext λ r. rw e (by_value (enum_value E.sheet (all_of en) (row E.sheet r)))
    where
      by_value : (x : Fit ℕ) → fit_m x (ret None) (λ x. ret (Some (bytes_of 4 x))) ≡ fit_m (map_fit (bytes_of 4) x) (ret None) (λ bs. ret (Some (padded 4 bs)))
      by_value (Ok x) = ap (λ (b : Bytes). ret (Some b)) (sym (padded_exact 4 (bytes_of 4 x) (length_bytes 4 x)))
      by_value (Err Unfit) = refl
      by_value (Err FloatText) = refl

  -- texts, by their subtype
  module _ (d : StructDef) (e x : Defs.Member) (rs : List ℕ) where
    text_zero : (len : ℕ) → x.subtype ≡ 0 → len ≡ high16 x.reference → len ≡ 0 → text_run E d e x rs ≡ stops d e 10 0
    unfolding text_run fixed_run if_m
    text_zero len h l z = rw (eq-eqb x.subtype 0 h, eq-eqb (high16 x.reference) 0 (sym l ∙ z)) refl

    text_cells : (len : ℕ) → x.subtype ≡ 0 → len ≡ high16 x.reference → (len ≡ 0 → ⊥) → text_run E d e x rs ≡ run E len 1 (cell_element E.sheet (C.Fixed len) len) rs
    unfolding text_run fixed_run if_m
    text_cells len h l z =
        rw (eq-eqb x.subtype 0 h, ← l, ne_eqb len 0 z) (ap (λ f. run E len 1 f rs) (fixed_cells len))

    text_pointers : (x.subtype ≡ 0 → ⊥) → x.subtype < 4 → text_run E d e x rs ≡ run E (slot_size x.subtype) (slot_block x.subtype) (text_element E x.subtype) rs
    unfolding text_run if_m
    text_pointers h l = rw (ne_eqb x.subtype 0 h, le-leb 1 x.subtype (omega (arith, h)), le-leb x.subtype 3 (omega (arith, l))) refl

    text_hashes : 7 ≤ x.subtype → x.subtype < 9 → text_run E d e x rs ≡ run E 4 6 (cell_element E.sheet C.Hash 4) rs
    unfolding text_run if_m
    text_hashes h l = by_seven (eqb x.subtype 7) refl
      where
        by_seven : (b : Bool) → eqb x.subtype 7 ≡ b → text_run E d e x rs ≡ run E 4 6 (cell_element E.sheet C.Hash 4) rs
        by_seven true g = let q : x.subtype ≡ 7 = eqb-true x.subtype 7 g in rw q (ap (λ f. run E 4 6 f rs) hash_cells)
        by_seven false g =
            let n = eqb-false x.subtype 7 g in
            let q : x.subtype ≡ 8 = omega (arith, h, l, n) in
            rw q (ap (λ f. run E 4 6 f rs) hash_cells)

    text_stops : {A B : Type 0} → 4 ≤ x.subtype → (A → x.subtype < 7) → (B → 9 ≤ x.subtype) → A ⊎ B → text_run E d e x rs ≡ stops d e 11 x.subtype
    unfolding text_run if_m
    text_stops {A} {B} h f g l =
        let z : x.subtype ≡ 0 → ⊥ = λ (q : x.subtype ≡ 0). omega (arith, h, q) in
        rw (ne_eqb x.subtype 0 z, le-leb 1 x.subtype (omega (arith, h)), lt-leb x.subtype 3 (omega (arith, h)), ne_eqb x.subtype 7 (seven l), ne_eqb x.subtype 8 (eight l)) refl
      where
        seven : A ⊎ B → x.subtype ≡ 7 → ⊥
        seven (inl a) q = omega (arith, f a, q)
        seven (inr b) q = omega (arith, g b, q)

        eight : A ⊎ B → x.subtype ≡ 8 → ⊥
        eight (inl a) q = omega (arith, f a, q)
        eight (inr b) q = omega (arith, g b, q)

-- an enum's run

enum_used : (E : Env) (h : ℕ) (en : Entries) (rs : List ℕ) (b : Bool) → is_some (E.defs.enum h) ≡ b → entries_of E.defs h ≡ all_of en
    → enum_run E h rs ≡ bind (if_m b (use_enum h) (ret tt)) λ _. run E 4 5 (cell_element E.sheet (C.Enum en 4) 4) rs
unfolding enum_run use_enum_of
enum_used E h en rs b e l = rw (e, enum_cells E h en l) refl

module _ (R : Round) (n : ℕ) (p : Progress) (w T F : Bytes) (h : ℕ) (rs : List ℕ) (en : Entries) (name : Option ℕ) (is : Named F h en name) where
  abbrev Enums : Ans (Option ℕ) → Bytes → Type 0
  Enums r v = Yields (λ S. schema_of F ≡ ok S) R n p w 0 (λ S. enum_run (env_of T S R) h rs) r v

  abbrev values : Schema → M (Option Run)
  values S = run (env_of T S R) 4 5 (cell_element T (C.Enum en 4) 4) rs

  -- no enum has the name
  enums_none : (r : Ans (Option ℕ)) (w' : Bytes) → name ≡ None → Yields any_schema R n p w 0 values r w' → Enums r w'
  unfolding if_m bind after ret
  enums_none r w' e a =
      yields_as R n p w (λ S. schema_of F ≡ ok S) any_schema 0 0 (λ S. enum_run (env_of T S R) h rs) values r w' (omega arith)
      (λ S k. (tt, enum_used (env_of T S R) h en rs false (is.used S k ∙ ap is_some e) (is.all S k) ∙ fun_ext λ s. refl)) a

  -- one has, and is used
  enums_some : (q : Progress) (v : Bytes) (r : Ans (Option ℕ)) (w' : Bytes) → name ≡ Some h
      → Marks R n p w (λ S. is_some ((winning S).enum h)) (used_in h) q v → Yields any_schema R n q v 0 values r w' → Enums r w'
  unfolding if_m bind after use_enum log_enum on_core settle use_enum_c
  enums_some q v r w' e t a =
      record {
        grew = grew_then r a.grew;
        says =
            λ S z s σ y.
            let m : is_some ((winning S).enum h) ≡ true = is.used S z ∙ ap is_some e in
            rw (enum_used (env_of T S R) h en rs true m (is.all S z))
            (a.says S tt (used_in h s) σ (t.says S s σ m y));
      }
    where
      grew_then : (r : Ans (Option ℕ)) → Grew R n q 0 r → Grew R n p 0 r
      grew_then (gives (Some b) x) y =
          let z = y.2 in (
            y.0,
            omega (arith, y.1, t.top),
            record {
              more = omega (arith, z.more, t.end);
              paid = omega (arith, z.paid, t.end, t.charge, t.top);
              top = omega (arith, z.top, t.top);
              met = omega (arith, z.met, t.seen, t.charge);
            },
          )
      grew_then (gives None x) y =
          let z = y.1 in
          (y.0, record { more = omega (arith, z.more, t.end); paid = omega (arith, z.paid, t.end, t.charge); top = omega (arith, z.top, t.top); met = omega (arith, z.met, t.seen, t.charge) })
      grew_then (refuses b x) y = y

  -- the enum is used, if it is there
  pub enums : (q : Progress) (v : Bytes) (k : ℕ) (r : Ans (Option ℕ)) (w' : Bytes) → Marked R n p w name q v → k ≡ n → Yields any_schema R k q v 0 values r w' → Enums r w'
  enums q v k r w' t u a = by name refl t (rw (← u) a)
    where
      by : (o : Option ℕ) → name ≡ o → Marked R n p w o q v → Yields any_schema R n q v 0 values r w' → Enums r w'
      by None e m a = enums_none r w' e (rw (← m.0, ← m.1) a)
      by (Some x) e m a =
          let i : x ≡ h = named_own F h en name is x e in
          enums_some q v r w' (rw (← i) e) (rw (← i) m.marks) a

-- runs by their elements' kind

scalar_cells : (E : Env) (s : Kinds.Scalar) → scalar_element E s ≡ cell_element E.sheet (scalar_cell s) (scalar_stride s)
unfolding scalar_element cell_element cell_bytes Kinds.scalar_bytes
scalar_cells E (Kinds.integer k) = refl
scalar_cells E Kinds.single = refl
scalar_cells E (Kinds.vector n) = refl

-- kinds that are no elements
abbrev pub is_strange : Kinds.Kind → Bool
is_strange (Kinds.scalar s) = false
is_strange Kinds.text = false
is_strange Kinds.structure = false
is_strange Kinds.array = true
is_strange Kinds.enumeration = false
is_strange Kinds.flags = true
is_strange Kinds.map = true
is_strange Kinds.other = true

module _ (E : Env) (d : StructDef) (e x : Defs.Member) (rs : List ℕ) where
  scalar_run : (s : Kinds.Scalar) → plain_run E d e x (Kinds.scalar s) rs ≡ run E (scalar_stride s) (scalar_block s x.type) (cell_element E.sheet (scalar_cell s) (scalar_stride s)) rs
  unfolding plain_run
  scalar_run s = ap (λ f. run E (scalar_stride s) (scalar_block s x.type) f rs) (scalar_cells E s)

  text_run_law : plain_run E d e x Kinds.text rs ≡ text_run E d e x rs
  unfolding plain_run
  text_run_law = refl

  enum_run_law : plain_run E d e x Kinds.enumeration rs ≡ enum_run E x.reference rs
  unfolding plain_run
  enum_run_law = refl

  structure_run : plain_run E d e x Kinds.structure rs ≡ ret None
  unfolding plain_run
  structure_run = refl

  strange_run : (k : Kinds.Kind) → is_strange k ≡ true → plain_run E d e x k rs ≡ stops d e 12 x.type
  unfolding plain_run
  strange_run (Kinds.scalar s) h = absurd (false≢true h)
  strange_run Kinds.text h = absurd (false≢true h)
  strange_run Kinds.structure h = absurd (false≢true h)
  strange_run Kinds.array h = refl
  strange_run Kinds.enumeration h = absurd (false≢true h)
  strange_run Kinds.flags h = refl
  strange_run Kinds.map h = refl
  strange_run Kinds.other h = refl

module _ (R : Round) (n : ℕ) (p : Progress) (w T F : Bytes) (d : Def) (m x : coded.Member) (rs : List ℕ) where
  abbrev Plain : Ans (Option ℕ) → Bytes → Type 0
  Plain r v = Yields (λ S. schema_of F ≡ ok S) R n p w 1 (λ S. plain_run (env_of T S R) (def_of F d) (member_of m) (member_of x) (Kinds.kind_of x.kind) rs) r v

  -- by a kind of which the run is known
  plain_as : (less : Schema → Type 0) (j : ℕ) (k : Kinds.Kind) (g : Schema → M (Option Run)) (r : Ans (Option ℕ)) (w' : Bytes) → j ≤ 1 → Kinds.kind_of x.kind ≡ k
      → ((S : Schema) → schema_of F ≡ ok S → less S × (plain_run (env_of T S R) (def_of F d) (member_of m) (member_of x) k rs ≡ g S)) → Yields less R n p w j g r w' → Plain r w'
  plain_as less j k g r w' l e i a =
      rw e (yields_as R n p w (λ S. schema_of F ≡ ok S) less j 1 (λ S. plain_run (env_of T S R) (def_of F d) (member_of m) (member_of x) k rs) g r w' l i a)

  pub plain_scalar : (s : Kinds.Scalar) (stride block : ℕ) (r : Ans (Option ℕ)) (w' : Bytes) → Kinds.kind_of x.kind ≡ Kinds.scalar s → stride ≡ scalar_stride s → block ≡ scalar_block s x.kind
      → Yields any_schema R n p w 0 (λ S. run (env_of T S R) stride block (cell_element T (scalar_cell s) stride) rs) r w' → Plain r w'
  plain_scalar s stride block r w' k e b a =
      plain_as any_schema 0 (Kinds.scalar s) (λ S. run (env_of T S R) stride block (cell_element T (scalar_cell s) stride) rs) r w' (omega arith) k
      (λ S z. (tt, rw (e, b) (scalar_run (env_of T S R) (def_of F d) (member_of m) (member_of x) rs s))) a

  pub plain_text : (r : Ans (Option ℕ)) (w' : Bytes) → Kinds.kind_of x.kind ≡ Kinds.text → Yields any_schema R n p w 1 (λ S. text_run (env_of T S R) (def_of F d) (member_of m) (member_of x) rs) r w' → Plain r w'
  plain_text r w' k a =
      plain_as any_schema 1 Kinds.text (λ S. text_run (env_of T S R) (def_of F d) (member_of m) (member_of x) rs) r w' (omega arith) k
      (λ S z. (tt, text_run_law (env_of T S R) (def_of F d) (member_of m) (member_of x) rs)) a

  pub plain_enum : (r : Ans (Option ℕ)) (w' : Bytes) → Kinds.kind_of x.kind ≡ Kinds.enumeration → Yields (λ S. schema_of F ≡ ok S) R n p w 0 (λ S. enum_run (env_of T S R) x.reference rs) r w' → Plain r w'
  plain_enum r w' k a =
      plain_as (λ S. schema_of F ≡ ok S) 0 Kinds.enumeration (λ S. enum_run (env_of T S R) x.reference rs) r w' (omega arith) k
      (λ S z. (z, enum_run_law (env_of T S R) (def_of F d) (member_of m) (member_of x) rs)) a

  pub plain_structure : Safe R n p → Kinds.kind_of x.kind ≡ Kinds.structure → Plain (gives None p) w
  plain_structure h k =
      plain_as any_schema 0 Kinds.structure (λ S. ret None) (gives None p) w (omega arith) k (λ S z. (tt, structure_run (env_of T S R) (def_of F d) (member_of m) (member_of x) rs))
      (nothing_run R n p w h)

  pub plain_strange : (k : Kinds.Kind) (r : Ans (Option ℕ)) (w' : Bytes) → Kinds.kind_of x.kind ≡ k → is_strange k ≡ true → Yields any_schema R n p w 1 (λ S. stops (def_of F d) (member_of m) 12 x.kind) r w' → Plain r w'
  plain_strange k r w' e h a =
      plain_as any_schema 1 k (λ S. stops (def_of F d) (member_of m) 12 x.kind) r w' (omega arith) e (λ S z. (tt, strange_run (env_of T S R) (def_of F d) (member_of m) (member_of x) rs k h)) a

  -- texts, by their subtype
  abbrev TextRuns : Ans (Option ℕ) → Bytes → Type 0
  TextRuns r v = Yields any_schema R n p w 1 (λ S. text_run (env_of T S R) (def_of F d) (member_of m) (member_of x) rs) r v

  texts_as : (j : ℕ) (g : Schema → M (Option Run)) (r : Ans (Option ℕ)) (w' : Bytes) → j ≤ 1 → ((S : Schema) → text_run (env_of T S R) (def_of F d) (member_of m) (member_of x) rs ≡ g S)
      → Yields any_schema R n p w j g r w' → TextRuns r w'
  texts_as j g r w' l e a = yields_as R n p w any_schema any_schema j 1 (λ S. text_run (env_of T S R) (def_of F d) (member_of m) (member_of x) rs) g r w' l (λ S z. (tt, e S)) a

  pub texts_zero : (len : ℕ) (r : Ans (Option ℕ)) (w' : Bytes) → x.subtype ≡ 0 → len ≡ high16 x.reference → len ≡ 0 → Yields any_schema R n p w 1 (λ S. stops (def_of F d) (member_of m) 10 0) r w' → TextRuns r w'
  texts_zero len r w' h l z a =
      texts_as 1 (λ S. stops (def_of F d) (member_of m) 10 0) r w' (omega arith) (λ S. text_zero (env_of T S R) (def_of F d) (member_of m) (member_of x) rs len h l z) a

  pub texts_fixed : (len : ℕ) (r : Ans (Option ℕ)) (w' : Bytes) → x.subtype ≡ 0 → len ≡ high16 x.reference → (len ≡ 0 → ⊥)
      → Yields any_schema R n p w 0 (λ S. run (env_of T S R) len 1 (cell_element T (C.Fixed len) len) rs) r w' → TextRuns r w'
  texts_fixed len r w' h l z a =
      texts_as 0 (λ S. run (env_of T S R) len 1 (cell_element T (C.Fixed len) len) rs) r w' (omega arith) (λ S. text_cells (env_of T S R) (def_of F d) (member_of m) (member_of x) rs len h l z) a

  pub texts_pointed : (r : Ans (Option ℕ)) (w' : Bytes) → (x.subtype ≡ 0 → ⊥) → x.subtype < 4
      → Yields any_schema R n p w 0 (λ S. run (env_of T S R) (slot_size x.subtype) (slot_block x.subtype) (text_element (env_of T S R) x.subtype) rs) r w' → TextRuns r w'
  texts_pointed r w' h l a =
      texts_as 0 (λ S. run (env_of T S R) (slot_size x.subtype) (slot_block x.subtype) (text_element (env_of T S R) x.subtype) rs) r w' (omega arith)
      (λ S. text_pointers (env_of T S R) (def_of F d) (member_of m) (member_of x) rs h l) a

  pub texts_hashed : (r : Ans (Option ℕ)) (w' : Bytes) → 7 ≤ x.subtype → x.subtype < 9 → Yields any_schema R n p w 0 (λ S. run (env_of T S R) 4 6 (cell_element T C.Hash 4) rs) r w' → TextRuns r w'
  texts_hashed r w' h l a =
      texts_as 0 (λ S. run (env_of T S R) 4 6 (cell_element T C.Hash 4) rs) r w' (omega arith) (λ S. text_hashes (env_of T S R) (def_of F d) (member_of m) (member_of x) rs h l) a

  pub texts_strange : {A B : Type 0} (r : Ans (Option ℕ)) (w' : Bytes) → 4 ≤ x.subtype → (A → x.subtype < 7) → (B → 9 ≤ x.subtype) → A ⊎ B
      → Yields any_schema R n p w 1 (λ S. stops (def_of F d) (member_of m) 11 x.subtype) r w' → TextRuns r w'
  texts_strange r w' h f g l a =
      texts_as 1 (λ S. stops (def_of F d) (member_of m) 11 x.subtype) r w' (omega arith) (λ S. text_stops (env_of T S R) (def_of F d) (member_of m) (member_of x) rs h f g l) a

-- there is room for a vector's numbers in its element
pub vector_room : (n r : ℕ) → n ≤ 4 → r ≡ scalar_stride (Kinds.vector n) → 4 * n ≤ r
vector_room n r h e = by_two (eqb n 2) refl e
  where
    by_two : (b : Bool) → eqb n 2 ≡ b → r ≡ cond b 8 16 → 4 * n ≤ r
    by_two true g i = omega (arith, eqb-true n 2 g, i)
    by_two false g i = omega (arith, h, i)
