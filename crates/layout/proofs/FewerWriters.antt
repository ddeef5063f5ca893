-- .. in structures: by pointer, inline, in runs and in maps; so in the whole run (`s_root`).
-- Assumes nothing.
use Rattle.std.specs.Prelude.{Option, Some, None, is_some}
use Prim.Native.Nat.{ℕ, zero, suc, ◌+◌}
use mathlib.Core.Path.{◌≡◌, refl, ◌∙◌, ap}
use mathlib.Core.Bool.{Bool, true, false, cond}
use mathlib.Core.List.{List, [], ◌∷◌}
use lib.Dec.{eqb}
use lib.ListN.{length}
use Rattle.numbers.specs.Words.{Bytes}
use Rattle.value.specs.Rows.{Value, Row, Fields, fields_of}
use Rattle.names.proofs.Mono.{enum_below, flags_below}
use Rattle.schema.specs.Defs.{StructDef, Member, Lookup}
use Rattle.layout.specs.State.{Core, State, Env, M, bind, ret, if_m, opt_m, contains, add_item}
use Rattle.layout.specs.Kinds
use Rattle.layout.specs.Members.{says, enum_member, flags_member, row_of}
use Rattle.layout.specs.Runs.{Writer, run, stops, own_type, pointed, pointer_element, struct_element, struct_run, element_run}
use Rattle.layout.specs.Write.{Writers, inline_member, pointed_member, struct_member, laid_run, pointed_array, embedded_array, array_of, array_member, pair_element, map_of, map_member, member, members, started, body, write, root}
use Rattle.layout.proofs.Keep.{Keeps}
use Rattle.layout.proofs.Writers.{k_struct_element, k_pair_element, k_members, k_write}
use Rattle.layout.proofs.Follow.{back, Backs, Sim, Tells, s_ret, s_fail, s_bind, s_if, t_left, t_right, t_fail, t_if}
use Rattle.layout.proofs.Fewer.{Both, alike_both, first_only, both, Rel, Inside, Fewer, second, prims, s_lookup, b_add, b_run, b_laid_run, s_add, t_use_struct, s_leaves, s_need, s_lost, s_need_lost, more, held}
use Rattle.layout.proofs.FewerMembers.{s_scalar_member, s_text_member, s_named_member, s_run, t_run, s_stops, s_laid_run, s_scalar_element, s_text_run, s_enum_run, embed, s_embed, s_empty}

module _ (R : Fewer) where
  abbrev E : Env
  E = R.first

  abbrev E' : Env
  E' = second R

  abbrev L' : Lookup
  L' = R.defs

  abbrev U : Core
  U = R.used

  abbrev D : State → Type 0
  D = Inside U

  -- what is asked of the two writers: alike where both have the definition; going on where the first has it; and used where only the first has it
  abbrev Simulating : Writer → Writer → Type 0
  Simulating w w' = (n : ℕ) (i : StructDef) (fs : Fields) → E.defs.struct n ≡ Some i → L'.struct n ≡ Some i → Sim Rel D (w i fs) (w' i fs)

  abbrev Backing : Writer → Type 0
  Backing w = (n : ℕ) (i : StructDef) (fs : Fields) → E.defs.struct n ≡ Some i → Backs D (w i fs)

  abbrev Telling : Writer → Type 0
  Telling w = (n : ℕ) (i : StructDef) (fs : Fields) → E.defs.struct n ≡ Some i → contains n U.structs ≡ false → Tells D ⊥ (w i fs)

  module _ (w w' : Writer) (hw : Simulating w w') (hb : Backing w) (ht : Telling w) where
    b_w : (s₀ : State) (n : ℕ) (i : StructDef) (fs : Fields) → E.defs.struct n ≡ Some i → Keeps (back D s₀) (w i fs)
    b_w s₀ n i fs q = hb n i fs q s₀

    ruleset held-w = (held, b_w)

    -- structures by pointer

    s_point : (x y y' : ℕ) (d : StructDef) (e : Member) (v : Row)
        → Sim Rel D (opt_m (E.defs.struct x) (bind (says d e 4 y) λ _. ret None) λ i. bind (w i (fields_of E.sheet v)) λ bs. bind (add_item i.name bs) λ p. ret (Some p))
        (opt_m (L'.struct x) (bind (says d e 4 y') λ _. ret None) λ i. bind (w' i (fields_of E.sheet v)) λ bs. bind (add_item i.name bs) λ p. ret (Some p))
    s_point x y y' d e v =
        s_lookup R x _ _ _ _ (search more) (λ i q q'. search (more, hw))
        (λ i q a. s_lost R _ _ (λ s₀. search held-w) (t_left D ⊥ _ _ (ht x i (fields_of E.sheet v) q a) (λ bs s₀. search held)))

    -- the row's own type, where the schema has it: used, so the follower has it too
    s_pointed : (d : StructDef) (e : Member) (ref : ℕ) (v : Row) → Sim Rel D (pointed E w d e ref v) (pointed E' w' d e ref v)
    unfolding pointed own_type opt_m
    s_pointed d e ref v = go (E.defs.struct v.a) (L'.struct v.a) (both U.structs E.defs.struct L'.struct R.structs_agree v.a) refl
      where
        to : ℕ → Option StructDef → M (Option ℕ)
        to x o = opt_m o (bind (says d e 4 x) λ _. ret None) λ i. bind (w i (fields_of E.sheet v)) λ bs. bind (add_item i.name bs) λ p. ret (Some p)

        to' : ℕ → Option StructDef → M (Option ℕ)
        to' x o = opt_m o (bind (says d e 4 x) λ _. ret None) λ i. bind (w' i (fields_of E.sheet v)) λ bs. bind (add_item i.name bs) λ p. ret (Some p)

        go : (o p : Option StructDef) → Both U.structs v.a o p → E.defs.struct v.a ≡ o
            → Sim Rel D (to (cond (is_some o) v.a ref) (E.defs.struct (cond (is_some o) v.a ref))) (to' (cond (is_some p) v.a ref) (L'.struct (cond (is_some p) v.a ref)))
        go o p (alike_both None) q = s_point ref ref ref d e v
        go o p (alike_both (Some i)) q = s_point v.a v.a v.a d e v
        go o p (first_only i a) q =
            rw q (s_lost R _ _ (λ s₀. search held-w) (t_left D ⊥ _ _ (ht v.a i (fields_of E.sheet v) q a) (λ bs s₀. search held)))

    s_pointer_element : (d : StructDef) (e : Member) (ref r : ℕ) → Sim Rel D (pointer_element E w d e ref r) (pointer_element E' w' d e ref r)
    unfolding pointer_element
    s_pointer_element d e ref r = search (more, s_pointed)

    -- runs of structures

    s_struct_element : (d : StructDef) (e : Member) (n : ℕ) (i : StructDef) (r : ℕ) → E.defs.struct n ≡ Some i → L'.struct n ≡ Some i
        → Sim Rel D (struct_element E w d e i r) (struct_element E' w' d e i r)
    unfolding struct_element
    s_struct_element d e n i r q q' = search (more, hw n i)

    b_struct_element : (s₀ : State) (d : StructDef) (e : Member) (n : ℕ) (i : StructDef) (r : ℕ) → E.defs.struct n ≡ Some i → Keeps (back D s₀) (struct_element E w d e i r)
    b_struct_element s₀ = k_struct_element E (back D s₀) (prims R s₀) w (λ n i fs q. hb n i fs q s₀)

    t_struct_element : (d : StructDef) (e : Member) (n : ℕ) (i : StructDef) (r : ℕ) → E.defs.struct n ≡ Some i → contains n U.structs ≡ false
        → Tells D ⊥ (struct_element E w d e i r)
    unfolding struct_element
    t_struct_element d e n i r q a = t_right D ⊥ _ _ (λ z. t_left D ⊥ _ _ (ht n i _ q a) (λ bs s₀. search held))

    s_struct_run : (d : StructDef) (e x : Member) (r : ℕ) (rs : List ℕ) → Sim Rel D (struct_run E w d e x (r ∷ rs)) (struct_run E' w' d e x (r ∷ rs))
    unfolding struct_run
    s_struct_run d e x r rs =
        s_if Rel D _ _ _ _ _ (s_run R 8 12 _ _ (r ∷ rs) (s_pointer_element d e x.reference))
        (s_lookup R x.reference _ _ _ _ (s_stops R d d e e 8 8 x.reference x.reference)
        (λ i q q'. s_run R i.size i.name _ _ (r ∷ rs) (λ z. s_struct_element d e x.reference i z q q'))
        (λ i q a. s_lost R _ _ (λ s₀. b_run R s₀ i.size i.name (struct_element E w d e i) (r ∷ rs) (λ z. b_struct_element s₀ d e x.reference i z q))
        (t_run R i.size i.name (struct_element E w d e i) r rs (λ z s₀. b_struct_element s₀ d e x.reference i z q) (t_struct_element d e x.reference i r q a))))

    -- embedded and empty: the run, then nothing
    s_struct_empty : (d : StructDef) (e x : Member) (buf : Bytes)
        → Sim Rel D (bind (struct_run E w d e x []) (embed R d e buf)) (bind (struct_run E' w' d e x []) (embed R d e buf))
    unfolding struct_run if_m opt_m
    s_struct_empty d e x buf = go (eqb x.subtype 3)
      where
        go : (b : Bool) → Sim Rel D
            (bind (if_m b (run E 8 12 (pointer_element E w d e x.reference) []) (opt_m (E.defs.struct x.reference) (stops d e 8 x.reference) λ i. run E i.size i.name (struct_element E w d e i) [])) (embed R d e buf))
            (bind (if_m b (run E' 8 12 (pointer_element E' w' d e x.reference) []) (opt_m (L'.struct x.reference) (stops d e 8 x.reference) λ i. run E' i.size i.name (struct_element E' w' d e i) [])) (embed R d e buf))
        go true = s_bind Rel D _ _ _ _ (s_run R 8 12 _ _ [] (s_pointer_element d e x.reference)) (s_embed R d e buf)
        go false = other (E.defs.struct x.reference) (L'.struct x.reference) (both U.structs E.defs.struct L'.struct R.structs_agree x.reference) refl refl
          where
            other : (o p : Option StructDef) → Both U.structs x.reference o p → E.defs.struct x.reference ≡ o → L'.struct x.reference ≡ p → Sim Rel D
                (bind (opt_m o (stops d e 8 x.reference) λ i. run E i.size i.name (struct_element E w d e i) []) (embed R d e buf))
                (bind (opt_m p (stops d e 8 x.reference) λ i. run E' i.size i.name (struct_element E' w' d e i) []) (embed R d e buf))
            other o p (alike_both None) q q' = s_bind Rel D _ _ _ _ (s_stops R d d e e 8 8 x.reference x.reference) (s_embed R d e buf)
            other o p (alike_both (Some i)) q q' =
                s_bind Rel D _ _ _ _ (s_run R i.size i.name _ _ [] (λ z. s_struct_element d e x.reference i z q q')) (s_embed R d e buf)
            other o p (first_only i a) q q' = s_empty R i.size i.name (struct_element E w d e i) d e 8 x.reference buf

    abbrev IsStructure : Kinds.Kind → Type 0
    IsStructure (Kinds.scalar s) = ⊥
    IsStructure Kinds.text = ⊥
    IsStructure Kinds.structure = Unit {0}
    IsStructure Kinds.enumeration = ⊥
    IsStructure Kinds.array = ⊥
    IsStructure Kinds.flags = ⊥
    IsStructure Kinds.map = ⊥
    IsStructure Kinds.other = ⊥

    s_element_run : (d : StructDef) (e x : Member) (k : Kinds.Kind) (rs : List ℕ) → (IsStructure k → Sim Rel D (struct_run E w d e x rs) (struct_run E' w' d e x rs))
        → Sim Rel D (element_run E w d e x k rs) (element_run E' w' d e x k rs)
    unfolding element_run
    s_element_run d e x (Kinds.scalar s) rs h = search (s_run, s_scalar_element)
    s_element_run d e x Kinds.text rs h = s_text_run R d e x rs
    s_element_run d e x Kinds.structure rs h = h tt
    s_element_run d e x Kinds.enumeration rs h = s_enum_run R x.reference rs
    s_element_run d e x Kinds.array rs h = s_stops R d d e e 12 12 x.type x.type
    s_element_run d e x Kinds.flags rs h = s_stops R d d e e 12 12 x.type x.type
    s_element_run d e x Kinds.map rs h = s_stops R d d e e 12 12 x.type x.type
    s_element_run d e x Kinds.other rs h = s_stops R d d e e 12 12 x.type x.type

    s_empty_run : (d : StructDef) (e x : Member) (k : Kinds.Kind) (buf : Bytes)
        → Sim Rel D (bind (element_run E w d e x k []) (embed R d e buf)) (bind (element_run E' w' d e x k []) (embed R d e buf))
    s_empty_run d e x (Kinds.scalar s) buf = s_bind Rel D _ _ _ _ (s_element_run d e x (Kinds.scalar s) [] (λ z. absurd z)) (s_embed R d e buf)
    s_empty_run d e x Kinds.text buf = s_bind Rel D _ _ _ _ (s_element_run d e x Kinds.text [] (λ z. absurd z)) (s_embed R d e buf)
    s_empty_run d e x Kinds.structure buf = unfold element_run in s_struct_empty d e x buf
    s_empty_run d e x Kinds.enumeration buf = s_bind Rel D _ _ _ _ (s_element_run d e x Kinds.enumeration [] (λ z. absurd z)) (s_embed R d e buf)
    s_empty_run d e x Kinds.array buf = s_bind Rel D _ _ _ _ (s_element_run d e x Kinds.array [] (λ z. absurd z)) (s_embed R d e buf)
    s_empty_run d e x Kinds.flags buf = s_bind Rel D _ _ _ _ (s_element_run d e x Kinds.flags [] (λ z. absurd z)) (s_embed R d e buf)
    s_empty_run d e x Kinds.map buf = s_bind Rel D _ _ _ _ (s_element_run d e x Kinds.map [] (λ z. absurd z)) (s_embed R d e buf)
    s_empty_run d e x Kinds.other buf = s_bind Rel D _ _ _ _ (s_element_run d e x Kinds.other [] (λ z. absurd z)) (s_embed R d e buf)

    -- members

    s_inline_member : (d : StructDef) (e : Member) (v : Row) (buf : Bytes) → Sim Rel D (inline_member E w d e v buf) (inline_member E' w' d e v buf)
    unfolding inline_member
    s_inline_member d e v buf =
        s_lookup R e.reference _ _ _ _ (search more) (λ i q q'. search (more, hw))
        (λ i q a. s_need_lost R d d e e i.size 4 e.reference buf _ (λ s₀. search held-w) (t_left D ⊥ _ _ (ht e.reference i _ q a) (λ bs s₀. search held)))

    s_pointed_member : (d : StructDef) (e : Member) (v : Row) (buf : Bytes) → Sim Rel D (pointed_member E w d e v buf) (pointed_member E' w' d e v buf)
    unfolding pointed_member
    s_pointed_member d e v buf = search (more, s_pointed)

    s_pointed_array : (d : StructDef) (e x : Member) (rs : List ℕ) (buf : Bytes) → Sim Rel D (pointed_array E w d e x rs buf) (pointed_array E' w' d e x rs buf)
    unfolding pointed_array if_m
    s_pointed_array d e x [] buf = s_need R d e 16 buf _ _ (s_ret Rel D buf)
    s_pointed_array d e x (r ∷ rs) buf =
        s_need R d e 16 buf _ _ (s_laid_run R _ _ _ _ buf (s_element_run d e x (Kinds.kind_of x.type) (r ∷ rs) (λ z. s_struct_run d e x r rs)))

    s_embedded_array : (d : StructDef) (e x : Member) (rs : List ℕ) (buf : Bytes) → Sim Rel D (embedded_array E w d e x rs buf) (embedded_array E' w' d e x rs buf)
    unfolding embedded_array
    s_embedded_array d e x [] buf = s_empty_run d e x (Kinds.kind_of x.type) buf
    s_embedded_array d e x (r ∷ rs) buf =
        s_bind Rel D _ _ _ _ (s_element_run d e x (Kinds.kind_of x.type) (r ∷ rs) (λ z. s_struct_run d e x r rs)) (s_embed R d e buf)

    s_array_of : (d : StructDef) (e x : Member) (rs : List ℕ) (buf : Bytes) → Sim Rel D (array_of E w d e x rs buf) (array_of E' w' d e x rs buf)
    unfolding array_of
    s_array_of d e x rs buf = search (more, s_pointed_array, s_embedded_array)

    s_array_member : (d : StructDef) (e : Member) (v : Value) (buf : Bytes) → Sim Rel D (array_member E w d e v buf) (array_member E' w' d e v buf)
    unfolding array_member
    s_array_member d e v buf = search (more, s_array_of)

    s_pair_element : (n : ℕ) (i : StructDef) (p : ℕ × ℕ) → E.defs.struct n ≡ Some i → L'.struct n ≡ Some i → Sim Rel D (pair_element E w i p) (pair_element E' w' i p)
    unfolding pair_element
    s_pair_element n i p q q' = search (more, hw n i)

    b_pair_element : (s₀ : State) (n : ℕ) (i : StructDef) (p : ℕ × ℕ) → E.defs.struct n ≡ Some i → Keeps (back D s₀) (pair_element E w i p)
    b_pair_element s₀ = k_pair_element E (back D s₀) (prims R s₀) w (λ n i fs q. hb n i fs q s₀)

    t_pair_element : (n : ℕ) (i : StructDef) (p : ℕ × ℕ) → E.defs.struct n ≡ Some i → contains n U.structs ≡ false → Tells D ⊥ (pair_element E w i p)
    unfolding pair_element
    t_pair_element n i p q a = t_left D ⊥ _ _ (ht n i _ q a) (λ bs s₀. search held)

    -- "no map is lost": an empty map ends before its pair definition is looked up, any other starts it
    s_map_of : (d : StructDef) (e : Member) (h : ℕ) (ps : List (ℕ × ℕ)) (buf : Bytes) → Sim Rel D (map_of E w d e h ps buf) (map_of E' w' d e h ps buf)
    unfolding map_of if_m laid_run
    s_map_of d e h [] buf = s_ret Rel D buf
    s_map_of d e h (p ∷ ps) buf =
        s_lookup R h _ _ _ _ (s_leaves R d d e e 7 7 h h buf)
        (λ i q q'. s_laid_run R _ _ _ _ buf (s_run R i.size h _ _ (p ∷ ps) (λ z. s_pair_element h i z q q')))
        (λ i q a. s_lost R _ _ (λ s₀. b_laid_run R s₀ i.size h (pair_element E w i) (p ∷ ps) _ _ buf (λ z. b_pair_element s₀ h i z q)) (t_laid i q a))
      where
        t_laid : (i : StructDef) → E.defs.struct h ≡ Some i → contains h U.structs ≡ false
            → Tells D ⊥ (laid_run (run E i.size h (pair_element E w i) (p ∷ ps)) (length (p ∷ ps)) (e.offset + 8) buf)
        t_laid i q a =
            t_left D ⊥ _ _ (t_run R i.size h (pair_element E w i) p ps (λ z s₀. b_pair_element s₀ h i z q) (t_pair_element h i p q a)) (λ o s₀. search held)

    s_map_member : (d : StructDef) (e : Member) (v : Value) (buf : Bytes) → Sim Rel D (map_member E w d e v buf) (map_member E' w' d e v buf)
    unfolding map_member
    s_map_member d e v buf = search (more, s_map_of)

  -- members, which lead to structures inline and afresh
  module _ (w w' : Writers) (hi : Simulating w.inline w'.inline) (bi : Backing w.inline) (ti : Telling w.inline)
      (ha : Simulating w.afresh w'.afresh) (ba : Backing w.afresh) (ta : Telling w.afresh) where
    s_struct_member : (d : StructDef) (e : Member) (v : Value) (buf : Bytes) → Sim Rel D (struct_member E w d e v buf) (struct_member E' w' d e v buf)
    unfolding struct_member
    s_struct_member d e v buf = search (more, s_inline_member w.inline w'.inline hi bi ti, s_pointed_member w.afresh w'.afresh ha ba ta)

    s_member : (d : StructDef) (e : Member) (k : Kinds.Kind) (v : Value) (buf : Bytes) → Sim Rel D (member E w d e k v buf) (member E' w' d e k v buf)
    unfolding member enum_member flags_member
    s_member d e (Kinds.scalar s) v buf = s_scalar_member R s d e v buf
    s_member d e Kinds.text v buf = s_text_member R d e v buf
    s_member d e Kinds.structure v buf = s_struct_member d e v buf
    s_member d e Kinds.array v buf = s_array_member w.afresh w'.afresh ha ba ta d e v buf
    s_member d e Kinds.enumeration v buf = s_named_member R _ (λ es. enum_below E.sheet es (row_of E v)) _ d e v buf
    s_member d e Kinds.flags v buf = s_named_member R _ (λ es. flags_below E.sheet es 64 (row_of E v)) _ d e v buf
    s_member d e Kinds.map v buf = s_map_member w.afresh w'.afresh ha ba ta d e v buf
    s_member d e Kinds.other v buf = s_leaves R d d e e 13 13 e.type e.type buf

    s_members : (d : StructDef) (fs : Fields) (es : List Member) (buf : Bytes) → Sim Rel D (members E w d fs es buf) (members E' w' d fs es buf)
    unfolding members
    s_members d fs [] buf = search more
    s_members d fs (e ∷ es) buf = s_bind Rel D _ _ _ _ (search (more, s_member)) (λ b. s_members d fs es b)

    s_started : (d : StructDef) (fs : Fields) → Sim Rel D (started E w d fs) (started E' w' d fs)
    unfolding started
    s_started d fs = search (more, s_members)

  t_started : (w : Writers) → Backing w.inline → Backing w.afresh → (n : ℕ) (d : StructDef) (fs : Fields) → E.defs.struct n ≡ Some d → contains n U.structs ≡ false → Tells D ⊥ (started E w d fs)
  unfolding started
  t_started w bi ba n d fs q a =
      t_right D ⊥ _ _ λ z.
      t_left D ⊥ _ _ (t_use_struct R d.name (ap (λ k. contains k U.structs) (R.named.structs n d q) ∙ a))
      (λ u s₀. k_members E (back D s₀) (prims R s₀) w (λ n i fs q. bi n i fs q s₀) (λ n i fs q. ba n i fs q s₀) d fs d.members _)

  -- by fuel

  b_write : (fuel left n : ℕ) (d : StructDef) (fs : Fields) → E.defs.struct n ≡ Some d → Backs D (write E fuel left d fs)
  b_write fuel left n d fs q s₀ = k_write E (back D s₀) (prims R s₀) fuel left d fs ((prims R s₀).found n d q).0

  t_write : (fuel left n : ℕ) (d : StructDef) (fs : Fields) → E.defs.struct n ≡ Some d → contains n U.structs ≡ false → Tells D ⊥ (write E fuel left d fs)
  unfolding write body
  t_write zero left n d fs q a = t_fail D Bytes ⊥ 8
  t_write (suc fuel) left n d fs q a =
      t_if D ⊥ (eqb left 0) _ _ (t_fail D Bytes ⊥ 8)
      (t_started _ (b_write fuel _) (b_write fuel _) n d fs q a)

  pub s_write : (fuel left n : ℕ) (d : StructDef) (fs : Fields) → E.defs.struct n ≡ Some d → L'.struct n ≡ Some d
      → Sim Rel D (write E fuel left d fs) (write E' fuel left d fs)
  unfolding write body
  s_write zero left n d fs q q' = s_fail Rel D Bytes 8 _
  s_write (suc fuel) left n d fs q q' =
      s_if Rel D _ _ _ _ _ (s_fail Rel D Bytes 8 _)
      (s_started _ _ (s_write fuel _) (b_write fuel _) (t_write fuel _) (s_write fuel _) (b_write fuel _) (t_write fuel _) d fs)

  -- the whole run
  pub s_root : (alone : Bool) (n : ℕ) (d : StructDef) (fs : Fields) → E.defs.struct n ≡ Some d → L'.struct n ≡ Some d → Sim Rel D (root E alone d fs) (root E' alone d fs)
  unfolding root
  s_root alone n d fs q q' = s_bind Rel D _ _ _ _ (s_write 96 32 n d fs q q') (λ bs. s_add R alone d.name bs)

  -- the root's name is used by its end
  pub t_root : (alone : Bool) (n : ℕ) (d : StructDef) (fs : Fields) → E.defs.struct n ≡ Some d → contains n U.structs ≡ false → Tells D ⊥ (root E alone d fs)
  unfolding root
  t_root alone n d fs q a = t_left D ⊥ _ _ (t_write 96 32 n d fs q a) (λ bs s₀. b_add R alone s₀ d.name bs)
