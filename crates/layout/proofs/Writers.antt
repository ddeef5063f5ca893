-- Every writer keeps a claim that the primitive actions keep: one induction for all claims.
-- Items are filed in blocks with the names of definitions and with the numbers up to 200 of raw storage.
-- Assumes nothing.
use Rattle.std.specs.Prelude.{Option, Some, is_some}
use Prim.Native.Nat.{ℕ, zero, suc, ◌≤◌}
use native.Mathlib.Omega.{arith}
use mathlib.Core.Bool.{Bool, true, false, cond}
use mathlib.Core.Path.{◌≡◌}
use mathlib.Core.List.{List, [], ◌∷◌}
use lib.Dec.{leb, eqb}
use lib.ListN.{length}
use Rattle.numbers.specs.Words.{Bytes}
use Rattle.value.specs.Rows.{Value, Row, Fields}
use Rattle.coerce.specs.Numbers.{Fit}
use Rattle.names.specs.Names.{Entries}
use Rattle.schema.specs.Defs.{StructDef, Member}
use Rattle.layout.specs.State.{Env, M, Remark, fail, fit_m, remark, pay, use_struct, use_enum, add_item, lay_item}
use Rattle.layout.specs.Kinds
use Rattle.layout.specs.Members.{says, leaves, need, wrong, scalar_member, add_string, text_slot, fixed_member, pointer_member, hash_member, text_member, use_enum_of, named_member, enum_member, flags_member}
use Rattle.layout.specs.Runs.{Writer, Run, scalar_block, elements, run, stops, pointed, pointer_element, struct_element, text_element, fixed_element, hash_element, enum_element, scalar_element, struct_run, fixed_run, text_run, enum_run, element_run}
use Rattle.layout.specs.Write.{Writers, inline_member, pointed_member, struct_member, laid_run, pointed_array, embedded_array, array_of, array_member, pair_element, map_of, map_member, member, members, started, body, write, root}
use Rattle.layout.proofs.Keep.{Claim, Keeps, KeepsRun, Refusable, k_ret, k_deep, k_bind, k_if, k_opt, k_when, k_fit, r_none, r_map, r_bind, r_if, r_opt, l_bind}

small_cond : (N : ℕ → Type 0) (b : Bool) (x y : ℕ) → N x → N y → N (cond b x y)
small_cond N true x y p q = p
small_cond N false x y p q = q

-- a name stands for the definition
abbrev pub Defined : Env → StructDef → Type 0
Defined E d = (n : ℕ) × (E.defs.struct n ≡ Some d)

-- the primitive actions keep the claim C, where structures of the definitions `starts` are started
pub record Prims (E : Env) (C : Claim) : Type 1 where
  pub starts : StructDef → Type 0
  pub refusable : Refusable C
  pub remark_keeps : (r : Remark) → Keeps C (remark r)
  pub pay_keeps : (n : ℕ) → Keeps C (pay E n)
  pub struct_keeps : (d : StructDef) → starts d → Keeps C (use_struct d.name)
  pub enum_keeps : (n : ℕ) → is_some (E.defs.enum n) ≡ true → Keeps C (use_enum n)
  pub add_keeps : (alone : Bool) (n : ℕ) (bs : Bytes) → C.files n → Keeps C (lay_item alone n bs)
  pub found : (n : ℕ) (d : StructDef) → E.defs.struct n ≡ Some d → starts d × C.files n
  pub named : (d : StructDef) → starts d → C.files d.name
  pub small : (n : ℕ) → n ≤ 200 → C.files n

module _ (E : Env) (C : Claim) (h : Prims E C) where
  add_named : (n : ℕ) (d : StructDef) (bs : Bytes) → E.defs.struct n ≡ Some d → Keeps C (add_item d.name bs)
  add_named n d bs q = h.add_keeps false d.name bs (h.named d (h.found n d q).0)

  add_text : (bs : Bytes) → Keeps C (add_item 1 bs)
  add_text bs = h.add_keeps false 1 bs (h.small 1 (omega arith))

  k_fails : (A : Type 0) → Keeps {A = A} C (fail 8)
  k_fails A = k_deep C A h.refusable

  k_fitting : {X A : Type 0} (o : Fit X) (m : M A) (f : X → M A) → Keeps C m → ((x : X) → Keeps C (f x)) → Keeps C (fit_m o m f)
  k_fitting o m f = k_fit C o m f h.refusable

  ruleset along = (k_ret, k_fails, k_bind, k_if, k_opt, k_fitting)

  pub k_says : (d : StructDef) (e : Member) (kind detail : ℕ) → Keeps C (says d e kind detail)
  unfolding says
  k_says d e kind detail = h.remark_keeps _

  pub k_leaves : (d : StructDef) (e : Member) (kind detail : ℕ) (buf : Bytes) → Keeps C (leaves d e kind detail buf)
  unfolding leaves
  k_leaves d e kind detail buf = search (along, k_says)

  pub k_need : (d : StructDef) (e : Member) (n : ℕ) (buf : Bytes) (m : M Bytes) → Keeps C m → Keeps C (need d e n buf m)
  unfolding need
  k_need d e n buf m hm = search (along, k_leaves)

  pub k_wrong : (d : StructDef) (e : Member) (v : Value) (buf : Bytes) → Keeps C (wrong d e v buf)
  unfolding wrong
  k_wrong d e v buf = search (along, k_leaves)

  pub k_scalar_member : (s : Kinds.Scalar) (d : StructDef) (e : Member) (v : Value) (buf : Bytes) → Keeps C (scalar_member E s d e v buf)
  unfolding scalar_member
  k_scalar_member s d e v buf = search (along, k_need, k_wrong)

  pub k_add_string : (t : Bytes) → Keeps C (add_string E t)
  unfolding add_string
  k_add_string t = search (along, h.pay_keeps, add_text)

  pub k_text_slot : (sub : ℕ) (t buf : Bytes) (off : ℕ) → Keeps C (text_slot E sub t buf off)
  unfolding text_slot
  k_text_slot sub t buf off = search (along, k_add_string)

  pub k_fixed_member : (d : StructDef) (e : Member) (v : Value) (buf : Bytes) → Keeps C (fixed_member E d e v buf)
  unfolding fixed_member
  k_fixed_member d e v buf = search (along, k_need, k_wrong)

  pub k_pointer_member : (d : StructDef) (e : Member) (v : Value) (buf : Bytes) → Keeps C (pointer_member E d e v buf)
  unfolding pointer_member
  k_pointer_member d e v buf = search (along, k_need, k_wrong, k_text_slot)

  pub k_hash_member : (d : StructDef) (e : Member) (v : Value) (buf : Bytes) → Keeps C (hash_member E d e v buf)
  unfolding hash_member
  k_hash_member d e v buf = search (along, k_need, k_wrong)

  pub k_text_member : (d : StructDef) (e : Member) (v : Value) (buf : Bytes) → Keeps C (text_member E d e v buf)
  unfolding text_member
  k_text_member d e v buf = search (along, k_leaves, k_fixed_member, k_pointer_member, k_hash_member)

  pub k_use_enum_of : (n : ℕ) → Keeps C (use_enum_of E n)
  unfolding use_enum_of
  k_use_enum_of n = k_when C (is_some (E.defs.enum n)) _ _ (h.enum_keeps n) (k_ret C tt)

  pub k_named_member : (f : Entries → Fit ℕ) (n : ℕ) (d : StructDef) (e : Member) (v : Value) (buf : Bytes) → Keeps C (named_member E f n d e v buf)
  unfolding named_member
  k_named_member f n d e v buf = search (along, k_need, k_wrong, k_use_enum_of)

  pub k_elements : {X : Type 0} (f : X → M (Option Bytes)) (xs : List X) → ((x : X) → Keeps C (f x)) → Keeps C (elements f xs)
  unfolding elements
  k_elements f [] hf = search along
  k_elements f (x ∷ xs) hf = search (along, hf, k_elements f xs hf)

  pub k_run : {X : Type 0} (stride block : ℕ) (f : X → M (Option Bytes)) (xs : List X) → C.files block → ((x : X) → Keeps C (f x)) → KeepsRun C (run E stride block f xs)
  unfolding run
  k_run stride block f xs n hf =
      r_bind C (pay E _) _ (h.pay_keeps _) (λ u. r_bind C (elements f xs) _ (k_elements f xs hf) (λ o. r_map C block n o))

  pub k_stops : (d : StructDef) (e : Member) (kind detail : ℕ) → KeepsRun C (stops d e kind detail)
  unfolding stops
  k_stops d e kind detail = r_bind C (says d e kind detail) _ (k_says d e kind detail) (λ u. r_none C)

  pub k_laid_run : (m : M (Option Run)) (n off : ℕ) (buf : Bytes) → KeepsRun C m → Keeps C (laid_run m n off buf)
  unfolding laid_run
  k_laid_run m n off buf hm = l_bind C m _ _ hm (k_ret C buf) (λ r p. k_bind C _ _ (h.add_keeps false r.block r.bytes p) (λ q. k_ret C _))

  -- w keeps it, whatever structure of a definition in E it writes
  abbrev pub Keeping : Writer → Type 0
  Keeping w = (n : ℕ) (i : StructDef) (fs : Fields) → E.defs.struct n ≡ Some i → Keeps C (w i fs)

  module _ (w : Writer) (hw : Keeping w) where
    pub k_pointed : (d : StructDef) (e : Member) (ref : ℕ) (v : Row) → Keeps C (pointed E w d e ref v)
    unfolding pointed
    k_pointed d e ref v = search (along, k_says, add_named, hw)

    pub k_pointer_element : (d : StructDef) (e : Member) (ref r : ℕ) → Keeps C (pointer_element E w d e ref r)
    unfolding pointer_element
    k_pointer_element d e ref r = search (along, k_pointed)

    pub k_struct_element : (d : StructDef) (e : Member) (n : ℕ) (i : StructDef) (r : ℕ) → E.defs.struct n ≡ Some i → Keeps C (struct_element E w d e i r)
    unfolding struct_element
    k_struct_element d e n i r q = search (along, k_says, hw n i)

    pub k_text_element : (sub r : ℕ) → Keeps C (text_element E sub r)
    unfolding text_element
    k_text_element sub r = search (along, k_text_slot)

    pub k_fixed_element : (len r : ℕ) → Keeps C (fixed_element E len r)
    unfolding fixed_element
    k_fixed_element len r = search along

    pub k_hash_element : (r : ℕ) → Keeps C (hash_element E r)
    unfolding hash_element
    k_hash_element r = search along

    pub k_enum_element : (n r : ℕ) → Keeps C (enum_element E n r)
    unfolding enum_element
    k_enum_element n r = search along

    pub k_scalar_element : (s : Kinds.Scalar) (r : ℕ) → Keeps C (scalar_element E s r)
    unfolding scalar_element
    k_scalar_element s r = search along

    pub k_struct_run : (d : StructDef) (e x : Member) (rs : List ℕ) → KeepsRun C (struct_run E w d e x rs)
    unfolding struct_run
    k_struct_run d e x rs =
        r_if C (eqb x.subtype 3) _ _ (k_run 8 12 _ rs (h.small 12 (omega arith)) (k_pointer_element d e x.reference))
        (r_opt C (E.defs.struct x.reference) _ _ (k_stops d e 8 x.reference)
        (λ i q. k_run i.size i.name _ rs (h.named i (h.found x.reference i q).0) (λ r. k_struct_element d e x.reference i r q)))

    pub k_fixed_run : (d : StructDef) (e : Member) (len : ℕ) (rs : List ℕ) → KeepsRun C (fixed_run E d e len rs)
    unfolding fixed_run
    k_fixed_run d e len rs = r_if C (eqb len 0) _ _ (k_stops d e 10 0) (k_run len 1 _ rs (h.small 1 (omega arith)) (k_fixed_element len))

    pub k_text_run : (d : StructDef) (e x : Member) (rs : List ℕ) → KeepsRun C (text_run E d e x rs)
    unfolding text_run
    k_text_run d e x rs =
        r_if C _ _ _ (k_fixed_run d e _ rs)
        (r_if C _ _ _ (k_run _ _ _ rs (small_cond C.files (eqb x.subtype 3) 200 12 (h.small 200 (omega arith)) (h.small 12 (omega arith))) (k_text_element x.subtype))
        (r_if C _ _ _ (k_run 4 6 _ rs (h.small 6 (omega arith)) k_hash_element) (k_stops d e 11 x.subtype)))

    pub k_enum_run : (n : ℕ) (rs : List ℕ) → KeepsRun C (enum_run E n rs)
    unfolding enum_run
    k_enum_run n rs = r_bind C _ _ (k_use_enum_of n) (λ u. k_run 4 5 _ rs (h.small 5 (omega arith)) (k_enum_element n))

    scalar_block_law : (s : Kinds.Scalar) (ty : ℕ) → C.files (scalar_block s ty)
    scalar_block_law (Kinds.integer k) ty =
        small_cond C.files (leb k 1) 2 _ (h.small 2 (omega arith))
        (small_cond C.files (leb k 2) 4 _ (h.small 4 (omega arith)) (small_cond C.files (eqb ty 0x05) 5 6 (h.small 5 (omega arith)) (h.small 6 (omega arith))))
    scalar_block_law Kinds.single ty = h.small 7 (omega arith)
    scalar_block_law (Kinds.vector n) ty = h.small 1 (omega arith)

    pub k_element_run : (d : StructDef) (e x : Member) (k : Kinds.Kind) (rs : List ℕ) → KeepsRun C (element_run E w d e x k rs)
    unfolding element_run
    k_element_run d e x (Kinds.scalar s) rs = k_run _ _ _ rs (scalar_block_law s x.type) (k_scalar_element s)
    k_element_run d e x Kinds.text rs = k_text_run d e x rs
    k_element_run d e x Kinds.structure rs = k_struct_run d e x rs
    k_element_run d e x Kinds.enumeration rs = k_enum_run x.reference rs
    k_element_run d e x Kinds.array rs = k_stops d e 12 x.type
    k_element_run d e x Kinds.flags rs = k_stops d e 12 x.type
    k_element_run d e x Kinds.map rs = k_stops d e 12 x.type
    k_element_run d e x Kinds.other rs = k_stops d e 12 x.type

    pub k_inline_member : (d : StructDef) (e : Member) (v : Row) (buf : Bytes) → Keeps C (inline_member E w d e v buf)
    unfolding inline_member
    k_inline_member d e v buf = search (along, k_leaves, k_need, hw)

    pub k_pointed_member : (d : StructDef) (e : Member) (v : Row) (buf : Bytes) → Keeps C (pointed_member E w d e v buf)
    unfolding pointed_member
    k_pointed_member d e v buf = search (along, k_need, k_pointed)

    pub k_pointed_array : (d : StructDef) (e x : Member) (rs : List ℕ) (buf : Bytes) → Keeps C (pointed_array E w d e x rs buf)
    unfolding pointed_array
    k_pointed_array d e x rs buf = search (along, k_need, k_laid_run, k_element_run)

    pub k_embedded_array : (d : StructDef) (e x : Member) (rs : List ℕ) (buf : Bytes) → Keeps C (embedded_array E w d e x rs buf)
    unfolding embedded_array
    k_embedded_array d e x rs buf =
        l_bind C _ _ _ (k_element_run d e x (Kinds.kind_of x.type) rs) (k_ret C buf) (λ r p. k_need d e (length r.bytes) buf _ (k_ret C _))

    pub k_array_member : (d : StructDef) (e : Member) (v : Value) (buf : Bytes) → Keeps C (array_member E w d e v buf)
    unfolding array_member array_of
    k_array_member d e v buf = search (along, k_leaves, k_wrong, k_pointed_array, k_embedded_array)

    pub k_pair_element : (n : ℕ) (i : StructDef) (p : ℕ × ℕ) → E.defs.struct n ≡ Some i → Keeps C (pair_element E w i p)
    unfolding pair_element
    k_pair_element n i p q = search (along, hw n i)

    pub k_map_of : (d : StructDef) (e : Member) (n : ℕ) (ps : List (ℕ × ℕ)) (buf : Bytes) → Keeps C (map_of E w d e n ps buf)
    unfolding map_of
    k_map_of d e n ps buf =
        k_if C _ _ _ (k_ret C buf)
        (k_opt C (E.defs.struct n) _ _ (k_leaves d e 7 n buf) (λ i q. k_laid_run _ _ _ _ (k_run i.size n _ ps (h.found n i q).1 (λ p. k_pair_element n i p q))))

    pub k_map_member : (d : StructDef) (e : Member) (v : Value) (buf : Bytes) → Keeps C (map_member E w d e v buf)
    unfolding map_member
    k_map_member d e v buf = search (along, k_need, k_wrong, k_leaves, k_map_of)

  -- members, which lead to structures inline and afresh
  module _ (w : Writers) (hi : Keeping w.inline) (ha : Keeping w.afresh) where
    pub k_struct_member : (d : StructDef) (e : Member) (v : Value) (buf : Bytes) → Keeps C (struct_member E w d e v buf)
    unfolding struct_member
    k_struct_member d e v buf = search (along, k_wrong, k_inline_member w.inline hi, k_pointed_member w.afresh ha)

    pub k_member : (d : StructDef) (e : Member) (k : Kinds.Kind) (v : Value) (buf : Bytes) → Keeps C (member E w d e k v buf)
    unfolding member enum_member flags_member
    k_member d e (Kinds.scalar s) v buf = k_scalar_member s d e v buf
    k_member d e Kinds.text v buf = k_text_member d e v buf
    k_member d e Kinds.structure v buf = k_struct_member d e v buf
    k_member d e Kinds.array v buf = k_array_member w.afresh ha d e v buf
    k_member d e Kinds.enumeration v buf = k_named_member _ _ d e v buf
    k_member d e Kinds.flags v buf = k_named_member _ _ d e v buf
    k_member d e Kinds.map v buf = k_map_member w.afresh ha d e v buf
    k_member d e Kinds.other v buf = k_leaves d e 13 e.type buf

    pub k_members : (d : StructDef) (fs : Fields) (es : List Member) (buf : Bytes) → Keeps C (members E w d fs es buf)
    unfolding members
    k_members d fs [] buf = search along
    k_members d fs (e ∷ es) buf = search (along, k_member, k_members d fs es)

    pub k_started : (d : StructDef) (fs : Fields) → h.starts d → Keeps C (started E w d fs)
    unfolding started
    k_started d fs q = search (along, h.pay_keeps, h.struct_keeps d q, k_members)

  pub k_write : (fuel left : ℕ) (d : StructDef) (fs : Fields) → h.starts d → Keeps C (write E fuel left d fs)
  unfolding write body
  k_write zero left d fs q = search along
  k_write (suc fuel) left d fs q =
      k_if C _ _ _ (k_fails Bytes) (k_started _ (λ n i gs e. k_write fuel _ i gs (h.found n i e).0) (λ n i gs e. k_write fuel _ i gs (h.found n i e).0) d fs q)

  pub k_root : (alone : Bool) (d : StructDef) (fs : Fields) → h.starts d → Keeps C (root E alone d fs)
  unfolding root
  k_root alone d fs q = search (along, add_root, k_write 96 32 d fs q)
    where
      add_root : (bs : Bytes) → Keeps C (lay_item alone d.name bs)
      add_root bs = h.add_keeps alone d.name bs (h.named d q)
