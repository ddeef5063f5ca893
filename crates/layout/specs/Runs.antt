-- Runs: the elements of an array, and structures reached by pointer.
-- w writes a structure afresh; d and e are the structure and its array member, x what ARRAYINFO says of the elements, r a row, rs the elements' rows.
use Rattle.std.specs.Prelude.{ℕ, ◌+◌, ◌-◌, ◌*◌, cond, ◌||◌, List, [], ◌∷◌, ◌++◌, leb, eqb, length, take, Option, Some, None, is_some, unwrap_or, option_map}
use Rattle.numbers.specs.Words.{Bytes, bytes_of, padded, zeros}
use Rattle.value.specs.Rows.{Row, row, Fields, fields_of, Struct, Null}
use Rattle.coerce.specs.Numbers.{str_of}
use Rattle.names.specs.Names.{hash_of, enum_value}
use Rattle.schema.specs.Defs.{StructDef, Member}
use Rattle.layout.specs.State.{Env, M, bind, ret, if_m, opt_m, fit_m, pay, add_item}
use Rattle.layout.specs.Kinds
use Rattle.layout.specs.Members.{says, high16, put_pointer, text_slot, slot_size, is_pointer_text, is_hash_text, entries_of, use_enum_of}

-- writes a structure: its definition and its members' values
abbrev pub Writer : Type 0
Writer = StructDef → Fields → M Bytes

-- a run's bytes, and the name of the block that it is filed in
pub record Run : Type 0 where
  pub bytes : Bytes
  pub block : ℕ

-- the elements one after the other; the first that fails ends it
unfoldable pub elements : {X : Type 0} → (X → M (Option Bytes)) → List X → M (Option Bytes)
elements f [] = ret (Some [])
elements f (x ∷ xs) =
    bind (f x) λ o.
    opt_m o (ret None) λ b.
    bind (elements f xs) λ p. opt_m p (ret None) λ bs. ret (Some (b ++ bs))

-- the name of the block that a run of scalars goes to
abbrev pub scalar_block : Kinds.Scalar → ℕ → ℕ
scalar_block (Kinds.integer k) ty = cond (leb k 1) 2 (cond (leb k 2) 4 (cond (eqb ty 0x05) 5 6))
scalar_block Kinds.single ty = 7
scalar_block (Kinds.vector n) ty = 1

-- how many bytes a scalar element has; a vector of three has 16
abbrev pub scalar_stride : Kinds.Scalar → ℕ
scalar_stride (Kinds.integer k) = k
scalar_stride Kinds.single = 4
scalar_stride (Kinds.vector n) = cond (eqb n 2) 8 16

-- the name of the block that a run of texts by pointer goes to
abbrev pub slot_block : ℕ → ℕ
slot_block sub = cond (eqb sub 3) 200 12

-- a remark that stops a run
unfoldable pub stops : StructDef → Member → ℕ → ℕ → M (Option Run)
stops d e kind detail = bind (says d e kind detail) λ _. ret None

module _ (E : Env) where
  -- "each .. array run, map run .. costs 16 plus its full length (.. a run's as if no element failed), charged before its first byte"
  unfoldable pub run : {X : Type 0} → ℕ → ℕ → (X → M (Option Bytes)) → List X → M (Option Run)
  run stride block f xs =
      bind (pay E (16 + stride * length xs)) λ _.
      bind (elements f xs) λ o. ret (option_map (λ bs. record { bytes = bs; block = block }) o)

  -- by pointer the row's own type counts where the schema has a structure of that name, else the reference
  unfoldable pub own_type : Row → ℕ → ℕ
  own_type v ref = cond (is_some (E.defs.struct v.a)) v.a ref

  -- a structure by pointer: its pointer, or remark 4: "no structure definition (hash)"
  unfoldable pub pointed : Writer → StructDef → Member → ℕ → Row → M (Option ℕ)
  pointed w d e ref v =
      opt_m (E.defs.struct (own_type v ref)) (bind (says d e 4 (own_type v ref)) λ _. ret None) λ i.
      bind (w i (fields_of E.sheet v)) λ bs. bind (add_item i.name bs) λ p. ret (Some p)

  -- a pointer in 8 bytes; what is no Struct leaves them zero, without remark
  unfoldable pub pointer_element : Writer → StructDef → Member → ℕ → ℕ → M (Option Bytes)
  pointer_element w d e ref r =
      if_m (eqb (row E.sheet r).kind Struct)
      (bind (pointed w d e ref (row E.sheet r)) λ o. ret (Some (put_pointer (zeros 8) 0 (unwrap_or o 0))))
      (ret (Some (zeros 8)))

  -- remark 9: "element no structure", which is then written without values
  unfoldable pub struct_element : Writer → StructDef → Member → StructDef → ℕ → M (Option Bytes)
  struct_element w d e i r =
      bind (if_m (eqb (row E.sheet r).kind Struct || eqb (row E.sheet r).kind Null) (ret tt) (says d e 9 0)) λ _.
      bind (w i (fields_of E.sheet (row E.sheet r))) λ bs. ret (Some bs)

  -- a text by pointer; what is no text leaves its bytes zero
  unfoldable pub text_element : ℕ → ℕ → M (Option Bytes)
  text_element sub r =
      bind (text_slot E sub (unwrap_or (str_of E.sheet (row E.sheet r)) []) (zeros (slot_size sub)) 0) λ bs. ret (Some bs)

  -- a text in len bytes; what is no text drops the run
  unfoldable pub fixed_element : ℕ → ℕ → M (Option Bytes)
  fixed_element len r = ret (option_map (λ t. padded len (take (len - 1) t)) (str_of E.sheet (row E.sheet r)))

  -- a hash; what is none drops the run
  unfoldable pub hash_element : ℕ → M (Option Bytes)
  hash_element r = ret (option_map (bytes_of 4) (hash_of E.sheet (row E.sheet r)))

  -- an enum value, in 4 bytes whatever the subtype; what is none drops the run
  unfoldable pub enum_element : ℕ → ℕ → M (Option Bytes)
  enum_element h r =
      fit_m (enum_value E.sheet (entries_of E.defs h) (row E.sheet r)) (ret None) λ x. ret (Some (bytes_of 4 x))

  -- a scalar; one bad element drops the run
  unfoldable pub scalar_element : Kinds.Scalar → ℕ → M (Option Bytes)
  scalar_element s r =
      fit_m (Kinds.scalar_bytes E.sheet s (row E.sheet r)) (ret None) λ bs. ret (Some (padded (scalar_stride s) bs))

  -- remark 8: "no element definition (hash)"
  unfoldable pub struct_run : Writer → StructDef → Member → Member → List ℕ → M (Option Run)
  struct_run w d e x rs =
      if_m (eqb x.subtype 3) (run 8 12 (pointer_element w d e x.reference) rs)
      (opt_m (E.defs.struct x.reference) (stops d e 8 x.reference) λ i. run i.size i.name (struct_element w d e i) rs)

  -- remark 10: "zero-length strings"
  unfoldable pub fixed_run : StructDef → Member → ℕ → List ℕ → M (Option Run)
  fixed_run d e len rs = if_m (eqb len 0) (stops d e 10 0) (run len 1 (fixed_element len) rs)

  -- remark 11: "string array subtype"
  unfoldable pub text_run : StructDef → Member → Member → List ℕ → M (Option Run)
  text_run d e x rs =
      if_m (eqb x.subtype 0) (fixed_run d e (high16 x.reference) rs)
      (if_m (is_pointer_text x.subtype) (run (slot_size x.subtype) (slot_block x.subtype) (text_element x.subtype) rs)
      (if_m (is_hash_text x.subtype) (run 4 6 hash_element rs) (stops d e 11 x.subtype)))

  -- "an enum in the schema .. whose run began"
  unfoldable pub enum_run : ℕ → List ℕ → M (Option Run)
  enum_run h rs = bind (use_enum_of E h) λ _. run 4 5 (enum_element h) rs

  -- the rows rs as elements of the kind that x describes, for member e of structure d; remark 12: "element type"
  unfoldable pub element_run : Writer → StructDef → Member → Member → Kinds.Kind → List ℕ → M (Option Run)
  element_run w d e x (Kinds.scalar s) rs = run (scalar_stride s) (scalar_block s x.type) (scalar_element s) rs
  element_run w d e x Kinds.text rs = text_run d e x rs
  element_run w d e x Kinds.structure rs = struct_run w d e x rs
  element_run w d e x Kinds.enumeration rs = enum_run x.reference rs
  element_run w d e x Kinds.array rs = stops d e 12 x.type
  element_run w d e x Kinds.flags rs = stops d e 12 x.type
  element_run w d e x Kinds.map rs = stops d e 12 x.type
  element_run w d e x Kinds.other rs = stops d e 12 x.type

-- for evaluation
unfoldable pub evaluated : ℕ → ℕ
unfolding elements run stops own_type pointed pointer_element struct_element text_element fixed_element hash_element enum_element scalar_element struct_run fixed_run text_run enum_run element_run
evaluated n = n
