-- "A structure leads to its members and a member to further structures, inline, by pointer, in runs and in map pairs."
-- w writes the structures that a member leads to: one inline, others afresh, or both (`Writers`); d is the structure's definition, e the member, v its value,
-- buf the structure's bytes so far.
use Rattle.std.specs.Prelude.{ℕ, zero, suc, ◌+◌, ◌-◌, Bool, true, false, cond, ◌&&◌, ◌||◌, List, [], ◌∷◌, ltb, eqb, length, take, Option, Some}
use Rattle.numbers.specs.Words.{Bytes, words, over, is_empty, zeros}
use Rattle.numbers.specs.Result.{nth}
use Rattle.value.specs.Rows.{Value, Row, Fields, fields_of, field_named, children_of, text_of, Null, Str, Array, Map, Struct}
use Rattle.texts.specs.Text.{trimmed}
use Rattle.schema.specs.Defs.{StructDef, Member}
use Rattle.layout.specs.State.{Env, M, bind, ret, fail, if_m, opt_m, pay, use_struct, lay_item, add_item}
use Rattle.layout.specs.Kinds
use Rattle.layout.specs.Members.{row_of, reference_at, low16, low12, high16, put_pointer, put_counted, leaves, need, wrong, scalar_member, text_member, enum_member, flags_member}
use Rattle.layout.specs.Runs.{Writer, Run, run, pointed, element_run}

-- "name 0x100 (ARRAYINFO)"
abbrev pub ARRAYINFO : ℕ
ARRAYINFO = 0x100

-- what an array's elements are: the member of the definition whose number the reference's low 16 bits say, or, where there are too few, its low 12 bits
unfoldable pub array_info : StructDef → Member → Option Member
array_info d e = nth d.members (cond (ltb (low16 e.reference) (length d.members)) (low16 e.reference) (low12 e.reference))

-- an array is by pointer where its subtype is 0, or 4 and its elements' subtype 3
abbrev pub by_pointer : ℕ → ℕ → Bool
by_pointer sub elements = eqb sub 0 || (eqb sub 4 && eqb elements 3)

-- rows two by two: "key then value"
unfoldable pub pairs_of : List ℕ → List (ℕ × ℕ)
pairs_of [] = []
pairs_of (k ∷ []) = []
pairs_of (k ∷ (v ∷ rs)) = (k, v) ∷ pairs_of rs

-- the rows rs under the names of the first members, name 0x100 skipped
unfoldable pub named : List Member → List ℕ → Fields
named [] rs = []
named (m ∷ ms) [] = []
named (m ∷ ms) (r ∷ rs) = elim (eqb m.name ARRAYINFO) [ true ↦ named ms (r ∷ rs) | false ↦ (m.name, r) ∷ named ms rs ]

-- key and value as the members of a pair
abbrev pub pair_fields : StructDef → ℕ × ℕ → Fields
pair_fields d p = named d.members (p.0 ∷ p.1 ∷ [])

-- the writers of what members lead to: "Depth from now on counts only structures written inline inside one another. A structure reached by pointer, in a run
-- or as a map pair starts again at 1"
pub record Writers : Type 0 where
  pub inline : Writer
  pub afresh : Writer

-- rec writes with a given number of depths left; inline `left` are left, afresh all 32
abbrev pub writers : (ℕ → Writer) → ℕ → Writers
writers rec left = record { inline = rec left; afresh = rec 32 }

-- a run that is kept is filed, and its pointer stands at off with its count n
unfoldable pub laid_run : M (Option Run) → ℕ → ℕ → Bytes → M Bytes
laid_run m n off buf =
    bind m λ o. opt_m o (ret buf) λ r. bind (add_item r.block r.bytes) λ p. ret (put_counted buf off p n)

module _ (E : Env) where
  -- a structure inline: remark 4, "no structure definition (hash)", then remark 1
  unfoldable pub inline_member : Writer → StructDef → Member → Row → Bytes → M Bytes
  inline_member w d e v buf =
      opt_m (E.defs.struct e.reference) (leaves d e 4 e.reference buf) λ i.
      need d e i.size buf (bind (w i (fields_of E.sheet v)) λ bs. ret (over buf e.offset bs))

  -- a structure by pointer; without a Struct nothing is written
  unfoldable pub pointed_member : Writer → StructDef → Member → Row → Bytes → M Bytes
  pointed_member w d e v buf =
      need d e 8 buf
      (if_m (eqb v.kind Struct)
      (bind (pointed E w d e e.reference v) λ o. opt_m o (ret buf) λ p. ret (put_pointer buf e.offset p))
      (ret buf))

  -- Struct, Null or empty text; " " is "wrong for a structure"
  abbrev pub is_struct_value : Row → Bool
  is_struct_value v = eqb v.kind Struct || eqb v.kind Null || (eqb v.kind Str && eqb v.b 0)

  -- subtype 0 is inline, any other by pointer
  unfoldable pub struct_member : Writers → StructDef → Member → Value → Bytes → M Bytes
  struct_member w d e v buf =
      if_m (is_struct_value (row_of E v))
      (if_m (eqb e.subtype 0) (inline_member w.inline d e (row_of E v) buf) (pointed_member w.afresh d e (row_of E v) buf))
      (wrong d e v buf)

  -- an array by pointer; without items it ends here
  unfoldable pub pointed_array : Writer → StructDef → Member → Member → List ℕ → Bytes → M Bytes
  pointed_array w d e x rs buf =
      need d e 16 buf
      (if_m (is_empty rs) (ret buf) (laid_run (element_run E w d e x (Kinds.kind_of x.type) rs) (length rs) e.offset buf))

  -- an embedded array: first the run with all that it lays, remarks and uses, then does it fit
  unfoldable pub embedded_array : Writer → StructDef → Member → Member → List ℕ → Bytes → M Bytes
  embedded_array w d e x rs buf =
      bind (element_run E w d e x (Kinds.kind_of x.type) rs) λ o.
      opt_m o (ret buf) λ r. need d e (length r.bytes) buf (ret (over buf e.offset r.bytes))

  -- by pointer, or else embedded, with no more items than the reference's high half says
  unfoldable pub array_of : Writer → StructDef → Member → Member → List ℕ → Bytes → M Bytes
  array_of w d e x rs buf =
      if_m (by_pointer e.subtype x.subtype) (pointed_array w d e x rs buf)
      (embedded_array w d e x (take (high16 e.reference) rs) buf)

  -- Array, Null or blank text: "\" \" is empty for an array"
  abbrev pub is_array_value : Row → Bool
  is_array_value v = eqb v.kind Array || eqb v.kind Null || (eqb v.kind Str && is_empty (trimmed (text_of E.sheet v)))

  -- an array: remark 5, "no ARRAYINFO", then remark 2
  unfoldable pub array_member : Writer → StructDef → Member → Value → Bytes → M Bytes
  array_member w d e v buf =
      opt_m (array_info d e) (leaves d e 5 0 buf) λ x.
      if_m (is_array_value (row_of E v)) (array_of w d e x (children_of (row_of E v)) buf) (wrong d e v buf)

  -- a pair is a structure of the definition i
  unfoldable pub pair_element : Writer → StructDef → ℕ × ℕ → M (Option Bytes)
  pair_element w i p = bind (w i (pair_fields i p)) λ bs. ret (Some bs)

  -- a map's pairs; without pairs it ends here, else remark 7: "no pair definition (hash)"
  unfoldable pub map_of : Writer → StructDef → Member → ℕ → List (ℕ × ℕ) → Bytes → M Bytes
  map_of w d e h ps buf =
      if_m (is_empty ps) (ret buf)
      (opt_m (E.defs.struct h) (leaves d e 7 h buf) λ i.
      laid_run (run E i.size h (pair_element w i) ps) (length ps) (e.offset + 8) buf)

  -- a map: remark 6, "map subtype", then 1, then 2; "an empty supported map still holds 0x01000000"
  unfoldable pub map_member : Writer → StructDef → Member → Value → Bytes → M Bytes
  map_member w d e v buf =
      if_m (eqb e.subtype 1)
      (need d e 24 buf
      (if_m (eqb (row_of E v).kind Map || eqb (row_of E v).kind Null)
      (map_of w d e (reference_at d (low16 e.reference)) (pairs_of (children_of (row_of E v))) (over buf e.offset (words (0x01000000 ∷ []))))
      (wrong d e v buf)))
      (leaves d e 6 e.subtype buf)

  -- a member by its kind; remark 13: "member type"
  unfoldable pub member : Writers → StructDef → Member → Kinds.Kind → Value → Bytes → M Bytes
  member w d e (Kinds.scalar s) v buf = scalar_member E s d e v buf
  member w d e Kinds.text v buf = text_member E d e v buf
  member w d e Kinds.structure v buf = struct_member w d e v buf
  member w d e Kinds.array v buf = array_member w.afresh d e v buf
  member w d e Kinds.enumeration v buf = enum_member E d e v buf
  member w d e Kinds.flags v buf = flags_member E d e v buf
  member w d e Kinds.map v buf = map_member w.afresh d e v buf
  member w d e Kinds.other v buf = leaves d e 13 e.type buf

  -- "Members are written in definition order, name 0x100 (ARRAYINFO) skipped"
  unfoldable pub members : Writers → StructDef → Fields → List Member → Bytes → M Bytes
  members w d fs [] buf = ret buf
  members w d fs (e ∷ es) buf =
      bind (if_m (eqb e.name ARRAYINFO) (ret buf) (member w d e (Kinds.kind_of e.type) (field_named e.name fs) buf)) λ b.
      members w d fs es b

  -- a structure that has started: "each started structure .. costs 16 plus its full length"
  unfoldable pub started : Writers → Writer
  started w d fs =
      bind (pay E (16 + d.size)) λ _. bind (use_struct d.name) λ _. members w d fs d.members (zeros d.size)

  -- 8: "a structure would start at depth 33"; `left` depths are left, and rec writes with a given number of them
  unfoldable pub body : (ℕ → Writer) → ℕ → Writer
  body rec left d fs = if_m (eqb left 0) (fail 8) (started (writers rec (left - 1)) d fs)

  -- the recursion ends by its first argument, how many structures can start inside one another. It is never used up on a sheet that keeps its layout (Fuel)
  unfoldable pub write : ℕ → ℕ → Writer
  write zero left d fs = fail 8
  write (suc fuel) left d fs = body (write fuel) left d fs

  -- "The root is laid last"; "the root has depth 1". 96 are "the sheet's 64 levels" and the 32 depths. "A second way of packing in which the
  -- root always gets a new last block"; `alone` says which
  unfoldable pub root : Bool → StructDef → Fields → M ℕ
  root alone d fs = bind (write 96 32 d fs) λ bs. lay_item alone d.name bs

-- for evaluation
unfoldable pub evaluated : ℕ → ℕ
unfolding array_info pairs_of named inline_member pointed_member struct_member laid_run pointed_array embedded_array array_of array_member pair_element map_of map_member member members started body write root
evaluated n = n
