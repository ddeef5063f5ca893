-- Slots: where the layout puts a pointer. "Its pointer is the number formed when it is laid", and that number is what the four bytes of a slot say.
-- A step that lays an item and puts its pointer into bytes puts the pointer of just that item: a text's, a run's, a map's, a structure's; and no other pointer
-- is put there. These laws speak of the slot's four bytes; what structures and runs are put together from stands in Parts.
use Rattle.std.specs.Prelude.{ℕ, suc, ◌+◌, ◌≡◌, Bool, true, false, ◌||◌, List, [], ◌∷◌, ◌++◌, map, ◌⊎◌, eqb, leb, Option, Some, None, unwrap_or}
use Rattle.numbers.specs.Words.{Bytes, read_at, words, over, is_empty, zeros}
use Rattle.numbers.specs.Result.{nth}
use Rattle.value.specs.Rows.{Value, Fields, row, fields_of, field_named, children_of, Struct, Map, Null}
use Rattle.coerce.specs.Numbers.{str_of}
use Rattle.schema.specs.Defs.{StructDef, Member}
use Rattle.layout.specs.State.{Item, Block, Core, State, Env, Out, done, stop, with_remark}
use Rattle.layout.specs.Kinds
use Rattle.layout.specs.Members.{row_of, reference_at, low16, is_pointer_text, slot_size}
use Rattle.layout.specs.Runs.{Writer, Run, run, own_type, pointer_element, text_element, element_run}
use Rattle.layout.specs.Write.{array_info, by_pointer, pairs_of, is_array_value, Writers, writers, pair_element, member, members, write, root}

-- the item just laid

-- the items and the blocks that stood in c come first in c': each item as it was, each block under its number and name
pub record Further (c c' : Core) : Type 0 where
  pub more_items : List Item
  pub items : c'.items ≡ c.items ++ more_items
  pub more_blocks : List ℕ
  pub blocks : map (λ b. b.name) c'.blocks ≡ map (λ b. b.name) c.blocks ++ more_blocks

-- from c to c' one item was laid, its bytes bs, in a block named n; its pointer is p
pub record Lays (n : ℕ) (bs : Bytes) (p : ℕ) (c c' : Core) : Type 0 where
  pub item : Item
  pub before : ℕ
  pub block : Block
  pub laid : c'.items ≡ c.items ++ (item ∷ [])
  pub bytes : item.bytes ≡ bs
  pub number : item.block ≡ suc before
  pub filed : nth c'.blocks before ≡ Some block
  pub named : block.name ≡ n
  pub pointer : item.pointer ≡ p
  pub stays : Further c c'

-- if the step answers, its last item is bs, laid in a block named n (c is what stood just before), and the four bytes at off of its answer say that item's pointer
abbrev pub Points : ℕ → Bytes → ℕ → Core → Out Bytes → Type 0
Points n bs off c (done buf s) = Lays n bs (read_at 4 buf off) c s.core
Points n bs off c (stop k es) = Unit {0}

-- the same of an element of a run: the pointer is its first four bytes, and such an element never drops its run
abbrev pub PointsFirst : ℕ → Bytes → Core → Out (Option Bytes) → Type 0
PointsFirst n bs c (done (Some b) s) = Lays n bs (read_at 4 b 0) c s.core
PointsFirst n bs c (done None s) = ⊥
PointsFirst n bs c (stop k es) = Unit {0}

-- the same of the root, whose pointer is answered
abbrev pub PointsRoot : ℕ → Bytes → Core → Out ℕ → Type 0
PointsRoot n bs c (done p s) = Lays n bs p c s.core
PointsRoot n bs c (stop k es) = Unit {0}

-- if the step answers, the structure's bytes are as they were, or an item was laid in it, as the last, and the four bytes at off say that item's pointer;
-- a is what stood before the step
abbrev pub PutsOnly : Core → Bytes → ℕ → Out Bytes → Type 0
PutsOnly a buf off (done b s) = (b ≡ buf) ⊎ ((n : ℕ) × (bs : Bytes) × (c : Core) × Further a c × Lays n bs (read_at 4 b off) c s.core)
PutsOnly a buf off (stop k es) = Unit {0}

-- members

-- it is the turn of member e in writing a structure of the definition d with the values fs: the members in front of e are written, the structure's bytes
-- are buf, the state is s. w writes the structures that members lead to
pub record Turn (E : Env) (w : Writers) (d : StructDef) (fs : Fields) (front : List Member) (e : Member) (behind : List Member) (buf : Bytes) (s : State) : Type 0 where
  pub split : d.members ≡ front ++ (e ∷ behind)
  pub begun : State
  pub written : members E w d fs front (zeros d.size) begun ≡ done buf s

-- member e of a structure of the definition d is written: v is its value, buf the structure's bytes so far
module _ (E : Env) (w : Writers) (d : StructDef) (e : Member) (v : Value) (buf : Bytes) (s : State) where
  -- what writing it gives
  abbrev pub step : Out Bytes
  step = member E w d e (Kinds.kind_of e.type) v buf s

  -- a text by pointer, subtypes 1, 2 and 3, whose slot fits, that is not empty: laid in a block named 1, "with its closing zero byte"
  abbrev pub TextSlot : Type 0
  TextSlot =
      (t : Bytes) → Kinds.kind_of e.type ≡ Kinds.text → is_pointer_text e.subtype ≡ true → leb (e.offset + slot_size e.subtype) d.size ≡ true
      → str_of E.sheet (row_of E v) ≡ Some t → is_empty t ≡ false → Points 1 (t ++ (0 ∷ [])) e.offset s.core step

  -- an array by pointer, whose 16 bytes fit, with items: its run r, if it is kept; t is the state after its elements
  abbrev pub ArraySlot : Type 0
  ArraySlot =
      (x : Member) (r : Run) (t : State) → Kinds.kind_of e.type ≡ Kinds.array → array_info d e ≡ Some x → is_array_value E (row_of E v) ≡ true
      → by_pointer e.subtype x.subtype ≡ true → leb (e.offset + 16) d.size ≡ true → is_empty (children_of (row_of E v)) ≡ false
      → element_run E w.afresh d e x (Kinds.kind_of x.type) (children_of (row_of E v)) s ≡ done (Some r) t
      → Points r.block r.bytes e.offset t.core step

  -- a supported map, whose 24 bytes fit, with pairs: its run of pairs, structures of the definition i. The pointer stands 8 bytes behind the map's start
  abbrev pub MapSlot : Type 0
  MapSlot =
      (i : StructDef) (r : Run) (t : State) → Kinds.kind_of e.type ≡ Kinds.map → eqb e.subtype 1 ≡ true → leb (e.offset + 24) d.size ≡ true
      → (eqb (row_of E v).kind Map || eqb (row_of E v).kind Null) ≡ true → is_empty (pairs_of (children_of (row_of E v))) ≡ false
      → E.defs.struct (reference_at d (low16 e.reference)) ≡ Some i
      → run E i.size (reference_at d (low16 e.reference)) (pair_element E w.afresh i) (pairs_of (children_of (row_of E v))) s ≡ done (Some r) t
      → Points r.block r.bytes (e.offset + 8) t.core step

  -- a structure by pointer, whose 8 bytes fit: the Struct is written afresh as a structure of the definition i, of the row's own type where the schema has it, else
  -- of the reference, with the bytes bs; t is the state after that
  abbrev pub StructSlot : Type 0
  StructSlot =
      (i : StructDef) (bs : Bytes) (t : State) → Kinds.kind_of e.type ≡ Kinds.structure → eqb e.subtype 0 ≡ false → leb (e.offset + 8) d.size ≡ true
      → eqb (row_of E v).kind Struct ≡ true → E.defs.struct (own_type E (row_of E v) e.reference) ≡ Some i
      → w.afresh i (fields_of E.sheet (row_of E v)) s ≡ done bs t
      → Points i.name bs e.offset t.core step

  -- all four; and whatever the value is, no other pointer is put: the structure's bytes are as they were (a map's 0x01000000 in its first four bytes aside),
  -- or the step laid an item, as its last, and the slot says that item's pointer. So where nothing is laid the bytes stay
  pub record MemberSlot : Type 0 where
    pub text : TextSlot
    pub array : ArraySlot
    pub map : MapSlot
    pub structure : StructSlot
    pub text_only : Kinds.kind_of e.type ≡ Kinds.text → is_pointer_text e.subtype ≡ true → PutsOnly s.core buf e.offset step
    pub array_only : (x : Member) → Kinds.kind_of e.type ≡ Kinds.array → array_info d e ≡ Some x → by_pointer e.subtype x.subtype ≡ true → PutsOnly s.core buf e.offset step
    pub map_only : Kinds.kind_of e.type ≡ Kinds.map
        → PutsOnly s.core buf (e.offset + 8) step ⊎ PutsOnly s.core (over buf e.offset (words (0x01000000 ∷ []))) (e.offset + 8) step
    pub structure_only : Kinds.kind_of e.type ≡ Kinds.structure → eqb e.subtype 0 ≡ false → PutsOnly s.core buf e.offset step

-- elements of a run

module _ (E : Env) where
  -- a text by pointer that is not empty
  abbrev pub TextElements : Type 0
  TextElements =
      (sub r : ℕ) (s : State) (t : Bytes) → str_of E.sheet (row E.sheet r) ≡ Some t → is_empty t ≡ false
      → PointsFirst 1 (t ++ (0 ∷ [])) s.core (text_element E sub r s)

  -- an empty text, or what is no text, has a slot of zeros
  abbrev pub EmptyTexts : Type 0
  EmptyTexts =
      (sub r : ℕ) (s : State) → is_empty (unwrap_or (str_of E.sheet (row E.sheet r)) []) ≡ true
      → text_element E sub r s ≡ done (Some (zeros (slot_size sub))) s

  -- a structure by pointer: the Struct row r is written by w as a structure of the definition i
  abbrev pub StructElements : Type 0
  StructElements =
      (w : Writer) (d : StructDef) (e : Member) (ref r : ℕ) (s : State) (i : StructDef) (bs : Bytes) (t : State)
      → eqb (row E.sheet r).kind Struct ≡ true → E.defs.struct (own_type E (row E.sheet r) ref) ≡ Some i
      → w i (fields_of E.sheet (row E.sheet r)) s ≡ done bs t
      → PointsFirst i.name bs t.core (pointer_element E w d e ref r s)

  -- an element that is no Struct, or has no definition (remark 4), has a slot of zeros
  abbrev pub EmptyElements : Type 0
  EmptyElements =
      (w : Writer) (d : StructDef) (e : Member) (ref r : ℕ) (s : State)
      → (eqb (row E.sheet r).kind Struct ≡ false → pointer_element E w d e ref r s ≡ done (Some (zeros 8)) s)
      × (eqb (row E.sheet r).kind Struct ≡ true → E.defs.struct (own_type E (row E.sheet r) ref) ≡ None
      → pointer_element E w d e ref r s
      ≡ done (Some (zeros 8)) (with_remark (record { kind = 4; structure = d.name; member = e.name; detail = own_type E (row E.sheet r) ref }) s))

-- the slots of every member whose turn comes, in whatever structure, of every text and structure element, and the root, which is written and then laid
pub record Slots (E : Env) : Type 0 where
  pub members : (fuel left : ℕ) (d : StructDef) (fs : Fields) (front : List Member) (e : Member) (behind : List Member) (buf : Bytes) (s : State)
      → Turn E (writers (write E fuel) left) d fs front e behind buf s → MemberSlot E (writers (write E fuel) left) d e (field_named e.name fs) buf s
  pub text_elements : TextElements E
  pub empty_texts : EmptyTexts E
  pub struct_elements : StructElements E
  pub empty_elements : EmptyElements E
  pub root : (alone : Bool) (d : StructDef) (fs : Fields) (s : State) (bs : Bytes) (t : State) → write E 96 32 d fs s ≡ done bs t
      → PointsRoot d.name bs t.core (root E alone d fs s)
