-- What the parts of a layout make: a structure's length, what its bytes and a run's bytes are put together from, and that what was laid stays.
use Rattle.std.specs.Prelude.{ℕ, suc, ◌+◌, ◌-◌, ◌≡◌, Bool, true, false, List, ◌∷◌, ◌++◌, eqb, leb, length, take, Option, Some}
use Rattle.numbers.specs.Words.{Bytes, over}
use Rattle.value.specs.Rows.{Value, Fields, row, fields_of, field_named, children_of}
use Rattle.schema.specs.Defs.{StructDef, Member}
use Rattle.layout.specs.State.{Core, State, Env, Out, done, stop, M, lay_item}
use Rattle.layout.specs.Kinds
use Rattle.layout.specs.Members.{row_of, high16, is_pointer_text, slot_size}
use Rattle.layout.specs.Runs.{Writer, Run, run, slot_block, pointer_element, struct_element, text_element, elements, element_run}
use Rattle.layout.specs.Write.{ARRAYINFO, array_info, by_pointer, pair_fields, is_struct_value, is_array_value, Writers, writers, pair_element, member, members, write, root}
use Rattle.layout.specs.Slots.{Further, Turn, step}

-- lengths

-- a structure has as many bytes as its definition says, once it is written and at the turn of each of its members: no slot that fits lies outside of it
pub record Sizes (E : Env) : Type 0 where
  pub written : (fuel left : ℕ) (d : StructDef) (fs : Fields) (s : State) (bs : Bytes) (t : State) → write E fuel left d fs s ≡ done bs t → length bs ≡ d.size
  pub turns : (fuel left : ℕ) (d : StructDef) (fs : Fields) (front : List Member) (e : Member) (behind : List Member) (buf : Bytes) (s : State)
      → Turn E (writers (write E fuel) left) d fs front e behind buf s → length buf ≡ d.size

-- parts

-- the turn of member e came, its step answered `next`, the members behind it went on from there and ended with the structure's bytes bs in the state u
pub record Passes (E : Env) (w : Writers) (d : StructDef) (fs : Fields) (front : List Member) (e : Member) (behind : List Member) (bs : Bytes) (u : State) : Type 0 where
  pub buf : Bytes
  pub state : State
  pub turn : Turn E w d fs front e behind buf state
  pub next : Bytes
  pub after : State
  pub stepped : step E w d e (field_named e.name fs) buf state ≡ done next after
  pub rest : members E w d fs behind next after ≡ done bs u

-- the run's bytes are those of the elements in front, then x's own, then those of the elements behind
pub record Contains {X : Type 0} (f : X → M (Option Bytes)) (front : List X) (x : X) (behind : List X) (s : State) (bs : Bytes) (u : State) : Type 0 where
  pub first : Bytes
  pub state : State
  pub begun : elements f front s ≡ done (Some first) state
  pub own : Bytes
  pub after : State
  pub stepped : f x state ≡ done (Some own) after
  pub last : Bytes
  pub rest : elements f behind after ≡ done (Some last) u
  pub joined : bs ≡ first ++ (own ++ last)

-- what a member's own bytes are, where a structure or a run stands in them: w writes the structures that members lead to
module _ (E : Env) (w : Writers) where
  -- a structure inline that fits, of the definition i, with the bytes bs
  abbrev pub Inline : Type 0
  Inline =
      (d : StructDef) (e : Member) (v : Value) (buf : Bytes) (s : State) (i : StructDef) (bs : Bytes) (t : State)
      → Kinds.kind_of e.type ≡ Kinds.structure → eqb e.subtype 0 ≡ true → is_struct_value E (row_of E v) ≡ true → E.defs.struct e.reference ≡ Some i
      → leb (e.offset + i.size) d.size ≡ true → w.inline i (fields_of E.sheet (row_of E v)) s ≡ done bs t
      → step E w d e v buf s ≡ done (over buf e.offset bs) t

  -- an embedded array whose run r fits
  abbrev pub Embedded : Type 0
  Embedded =
      (d : StructDef) (e : Member) (v : Value) (buf : Bytes) (s : State) (x : Member) (r : Run) (t : State)
      → Kinds.kind_of e.type ≡ Kinds.array → array_info d e ≡ Some x → is_array_value E (row_of E v) ≡ true → by_pointer e.subtype x.subtype ≡ false
      → element_run E w.afresh d e x (Kinds.kind_of x.type) (take (high16 e.reference) (children_of (row_of E v))) s ≡ done (Some r) t
      → leb (e.offset + length r.bytes) d.size ≡ true
      → step E w d e v buf s ≡ done (over buf e.offset r.bytes) t

-- what a run is made of: w writes the structures that its elements are or point to
module _ (E : Env) (w : Writer) where
  -- a run that is kept is its elements' bytes, in a block of the run's name. Which elements: texts by pointer; structures by pointer; structures of the definition i
  pub record RunParts : Type 0 where
    pub kept : (stride block : ℕ) (f : ℕ → M (Option Bytes)) (rs : List ℕ) (s : State) (r : Run) (u : State) → run E stride block f rs s ≡ done (Some r) u
        → (r.block ≡ block) × ((t : State) × (elements f rs t ≡ done (Some r.bytes) u))
    pub kept_pairs : (stride block : ℕ) (f : ℕ × ℕ → M (Option Bytes)) (ps : List (ℕ × ℕ)) (s : State) (r : Run) (u : State)
        → run E stride block f ps s ≡ done (Some r) u → (r.block ≡ block) × ((t : State) × (elements f ps t ≡ done (Some r.bytes) u))
    pub texts : (d : StructDef) (e x : Member) (rs : List ℕ) (s : State) → is_pointer_text x.subtype ≡ true
        → element_run E w d e x Kinds.text rs s ≡ run E (slot_size x.subtype) (slot_block x.subtype) (text_element E x.subtype) rs s
    pub pointers : (d : StructDef) (e x : Member) (rs : List ℕ) (s : State) → eqb x.subtype 3 ≡ true
        → element_run E w d e x Kinds.structure rs s ≡ run E 8 12 (pointer_element E w d e x.reference) rs s
    pub structures : (d : StructDef) (e x : Member) (rs : List ℕ) (s : State) (i : StructDef) → eqb x.subtype 3 ≡ false
        → E.defs.struct x.reference ≡ Some i → element_run E w d e x Kinds.structure rs s ≡ run E i.size i.name (struct_element E w d e i) rs s
    -- the element, or the pair, is the structure that w writes
    pub element : (d : StructDef) (e : Member) (i : StructDef) (r : ℕ) (s : State) (bs : Bytes) (u : State) → struct_element E w d e i r s ≡ done (Some bs) u
        → (t : State) × (w i (fields_of E.sheet (row E.sheet r)) t ≡ done bs u)
    pub pair : (i : StructDef) (p : ℕ × ℕ) (s : State) (bs : Bytes) (u : State) → pair_element E w i p s ≡ done (Some bs) u → w i (pair_fields i p) s ≡ done bs u

-- "Members are written in definition order": a structure's bytes are what its members' steps leave, one after the other, from zeros on.
-- A run's bytes, of texts by pointer, of pointers, of structures or of pairs, are its elements' in order
pub record Joined (E : Env) : Type 0 where
  pub structures : (fuel left : ℕ) (d : StructDef) (fs : Fields) (s : State) (bs : Bytes) (u : State) → write E (suc fuel) left d fs s ≡ done bs u
      → (front : List Member) (e : Member) (behind : List Member) → d.members ≡ front ++ (e ∷ behind) → eqb e.name ARRAYINFO ≡ false
      → Passes E (writers (write E fuel) (left - 1)) d fs front e behind bs u
  pub elements_in : (f : ℕ → M (Option Bytes)) (front : List ℕ) (r : ℕ) (behind : List ℕ) (s : State) (bs : Bytes) (u : State)
      → elements f (front ++ (r ∷ behind)) s ≡ done (Some bs) u → Contains f front r behind s bs u
  pub pairs_in : (f : ℕ × ℕ → M (Option Bytes)) (front : List (ℕ × ℕ)) (p : ℕ × ℕ) (behind : List (ℕ × ℕ)) (s : State) (bs : Bytes) (u : State)
      → elements f (front ++ (p ∷ behind)) s ≡ done (Some bs) u → Contains f front p behind s bs u
  pub inline : (fuel left : ℕ) → Inline E (writers (write E fuel) left)
  pub embedded : (fuel left : ℕ) → Embedded E (writers (write E fuel) left)
  pub runs : (fuel left : ℕ) → RunParts E (write E fuel left)

-- what was laid stays

-- what stood before the step stands after it
abbrev pub Stays : {A : Type 0} → Core → Out A → Type 0
Stays c (done a s) = Further c s.core
Stays c (stop n es) = Unit {0}

-- the step only adds
abbrev pub OnlyAdds : {A : Type 0} → M A → Type 0
OnlyAdds m = (s : State) → Stays s.core (m s)

-- every part of the layout only adds: "Items laid before a run is dropped remain." After a slot is filled there come further members, further elements
-- of a run, items that are laid: so the item that was laid for a slot is still there at the end, in a block of the same name
pub record LaidStays (E : Env) : Type 0 where
  -- a member, and those behind it
  pub member : (fuel left : ℕ) (d : StructDef) (e : Member) (k : Kinds.Kind) (v : Value) (buf : Bytes) → OnlyAdds (member E (writers (write E fuel) left) d e k v buf)
  pub members : (fuel left : ℕ) (d : StructDef) (fs : Fields) (es : List Member) (buf : Bytes) → OnlyAdds (members E (writers (write E fuel) left) d fs es buf)
  -- an element of a run, in each of the four ways that lay items, and those behind it
  pub text : (sub r : ℕ) → OnlyAdds (text_element E sub r)
  pub pointer : (fuel left : ℕ) (d : StructDef) (e : Member) (ref r : ℕ) → OnlyAdds (pointer_element E (write E fuel left) d e ref r)
  pub structure : (fuel left : ℕ) (d : StructDef) (e : Member) (i : StructDef) (r : ℕ) → OnlyAdds (struct_element E (write E fuel left) d e i r)
  pub pair : (fuel left : ℕ) (i : StructDef) (p : ℕ × ℕ) → OnlyAdds (pair_element E (write E fuel left) i p)
  pub elements_behind : (f : ℕ → M (Option Bytes)) (rs : List ℕ) → ((r : ℕ) → OnlyAdds (f r)) → OnlyAdds (elements f rs)
  pub pairs_behind : (f : ℕ × ℕ → M (Option Bytes)) (ps : List (ℕ × ℕ)) → ((p : ℕ × ℕ) → OnlyAdds (f p)) → OnlyAdds (elements f ps)
  -- an item is laid
  pub item : (alone : Bool) (n : ℕ) (bs : Bytes) → OnlyAdds (lay_item alone n bs)
  -- a structure whole, and the root with all that it leads to
  pub whole : (fuel left : ℕ) (d : StructDef) (fs : Fields) → OnlyAdds (write E fuel left d fs)
  pub root : (alone : Bool) (d : StructDef) (fs : Fields) → OnlyAdds (root E alone d fs)
