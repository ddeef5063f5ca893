-- What a member that leads to no structure is, and what is planned for it.
use Rattle.std.specs.Prelude.{ℕ, ◌^◌, ◌<◌, ◌≡◌, Bool, true, cond, eqb, Option, Some, is_some, ok_or, Err}
use Rattle.std.specs.Result.{result_ok}
use Rattle.numbers.specs.Words.{Bytes, over}
use Rattle.numbers.specs.Result.{ok}
use Rattle.value.specs.Rows.{Value, Row}
use Rattle.coerce.specs.Numbers.{Fit}
use Rattle.names.specs.Names.{enum_value, flags_bits}
use Rattle.names.specs.declared.entries.Entries.{Entries}
use Rattle.schema.specs.Defs
use Rattle.schema.specs.Defs.{Schema, StructDef, winning}
use Rattle.schema.specs.Psch.{schema_of}
use Rattle.definitions.specs.declared.members.Member as coded
use Rattle.layout.specs.State.{State, Env, M, bind, ret, opt_m, fit_m, use_enum}
use Rattle.layout.specs.Kinds as Kinds
use Rattle.layout.specs.Kinds.{Scalar, Kind, size_of}
use Rattle.layout.specs.Members as members
use Rattle.layout.specs.Members.{high16, low12, reference_at, is_pointer_text, is_hash_text, enum_size, leaves, pointer_member, text_member}
use Rattle.area.specs.Fault.{fault_number}
use Rattle.area.specs.declared.fault.Fault.TheVariants as Faults
use Rattle.area.specs.declared.Round.{Round}
use Rattle.area.specs.Area.{env_of}
use Rattle.cells.specs.declared.defs.Def.{Def}
use Rattle.cells.specs.declared.Cell.{Cell}
use Rattle.cells.specs.declared.Cell.TheVariants as C
use Rattle.cells.specs.declared.plan.Plan.{Plan}
use Rattle.cells.specs.declared.plan.Plan.TheVariants as P
use Rattle.cells.specs.Names.{def_of, member_of, Named}
use Rattle.cells.specs.Cells.{cell_bytes, cell_size, Sane, scalar_cell}

-- a member that is a cell of `size` bytes: does it fit (1), then does it coerce (2); the enum of the name is used, where it is known
unfoldable pub cell_member : Env → ℕ → (Row → Fit Bytes) → Option ℕ → StructDef → Defs.Member → Value → Bytes → M Bytes
cell_member E size cell name d e v buf =
    members.need d e size buf
    (fit_m (cell (members.row_of E v)) (members.wrong d e v buf) λ bs.
    bind (opt_m name (ret tt) use_enum) λ _. ret (over buf e.offset bs))

-- flags or an enum by the entries of the enum h
abbrev pub named_member : Bool → Env → ℕ → StructDef → Defs.Member → Value → Bytes → M Bytes
named_member flags E h d e v buf =
    members.named_member E (λ es. cond flags (flags_bits 64 E.sheet es (members.row_of E v)) (enum_value E.sheet es (members.row_of E v))) h d e v buf

-- a member that leads to no structure
unfoldable pub plain_member : Env → StructDef → Defs.Member → Kinds.Kind → Value → Bytes → M Bytes
plain_member E d e (Kinds.scalar s) v buf = members.scalar_member E s d e v buf
plain_member E d e Kinds.text v buf = members.text_member E d e v buf
plain_member E d e Kinds.enumeration v buf = members.enum_member E d e v buf
plain_member E d e Kinds.flags v buf = members.flags_member E d e v buf
plain_member E d e Kinds.structure v buf = ret buf
plain_member E d e Kinds.array v buf = ret buf
plain_member E d e Kinds.map v buf = ret buf
plain_member E d e Kinds.other v buf = members.leaves d e 13 e.type buf

-- a scalar in its cell
abbrev pub scalar_plan : Scalar → Plan
scalar_plan s = P.Store (scalar_cell s) (size_of s) (Err 0)

-- a text in the structure itself
abbrev pub fixed_plan : ℕ → Plan
fixed_plan reference = P.Store (C.Fixed (high16 reference)) (high16 reference) (Err 0)

-- a text, by its subtype
abbrev pub text_plan : coded.Member → Plan
text_plan m =
    cond (eqb m.subtype 0) (fixed_plan m.reference)
    (cond (is_pointer_text m.subtype) P.Pointer (cond (is_hash_text m.subtype) (P.Store C.Hash 4 (Err 0)) (P.Remark Faults.StringSubtype m.subtype)))

-- flags or an enum in k bytes, by the entries of the enum that building finds under the name h, in any file; the plan carries h, also where
-- there is no such enum
abbrev pub NamedPlan : Bytes → (Entries → ℕ → Cell) → ℕ → ℕ → Plan → Type 0
NamedPlan F cell k h r = (e : Entries) × (name : Option ℕ) × Named F h e name × (r ≡ P.Store (cell e k) k (ok_or name h))

-- r is the plan of member m of structure d, by its kind
unfoldable pub IsPlan : Bytes → Def → coded.Member → Kind → Plan → Type 0
IsPlan F d m (Kinds.scalar s) r = r ≡ scalar_plan s
IsPlan F d m Kinds.text r = r ≡ text_plan m
IsPlan F d m Kinds.enumeration r = NamedPlan F C.Enum (enum_size m.subtype) m.reference r
IsPlan F d m Kinds.flags r = NamedPlan F C.Flags (enum_size m.subtype) (reference_at (def_of F d) (low12 m.reference)) r
IsPlan F d m Kinds.structure r = r ≡ P.Nothing
IsPlan F d m Kinds.array r = r ≡ P.Nothing
IsPlan F d m Kinds.map r = r ≡ P.Nothing
IsPlan F d m Kinds.other r = r ≡ P.Remark Faults.MemberType m.kind

-- what a plan stands for, over the sheet T
abbrev pub planned : Bytes → Env → Plan → StructDef → Defs.Member → Value → Bytes → M Bytes
planned T E (P.Store c size name) d e v buf = cell_member E size (cell_bytes T c) (result_ok name) d e v buf
planned T E P.Pointer d e v buf = pointer_member E d e v buf
planned T E P.Nothing d e v buf = ret buf
planned T E (P.Remark fault detail) d e v buf = leaves d e (fault_number fault) detail buf

-- a cell's numbers are in order, and its size is below 2 ^ 40
abbrev pub InOrder : Plan → Type 0
InOrder (P.Store c size name) = Sane c × (cell_size c ≡ size) × (size < 2 ^ 40)
InOrder P.Pointer = Unit {0}
InOrder P.Nothing = Unit {0}
InOrder (P.Remark fault detail) = Unit {0}

-- an enum that is taken as known is there
abbrev pub Known : Option ℕ → Schema → Type 0
Known name S = (h : ℕ) → name ≡ Some h → is_some ((winning S).enum h) ≡ true

-- .. in a plan
abbrev pub Knows : Schema → Plan → Type 0
Knows S (P.Store c size name) = Known (result_ok name) S
Knows S P.Pointer = Unit {0}
Knows S P.Nothing = Unit {0}
Knows S (P.Remark fault detail) = Unit {0}

-- the plan r is as x says, and does what f, the member's definition, does
pub record Plans (F : Bytes) (d : Def) (m : coded.Member) (f : Env → StructDef → Defs.Member → Value → Bytes → M Bytes) (x : Plan → Type 0) (r : Plan) : Type 0 where
  pub exact : x r
  pub order : InOrder r
  pub knows : (S : Schema) → schema_of F ≡ ok S → Knows S r
  pub is : (T : Bytes) (R : Round) (S : Schema) → schema_of F ≡ ok S → (v : Value) (buf : Bytes) (s : State)
      → f (env_of T S R) (def_of F d) (member_of m) v buf s ≡ planned T (env_of T S R) r (def_of F d) (member_of m) v buf s

-- .. of a text
abbrev pub PlansText : coded.Member → Plan → Type 0
PlansText m r = (F : Bytes) (d : Def) → Plans F d m text_member (λ y. y ≡ text_plan m) r

-- .. by its kind
abbrev pub PlansKind : Bytes → Def → coded.Member → Kind → Plan → Type 0
PlansKind F d m k r = Plans F d m (λ E D e v buf. plain_member E D e k v buf) (IsPlan F d m k) r
