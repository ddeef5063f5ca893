-- The code's definitions, members and kinds in the terms of the definitions.
use Rattle.std.specs.Prelude.{ℕ, ◌≡◌, ◌+◌, min, length, Option, Some, None, is_some, option_map}
use Rattle.numbers.specs.Words.{Bytes, read_at}
use Rattle.numbers.specs.Result.{ok}
use Rattle.names.specs.Entries.{all_of, NoEntries}
use Rattle.names.specs.declared.entries.Entries.{Entries}
use Rattle.schema.specs.Defs
use Rattle.schema.specs.Defs.{Schema, winning}
use Rattle.schema.specs.Psch.{members_at, entries_at, schema_of}
use Rattle.schema.specs.Index.{last_place}
use Rattle.layout.specs.Members.{entries_of}
use Rattle.definitions.specs.declared.members.Member as coded
use Rattle.layout.specs.Kinds as layout
use Rattle.cells.specs.declared.defs.Def.{Def}
use Rattle.cells.specs.declared.kinds.Kind.{Kind}
use Rattle.cells.specs.declared.kinds.Kind.TheVariants as K

-- the structure of the schema file F whose numbers D has
unfoldable pub def_of : Bytes → Def → Defs.StructDef
def_of F D = record { name = D.name; unknown = read_at 1 F (D.place + 1); size = D.size; members = members_at F D.count (D.place + 12) }

-- a member's numbers
abbrev pub member_of : coded.Member → Defs.Member
member_of m = record { name = m.name; type = m.kind; subtype = m.subtype; offset = m.offset; reference = m.reference }

-- where the entries of the enum at a place begin: behind its 4 bytes, or at the file's end
abbrev pub entries_from : Bytes → ℕ → ℕ
entries_from F place = min (place + 4) (length F)

-- the entries of the enum at a place of F
pub record EntriesOf (F : Bytes) (place : ℕ) (e : Entries) : Type 0 where
  pub file : e.schema.now ≡ F
  pub start : e.at ≡ entries_from F place
  pub many : e.count ≡ read_at 3 F (place + 1)
  pub all : all_of e ≡ entries_at F (read_at 3 F (place + 1)) (place + 4)

-- the entries of the enum that building finds under the name h, in any file, and its name; no entries where it is not there
pub record Named (F : Bytes) (h : ℕ) (e : Entries) (name : Option ℕ) : Type 0 where
  pub known : name ≡ option_map (λ at. h) (last_place F 1 h)
  pub there : (at : ℕ) → last_place F 1 h ≡ Some at → EntriesOf F at e
  pub missing : last_place F 1 h ≡ None → NoEntries F e
  -- what the schema says of it
  pub used : (S : Schema) → schema_of F ≡ ok S → is_some ((winning S).enum h) ≡ is_some name
  pub all : (S : Schema) → schema_of F ≡ ok S → entries_of (winning S) h ≡ all_of e

-- a kind
abbrev pub kind_is : Kind → layout.Kind
kind_is (K.Integer k) = layout.scalar (layout.integer k)
kind_is K.Single = layout.scalar layout.single
kind_is (K.Vector n) = layout.scalar (layout.vector n)
kind_is K.Text = layout.text
kind_is K.Structure = layout.structure
kind_is K.Array = layout.array
kind_is K.Enumeration = layout.enumeration
kind_is K.Flags = layout.flags
kind_is K.Map = layout.map
kind_is K.Other = layout.other
