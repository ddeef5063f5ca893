-- What each exported function answers.
use Rattle.std.specs.Prelude.{ℕ, ◌+◌, ◌*◌, ◌≡◌, Bool, not, List, eqb, length, Option, Some, None}
use Rattle.numbers.specs.Words.{Bytes}
use Rattle.numbers.specs.Result.{Result, ok, refused, nth}
use Rattle.schema.specs.Sections.{sections}
use Rattle.schema.specs.Defs as D
use Rattle.schema.specs.Psch.{member_at}
use Rattle.schema.specs.Index.{first_place}
use Rattle.definitions.specs.Answers.{entry_here}
use Rattle.definitions.specs.declared.members.Member as S
use Rattle.definitions.specs.declared.members.Entry as T
use Rattle.pso.specs.Reader as R
use Rattle.pso.specs.Blocks.{numbered, blocks_of}
use Rattle.schema.specs.declared.kind.Kind.TheVariants.{Structure, Enum}
use Rattle.pso.specs.Answers.{data_at, definition_at}
use Rattle.pso.specs.declared.lookup.Definition as P
use Rattle.pso.specs.declared.parse.Pso.{Pso}
use Rattle.pso.specs.declared.blocks.Row.{Row}
use Rattle.layout.specs.State.{Remark}
use Rattle.layout.specs.Build.{Answer, success, refusal, After}
use Rattle.sandvurek.specs.declared.Outcome.{Outcome}
use Rattle.sandvurek.specs.declared.Reading.{Reading}
use Rattle.sandvurek.specs.declared.Block.{Block}
use Rattle.sandvurek.specs.declared.Definition.{Definition}
use Rattle.sandvurek.specs.declared.Member.{Member}
use Rattle.sandvurek.specs.declared.Entry.{Entry}

-- what a flag says: 0 is no, every other number is yes
abbrev pub is_set : ℕ → Bool
is_set n = not (eqb n 0)

-- "Success gives the file's length and the remark count"; "A refusal gives its number"
abbrev pub outcome_is : Answer → Outcome
outcome_is (success n m) = record { code = 0; length = n; remarks = m }
outcome_is (refusal n) = record { code = n; length = 0; remarks = 0 }

-- .. of a call
abbrev pub outcome_of : After → Outcome
outcome_of a = outcome_is a.answer

-- the answer, the output, the remark list and the work area after a call are those of the definition
pub record BuildIs (a : After) (r : Outcome) (out : Bytes) (list : List Remark) (area : Bytes) : Type 0 where
  pub answer : r ≡ outcome_of a
  pub output : out ≡ a.output
  pub remarks : list ≡ a.remarks
  pub work : area ≡ a.work

-- the reader's answer as numbers
abbrev pub reading_shows : Result Pso → Reading
reading_shows (ok p) = record { code = 0; root = p.root; data_at = p.place; data_length = p.len; blocks = p.blocks }
reading_shows (refused n) = record { code = n; root = 0; data_at = 0; data_length = 0; blocks = 0 }

-- a file's root number, its data section's place and length, the number of its blocks; or the refusal's number
abbrev pub reading_is : Bytes → Result R.Pso → Reading
reading_is F (ok p) = record { code = 0; root = p.root; data_at = data_at F; data_length = length p.data'; blocks = length p.blocks }
reading_is F (refused n) = record { code = n; root = 0; data_at = 0; data_length = 0; blocks = 0 }

-- .. of a file
abbrev pub reading_of : Bytes → Reading
reading_of F = reading_is F (R.parse_pso F)

-- a row's numbers, where there is one
abbrev pub block_shows : Option Row → Block
block_shows (Some r) = record { found = 1; name = r.name; place = r.place; length = r.len }
block_shows None = record { found = 0; name = 0; place = 0; length = 0 }

-- "name, place in PSIN, .. length", where there is a block
abbrev pub block_is : Option R.Block → Block
block_is (Some b) = record { found = 1; name = b.name; place = b.place; length = b.length' }
block_is None = record { found = 0; name = 0; place = 0; length = 0 }

-- the block of a number, from 1
abbrev pub block_of : Bytes → ℕ → Block
block_of F number = block_is (numbered (blocks_of (sections F)) number)

-- a definition's numbers and its place in the file, where there is one
abbrev pub definition_is : Option P.Definition → Definition
definition_is (Some d) = record { found = 1; unknown = d.unknown; size = d.size; count = d.count; at = d.at }
definition_is None = record { found = 0; unknown = 0; size = 0; count = 0; at = 0 }

-- the structure of a name: the first counts
abbrev pub structure_of : Bytes → ℕ → Definition
structure_of F name = definition_is (definition_at F Structure (first_place F 0 name))

-- the enum of a name: the first counts
abbrev pub enum_of : Bytes → ℕ → Definition
enum_of F name = definition_is (definition_at F Enum (first_place F 1 name))

-- a member's numbers
abbrev pub member_shows : S.Member → Member
member_shows m = record { name = m.name; kind = m.kind; subtype = m.subtype; offset = m.offset; reference = m.reference }

-- "per member name, type byte, subtype byte, 2-byte offset, reference"
abbrev pub member_is : D.Member → Member
member_is m = record { name = m.name; kind = m.type; subtype = m.subtype; offset = m.offset; reference = m.reference }

-- member `index`, from 0, of the structure at a place: "members start 12 .. bytes after the definition's start"
abbrev pub member_of : Bytes → ℕ → ℕ → Member
member_of F at index = member_is (member_at F (at + 12 + 12 * index))

-- "per entry name and value"
abbrev pub entry_is : T.Entry → Entry
entry_is e = record { name = e.name; value = e.value }

-- entry `index`, from 0, of the enum at a place: "or 4 bytes"
abbrev pub entry_of : Bytes → ℕ → ℕ → Entry
entry_of F at index = entry_is (entry_here F (at + 4 + 8 * index))

-- a look-up in F gives the structure d, with its members
pub record IsStruct (F : Bytes) (r : Definition) (d : D.StructDef) : Type 0 where
  pub found : r.found ≡ 1
  pub unknown : r.unknown ≡ d.unknown
  pub size : r.size ≡ d.size
  pub count : r.count ≡ length d.members
  pub members : (k : ℕ) (m : D.Member) → nth d.members k ≡ Some m → member_of F r.at k ≡ member_is m

-- .. the enum d, with its entries
pub record IsEnum (F : Bytes) (r : Definition) (d : D.EnumDef) : Type 0 where
  pub found : r.found ≡ 1
  pub count : r.count ≡ length d.entries
  pub entries : (k : ℕ) (e : ℕ × ℕ) → nth d.entries k ≡ Some e → entry_of F r.at k ≡ record { name = e.0; value = e.1 }

-- .. what a name stands for, or none
abbrev pub StructIs : Bytes → Definition → Option D.StructDef → Type 0
StructIs F r (Some d) = IsStruct F r d
StructIs F r None = r.found ≡ 0

-- .. of enums
abbrev pub EnumIs : Bytes → Definition → Option D.EnumDef → Type 0
EnumIs F r (Some d) = IsEnum F r d
EnumIs F r None = r.found ≡ 0
