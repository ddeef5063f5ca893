-- The code's answers in the terms of the definitions.
use Rattle.std.specs.Prelude.{ℕ, ◌+◌, Option, option_map}
use Rattle.numbers.specs.Words.{Bytes, read_at}
use Rattle.schema.specs.Defs
use Rattle.schema.specs.Psch.{struct_here, enum_here}
use Rattle.definitions.specs.declared.members.Head.{Head}
use Rattle.definitions.specs.declared.members.Member.{Member}
use Rattle.definitions.specs.declared.members.Entry.{Entry}

-- the structure at the place found
abbrev pub struct_found : Bytes → ℕ → Option ℕ → Option Defs.StructDef
struct_found F name r = option_map (struct_here F name) r

-- the enum at the place found
abbrev pub enum_found : Bytes → ℕ → Option ℕ → Option Defs.EnumDef
enum_found F name r = option_map (enum_here F name) r

-- "unknown byte, 2-byte member count, size" of the structure at a place
abbrev pub head_here : Bytes → ℕ → Head
head_here F at = record { unknown = read_at 1 F (at + 1); count = read_at 2 F (at + 2); size = read_at 4 F (at + 4) }

-- a member's numbers
abbrev pub member_is : Defs.Member → Member
member_is m = record { name = m.name; kind = m.type; subtype = m.subtype; offset = m.offset; reference = m.reference }

-- "per entry name and value", of the entry at a place
abbrev pub entry_here : Bytes → ℕ → Entry
entry_here F at = record { name = read_at 4 F at; value = read_at 4 F (at + 4) }
