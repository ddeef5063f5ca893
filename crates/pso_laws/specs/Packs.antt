-- Every pack that is built, as the library's functions answer of it (crates/sandvurek/specs/Exports): demand 3 as one statement, `EveryBuiltPack`.
use Rattle.std.specs.Prelude.{ℕ, suc, ◌+◌, ◌≤◌, ◌<◌, ◌≡◌, Bool, true, false, List, [], ◌∷◌, ◌++◌, length, take, drop, Some}
use Rattle.numbers.specs.Words.{Bytes, Octets}
use Rattle.numbers.specs.Result.{ok, Every}
use Rattle.value.specs.Rows.{row, fields_of}
use Rattle.schema.specs.Defs.{StructDef, EnumDef, Schema, Lookup, winning}
use Rattle.schema.specs.Psch.{schema_of}
use Rattle.pso.specs.Reader.{Pso, parse_pso}
use Rattle.layout.specs.State.{Item, Block, empty_state, done, contains}
use Rattle.layout.specs.Write.{root}
use Rattle.layout.specs.Assemble.{items_in}
use Rattle.layout.specs.Slots.{Slots}
use Rattle.layout.specs.Parts.{Sizes, Joined, LaidStays}
use Rattle.layout.specs.Build.{Laid, After, env_of, layout, build_pso}
use Rattle.layout.specs.Demand3.{ItemsTile, pointer_block, pointer_start, CarriesUsed}
use Rattle.sandvurek.specs.Exports.{outcome_of, reading_of, block_of, structure_of, enum_of, IsStruct, IsEnum}

-- "the file stands at the front of the output"
abbrev pub file_in : After → Bytes
file_in a = take (outcome_of a).length a.output

-- the blocks that were laid are those of F, by number from k on: the first stands at `at`, "each further block where the one before ends", the last ends at `end`
abbrev pub BlocksFollow : Bytes → ℕ → ℕ → List Block → ℕ → Type 0
BlocksFollow F k at [] end = at ≡ end
BlocksFollow F k at (b ∷ bs) end =
    (block_of F k ≡ record { found = 1; name = b.name; place = at; length = b.len }) × BlocksFollow F (suc k) (at + b.len) bs end

-- the pointer, "the number formed when it is laid", says the block and the start under which the item is filed, and the item's bytes stand in F at that block's place plus that start
pub record StandsIn (F : Bytes) (i : Item) : Type 0 where
  pub number : pointer_block i.pointer ≡ i.block
  pub start : pointer_start i.pointer ≡ i.start
  pub found : (block_of F (pointer_block i.pointer)).found ≡ 1
  pub bytes : take (length i.bytes) (drop ((block_of F (pointer_block i.pointer)).place + pointer_start i.pointer) F) ≡ i.bytes

-- the root has a block for itself: its pointer, whose start is 0, is the number of its block, which is the number of blocks; no other item is filed there,
-- and its bytes are all of the block
pub record RootApart (F : Bytes) (l : Laid) (root : Item) : Type 0 where
  pub pointer : l.pointer ≡ (reading_of F).root
  pub last : (reading_of F).root ≡ (reading_of F).blocks
  pub only : items_in (reading_of F).root l.state.core.items ≡ root ∷ []
  pub all : length root.bytes ≡ (block_of F (reading_of F).root).length

-- the root is the last item laid; its pointer is the layout's; its block is the one that F names as root, has the name of the root's type, and ends with the
-- root. With the root alone it has that block for itself
pub record RootEnds (alone : Bool) (T F : Bytes) (l : Laid) : Type 0 where
  pub earlier : List Item
  pub root : Item
  pub last : l.state.core.items ≡ earlier ++ (root ∷ [])
  pub pointer : l.pointer ≡ root.pointer
  pub number : (reading_of F).root ≡ pointer_block root.pointer
  pub found : (block_of F (reading_of F).root).found ≡ 1
  pub named : (block_of F (reading_of F).root).name ≡ (row T 0).a
  pub ends : pointer_start root.pointer + length root.bytes ≡ (block_of F (reading_of F).root).length
  pub apart : alone ≡ true → RootApart F l root

-- a used name leads to "S's winning one", another to none
abbrev pub StructBy : Lookup → Bytes → ℕ → Bool → Type 0
StructBy L F name true = (d : StructDef) × (L.struct name ≡ Some d) × IsStruct F (structure_of F name) d
StructBy L F name false = (structure_of F name).found ≡ 0

-- .. of enums
abbrev pub EnumBy : Lookup → Bytes → ℕ → Bool → Type 0
EnumBy L F name true = (d : EnumDef) × (L.enum name ≡ Some d) × IsEnum F (enum_of F name) d
EnumBy L F name false = (enum_of F name).found ≡ 0

-- the call with F as schema file, the same way, with work and output as long as before: with as many records as it has distinct remarks it gives F, byte for byte; with fewer it is 14
pub record GivesAgain (alone : Bool) (T F : Bytes) (work out : ℕ) : Type 0 where
  pub distinct : ℕ
  pub answers : (buffer : Bytes) (records : ℕ) → length buffer ≡ out → distinct ≤ records
      → outcome_of (build_pso alone T F work buffer records) ≡ record { code = 0; length = length F; remarks = distinct }
  pub same : (buffer : Bytes) (records : ℕ) → length buffer ≡ out → distinct ≤ records → file_in (build_pso alone T F work buffer records) ≡ F
  pub fewer : (buffer : Bytes) (records : ℕ) → length buffer ≡ out → records < distinct
      → outcome_of (build_pso alone T F work buffer records) ≡ record { code = 14; length = 0; remarks = 0 }

-- what holds of a pack F that was built from the sheet T and the schema file S, with the root alone or not
pub record Pack (alone : Bool) (T S : Bytes) (work out records : ℕ) (F : Bytes) : Type 0 where
  -- "the layout applied to T and S gives items, pointers and uses"
  pub laid : Laid
  pub layout_gives : layout alone T S work records ≡ ok laid
  -- S's definitions
  pub schema : Schema
  pub schema_gives : schema_of S ≡ ok schema
  -- the layout is this run: the root's definition is written with the root's values, from nothing
  pub root_def : StructDef
  pub root_found : (winning schema).struct (row T 0).a ≡ Some root_def
  pub ran : root (env_of T schema work) alone root_def (fields_of T (row T 0)) empty_state ≡ done laid.pointer laid.state
  -- the reader accepts F
  pub accepts : (reading_of F).code ≡ 0
  pub read : Pso
  pub reads : parse_pso F ≡ ok read
  -- "PMAP: root block number": the block number of the root's pointer
  pub root : (reading_of F).root ≡ pointer_block laid.pointer
  -- "PSIN, PMAP and PSCH, .. in that order": the data section is the front of F, so places in it are places in F
  pub data_at_front : (reading_of F).data_at ≡ 0
  -- as many blocks as were laid, numbered from 1
  pub blocks : (reading_of F).blocks ≡ length laid.state.core.blocks
  pub no_other : (k : ℕ) → (reading_of F).blocks < k → (block_of F k).found ≡ 0
  pub from_one : (block_of F 0).found ≡ 0
  -- "Block 1 starts at byte 16 of PSIN, each further block where the one before ends, and the last ends with PSIN."
  pub blocks_follow : BlocksFollow F 1 16 laid.state.core.blocks (reading_of F).data_length
  -- "So do a block's items, in order of laying, from its first byte to its last"
  pub items_follow : (k : ℕ) → (block_of F k).found ≡ 1 → ItemsTile 0 (items_in k laid.state.core.items) (block_of F k).length
  -- "an item's bytes stand at its block's place plus its pointer's start"
  pub items_stand : Every (StandsIn F) laid.state.core.items
  -- "Its pointer is the number formed when it is laid": wherever the layout puts a pointer, the four bytes put are the pointer of the item just laid for it
  pub slots_point : Slots (env_of T schema work)
  -- a structure has as many bytes as its definition says, so a slot that fits lies inside it
  pub structs_sized : Sizes (env_of T schema work)
  -- a structure's bytes are what its members' steps leave; those of a run of texts by pointer, pointers, structures or pairs are its elements': so the pointers
  -- in an item's bytes come from these steps
  pub parts_join : Joined (env_of T schema work)
  -- no step takes an item away or renames a block
  pub laid_stays : LaidStays (env_of T schema work)
  -- "The root is laid last; it need not start its block."
  pub root_ends : RootEnds alone T F laid
  -- "PSCH has each used definition once"
  pub once : CarriesUsed (winning schema) laid.state.uses read.schema
  -- "with the members or entries of S's winning one; a structure and an enum of one name are two": by name, a structure if one was started
  pub structs : (name : ℕ) → StructBy (winning schema) F name (contains name laid.state.uses.started)
  -- .. and an enum if one was used
  pub enums : (name : ℕ) → EnumBy (winning schema) F name (contains name laid.state.uses.enums)
  -- building T the same way with F as schema file gives F
  pub gives_again : GivesAgain alone T F work out

-- a building, in either way, that answers code 0 leaves such a pack at the front of its output, for all sheets, schema files and lengths. S is a list of bytes, as every slice is
abbrev pub EveryBuiltPack : Type 0
EveryBuiltPack =
    (alone : Bool) (T S : Bytes) (work : ℕ) (out : Bytes) (records : ℕ) → Octets S → (outcome_of (build_pso alone T S work out records)).code ≡ 0
    → (length (file_in (build_pso alone T S work out records)) ≡ (outcome_of (build_pso alone T S work out records)).length)
    × Pack alone T S work (length out) records (file_in (build_pso alone T S work out records))
