-- Demand 3, as statements: what holds of every pack that is built, for all sheets, schema files and buffer lengths.
-- There is no premise "plain" and no map is lost: docs/REBUILD.md says why.
use Rattle.std.specs.Prelude.{ℕ, ◌+◌, ◌/◌, ◌%◌, ◌≤◌, ◌<◌, ◌≡◌, Bool, true, false, ◌||◌, List, [], ◌∷◌, ◌++◌, map, eqb, leb, length, take, drop, Some}
use Rattle.numbers.specs.Words.{Bytes, Octets, words, over}
use Rattle.numbers.specs.Result.{ok, Every}
use Rattle.value.specs.Rows.{Value, Map, Null, row, fields_of, children_of}
use Rattle.schema.specs.Defs.{Schema, Lookup, StructDef, Member, struct_name, enum_name, winning}
use Rattle.schema.specs.Psch.{schema_of}
use Rattle.pso.specs.Reader as R
use Rattle.pso.specs.Blocks.{numbered}
use Rattle.pso.specs.Answers.{data_at}
use Rattle.layout.specs.State.{Item, Block, Uses, State, empty_state, Env, done, contains}
use Rattle.layout.specs.Members.{row_of}
use Rattle.layout.specs.Runs.{Writer}
use Rattle.layout.specs.Write.{pairs_of, map_member, root}
use Rattle.layout.specs.Assemble.{items_in, data_of, psin_of, used_of}
use Rattle.layout.specs.Slots.{Slots}
use Rattle.layout.specs.Parts.{Sizes, Joined, LaidStays}
use Rattle.layout.specs.Build.{Laid, env_of, layout, success, refusal, build_pso}

-- what the reader finds

-- the blocks with their places, the first at `at`
unfoldable pub places_from : ℕ → List Block → List R.Block
places_from at [] = []
places_from at (b ∷ bs) = record { name = b.name; place = at; length' = b.len } ∷ places_from (at + b.len) bs

-- what was laid, as the reader gives it: the root's block number, the data, the blocks, the used definitions
unfoldable pub read_back : Laid → R.Pso
read_back l =
    record {
      root = l.pointer % 4096;
      data' = psin_of (data_of l.state.core);
      blocks = places_from 16 l.state.core.blocks;
      schema = used_of l.defs l.state.core;
    }

-- blocks and items

-- blocks that follow each other from `at` to `end`: "each further block where the one before ends"
abbrev pub BlocksTile : ℕ → List R.Block → ℕ → Type 0
BlocksTile at [] end = at ≡ end
BlocksTile at (b ∷ bs) end = (b.place ≡ at) × BlocksTile (at + b.length') bs end

-- items that follow each other from `at` to `end`
abbrev pub ItemsTile : ℕ → List Item → ℕ → Type 0
ItemsTile at [] end = at ≡ end
ItemsTile at (i ∷ is) end = (i.start ≡ at) × ItemsTile (at + length i.bytes) is end

-- the block number that a pointer says
abbrev pub pointer_block : ℕ → ℕ
pointer_block p = p % 4096

-- the start that a pointer says
abbrev pub pointer_start : ℕ → ℕ
pointer_start p = p / 4096

-- the pointer, "the number formed when it is laid", says the block and the start under which the item is filed, and "an item's bytes stand at its block's place plus its pointer's start"
pub record Stands (P : R.Pso) (i : Item) : Type 0 where
  pub block : R.Block
  pub number : pointer_block i.pointer ≡ i.block
  pub start : pointer_start i.pointer ≡ i.start
  pub found : numbered P.blocks (pointer_block i.pointer) ≡ Some block
  pub bytes : take (length i.bytes) (drop (block.place + pointer_start i.pointer) P.data') ≡ i.bytes

-- the root's item i has the block b for itself: its pointer, whose start is 0, is the block's number, which is the number of blocks; no other item is
-- filed there, and its bytes are all of the block
pub record Apart (l : Laid) (P : R.Pso) (i : Item) (b : R.Block) : Type 0 where
  pub number : l.pointer ≡ P.root
  pub last : P.root ≡ length P.blocks
  pub only : items_in P.root l.state.core.items ≡ i ∷ []
  pub all : length i.bytes ≡ b.length'

-- "The root is laid last; it need not start its block.": it is the last item, it has the pointer that the layout answers, F's root number is the block
-- number of that pointer, the block has the name of the root's type, and the root's bytes are its last. In the second way "the root always gets a new last block"
pub record RootLast (alone : Bool) (T : Bytes) (l : Laid) (P : R.Pso) : Type 0 where
  pub earlier : List Item
  pub item : Item
  pub block : R.Block
  pub last : l.state.core.items ≡ earlier ++ (item ∷ [])
  pub pointer : l.pointer ≡ item.pointer
  pub number : P.root ≡ pointer_block item.pointer
  pub found : numbered P.blocks P.root ≡ Some block
  pub named : block.name ≡ (row T 0).a
  pub ends : pointer_start item.pointer + length item.bytes ≡ block.length'
  pub apart : alone ≡ true → Apart l P item block

-- definitions

-- once where it is so, else not at all
abbrev pub tally : Bool → ℕ
tally true = 1
tally false = 0

-- how often x stands in a list
unfoldable pub count : ℕ → List ℕ → ℕ
count x [] = 0
count x (y ∷ l) = tally (eqb y x) + count x l

-- the definitions K are, of each name, one if the log u has it and else none, structures and enums apart, and each is the one that its name stands for in L
pub record CarriesUsed (L : Lookup) (u : Uses) (K : Schema) : Type 0 where
  pub structs : (x : ℕ) → count x (map struct_name K.structs) ≡ tally (contains x u.started)
  pub enums : (x : ℕ) → count x (map enum_name K.enums) ≡ tally (contains x u.enums)
  pub struct_defs : Every (λ d. L.struct d.name ≡ Some d) K.structs
  pub enum_defs : Every (λ d. L.enum d.name ≡ Some d) K.enums

-- the rebuild

-- the call with F as schema file, the same way, `work` bytes of work area and any output of `out` bytes. "Enough remark records are as many as the rebuild
-- has distinct remarks": with as many it answers F's length and has F at the front of the output, with fewer it is 14
pub record Rebuilds (alone : Bool) (T F : Bytes) (work out : ℕ) : Type 0 where
  pub distinct : ℕ
  pub answers : (buffer : Bytes) (records : ℕ) → length buffer ≡ out → distinct ≤ records → (build_pso alone T F work buffer records).answer ≡ success (length F) distinct
  pub same : (buffer : Bytes) (records : ℕ) → length buffer ≡ out → distinct ≤ records → take (length F) (build_pso alone T F work buffer records).output ≡ F
  pub fewer : (buffer : Bytes) (records : ℕ) → length buffer ≡ out → records < distinct → (build_pso alone T F work buffer records).answer ≡ refusal 14

-- "Lost are the maps without pairs that the layout with F as schema file leaves unwritten": there are none. A supported map without pairs that fits
-- "still holds 0x01000000", whatever definitions E has
abbrev pub NoMapLost : Type 0
NoMapLost =
    (E : Env) (w : Writer) (d : StructDef) (e : Member) (v : Value) (buf : Bytes) (s : State)
    → eqb e.subtype 1 ≡ true → leb (e.offset + 24) d.size ≡ true → (eqb (row_of E v).kind Map || eqb (row_of E v).kind Null) ≡ true
    → pairs_of (children_of (row_of E v)) ≡ [] → map_member E w d e v buf s ≡ done (over buf e.offset (words (0x01000000 ∷ []))) s

-- all of it

-- demand 3 of a pack F that was built from the sheet T and the schema file S, with the root alone or not, with `work` bytes of work area, `out` bytes of
-- output and `records` remark records
pub record Demand3 (alone : Bool) (T S : Bytes) (work out records : ℕ) (F : Bytes) : Type 0 where
  -- "the layout applied to T and S gives items, pointers and uses"
  pub laid : Laid
  pub layout_gives : layout alone T S work records ≡ ok laid
  -- the definitions of S
  pub schema : Schema
  pub schema_gives : schema_of S ≡ ok schema
  -- the layout is this run: the root's definition is written with the root's values, from nothing
  pub root_def : StructDef
  pub root_found : (winning schema).struct (row T 0).a ≡ Some root_def
  pub ran : root (env_of T schema work) alone root_def (fields_of T (row T 0)) empty_state ≡ done laid.pointer laid.state
  -- the reader accepts F
  pub read : R.Pso
  pub accepts : R.parse_pso F ≡ ok read
  -- and reads exactly the root's block number, the data, the blocks and the definitions that were laid
  pub reads_laid : read ≡ read_back laid
  -- "PSIN, PMAP and PSCH, .. in that order": the data that is read is the front of F, so places in it are places in F
  pub data_at_front : data_at F ≡ 0
  pub data_first : take (length read.data') F ≡ read.data'
  -- "Block 1 starts at byte 16 of PSIN, each further block where the one before ends, and the last ends with PSIN."
  pub blocks_tile : BlocksTile 16 read.blocks (length read.data')
  -- "So do a block's items, in order of laying, from its first byte to its last"
  pub items_tile : (k : ℕ) (b : R.Block) → numbered read.blocks k ≡ Some b → ItemsTile 0 (items_in k laid.state.core.items) b.length'
  -- "an item's bytes stand at its block's place plus its pointer's start", and the pointer is that of its block and start
  pub items_stand : Every (Stands read) laid.state.core.items
  -- "Its pointer is the number formed when it is laid": wherever the layout puts a pointer, the four bytes put are the pointer of the item just laid for it
  pub slots_point : Slots (env_of T schema work)
  -- a structure has as many bytes as its definition says, so a slot that fits lies inside it
  pub structs_sized : Sizes (env_of T schema work)
  -- a structure's bytes are what its members' steps leave; those of a run of texts by pointer, pointers, structures or pairs are its elements': so the pointers
  -- in an item's bytes come from these steps
  pub parts_join : Joined (env_of T schema work)
  -- no step takes an item away or renames a block
  pub laid_stays : LaidStays (env_of T schema work)
  -- "The root is laid last; it need not start its block."
  pub root_last : RootLast alone T laid read
  -- "PSCH has each used definition once, with the members or entries of S's winning one; a structure and an enum of one name are two."
  pub carries_used : CarriesUsed (winning schema) laid.state.uses read.schema
  -- building T again the same way, with F as schema file, with work and output as long as before and enough remark records, gives F
  pub rebuilds : Rebuilds alone T F work out

-- every pack, built in either way: if the call answers success with length n, the first n bytes of the output are a file of which demand 3 holds.
-- S is a list of bytes, as a slice of the code is
abbrev pub EveryPack : Type 0
EveryPack =
    (alone : Bool) (T S : Bytes) (work : ℕ) (out : Bytes) (records n m : ℕ) → Octets S → (build_pso alone T S work out records).answer ≡ success n m
    → (length (take n (build_pso alone T S work out records).output) ≡ n)
    × Demand3 alone T S work (length out) records (take n (build_pso alone T S work out records).output)

-- for evaluation
unfoldable pub evaluated : ℕ → ℕ
unfolding places_from read_back count
evaluated n = n
