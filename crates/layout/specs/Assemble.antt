-- The file: PSIN, PMAP and PSCH, in that order.
use Rattle.std.specs.Prelude.{ℕ, zero, suc, ◌+◌, ◌*◌, ◌%◌, cond, List, [], ◌∷◌, ◌++◌, map, eqb, length, Option, Some, None}
use Rattle.numbers.specs.Words.{Bytes, bytes_of, words}
use Rattle.schema.specs.Sections.{PSIN, PMAP, PSCH}
use Rattle.schema.specs.Defs.{Schema, Lookup, StructDef, EnumDef, Member}
use Rattle.layout.specs.State.{Item, Block, Core}

-- one after the other
unfoldable pub joined : List Bytes → Bytes
joined [] = []
joined (b ∷ bs) = b ++ joined bs

-- the items of block k, in order of laying
unfoldable pub items_in : ℕ → List Item → List Item
items_in k [] = []
items_in k (i ∷ is) = cond (eqb i.block k) (i ∷ items_in k is) (items_in k is)

-- the bytes of n blocks from number k on: "each further block where the one before ends"
unfoldable pub blocks_from : ℕ → ℕ → List Item → Bytes
blocks_from k zero is = []
blocks_from k (suc n) is = joined (map (λ i. i.bytes) (items_in k is)) ++ blocks_from (suc k) n is

-- the bytes of all blocks
unfoldable pub data_of : Core → Bytes
data_of c = blocks_from 1 (length c.blocks) c.items

-- "PSIN: 16-byte head, zero after the length."
unfoldable pub psin_of : Bytes → Bytes
psin_of b = words (PSIN ∷ (16 + length b) ∷ 0 ∷ 0 ∷ []) ++ b

-- "rows (name, place in PSIN, 0, length)"; "Block 1 starts at byte 16 of PSIN"
unfoldable pub block_rows : ℕ → List Block → Bytes
block_rows at [] = []
block_rows at (b ∷ bs) = words (b.name ∷ at ∷ 0 ∷ b.len ∷ []) ++ block_rows (at + b.len) bs

-- "PMAP: root block number, 2-byte count, 2-byte 0x7070, rows"
unfoldable pub pmap_of : ℕ → List Block → Bytes
pmap_of root bs = words (PMAP ∷ (16 + 16 * length bs) ∷ root ∷ []) ++ (bytes_of 2 (length bs) ++ (bytes_of 2 0x7070 ++ block_rows 16 bs))

-- "per member name, type byte, subtype byte, 2-byte offset, reference"
unfoldable pub member_bytes : Member → Bytes
member_bytes m = bytes_of 4 m.name ++ (bytes_of 1 m.type ++ (bytes_of 1 m.subtype ++ (bytes_of 2 m.offset ++ bytes_of 4 m.reference)))

-- "A structure: zero byte, unknown byte, 2-byte member count, size, 0, then" the members
unfoldable pub struct_bytes : StructDef → Bytes
struct_bytes d =
    bytes_of 1 0 ++ (bytes_of 1 d.unknown ++ (bytes_of 2 (length d.members) ++ (words (d.size ∷ 0 ∷ []) ++ joined (map member_bytes d.members))))

-- "An enum: byte 1, 3-byte count, then per entry name and value."
unfoldable pub enum_bytes : EnumDef → Bytes
enum_bytes d = bytes_of 1 1 ++ (bytes_of 3 (length d.entries) ++ joined (map (λ e. words (e.0 ∷ e.1 ∷ [])) d.entries))

-- a name and its definition's bytes
abbrev pub Records : Type 0
Records = List (ℕ × Bytes)

-- "used structures, used enums, each by first use"
unfoldable pub records_of : Schema → Records
records_of S = map (λ d. (d.name, struct_bytes d)) S.structs ++ map (λ d. (d.name, enum_bytes d)) S.enums

-- the definitions, one after the other
abbrev pub bodies : Records → Bytes
bodies rs = joined (map (λ r. r.1) rs)

-- "An index entry is name and place in the section.": the first definition stands at `at`
unfoldable pub index_of : ℕ → Records → Bytes
index_of at [] = []
index_of at (r ∷ rs) = words (r.0 ∷ at ∷ []) ++ index_of (at + length r.1) rs

-- "PSCH: count, index, used structures, used enums"
unfoldable pub psch_bytes : Records → Bytes
psch_bytes rs =
    let b = bodies rs in
    words (PSCH ∷ (12 + 8 * length rs + length b) ∷ length rs ∷ []) ++ (index_of (12 + 8 * length rs) rs ++ b)

-- in front, if it is there
abbrev pub cons_option : {A : Type 0} → Option A → List A → List A
cons_option None l = l
cons_option (Some a) l = a ∷ l

-- what a name stands for, of each name that stands for something
unfoldable pub found : {A : Type 0} → (ℕ → Option A) → List ℕ → List A
found f [] = []
found f (n ∷ ns) = cons_option (f n) (found f ns)

-- "PSCH has each used definition once, with the members or entries of S's winning one"
unfoldable pub used_of : Lookup → Core → Schema
used_of L c = record { structs = found L.struct c.structs; enums = found L.enum c.enums }

-- the file of a core whose root has the pointer p
unfoldable pub file_of : Lookup → ℕ → Core → Bytes
file_of L p c = psin_of (data_of c) ++ (pmap_of (p % 4096) c.blocks ++ psch_bytes (records_of (used_of L c)))

-- for evaluation
unfoldable pub evaluated : ℕ → ℕ
unfolding joined items_in blocks_from data_of psin_of block_rows pmap_of member_bytes struct_bytes enum_bytes records_of index_of psch_bytes found used_of file_of
evaluated n = n
