-- What is true of a layout's state at every time: what its laws keep, and what writing the file relies on.
use Rattle.std.specs.Prelude.{ℕ, zero, suc, ◌+◌, ◌^◌, ◌≤◌, ◌<◌, ◌≡◌, true, List, [], ◌∷◌, length, is_some}
use Rattle.numbers.specs.Result.{Every}
use Rattle.schema.specs.Defs.{Lookup}
use Rattle.layout.specs.State.{Item, Block, Core, contains, pointer_to}
use Rattle.layout.specs.Assemble.{items_in}
use Rattle.layout.specs.Demand3.{ItemsTile, tally, count}

-- the length of the block that k blocks stand before; 0 where there is none
unfoldable pub len_at : ℕ → List Block → ℕ
len_at k [] = 0
len_at zero (b ∷ bs) = b.len
len_at (suc k) (b ∷ bs) = len_at k bs

-- the lengths of the first k blocks, in all
unfoldable pub before : ℕ → List Block → ℕ
before zero bs = 0
before (suc k) [] = 0
before (suc k) (b ∷ bs) = b.len + before k bs

-- the lengths of all blocks
unfoldable pub total : List Block → ℕ
total [] = 0
total (b ∷ bs) = b.len + total bs

-- items in blocks 1 to n, with a number and a start that a pointer can say
abbrev pub AllIn : ℕ → List Item → Type 0
AllIn n [] = Unit {0}
AllIn n (i ∷ is) = (1 ≤ i.block) × (i.block ≤ n) × (i.block ≤ 4095) × (i.start ≤ 0xFFFFF) × AllIn n is

-- "Pointer: block number (from 1) plus start × 4,096."
abbrev pub Formed : Item → Type 0
Formed i = i.pointer ≡ pointer_to i.block i.start

-- the items of each block tile it, in order of laying; each has the pointer to where it is filed
pub record Tiled (c : Core) : Type 0 where
  pub tiles : (k : ℕ) → ItemsTile 0 (items_in (suc k) c.items) (len_at k c.blocks)
  pub within : AllIn (length c.blocks) c.items
  pub formed : Every Formed c.items

-- names of 4 bytes
abbrev pub Short : ℕ → Type 0
Short n = n < 256 ^ 4

-- every block has such a name
abbrev pub ShortNames : List Block → Type 0
ShortNames = Every (λ b. Short b.name)

-- each name in a list stands there once
abbrev pub Once : List ℕ → Type 0
Once l = (x : ℕ) → count x l ≡ tally (contains x l)

-- each used name stands once, and stands for a definition
pub record Known (L : Lookup) (c : Core) : Type 0 where
  pub structs_once : Once c.structs
  pub enums_once : Once c.enums
  pub structs_known : (x : ℕ) → contains x c.structs ≡ true → is_some (L.struct x) ≡ true
  pub enums_known : (x : ℕ) → contains x c.enums ≡ true → is_some (L.enum x) ≡ true
