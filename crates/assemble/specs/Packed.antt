-- The whole file from a work area, and the work area after it.
use Rattle.schema.specs.declared.kind.Kind.TheVariants.{Structure, Enum}
use Rattle.std.specs.Prelude.{ℕ, zero, suc, ◌+◌, ◌-◌, ◌*◌, ◌≤◌, ◌≡◌, length}
use Rattle.numbers.specs.Words.{Bytes, read_at, over, zeros}
use Rattle.numbers.specs.Result.{ok}
use Rattle.schema.specs.Defs.{Schema, winning}
use Rattle.schema.specs.Psch.{schema_of}
use Rattle.layout.specs.State.{State}
use Rattle.layout.specs.Always.{Tiled}
use Rattle.layout.specs.Assemble.{file_of}
use Rattle.area.specs.declared.Round.{Round}
use Rattle.area.specs.declared.Progress.{Progress}
use Rattle.area.specs.Area.{items_at, stack_at, Rep}
use Rattle.area.specs.Rows.{names_in}
use Rattle.psch.specs.Used.{counted_from}

-- the lengths in n rows of blocks, from a place on, together
unfoldable pub lengths_in : Bytes → ℕ → ℕ → ℕ
lengths_in w at zero = 0
lengths_in w at (suc n) = read_at 4 w (at + 4) + lengths_in w (at + 8) n

-- the file's length by what stands in the area w, whatever it is: PSIN's head and the blocks, PMAP, PSCH's head; then the used structures, the used enums
abbrev pub length_of : Bytes → Round → Progress → Bytes → ℕ
length_of F R p w =
    counted_from F Enum (counted_from F Structure (16 + lengths_in w 0 p.blocks + (16 + 16 * p.blocks) + 12) (names_in w 65536 p.structs))
    (names_in w (65536 + 4 * R.entries) p.enums)

-- the area w, with the numbers p, holds the state s of a layout over the schema file's definitions
pub record Holds (F : Bytes) (R : Round) (p : Progress) (w : Bytes) (S : Schema) (s : State) (σ : Bytes) : Type 0 where
  pub schema : schema_of F ≡ ok S
  pub rep : Rep S R (length w) s σ p w
  pub tiled : Tiled s.core

-- not 13: the file is no longer than the output, of `room` bytes, nor "than 16,777,216"
pub record Fitting (F : Bytes) (R : Round) (p : Progress) (w : Bytes) (pointer room : ℕ) (S : Schema) (s : State) (σ : Bytes) : Type 0 where
  pub holds : Holds F R p w S s σ
  pub fits : length (file_of (winning S) pointer s.core) ≤ room
  pub small : length (file_of (winning S) pointer s.core) ≤ 16777216

-- .. of some state
pub record SomeFitting (F : Bytes) (R : Round) (p : Progress) (w : Bytes) (pointer room : ℕ) : Type 0 where
  pub schema : Schema
  pub state : State
  pub stack : Bytes
  pub fitting : Fitting F R p w pointer room schema state stack

-- where the table of places begins
abbrev pub table_at : ℕ
table_at = 49152

-- the area w is one that holds a state, with or without the table of places
pub record InUse (S : Schema) (R : Round) (n : ℕ) (p : Progress) (w : Bytes) : Type 0 where
  pub state : State
  pub stack : Bytes
  pub before : Bytes
  pub table : Bytes
  pub rep : Rep S R n state stack p before
  pub few : length table ≤ 4 * p.blocks
  pub is : w ≡ over before table_at table

-- the rows of blocks and of remarks, and the table of places, set to 0
abbrev pub rows_wiped : Bytes → ℕ → ℕ → Bytes
rows_wiped w blocks rows = over (over (over w 0 (zeros (8 * blocks))) 32768 (zeros (16 * rows))) table_at (zeros (4 * blocks))

-- the used names set to 0
abbrev pub names_wiped : Bytes → ℕ → ℕ → ℕ → Bytes
names_wiped w entries structs enums = over (over w 65536 (zeros (4 * structs))) (65536 + 4 * entries) (zeros (4 * enums))

-- all that is in use set to 0: rows, names, items, stack
abbrev pub all_wiped : Round → Progress → Bytes → Bytes
all_wiped R p w =
    over (over (names_wiped (rows_wiped w p.blocks p.rows) R.entries p.structs p.enums) (items_at R) (zeros (p.end - items_at R)))
    (stack_at R) (zeros (p.top - stack_at R))
