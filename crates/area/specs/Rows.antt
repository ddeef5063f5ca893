-- Rows of the work area as they are read, whatever stands there.
use Rattle.std.specs.Prelude.{ℕ, zero, suc, ◌+◌, ◌^◌, ◌<◌, List, [], ◌∷◌}
use Rattle.numbers.specs.Words.{Bytes, read_at}
use Rattle.layout.specs.State.{Remark, Block}

-- the remark row at a place
abbrev pub row_in : Bytes → ℕ → Remark
row_in w at = record { kind = read_at 4 w at; structure = read_at 4 w (at + 4); member = read_at 4 w (at + 8); detail = read_at 4 w (at + 12) }

-- n rows from a place on
unfoldable pub rows_in : Bytes → ℕ → ℕ → List Remark
rows_in w at zero = []
rows_in w at (suc n) = row_in w at ∷ rows_in w (at + 16) n

-- n names from a place on
unfoldable pub names_in : Bytes → ℕ → ℕ → List ℕ
names_in w at zero = []
names_in w at (suc n) = read_at 4 w at ∷ names_in w (at + 4) n

-- n blocks from a place on, by their rows
unfoldable pub blocks_in : Bytes → ℕ → ℕ → List Block
blocks_in w at zero = []
blocks_in w at (suc n) = record { name = read_at 4 w at; len = read_at 4 w (at + 4) } ∷ blocks_in w (at + 8) n

-- four numbers of 4 bytes
pub record Tiny (r : Remark) : Type 0 where
  pub kind : r.kind < 256 ^ 4
  pub structure : r.structure < 256 ^ 4
  pub member : r.member < 256 ^ 4
  pub detail : r.detail < 256 ^ 4
