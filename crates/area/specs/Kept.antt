-- The remarks that a round keeps as rows: the distinct ones of those met after the first `skip`, as many as there are rows for.
use Rattle.std.specs.Prelude.{ℕ, ◌+◌, cond, ◌||◌, List, [], ◌∷◌, ◌++◌, ltb, length}
use Rattle.numbers.specs.Words.{Bytes, words}
use Rattle.layout.specs.State.{Remark, remarked}

-- the rows; how many remarks they account for; how many were met
pub record Kept : Type 0 where
  pub rows : List Remark
  pub next : ℕ
  pub seen : ℕ

-- the rows that there is room for
abbrev pub max_rows : ℕ
max_rows = 1024

-- one more remark is met: once a remark found no room, no later one is kept
unfoldable pub meet : ℕ → Kept → Remark → Kept
meet skip k r =
    cond (ltb k.next k.seen) (record { rows = k.rows; next = k.next; seen = k.seen + 1 })
    (cond (ltb k.seen skip || remarked r k.rows) (record { rows = k.rows; next = k.next + 1; seen = k.seen + 1 })
    (cond (ltb (length k.rows) max_rows) (record { rows = k.rows ++ (r ∷ []); next = k.next + 1; seen = k.seen + 1 })
    (record { rows = k.rows; next = k.next; seen = k.seen + 1 })))

-- the remarks one after the other
unfoldable pub meets : ℕ → Kept → List Remark → Kept
meets skip k [] = k
meets skip k (r ∷ rs) = meets skip (meet skip k r) rs

-- what a round keeps of all remarks that were met
unfoldable pub kept : ℕ → List Remark → Kept
kept skip es = meets skip (record { rows = []; next = 0; seen = 0 }) es

-- a row's 16 bytes
abbrev pub row_bytes : Remark → Bytes
row_bytes r = words (r.kind ∷ r.structure ∷ r.member ∷ r.detail ∷ [])

-- the rows one behind the other
unfoldable pub rows_bytes : List Remark → Bytes
rows_bytes [] = []
rows_bytes (r ∷ rs) = row_bytes r ++ rows_bytes rs
