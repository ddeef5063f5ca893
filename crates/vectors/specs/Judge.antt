-- When a replayed case is the recorded one. A row of a case begins with numbers of 4 bytes (differential/src/record.rs): its length, its kind;
-- of a building the lengths of sheet, schema, work area and output, the records lent, code, length and count of remarks, then from byte 40 on
-- sheet, schema, file, remarks; of a reading the file's length, code, root, place and length of the data, count of blocks.
use Rattle.std.specs.Prelude.{ℕ, zero, suc, ◌+◌, ◌*◌, Bool, true, cond, ◌&&◌, List, [], ◌∷◌, ltb, eqb, get_or, take, drop}
use Rattle.numbers.specs.Words.{Bytes, read_at, same_bytes}
use Rattle.layout.specs.State.{Remark, same_remark}
use Rattle.layout.specs.Build.{zero_remark}
use Rattle.area.specs.Rows.{row_in}

-- four times a number; noise is 0xA5 in every byte
abbrev pub record_of : ℕ → Remark
record_of n = record { kind = n; structure = n; member = n; detail = n }

abbrev pub noise : Remark
noise = record_of 0xA5A5A5A5

-- every byte is b
unfoldable pub all_are : ℕ → Bytes → Bool
all_are b [] = true
all_are b (x ∷ l) = eqb x b && all_are b l

-- record i after a building: one of the `count` remarks that stand in s, then zero, then noise behind the n that were lent
unfoldable pub wanted_at : Bytes → ℕ → ℕ → ℕ → Remark
wanted_at s count n i = cond (ltb i count) (row_in s (16 * i)) (cond (ltb i n) zero_remark noise)

-- the first k records are so
unfoldable pub records_are : Bytes → ℕ → ℕ → List Remark → ℕ → Bool
records_are s count n l zero = true
records_are s count n l (suc k) = records_are s count n l k && same_remark (get_or l k zero_remark) (wanted_at s count n k)

-- where the recorded file begins
abbrev pub file_at : Bytes → ℕ
file_at row = 40 + read_at 4 row 8 + read_at 4 row 12

-- a building: code, length and count are the recorded ones, and so is the file at the front of the output; the rest of the output is noise, the
-- work area zero; all 64 records are as they must be
unfoldable pub agrees_with : Bytes → Bytes → Bytes → ℕ → ℕ → ℕ → ℕ → List Remark → Bool
agrees_with row work out n code len count l =
    (eqb code (read_at 4 row 28) && eqb len (read_at 4 row 32) && eqb count (read_at 4 row 36))
    && same_bytes (take len out) (take (read_at 4 row 32) (drop (file_at row) row))
    && (all_are 0xA5 (drop len out) && all_are 0 work)
    && records_are (drop (file_at row + read_at 4 row 32) row) count n l 64

-- a reading: all five numbers are the recorded ones
abbrev pub reads_as : Bytes → ℕ → ℕ → ℕ → ℕ → ℕ → Bool
reads_as row code root place len blocks =
    (eqb code (read_at 4 row 12) && eqb root (read_at 4 row 16))
    && (eqb place (read_at 4 row 20) && eqb len (read_at 4 row 24))
    && eqb blocks (read_at 4 row 28)
