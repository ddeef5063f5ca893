-- Answers as codes with values: 0 a value, 1 none, 11 a float's text that is no decimal.
use Rattle.std.specs.Prelude.{ℕ, ◌≡◌, ◌^◌, Bool, true, false, cond, ◌&&◌, List, [], leb, ltb, ℤ, pos, length, get_or, Option, None, Result, Ok, Err, is_some, unwrap_or}
use Rattle.std.specs.Result.{result_unwrap_or}
use Rattle.numbers.specs.Words.{Bytes, over}
use Rattle.conversions.specs.Radix.{signed, unsigned}
use Rattle.value.specs.Rows
use Rattle.schema.specs.Psch.{entries_at}
use Rattle.coerce.specs.Numbers.{Fit, fit_or, str_of}
use Rattle.coerce.specs.declared.misfit.Misfit.{Misfit}
use Rattle.coerce.specs.declared.misfit.Misfit.TheVariants.{Unfit, FloatText}
use Rattle.names.specs.Names.{enum_value, flags_bits}
use Rattle.names.specs.declared.entries.Entries.{Entries}
use Rattle.leaves.specs.declared.Unsigned.{Unsigned}
use Rattle.leaves.specs.declared.Signed.{Signed}
use Rattle.leaves.specs.declared.Small.{Small}
use Rattle.leaves.specs.declared.Four.{Four}

-- an answer's code
abbrev pub code_of : {A : Type 0} → Fit A → ℕ
code_of (Ok x) = 0
code_of (Err Unfit) = 1
code_of (Err FloatText) = 11

-- an answer as a record; 0 stands where there is no value
abbrev pub unsigned_of : Fit ℕ → Unsigned
unsigned_of r = record { code = code_of r; value = result_unwrap_or r 0 }

abbrev pub signed_of : Fit ℤ → Signed
signed_of r = record { code = code_of r; value = result_unwrap_or r (pos 0) }

abbrev pub small_of : Fit ℕ → Small
small_of r = record { code = code_of r; value = result_unwrap_or r 0 }

-- a vector's four numbers
abbrev pub four_of : Fit (List ℕ) → Four
four_of r = let l = result_unwrap_or r [] in record { code = code_of r; a = get_or l 0 0; b = get_or l 1 0; c = get_or l 2 0; d = get_or l 3 0 }

-- a value that is there or not
abbrev pub there : {A : Type 0} → Option A → Fit A
there o = fit_or o (Err Unfit)

-- a radix that a number can be written in
abbrev pub is_radix : ℕ → Bool
is_radix r = leb 2 r && leb r 36

-- a signed number of 64 bits in a radix from 2 to 36; in any other there is none
abbrev pub signed_in : ℕ → Bytes → Option ℤ
signed_in r l = cond (is_radix r) (signed 64 r l) None

-- the same unsigned
abbrev pub unsigned_in : ℕ → Bytes → Option ℕ
unsigned_in r l = cond (is_radix r) (unsigned 64 r l) None

-- t at the front of o, or o as it is where t is longer
abbrev pub fronted : Bytes → Bytes → Bytes
fronted o t = cond (leb (length t) (length o)) (over o 0 t) o

-- the places and counts of entries that are taken: an enum's count has three bytes
abbrev pub are_entries : ℕ → ℕ → Bool
are_entries n at = ltb at (2 ^ 63) && ltb n (2 ^ 24)

-- row r of T as the value of an enum whose n entries stand at `at` of P; none where place or count is not taken
abbrev pub enum_in : Bytes → Bytes → ℕ → ℕ → ℕ → Fit ℕ
enum_in T P n at r = cond (are_entries n at) (enum_value T (entries_at P n at) (Rows.row T r)) (Err Unfit)

-- the same as flag bits
abbrev pub flags_in : Bytes → Bytes → ℕ → ℕ → ℕ → Fit ℕ
flags_in T P n at r = cond (are_entries n at) (flags_bits 64 T (entries_at P n at) (Rows.row T r)) (Err Unfit)

-- whether a row is a text
abbrev pub has_str : Bytes → Rows.Row → Bool
has_str T v = is_some (str_of T v)

-- the text of row r, or nothing
abbrev pub str_here : Bytes → ℕ → Bytes
str_here T r = unwrap_or (str_of T (Rows.row T r)) []

-- the n entries at `at` of P; they do not fit where place or count is not taken
abbrev pub AreEntries : Bytes → ℕ → ℕ → Result Entries Misfit → Type 0
AreEntries P at n (Ok e) = (are_entries n at ≡ true) × (e.schema.now ≡ P) × (e.at ≡ at) × (e.count ≡ n)
AreEntries P at n (Err m) = (are_entries n at ≡ false) × (m ≡ Unfit)
