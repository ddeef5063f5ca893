-- What is stored in a member's place or in an element of a run, from a row alone.
use Rattle.std.specs.Prelude.{ℕ, ◌-◌, ◌*◌, ◌^◌, ◌≤◌, ◌<◌, ◌≡◌, take, List, Option, Some, None, option_map, Ok, Err}
use Rattle.numbers.specs.Words.{Bytes, bytes_of, words, over, padded}
use Rattle.value.specs.Rows.{Row, row}
use Rattle.coerce.specs.Numbers.{Fit, map_fit, fit_or, int_of, float_of, vec_of, str_of}
use Rattle.coerce.specs.declared.misfit.Misfit.TheVariants.{Unfit}
use Rattle.names.specs.Names.{hash_of, enum_value, flags_bits}
use Rattle.names.specs.Entries.{all_of}
use Rattle.layout.specs.State.{M, ret, fit_m}
use Rattle.layout.specs.Kinds
use Rattle.cells.specs.declared.Cell.{Cell}
use Rattle.cells.specs.declared.Cell.TheVariants.{Integer, Single, Vector as Vec, Hash, Enum, Flags, Fixed}

-- the first n numbers of a vector
abbrev pub vec_fit : ℕ → Fit (List ℕ) → Fit Bytes
vec_fit n x = map_fit (λ xs. words (take n xs)) x

-- a text in len bytes: all of them but the last at most are written
abbrev pub text_fit : Bytes → ℕ → Row → Fit Bytes
text_fit T len v = fit_or (option_map (take (len - 1)) (str_of T v)) (Err Unfit)

-- the bytes of a row in a cell
unfoldable pub cell_bytes : Bytes → Cell → Row → Fit Bytes
cell_bytes T (Integer k) v = map_fit (bytes_of k) (int_of T v)
cell_bytes T Single v = map_fit (bytes_of 4) (float_of T v)
cell_bytes T (Vec n) v = vec_fit n (vec_of T n v)
cell_bytes T Hash v = fit_or (option_map (bytes_of 4) (hash_of T v)) (Err Unfit)
cell_bytes T (Enum e k) v = map_fit (bytes_of k) (enum_value T (all_of e) v)
cell_bytes T (Flags e k) v = map_fit (bytes_of k) (flags_bits 64 T (all_of e) v)
cell_bytes T (Fixed len) v = text_fit T len v

-- the cell of a scalar
abbrev pub scalar_cell : Kinds.Scalar → Cell
scalar_cell (Kinds.integer k) = Integer k
scalar_cell Kinds.single = Single
scalar_cell (Kinds.vector n) = Vec n

-- how many bytes a cell has
abbrev pub cell_size : Cell → ℕ
cell_size (Integer k) = k
cell_size Single = 4
cell_size (Vec n) = 4 * n
cell_size Hash = 4
cell_size (Enum e k) = k
cell_size (Flags e k) = k
cell_size (Fixed len) = len

-- its numbers are in order
abbrev pub Sane : Cell → Type 0
Sane (Integer k) = k ≤ 8
Sane Single = Unit {0}
Sane (Vec n) = (2 ≤ n) × (n ≤ 4)
Sane Hash = Unit {0}
Sane (Enum e k) = k ≤ 4
Sane (Flags e k) = k ≤ 4
Sane (Fixed len) = len < 2 ^ 32

-- what was stored at off of the buffer b, which is then c
abbrev pub Puts : Fit Bytes → Bytes → ℕ → Fit (Unit {0}) → Bytes → Type 0
Puts (Ok x) b off (Ok u) c = c ≡ over b off x
Puts (Ok x) b off (Err f) c = ⊥
Puts (Err e) b off (Ok u) c = ⊥
Puts (Err e) b off (Err f) c = (f ≡ e) × (c ≡ b)

-- an element of a run: a cell filled up with zeros; what does not fit drops the run
unfoldable pub cell_element : Bytes → Cell → ℕ → ℕ → M (Option Bytes)
cell_element T cell stride r = fit_m (cell_bytes T cell (row T r)) (ret None) λ bs. ret (Some (padded stride bs))
