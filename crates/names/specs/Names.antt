-- A row as a hash, as an enum's value, as flag bits.
use Rattle.std.specs.Prelude.{ℕ, zero, suc, ◌%◌, ◌^◌, Bool, cond, ◌||◌, List, [], ◌∷◌, eqb, drop, Option, Some, None, unwrap_or, Ok, Err}
use Rattle.std.specs.Int.Bits.{bit_or}
use Rattle.numbers.specs.Words.{Bytes, is_empty, starts_with}
use Rattle.conversions.specs.Radix.{unsigned}
use Rattle.hash.specs.Joaat.{joaat}
use Rattle.value.specs.Rows
use Rattle.schema.specs.Defs.{first_entry}
use Rattle.texts.specs.Text.{trimmed, parts}
use Rattle.coerce.specs.Numbers.{Fit, fit_then, map_fit, fit_or, hex_mark, is_long, int_of, parse_int}
use Rattle.coerce.specs.declared.misfit.Misfit.TheVariants.{Unfit, FloatText}

-- the hexadecimal number behind the first n bytes, where b holds
abbrev pub behind : Bool → ℕ → Bytes → Option ℕ
behind b n t = cond b (unsigned 32 16 (drop n t)) None

-- "hash_"
abbrev pub hash_mark : Bytes
hash_mark = 104 ∷ 97 ∷ 115 ∷ 104 ∷ 95 ∷ []

-- what a text hashes to where `hash_` is not before a hexadecimal number
abbrev pub hex_or_joaat : Bytes → ℕ
hex_or_joaat t = unwrap_or (behind (hex_mark t) 2 t) (joaat t)

-- "`hash_`, `0x` or `0X` before what `u32::from_str_radix` reads as hexadecimal; else `rage_joaat`"
unfoldable pub hash_word : Bytes → ℕ
hash_word t = unwrap_or (behind (starts_with hash_mark t) 5 t) (hex_or_joaat t)

-- "Hash text: empty is 0"
unfoldable pub hash_text : Bytes → ℕ
hash_text l = let t = trimmed l in cond (is_empty t) 0 (hash_word t)

-- Null is 0; Hash, U32, I32 and Enum as they are; of I64 and U64 the low 32 bits; a text's hash; any other is none
unfoldable pub hash_of : Bytes → Rows.Row → Option ℕ
hash_of T v =
    cond (eqb v.kind Rows.Null) (Some 0)
    (cond (eqb v.kind Rows.Hash || eqb v.kind Rows.U32 || eqb v.kind Rows.I32 || eqb v.kind Rows.Enum) (Some v.a)
    (cond (is_long v.kind) (Some v.b)
    (cond (eqb v.kind Rows.Str) (Some (hash_text (Rows.text_of T v))) None)))

-- an enum's entries: name and value, in the schema's order; "repeated names (first counts)": `first_entry`
abbrev pub Entries : Type 0
Entries = List (ℕ × ℕ)

-- the low 32 bits
abbrev pub low32 : ℕ → ℕ
low32 x = x % 2 ^ 32

-- a number's low 32 bits, or the other where there is none; refusal 11 stays
abbrev pub number_or : Fit ℕ → Fit ℕ → Fit ℕ
number_or (Ok x) o = Ok (low32 x)
number_or (Err Unfit) o = o
number_or (Err FloatText) o = Err FloatText

-- a text in an enum or flags place: empty is 0; a number; else the names in it
unfoldable pub named_text : Bytes → Fit ℕ → Fit ℕ
named_text t o = cond (is_empty t) (Ok 0) (number_or (parse_int t) o)

-- a trimmed text in an enum's place
abbrev pub enum_text : Entries → Bytes → Fit ℕ
enum_text es t = named_text t (fit_or (first_entry es (hash_text t)) (Err Unfit))

-- the stored value of an enum member, 32 bits: an Enum's own, a text's number or name, a Hash's entry or itself, else an integer
unfoldable pub enum_value : Bytes → Entries → Rows.Row → Fit ℕ
enum_value T es v =
    cond (eqb v.kind Rows.Enum) (Ok v.a)
    (cond (eqb v.kind Rows.Str) (enum_text es (trimmed (Rows.text_of T v)))
    (cond (eqb v.kind Rows.Hash) (Ok (unwrap_or (first_entry es v.a) v.a)) (map_fit low32 (int_of T v))))

-- the bit that an entry's value stands for: it "counts modulo 32"
abbrev pub bit_of : ℕ → ℕ
bit_of x = 2 ^ (x % 32)

-- every part is a name
unfoldable pub flag_names : Entries → List Bytes → Fit ℕ
flag_names es [] = Ok 0
flag_names es (p ∷ ps) =
    fit_then (fit_or (first_entry es (hash_text p)) (Err Unfit)) (λ x. map_fit (bit_or (bit_of x)) (flag_names es ps))

-- a trimmed text in a flags place
abbrev pub flag_text : Entries → Bytes → Fit ℕ
flag_text es t = named_text t (flag_names es (parts t))

-- the items' bits together; the first that fails ends it
unfoldable pub flag_items : Bytes → (Rows.Row → Fit ℕ) → List ℕ → Fit ℕ
flag_items T bits [] = Ok 0
flag_items T bits (r ∷ rs) = fit_then (bits (Rows.row T r)) (λ x. map_fit (bit_or x) (flag_items T bits rs))

-- what a row gives, given what an item gives
unfoldable pub flags_body : Bytes → Entries → (Rows.Row → Fit ℕ) → Rows.Row → Fit ℕ
flags_body T es bits v =
    cond (eqb v.kind Rows.Flags) (Ok v.a)
    (cond (eqb v.kind Rows.Str) (flag_text es (trimmed (Rows.text_of T v)))
    (cond (eqb v.kind Rows.Array) (flag_items T bits (Rows.children_of v)) (map_fit low32 (int_of T v))))

-- arrays in arrays: a sheet has at most 64 levels
unfoldable pub flags_bits : ℕ → Bytes → Entries → Rows.Row → Fit ℕ
flags_bits zero T es v = Err Unfit
flags_bits (suc levels) T es v = flags_body T es (flags_bits levels T es) v

-- for evaluation
unfoldable pub evaluated : Bytes → Rows.Row → Option ℕ
unfolding hash_word hash_text hash_of first_entry named_text enum_value flag_names flag_items flags_body flags_bits
evaluated T v = hash_of T v
