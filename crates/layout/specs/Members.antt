-- Members that lead to no structure: scalars, texts, enums and flags.
-- d is the structure's definition, e the member, v its value, buf the structure's bytes so far, off a place in them.
use Rattle.std.specs.Prelude.{ℕ, ◌+◌, ◌-◌, ◌/◌, ◌%◌, Bool, cond, ◌&&◌, ◌||◌, [], ◌∷◌, ◌++◌, leb, eqb, length, take, is_some, unwrap_or, option_map}
use Rattle.numbers.specs.Words.{Bytes, bytes_of, over, is_empty}
use Rattle.numbers.specs.Result.{nth}
use Rattle.value.specs.Rows.{Value, Row, value_row}
use Rattle.coerce.specs.Numbers.{Fit, str_of}
use Rattle.names.specs.Names.{Entries, hash_of, enum_value, flags_bits}
use Rattle.schema.specs.Defs.{Lookup, StructDef, Member}
use Rattle.layout.specs.State.{Env, M, bind, ret, if_m, opt_m, fit_m, remark, pay, use_enum, add_item}
use Rattle.layout.specs.Kinds.{Scalar, size_of, scalar_bytes, type_number}

-- the reference of the definition's i-th member, whatever its name; 0 where there is none
unfoldable pub reference_at : StructDef → ℕ → ℕ
reference_at d i = unwrap_or (option_map (λ m. m.reference) (nth d.members i)) 0

-- the low 16 bits
abbrev pub low16 : ℕ → ℕ
low16 x = x % 65536

-- the low 12 bits
abbrev pub low12 : ℕ → ℕ
low12 x = x % 4096

-- `reference >> 16`
abbrev pub high16 : ℕ → ℕ
high16 x = x / 65536

-- a 4-byte pointer at off
unfoldable pub put_pointer : Bytes → ℕ → ℕ → Bytes
put_pointer buf off p = over buf off (bytes_of 4 p)

-- a pointer with a count: 8 bytes after the pointer's start the count's low 2 bytes, twice
unfoldable pub put_counted : Bytes → ℕ → ℕ → ℕ → Bytes
put_counted buf off p n = over (put_pointer buf off p) (off + 8) (bytes_of 2 n ++ bytes_of 2 n)

-- the entries of the enum h; none where there is no such enum
abbrev pub entries_of : Lookup → ℕ → Entries
entries_of L h = unwrap_or (option_map (λ x. x.entries) (L.enum h)) []

-- a text by pointer: subtypes 1, 2 and 3
abbrev pub is_pointer_text : ℕ → Bool
is_pointer_text sub = leb 1 sub && leb sub 3

-- how many bytes a text by pointer has in its structure; subtype 3 has its length too
abbrev pub slot_size : ℕ → ℕ
slot_size sub = cond (eqb sub 3) 16 8

-- a text as a hash: subtypes 7 and 8
abbrev pub is_hash_text : ℕ → Bool
is_hash_text sub = eqb sub 7 || eqb sub 8

-- how many bytes an enum or flags member has
abbrev pub enum_size : ℕ → ℕ
enum_size sub = cond (eqb sub 0) 4 (cond (eqb sub 1) 2 1)

-- a remark on member e of structure d
unfoldable pub says : StructDef → Member → ℕ → ℕ → M (Unit {0})
says d e kind detail = remark (record { kind = kind; structure = d.name; member = e.name; detail = detail })

-- a remark, and the structure's bytes as they were
unfoldable pub leaves : StructDef → Member → ℕ → ℕ → Bytes → M Bytes
leaves d e kind detail buf = bind (says d e kind detail) λ _. ret buf

-- remark 1: "member doesn't fit (structure size)"
unfoldable pub need : StructDef → Member → ℕ → Bytes → M Bytes → M Bytes
need d e n buf m = if_m (leb (e.offset + n) d.size) m (leaves d e 1 d.size buf)

-- remark 2: "wrong value"; a missing member gives none
unfoldable pub wrong : StructDef → Member → Value → Bytes → M Bytes
wrong d e v buf = opt_m v (ret buf) (λ r. leaves d e 2 (type_number e.type) buf)

module _ (E : Env) where
  -- the member's value as a row; Null where it is missing
  abbrev pub row_of : Value → Row
  row_of v = value_row E.sheet v

  -- a scalar: does it fit (1), then does it coerce (2)
  unfoldable pub scalar_member : Scalar → StructDef → Member → Value → Bytes → M Bytes
  scalar_member s d e v buf =
      need d e (size_of s) buf
      (fit_m (scalar_bytes E.sheet s (row_of v)) (wrong d e v buf) λ bs. ret (over buf e.offset bs))

  -- "laid text costs 16 plus its full length (a text's with its closing zero byte"; it goes to a block named 1
  unfoldable pub add_string : Bytes → M ℕ
  add_string t = bind (pay E (16 + (length t + 1))) λ _. add_item 1 (t ++ (0 ∷ []))

  -- a text by pointer, in a slot at off of 8 bytes, or of 16 with its length (subtype 3); an empty text is not laid
  unfoldable pub text_slot : ℕ → Bytes → Bytes → ℕ → M Bytes
  text_slot sub t buf off =
      if_m (is_empty t) (ret buf)
      (bind (add_string t) λ p. ret (cond (eqb sub 3) (put_counted buf off p (length t)) (put_pointer buf off p)))

  -- a text in the structure itself, in as many bytes as the reference's high half says: all of them but the last at most are written; what is longer is cut, without remark
  unfoldable pub fixed_member : StructDef → Member → Value → Bytes → M Bytes
  fixed_member d e v buf =
      need d e (high16 e.reference) buf
      (opt_m (str_of E.sheet (row_of v)) (wrong d e v buf) λ t. ret (over buf e.offset (take (high16 e.reference - 1) t)))

  -- a text by pointer
  unfoldable pub pointer_member : StructDef → Member → Value → Bytes → M Bytes
  pointer_member d e v buf =
      need d e (slot_size e.subtype) buf
      (opt_m (str_of E.sheet (row_of v)) (wrong d e v buf) λ t. text_slot e.subtype t buf e.offset)

  -- a hash
  unfoldable pub hash_member : StructDef → Member → Value → Bytes → M Bytes
  hash_member d e v buf =
      need d e 4 buf
      (opt_m (hash_of E.sheet (row_of v)) (wrong d e v buf) λ h. ret (over buf e.offset (bytes_of 4 h)))

  -- remark 3: "string subtype"
  unfoldable pub text_member : StructDef → Member → Value → Bytes → M Bytes
  text_member d e v buf =
      if_m (eqb e.subtype 0) (fixed_member d e v buf)
      (if_m (is_pointer_text e.subtype) (pointer_member d e v buf)
      (if_m (is_hash_text e.subtype) (hash_member d e v buf) (leaves d e 3 e.subtype buf)))

  -- "an enum in the schema" is used; any other name is not
  unfoldable pub use_enum_of : ℕ → M (Unit {0})
  use_enum_of h = if_m (is_some (E.defs.enum h)) (use_enum h) (ret tt)

  -- a member coerced by f with the entries of the enum h, which is then used
  unfoldable pub named_member : (Entries → Fit ℕ) → ℕ → StructDef → Member → Value → Bytes → M Bytes
  named_member f h d e v buf =
      need d e (enum_size e.subtype) buf
      (fit_m (f (entries_of E.defs h)) (wrong d e v buf) λ x.
      bind (use_enum_of h) λ _. ret (over buf e.offset (bytes_of (enum_size e.subtype) x)))

  -- the enum's name is the member's reference
  unfoldable pub enum_member : StructDef → Member → Value → Bytes → M Bytes
  enum_member d e v buf = named_member (λ es. enum_value E.sheet es (row_of v)) e.reference d e v buf

  -- the enum's name is the reference of that member of the definition whose number the low 12 bits say
  unfoldable pub flags_member : StructDef → Member → Value → Bytes → M Bytes
  flags_member d e v buf =
      named_member (λ es. flags_bits 64 E.sheet es (row_of v)) (reference_at d (low12 e.reference)) d e v buf

-- for evaluation
unfoldable pub evaluated : ℕ → ℕ
unfolding reference_at put_pointer put_counted says leaves need wrong scalar_member add_string text_slot fixed_member pointer_member hash_member text_member use_enum_of named_member enum_member flags_member
evaluated n = n
