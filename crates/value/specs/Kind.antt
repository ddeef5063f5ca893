-- A row's kind by its name, and the number that stands for it.
use Rattle.std.specs.Prelude.{◌≡◌, ℕ, ◌<◌, Result, MatchResult}
use Rattle.value.specs.Rows
use Rattle.value.specs.declared.kind.Kind.{Kind}
use Rattle.value.specs.declared.kind.Kind.TheVariants as K
use Rattle.value.specs.declared.kind.UnknownKind.{UnknownKind}

-- the number of a kind
abbrev pub number_of : Kind → ℕ
number_of K.Null = Rows.Null
number_of K.Bool = Rows.Bool'
number_of K.I8 = Rows.I8
number_of K.U8 = Rows.U8
number_of K.I16 = Rows.I16
number_of K.U16 = Rows.U16
number_of K.I32 = Rows.I32
number_of K.U32 = Rows.U32
number_of K.I64 = Rows.I64
number_of K.U64 = Rows.U64
number_of K.F32 = Rows.F32
number_of K.Vec2 = Rows.Vec2
number_of K.Vec3 = Rows.Vec3
number_of K.Vec4 = Rows.Vec4
number_of K.Hash = Rows.Hash
number_of K.Str = Rows.Str
number_of K.Enum = Rows.Enum
number_of K.Flags = Rows.Flags
number_of K.Bytes = Rows.Bytes'
number_of K.Array = Rows.Array
number_of K.Map = Rows.Map
number_of K.Struct = Rows.Struct

-- r is the kind with this number, or says that no kind has it
abbrev pub Decodes : ℕ → Result Kind UnknownKind → Type 0
Decodes n r = MatchResult r (λ k. number_of k ≡ n) (λ e. (e.0 ≡ n) × (Rows.Struct < n))
