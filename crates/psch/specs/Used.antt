-- The used definitions, from the schema file to PSCH.
use Rattle.std.specs.Prelude.{ℕ, ◌+◌, ◌*◌, ◌/◌, ◌≤◌, ◌<◌, ◌≡◌, cond, List, [], ◌∷◌, map, ◌++◌, ltb, length, Some, unwrap_or, option_map}
use Rattle.numbers.specs.Words.{Bytes, read_at}
use Rattle.numbers.specs.Result.{Every}
use Rattle.schema.specs.Psch.{struct_here, enum_here, Within}
use Rattle.schema.specs.Index.{last_place}
use Rattle.schema.specs.Steps.{kind_number}
use Rattle.schema.specs.declared.kind.Kind.{Kind}
use Rattle.schema.specs.declared.kind.Kind.TheVariants.{Structure, Enum}
use Rattle.layout.specs.Assemble.{struct_bytes, enum_bytes, Records, bodies}
use Rattle.area.specs.declared.Round.{Round}
use Rattle.area.specs.declared.Progress.{Progress}
use Rattle.area.specs.Rows.{names_in}
use Rattle.psch.specs.declared.Used.{Used}

-- the bytes of the structure or the enum at a place of the schema file; its name is not among them
abbrev pub definition_at : Bytes → Kind → ℕ → Bytes
definition_at F Structure at = struct_bytes (struct_here F 0 at)
definition_at F Enum at = enum_bytes (enum_here F 0 at)

-- the bytes of the one that a name stands for
abbrev pub body_of : Bytes → Kind → ℕ → Bytes
body_of F k name = unwrap_or (option_map (definition_at F k) (last_place F (kind_number k) name)) []

-- each name with its definition's bytes
abbrev pub records_for : Bytes → Kind → List ℕ → Records
records_for F k ns = map (λ n. (n, body_of F k n)) ns

-- what records take in PSCH behind its head: an index entry of 8 bytes and the definition, each
abbrev pub size_of : Records → ℕ
size_of rs = 8 * length rs + length (bodies rs)

-- the same added to a length one by one; above "16,777,216", where 13 is certain, it is left as it is
unfoldable pub counted_from : Bytes → Kind → ℕ → List ℕ → ℕ
counted_from F k sum [] = sum
counted_from F k sum (n ∷ ns) = cond (ltb 16777216 sum) sum (counted_from F k (sum + (8 + length (body_of F k n))) ns)

-- a definition of the kind stands at the place, and all of it lies in the file
pub record Lies (F : Bytes) (k : Kind) (at : ℕ) : Type 0 where
  pub top : read_at 1 F at ≡ kind_number k
  pub within : Within F (kind_number k) at

-- a name stands for a definition that lies in the file
pub record Stored (F : Bytes) (k : Kind) (name : ℕ) : Type 0 where
  pub place : ℕ
  pub found : last_place F (kind_number k) name ≡ Some place
  pub lies : Lies F k place

-- the names in bytes that hold nothing else
abbrev pub names_of : Bytes → List ℕ
names_of b = names_in b 0 (length b / 4)

-- the used definitions of a kind with their bytes
abbrev pub definitions_of : Bytes → Used → Records
definitions_of F u = records_for F u.kind (names_of u.names.now)

-- where the used names of a kind begin in the work area
abbrev pub names_at : Kind → Round → ℕ
names_at Structure R = 65536
names_at Enum R = 65536 + 4 * R.entries

-- how many there are
abbrev pub names_count : Kind → Progress → ℕ
names_count Structure p = p.structs
names_count Enum p = p.enums

-- they themselves
abbrev pub used_names : Kind → Round → Progress → Bytes → List ℕ
used_names k R p w = names_in w (names_at k R) (names_count k p)

-- the bytes b hold the used names of a kind
pub record Names (k : Kind) (R : Round) (p : Progress) (w b : Bytes) : Type 0 where
  pub size : length b ≡ 4 * names_count k p
  pub names : names_of b ≡ used_names k R p w

-- "used structures, used enums", by the names in the work area
abbrev pub used_records : Bytes → Round → Progress → Bytes → Records
used_records F R p w = records_for F Structure (used_names Structure R p w) ++ records_for F Enum (used_names Enum R p w)

-- each of the names stands for a definition that lies in the schema file
pub record AllStored (F : Bytes) (R : Round) (p : Progress) (w : Bytes) : Type 0 where
  pub structs : Every (Stored F Structure) (used_names Structure R p w)
  pub enums : Every (Stored F Enum) (used_names Enum R p w)

-- a length that was counted up to "16,777,216" only, where 13 is certain
pub record Counts (r x : ℕ) : Type 0 where
  pub exact : r ≤ 16777216 → r ≡ x
  pub long : 16777216 < r → 16777216 < x
