-- What the contracts of single steps say: of the cursor, and of one definition.
use Rattle.std.specs.Prelude.{ℕ, ◌+◌, ◌-◌, ◌≤◌, ◌<◌, ◌≡◌, cond, eqb, length, take, drop, Option, Some, None, Ok, Err}
use Rattle.std.specs.Prelude as Rust
use Rattle.numbers.specs.Words.{Bytes, read_at}
use Rattle.numbers.specs.Result.{Result, map_result}
use Rattle.numbers.specs.Refusal.{answer_of}
use Rattle.numbers.specs.declared.refusal.Refusal.{Refusal}
use Rattle.numbers.specs.declared.refusal.Refusal.TheVariants.{SectionLength}
use Rattle.schema.specs.Sections.{Sections, section, end, broken, sections_from}
use Rattle.schema.specs.Psch.{Def, structure, enumeration, struct_here, enum_here}
use Rattle.schema.specs.declared.cursor.Section.{Section}
use Rattle.schema.specs.declared.cursor.Cursor.{Cursor}
use Rattle.schema.specs.declared.kind.Kind.{Kind}
use Rattle.schema.specs.declared.kind.Kind.TheVariants.{Structure, Enum}

-- the sections from `at` on, all of them
unfoldable pub rest : Bytes → ℕ → Sections
rest F at = sections_from F (length F - at) at

-- the sections from a cursor on
abbrev pub left_of : Cursor → Sections
left_of c = rest c.file.now c.at

-- what a step of the cursor says of them
abbrev pub followed : Rust.Result (Option (Section × Cursor)) Refusal → Sections
followed (Ok (Some (s, next))) = section (read_at 4 s.bytes.now 0) s.bytes.now (left_of next)
followed (Ok None) = end
followed (Err e) = broken

-- the section's bytes, and where they stand in the file
pub record Stepped (c : Cursor) (s : Section) (next : Cursor) : Type 0 where
  pub here : s.place ≡ c.at
  pub least : 8 ≤ length s.bytes.now
  pub inside : c.at + length s.bytes.now ≤ length c.file.now
  pub part : s.bytes.now ≡ take (length s.bytes.now) (drop c.at c.file.now)
  pub on : next.at ≡ c.at + length s.bytes.now
  pub same : next.file.now ≡ c.file.now

-- .. where a section is found; a section's length is the only thing that is refused
abbrev pub Reach : Cursor → Rust.Result (Option (Section × Cursor)) Refusal → Type 0
Reach c (Ok (Some (s, next))) = Stepped c s next
Reach c (Ok None) = Unit {0}
Reach c (Err e) = e ≡ SectionLength

-- a kind's number, the definition's top byte
abbrev pub kind_number : Kind → ℕ
kind_number Structure = 0
kind_number Enum = 1

-- r is the kind with this top byte, or says that no kind has it
abbrev pub Decodes : ℕ → Rust.Result Kind (Unit {0}) → Type 0
Decodes n r = Rust.MatchResult r (λ k. kind_number k ≡ n) (λ e. 1 < n)

-- the definition of kind k (0 a structure, 1 an enum) at a place
abbrev pub def_here : Bytes → ℕ → ℕ → ℕ → Def
def_here P k name at = cond (eqb k 0) (structure (struct_here P name at)) (enumeration (enum_here P name at))

-- a definition by its kind, or its refusal
abbrev pub judged : Bytes → ℕ → ℕ → Rust.Result Kind Refusal → Result Def
judged P name at r = map_result (λ (k : Kind). def_here P (kind_number k) name at) (answer_of r)
