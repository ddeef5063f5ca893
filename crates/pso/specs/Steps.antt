-- What the contracts of single steps say: of one section, and of a PMAP section's rows.
use Rattle.std.specs.Prelude.{ℕ, ◌+◌, ◌*◌, ◌≤◌, ◌≡◌, cond, List, [], eqb, length, Option, Some, None, option_map, Ok}
use Rattle.std.specs.Prelude as Rust
use Rattle.numbers.specs.Words.{Bytes, read_at}
use Rattle.numbers.specs.Result.{map_result}
use Rattle.numbers.specs.Refusal.{answer_of}
use Rattle.numbers.specs.declared.refusal.Refusal.{Refusal}
use Rattle.schema.specs.Sections.{PSIN}
use Rattle.schema.specs.declared.cursor.Section.{Section}
use Rattle.pso.specs.Reader.{Block, Seen, blocks_at, see_section}
use Rattle.pso.specs.declared.blocks.Span.{Span}
use Rattle.pso.specs.declared.parse.State.{State}

-- rows in a section
pub record InRows (P : Bytes) (bs : List Block) (r : Span) : Type 0 where
  pub says : bs ≡ blocks_at P r.count r.start
  pub inside : r.start + 16 * r.count ≤ length P

-- .. or none
abbrev pub Spans : Bytes → List Block → Option Span → Type 0
Spans P bs (Some r) = InRows P bs r
Spans P bs None = bs ≡ []

-- what the code keeps of the sections seen: data, root number, how many blocks
pub record View : Type 0 where
  pub data' : Option Bytes
  pub root : Option ℕ
  pub blocks : ℕ

-- .. of what the definition knows
abbrev pub view : Seen → View
view t = record { data' = t.data'; root = t.root; blocks = length t.blocks }

-- the code's state
abbrev pub state_is : State → View
state_is s = record { data' = option_map (λ (b : Section). b.bytes.now) s.body; root = s.root; blocks = s.blocks }

-- one section seen, from every state of the definition that the code's stands for
pub record Sees (b : Section) (s : State) (r : Rust.Result State Refusal) : Type 0 where
  pub says : (t : Seen) → view t ≡ state_is s → map_result view (see_section (read_at 4 b.bytes.now 0) b.bytes.now t) ≡ map_result state_is (answer_of r)
  pub few : (x : State) → r ≡ Ok x → x.blocks ≤ s.blocks + length b.bytes.now
  pub body : (x : State) → r ≡ Ok x → x.body ≡ cond (eqb (read_at 4 b.bytes.now 0) PSIN) (Some b) s.body
