-- What the contracts say of members.
use Rattle.std.specs.Prelude.{ℕ, ◌+◌, ◌≤◌, ◌≡◌, ◌++◌, length, Option, Some, None}
use Rattle.numbers.specs.Words.{Bytes}
use Rattle.value.specs.Rows.{Value}
use Rattle.schema.specs.Defs.{Schema}
use Rattle.definitions.specs.declared.members.Member as coded
use Rattle.layout.specs.State.{Remark, State, M}
use Rattle.layout.specs.Kinds.{type_number}
use Rattle.layout.specs.Members as members
use Rattle.area.specs.declared.Round.{Round}
use Rattle.area.specs.declared.Progress.{Progress}
use Rattle.area.specs.Area.{stack_at, Rep, env_of}
use Rattle.area.specs.Posts.{Safe, Grown, noted_in, UsesEnum, Ans, gives, refuses, Meets}
use Rattle.cells.specs.declared.defs.Def.{Def}

-- the remark on member m of structure d
abbrev pub remark_on : Def → coded.Member → ℕ → ℕ → Remark
remark_on d m kind detail = record { kind = kind; structure = d.name; member = m.name; detail = detail }

-- remark 2 is met, unless the member is missing
abbrev pub wrong_in : Round → Progress → Bytes → Def → coded.Member → Value → Progress × Bytes
wrong_in R p w d m (Some r) = noted_in R p w (remark_on d m 2 (type_number m.kind))
wrong_in R p w d m None = (p, w)

-- the stack holds at least a structure of so many bytes: how the area lies to the structure that is written, and so no fact about either alone
pub record Buffer (R : Round) (p : Progress) (size : ℕ) : Type 0 where
  pub low : stack_at R + size ≤ p.top

-- whatever the schema
abbrev pub any_schema : Schema → Type 0
any_schema S = Unit {0}

-- the numbers after a writer that leaves the stack as high as it was, and met `notes` remarks that are not paid for
abbrev pub Went : Round → ℕ → Progress → ℕ → Ans (Unit {0}) → Type 0
Went R n p notes (gives u q) = Safe R n q × Grown p 0 0 notes q
Went R n p notes (refuses k q) = Safe R n q

-- a member is written: f makes of the structure's bytes so far, the top of the stack, those with the member
pub record Fills (known : Schema → Type 0) (R : Round) (n : ℕ) (p : Progress) (w : Bytes) (size : ℕ) (f : Schema → Bytes → M Bytes) (r : Ans (Unit {0})) (w' : Bytes) : Type 0 where
  pub grew : Went R n p 1 r
  pub says : (S : Schema) → known S → (s : State) (σ buf : Bytes) → length buf ≡ size → Rep S R n s (σ ++ buf) p w
      → Meets S R n (λ b. σ ++ b) (λ b x. length b ≡ size) (f S buf s) r w'

-- a text's slot at `at` is filled
pub record Slots (R : Round) (n : ℕ) (p : Progress) (w : Bytes) (sub : ℕ) (t : Bytes) (at : ℕ) (r : Ans (Unit {0})) (w' : Bytes) : Type 0 where
  pub grew : Went R n p 0 r
  pub says : (S : Schema) (T : Bytes) (s : State) (σ buf : Bytes) (off : ℕ) → stack_at R + length σ + off ≡ at → off + members.slot_size sub ≤ length buf → Rep S R n s (σ ++ buf) p w
      → Meets S R n (λ b. σ ++ b) (λ b x. length b ≡ length buf) (members.text_slot (env_of T S R) sub t buf off s) r w'

-- the enum of the name is used, where there is one
abbrev pub Marked : Round → ℕ → Progress → Bytes → Option ℕ → Progress → Bytes → Type 0
Marked R n p w None q w' = (q ≡ p) × (w' ≡ w)
Marked R n p w (Some name) q w' = UsesEnum R n p w name q w'
