-- What the contracts say of runs.
use Rattle.std.specs.Prelude.{ℕ, ◌+◌, ◌-◌, ◌≤◌, ◌≡◌, List, [], ◌++◌, Option, Some, None, unwrap_or, option_map}
use Rattle.numbers.specs.Words.{Bytes}
use Rattle.schema.specs.Defs
use Rattle.schema.specs.Defs.{Schema, StructDef}
use Rattle.definitions.specs.declared.members.Member as coded
use Rattle.layout.specs.State.{State, Env, M, ret}
use Rattle.layout.specs.Kinds as Kinds
use Rattle.layout.specs.Runs as runs
use Rattle.layout.specs.Runs.{Run}
use Rattle.area.specs.declared.Round.{Round}
use Rattle.area.specs.declared.Progress.{Progress}
use Rattle.area.specs.Area.{Rep}
use Rattle.area.specs.Posts.{Safe, Grown, noted_in, Ans, gives, refuses, Meets}
use Rattle.cells.specs.declared.defs.Def.{Def}
use Rattle.members.specs.Posts.{remark_on}

-- a remark is met
abbrev pub stop_in : Round → Progress → Bytes → Def → coded.Member → ℕ → ℕ → Progress × Bytes
stop_in R p w d m kind detail = noted_in R p w (remark_on d m kind detail)

-- .. after a run's writer: the bytes that it pushed are paid for, with 16 more
abbrev pub Grew : Round → ℕ → Progress → ℕ → Ans (Option ℕ) → Type 0
Grew R n p notes (gives (Some b) q) = Safe R n q × (p.top ≤ q.top) × Grown p (16 + (q.top - p.top)) (q.top - p.top) 0 q
Grew R n p notes (gives None q) = Safe R n q × Grown p 0 0 notes q
Grew R n p notes (refuses k q) = Safe R n q

-- a run's bytes
abbrev pub run_bytes : Option Run → Bytes
run_bytes o = unwrap_or (option_map (λ r. r.bytes) o) []

-- a run is written: f gives its bytes, which are then on top of the stack, or none
pub record Yields (known : Schema → Type 0) (R : Round) (n : ℕ) (p : Progress) (w : Bytes) (notes : ℕ) (f : Schema → M (Option Run)) (r : Ans (Option ℕ)) (w' : Bytes) : Type 0 where
  pub grew : Grew R n p notes r
  pub says : (S : Schema) → known S → (s : State) (σ : Bytes) → Rep S R n s σ p w
      → Meets S R n (λ o. σ ++ run_bytes o) (λ o x. option_map (λ r. r.block) o ≡ x) (f S s) r w'

-- a run whose elements lead to no structure
unfoldable pub plain_run : Env → StructDef → Defs.Member → Defs.Member → Kinds.Kind → List ℕ → M (Option Run)
plain_run E d e x (Kinds.scalar s) rs = runs.run E (runs.scalar_stride s) (runs.scalar_block s x.type) (runs.scalar_element E s) rs
plain_run E d e x Kinds.text rs = runs.text_run E d e x rs
plain_run E d e x Kinds.enumeration rs = runs.enum_run E x.reference rs
plain_run E d e x Kinds.structure rs = ret None
plain_run E d e x Kinds.array rs = runs.stops d e 12 x.type
plain_run E d e x Kinds.flags rs = runs.stops d e 12 x.type
plain_run E d e x Kinds.map rs = runs.stops d e 12 x.type
plain_run E d e x Kinds.other rs = runs.stops d e 12 x.type
