-- What the contracts say of structures.
use Rattle.std.specs.Prelude.{ℕ, ◌+◌, ◌*◌, ◌≤◌, ◌≡◌, Bool, cond, ◌++◌, length, Option, Some, None}
use Rattle.numbers.specs.Words.{Bytes}
use Rattle.numbers.specs.Result.{ok}
use Rattle.value.specs.Rows.{rows_from}
use Rattle.schema.specs.Defs
use Rattle.schema.specs.Defs.{Schema, StructDef, winning}
use Rattle.schema.specs.Psch.{schema_of}
use Rattle.layout.specs.State.{State, Env, M}
use Rattle.layout.specs.Runs.{Run, Writer, run, struct_element}
use Rattle.layout.specs.Write.{Writers, writers, pairs_of, pair_element, write}
use Rattle.area.specs.declared.Round.{Round}
use Rattle.area.specs.declared.Progress.{Progress}
use Rattle.area.specs.Area.{Rep, env_of}
use Rattle.area.specs.Posts.{Safe, Grown, Ans, gives, refuses, Meets}
use Rattle.cells.specs.declared.defs.Def.{Def}
use Rattle.cells.specs.Names.{def_of}

-- S stands in the schema file F
abbrev pub Of : Bytes → Schema → Type 0
Of F S = schema_of F ≡ ok S

-- .. and d is what its name stands for
pub record Named (F : Bytes) (d : Def) (S : Schema) : Type 0 where
  pub of : schema_of F ≡ ok S
  pub winner : (winning S).struct d.name ≡ Some (def_of F d)

-- the writer of a structure with `depths` depths left, where `left` structures can start inside one another; `write` calls these left and fuel
abbrev pub inner : Bytes → Round → ℕ → ℕ → Schema → Writer
inner T R left depths S = write (env_of T S R) left depths

-- the writer of a structure by pointer, in a run or as a map pair: it starts again at depth 1
abbrev pub deeper : Bytes → Round → ℕ → Schema → Writer
deeper T R left S = inner T R left 32 S

-- the writers of what members lead to
abbrev pub below : Bytes → Round → ℕ → ℕ → Schema → Writers
below T R left depths S = writers (write (env_of T S R) left) depths

-- the numbers after a structure of `size` bytes was pushed: its 16 pay for the remarks on its members, with 15 left over
pub record Started (p : Progress) (size : ℕ) (q : Progress) : Type 0 where
  pub grown : Grown p (16 + size) size 0 q
  pub spare : q.seen + 65536 * 15 + 65536 * p.charge ≤ p.seen + 65536 * q.charge

abbrev pub Pushed : Round → ℕ → Progress → ℕ → Ans (Unit {0}) → Type 0
Pushed R n p size (gives u q) = Safe R n q × Started p size q
Pushed R n p size (refuses k q) = Safe R n q

-- a structure is written: f gives its bytes, which are then on top of the stack
pub record Pushes (known : Schema → Type 0) (R : Round) (n : ℕ) (p : Progress) (w : Bytes) (size : ℕ) (f : Schema → M Bytes) (r : Ans (Unit {0})) (w' : Bytes) : Type 0 where
  pub grew : Pushed R n p size r
  pub says : (S : Schema) → known S → (s : State) (σ : Bytes) → Rep S R n s σ p w
      → Meets S R n (λ b. σ ++ b) (λ b x. length b ≡ size) (f S s) r w'

abbrev pub Aimed : Round → ℕ → Progress → Ans (Option ℕ) → Type 0
Aimed R n p (gives (Some x) q) = Safe R n q × Grown p 0 0 0 q
Aimed R n p (gives None q) = Safe R n q × Grown p 0 0 1 q
Aimed R n p (refuses k q) = Safe R n q

-- a structure by pointer is written and filed: f gives its pointer, or none
pub record Points (known : Schema → Type 0) (R : Round) (n : ℕ) (p : Progress) (w : Bytes) (f : Schema → M (Option ℕ)) (r : Ans (Option ℕ)) (w' : Bytes) : Type 0 where
  pub grew : Aimed R n p r
  pub says : (S : Schema) → known S → (s : State) (σ : Bytes) → Rep S R n s σ p w
      → Meets S R n (λ o. σ) (λ o x. o ≡ x) (f S s) r w'

-- the structures of a run, or the pairs of a map
abbrev pub struct_run : Env → Writer → StructDef → Defs.Member → StructDef → ℕ → ℕ → ℕ → Bool → M (Option Run)
struct_run E w d e i block first n pairs =
    cond pairs (run E i.size block (pair_element E w i) (pairs_of (rows_from first (2 * n))))
    (run E i.size block (struct_element E w d e i) (rows_from first n))
