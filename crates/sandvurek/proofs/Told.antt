-- The packer's and the reader's answers as the numbers that go out. Assumes nothing.
use Rattle.std.specs.Prelude as Rust
use Rattle.std.specs.Prelude.{Option, Some, None, option_map}
use mathlib.Core.Path.{◌≡◌, refl, ap, ◌∙◌}
use mathlib.Core.List.{List}
use Prim.Native.Nat.{ℕ}
use Rattle.numbers.specs.Words.{Bytes}
use Rattle.numbers.specs.Result.{Result, ok, refused, map_result}
use Rattle.numbers.specs.declared.refusal.Refusal.{Refusal}
use Rattle.schema.specs.Sections.{sections}
use Rattle.pso.specs.Reader as R
use Rattle.pso.specs.Blocks.{numbered, blocks_of}
use Rattle.pso.specs.Answers.{row_of, answered}
use Rattle.pso.specs.declared.parse.Pso.{Pso}
use Rattle.pso.specs.declared.blocks.Row.{Row}
use Rattle.layout.specs.State.{Remark}
use Rattle.layout.specs.Build.{After}
use Rattle.turns.specs.Answers.{answer_of, leaves}
use Rattle.turns.specs.declared.Built.{Built}
use Rattle.sandvurek.specs.Exports.{outcome_is, outcome_of, BuildIs, reading_shows, reading_is, reading_of, block_shows, block_is, block_of}
use Rattle.sandvurek.specs.declared.Outcome.{Outcome}

-- the packer's answer as numbers, with what it leaves
pub build_told : (a : After) (r : Rust.Result Built Refusal) (n : Outcome) (out : Bytes) (list : List Remark) (area : Bytes) → n ≡ outcome_is (answer_of r) → leaves r out list area ≡ a → BuildIs a n out list area
build_told a r n out list area t e =
    record {
      answer = t ∙ ap outcome_of e;
      output = ap (λ (k : After). k.output) e;
      remarks = ap (λ (k : After). k.remarks) e;
      work = ap (λ (k : After). k.work) e;
    }

-- the numbers of the reader's answer
reading_law : (F : Bytes) (X : Result R.Pso) → reading_shows (map_result (answered F) X) ≡ reading_is F X
unfolding map_result
reading_law F (ok p) = refl
reading_law F (refused n) = refl

pub reading_told : (F : Bytes) (r : Result Pso) → r ≡ map_result (answered F) (R.parse_pso F) → reading_shows r ≡ reading_of F
reading_told F r e = ap reading_shows e ∙ reading_law F (R.parse_pso F)

-- the numbers of a row
block_law : (o : Option R.Block) → block_shows (option_map row_of o) ≡ block_is o
block_law (Some b) = refl
block_law None = refl

-- of any file, and of one that the reader accepts
pub block_told : (F : Bytes) (n : ℕ) (r : Option Row) → r ≡ option_map row_of (numbered (blocks_of (sections F)) n)
    → ((p : R.Pso) → R.parse_pso F ≡ ok p → r ≡ option_map row_of (numbered p.blocks n))
    → record { value : block_shows r ≡ block_of F n; value_2 : (p : R.Pso) → R.parse_pso F ≡ ok p → block_shows r ≡ block_is (numbered p.blocks n) }
block_told F n r a b =
    record { value = ap block_shows a ∙ block_law (numbered (blocks_of (sections F)) n); value_2 = λ p q. ap block_shows (b p q) ∙ block_law (numbered p.blocks n) }
