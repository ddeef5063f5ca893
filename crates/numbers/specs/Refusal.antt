-- A refusal's number, and the code's answer as the definitions have it.
use Rattle.std.specs.Prelude.{ℕ, Result, Ok, Err}
use Rattle.numbers.specs.Result.{ok, refused}
use Rattle.numbers.specs.Result as Answers
use Rattle.numbers.specs.declared.refusal.Refusal.{Refusal}
use Rattle.numbers.specs.declared.refusal.Refusal.TheVariants as R

-- the refusals, 1 to 18
abbrev pub number_of : Refusal → ℕ
number_of R.SheetLayout = 1
number_of R.SheetText = 2
number_of R.SheetRoot = 3
number_of R.SectionLength = 4
number_of R.SchemaBounds = 5
number_of R.TopByte = 6
number_of R.NoRootDefinition = 7
number_of R.Depth = 8
number_of R.Charge = 9
number_of R.BlockLimit = 10
number_of R.FloatText = 11
number_of R.WorkLength = 12
number_of R.OutputLength = 13
number_of R.RemarkCount = 14
number_of R.Magic = 15
number_of R.MapLength = 16
number_of R.NoData = 17
number_of R.NoMap = 18

-- the code's answer as an answer, or a refusal's number
abbrev pub answer_of : {A : Type 0} → Result A Refusal → Answers.Result A
answer_of (Ok a) = ok a
answer_of (Err e) = refused (number_of e)
