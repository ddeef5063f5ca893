-- The code's answer, and what it leaves, in the terms of the definitions.
use Rattle.std.specs.Prelude.{List, Result, Ok, Err}
use Rattle.numbers.specs.Words.{Bytes}
use Rattle.numbers.specs.Refusal.{number_of}
use Rattle.numbers.specs.declared.refusal.Refusal.{Refusal}
use Rattle.layout.specs.State.{Remark}
use Rattle.layout.specs.Build.{Answer, success, refusal, After}
use Rattle.turns.specs.declared.Built.{Built}

-- "Success gives the file's length and the remark count"; "A refusal gives its number"
abbrev pub answer_of : Result Built Refusal → Answer
answer_of (Ok b) = success b.length b.remarks
answer_of (Err e) = refusal (number_of e)

-- the answer with the output, the remark list and the work area after the call
abbrev pub leaves : Result Built Refusal → Bytes → List Remark → Bytes → After
leaves r out remarks work = record { answer = answer_of r; output = out; remarks = remarks; work = work }
