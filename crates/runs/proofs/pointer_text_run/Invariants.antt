-- `runs::pointer_text_run` meets its contract. Assumes nothing.
use Rattle.layout.specs.Members.{slot_size}
use Rattle.area.specs.Steps.{size, Same}
use Rattle.runs.proofs.Loops.{Ready}
use Rattle.runs.proofs.CellRuns.{Texts}
use Rattle.runs.proofs.pointer_text_run.Given as goal

abbrev pub invariant-loop-i : goal.invariant-loop-i
invariant-loop-i l =
    let a = l.initial.area in
    Same a l.area × Ready a.round (size a) (slot_size l.sub) l.rows.count a.progress × Texts a.round (size a) a.progress a.bytes.now l.sheet l.sub l.rows.first l.rows.count l.area.progress l.area.bytes.now l.i
