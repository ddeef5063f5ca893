-- `runs::cell_run` meets its contract. Assumes nothing.
use Rattle.area.specs.Steps.{size, Same}
use Rattle.runs.proofs.Loops.{Ready}
use Rattle.runs.proofs.CellRuns.{Cells}
use Rattle.runs.proofs.cell_run.Given as goal

abbrev pub invariant-loop-i : goal.invariant-loop-i
invariant-loop-i l =
    let a = l.initial.area in
    Same a l.area × Ready a.round (size a) l.stride l.rows.count a.progress × Cells a.round (size a) a.progress a.bytes.now l.sheet l.cell l.stride l.rows.first l.rows.count l.area.progress l.area.bytes.now l.i
