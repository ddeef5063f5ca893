-- `runs::enum_run` meets its contract. Assumes nothing.
use mathlib.Core.Path.{refl}
use lib.ListN.{length}
use Rattle.value.specs.Rows.{rows_from}
use Rattle.area.proofs.Stepping.{same_then, step_then}
use Rattle.runs.proofs.Elements.{enums}
use Rattle.runs.proofs.enum_run.Goals as goal

pub returns : goal.returns
returns c =
    let g = c.args in
    let a = g.area.now in
    let e = c.used.ensures in
    let f = c.cell_run.ensures in
    record {
      same = same_then e.same f.same;
      did = enums a.round (length a.bytes.now) a.progress a.bytes.now g.sheet.now g.schema.now g.h (rows_from g.rows.first g.rows.count) _ _ c.named-name.ensures _ _ (length a.bytes.now) _ _
          e.did refl (step_then e.same f);
    }
