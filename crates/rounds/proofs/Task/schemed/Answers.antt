-- `rounds::Task::schemed` meets its contract. Assumes nothing.
use mathlib.Core.Path.{◌∙◌}
use Rattle.schema.proofs.Errors.{passed_on}
use Rattle.rounds.proofs.Openings.{schema_bad, schema_good}
use Rattle.rounds.proofs.Task.schemed.Goals as goal

pub returns-in_err-entries : goal.returns-in_err-entries
returns-in_err-entries c =
    let a = c.args in
    rw (← passed_on _ c.in_err-entries.field-0.0 c.from_residual.ensures.1) (schema_bad a.self.now.sheet.now a.self.now.schema.now a.work _ c.in_err-entries.ensures)

pub returns : goal.returns
returns c =
    let a = c.args in
    c.rooted.ensures ∙ schema_good a.self.now.sheet.now a.self.now.schema.now a.work c.in_ok-entries.entries c.in_ok-entries.ensures
