-- `rounds::Task::rooted` meets its contract. Assumes nothing.
use mathlib.Core.Path.{ap, ◌∙◌}
use Rattle.schema.proofs.Errors.{passed_on}
use Rattle.rounds.proofs.Openings.{root_found_law, root_unknown}
use Rattle.rounds.proofs.Task.rooted.Goals as goal

pub returns-in_err-place : goal.returns-in_err-place
returns-in_err-place c =
    let a = c.args in
    rw (← passed_on _ c.in_err-place.field-0.0 c.from_residual.ensures.1)
    (root_unknown a.self.now.sheet.now a.self.now.schema.now a.work a.entries _ c.find.result (ap (λ x. x.a) c.read_row-name.ensures) c.find.ensures.result_value _ c.in_err-place.ensures.value)

pub returns : goal.returns
returns c =
    let a = c.args in
    c.roomed.ensures
    ∙ root_found_law a.self.now.sheet.now a.self.now.schema.now a.work a.entries _ c.find.result (ap (λ x. x.a) c.read_row-name.ensures) c.find.ensures.result_value c.in_ok-place.place c.in_ok-place.ensures.ok_part
