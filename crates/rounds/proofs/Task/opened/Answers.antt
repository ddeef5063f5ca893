-- `rounds::Task::opened` meets its contract. Assumes nothing.
use Rattle.std.specs.Prelude.{Ok, Err}
use mathlib.Core.Path.{◌∙◌}
use Rattle.layout.specs.Build.{sheet_ok}
use Rattle.schema.proofs.Errors.{passed_on}
use Rattle.rounds.proofs.Openings.{sheet_is, stops, goes, opens}
use Rattle.rounds.specs.Merge.{opening_of}
use Rattle.rounds.proofs.Task.opened.Goals as goal

pub returns-in_err-check_sheet : goal.returns-in_err-check_sheet
unfolding opening_of
returns-in_err-check_sheet c =
    let a = c.args in
    let e = c.in_err-check_sheet.field-0.0 in
    rw (← passed_on _ e c.from_residual.ensures.1)
    (opens a.self.now.alone a.self.now.sheet.now a.self.now.schema.now a.work _ (stops (sheet_ok a.self.now.sheet.now) _ _ (sheet_is a.self.now.sheet.now (Err e) c.in_err-check_sheet.ensures)))

pub returns : goal.returns
unfolding opening_of
returns c =
    let a = c.args in
    opens a.self.now.alone a.self.now.sheet.now a.self.now.schema.now a.work _ (c.schemed.ensures ∙ goes (sheet_ok a.self.now.sheet.now) _ tt (sheet_is a.self.now.sheet.now (Ok tt) c.in_ok-check_sheet.ensures))
