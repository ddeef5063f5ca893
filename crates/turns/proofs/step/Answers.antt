-- `turns::step` meets its contract. Assumes nothing.
use mathlib.Core.Path.{sym, ap, ◌∙◌}
use Rattle.layout.specs.State.{same_remark}
use Rattle.turns.proofs.Turning.{step_found, step_next, step_put}
use Rattle.turns.proofs.step.Goals as goal

pub returns-then-stage : goal.returns-then-stage
returns-then-stage c =
    let p = c.requires in
    let a = c.args in
    let s = a.task.now in
    step_put s.alone s.sheet.now s.schema.now s.size s.room a.stage a.old a.work.now p.0 p.1 c.if-stage.true c.row_at-row.result c.row_at-row.ensures
    c.passed.result c.passed.new.work c.passed.ensures

pub returns-then-same : goal.returns-then-same
returns-then-same c =
    let p = c.requires in
    let a = c.args in
    let s = a.task.now in
    let f = c.passed-then-same in
    step_found s.alone s.sheet.now s.schema.now s.size s.room a.stage a.old a.work.now p.0 p.1 c.if-stage.false
    (ap (same_remark a.old) (sym c.row_at-row.ensures) ∙ sym c.same.ensures ∙ c.if-same.true) f.result f.new.work f.ensures

pub returns : goal.returns
returns c =
    let p = c.requires in
    let a = c.args in
    let s = a.task.now in
    step_next s.alone s.sheet.now s.schema.now s.size s.room a.stage a.old a.work.now p.0 p.1 c.if-stage.false
    (ap (same_remark a.old) (sym c.row_at-row.ensures) ∙ sym c.same.ensures ∙ c.if-same.false) c.seek.result c.seek.ensures
