-- `turns::passed` meets its contract. Assumes nothing.
use mathlib.Core.Path.{sym, subst}
use borrow.Author.Rules.{rules}
use Rattle.turns.specs.Turns.{Passes}
use Rattle.turns.proofs.Passing.{pass_next, pass_end, round_again, pass_round}
use Rattle.turns.proofs.passed.Goals as goal

pub returns-then-stage-job : goal.returns-then-stage-job
returns-then-stage-job c =
    let a = c.args in
    let s = a.task.now in
    subst (λ r. Passes s.alone s.sheet.now s.schema.now s.size s.room a.stage a.work.now r a.work.now) (sym c.seek.ensures)
    (pass_next s.alone s.sheet.now s.schema.now s.size s.room a.stage a.work.now c.if-stage-job.true)

pub returns-then-job : goal.returns-then-job
returns-then-job c =
    let a = c.args in
    let s = a.task.now in
    pass_end s.alone s.sheet.now s.schema.now s.size s.room a.stage a.work.now c.if-stage-job.false c.if-job.true c.judged.result _ _ c.area-area.ensures.bytes
    (search rules) c.judged.ensures.judges

pub take_round-requires : goal.take_round-requires
take_round-requires c =
    let a = c.args in
    let s = a.task.now in
    let r = c.area-area.ensures in
    round_again s.alone s.sheet.now s.schema.now s.size s.room a.stage a.work.now c.requires c.wipe.new.area.bytes.now _ (search rules)
    (rw (r.round, r.progress, r.bytes) at c.wipe.ensures.zero)

pub returns : goal.returns
returns c =
    let a = c.args in
    let s = a.task.now in
    let t = c.take_round in
    pass_round s.alone s.sheet.now s.schema.now s.size s.room a.stage a.work.now c.if-stage-job.false t.new.work (search (rules, c.area-area.ensures.bytes)) t.result t.ensures
