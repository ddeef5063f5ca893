-- `rounds::merge::take_round` meets its contract. Assumes nothing.
use native.Mathlib.Omega.{arith}
use borrow.Author.Rules.{rules}
use Rattle.rounds.proofs.Taking.{take_some, take_none}
use Rattle.rounds.proofs.Task.take_round.Goals as goal

pub returns-then-job-eq0 : goal.returns-then-job-eq0
returns-then-job-eq0 c =
    let s = c.args.self.now in
    let a = c.begin-area in
    let r = c.run-outcome in
    take_none s.alone s.sheet.now s.schema.now s.size s.room c.args.opening c.args.count a.result r.new.area r.result r.ensures a.ensures.round _ (search rules) c.if-job-eq0.true c.judged.result c.judged.ensures.judges

pub returns : goal.returns
returns c =
    let s = c.args.self.now in
    let a = c.begin-area in
    let r = c.run-outcome in
    take_some s.alone s.sheet.now s.schema.now s.size s.room c.args.opening c.args.count a.result r.new.area r.result r.ensures a.ensures.round _ (search rules) (omega arith) c.seek.result c.seek.ensures
