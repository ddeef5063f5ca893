-- `turns::first` meets its contract. Assumes nothing.
use Rattle.std.proofs.lemmas.Result.{err_from_is_err_and}
use mathlib.Core.Path.{◌∙◌}
use lib.ListN.{length}
use Rattle.turns.proofs.Endings.{begin_refused, begin_ready, begin_round}
use Rattle.turns.proofs.first.Goals as goal

pub returns-in_err-opening : goal.returns-in_err-opening
returns-in_err-opening c =
    let s = c.args.task.now in
    let x = err_from_is_err_and c.from_residual.result c.from_residual.ensures.1 in
    rw (x.1, x.2) (begin_refused s.alone s.sheet.now s.schema.now s.size s.room c.args.work.now c.clear.new.s _ c.clear.ensures c.in_err-opening.ensures.opens)

pub take_round-requires : goal.take_round-requires
take_round-requires c =
    let s = c.args.task.now in
    begin_ready s.alone s.sheet.now s.schema.now s.size s.room c.args.work.now c.clear.new.s c.in_ok-opening.opening c.clear.ensures c.in_ok-opening.ensures.opens

pub returns : goal.returns
returns c =
    let s = c.args.task.now in
    let t = c.take_round in
    begin_round s.alone s.sheet.now s.schema.now s.size s.room t.new.work (length c.args.work.now) c.in_ok-opening.opening (t.auto.work ∙ c.clear.auto.s) c.in_ok-opening.ensures.opens t.result t.ensures
