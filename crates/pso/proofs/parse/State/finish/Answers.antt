-- `pso::parse::State::finish` meets its contract. Assumes nothing.
use Rattle.schema.proofs.Errors.{passed_on}
use Rattle.pso.proofs.Place.{no_data, no_root, all_there}
use Rattle.pso.proofs.parse.State.finish.Goals as goal

pub returns-in_err-body : goal.returns-in_err-body
returns-in_err-body c =
    rw (← passed_on _ c.in_err-body.field-0.0 c.from_residual.ensures.1) (no_data c.args.self _ c.in_err-body.ensures.value)

pub returns-in_err-root : goal.returns-in_err-root
returns-in_err-root c =
    rw (← passed_on _ c.in_err-root.field-0.0 c.from_residual-in_err-root.ensures.1) (no_root c.args.self _ c.in_ok-body.ensures.ok_part _ c.in_err-root.ensures.value)

pub returns : goal.returns
returns c = all_there c.args.self c.in_ok-body.body c.in_ok-body.ensures.ok_part c.in_ok-root.root c.in_ok-root.ensures.ok_part
