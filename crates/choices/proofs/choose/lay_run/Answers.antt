-- `choices::choose::lay_run` meets its contract. Assumes nothing.
use mathlib.Core.Path.{refl}
use lib.ListN.{length}
use borrow.Author.Rules.{rules}
use Rattle.std.proofs.lemmas.Result.{err_from_is_err_and}
use Rattle.choices.proofs.Lodging.{lodged_refused, lodged_done}
use Rattle.choices.proofs.choose.lay_run.Goals as goal

pub returns-in_err-x : goal.returns-in_err-x
returns-in_err-x c =
    let g = c.args in
    let a = g.area.now in
    let x = err_from_is_err_and c.from_residual.result c.from_residual.ensures.1 in
    let e = c.in_err-x.ensures in
    rw (x.1, x.2)
    record {
      same = e.same;
      did = lodged_refused a.round (length a.bytes.now) a.progress a.bytes.now g.block g.len g.at g.n a.safe _ _ _ _ e.did refl;
    }

pub returns : goal.returns
returns c =
    let g = c.args in
    let a = g.area.now in
    let e = c.in_ok-x.ensures in
    record {
      same = record { bytes = e.same.bytes; size = search (rules, e.same.size); round = e.same.round };
      did = lodged_done a.round (length a.bytes.now) a.progress a.bytes.now g.block g.len g.at g.n a.safe _ _ _ _ _ c.requires.0 c.requires.1 c.requires.2 e.did refl c.put_counted.ensures;
    }
