-- `area::Area::lay_item` meets its contract. Assumes nothing.
use native.Mathlib.Omega.{arith}
use lib.ListN.{length}
use borrow.Author.Rules.{rules}
use Rattle.std.proofs.lemmas.Result.{err_from_is_err_and}
use Rattle.area.proofs.Placing.{lay_refused, lay_done}
use Rattle.area.proofs.Area.lay_item.Goals as goal

pub returns-in_err-before : goal.returns-in_err-before
returns-in_err-before c =
    let a = c.args.self.now in
    let x = err_from_is_err_and c.from_residual.result c.from_residual.ensures.1 in
    let f = c.in_err-before.ensures in
    rw (x.1, x.2, f.3)
    record {
      same = record { bytes = search rules; size = search rules; round = search rules };
      did = lay_refused c.args.alone a.round (length a.bytes.now) a.progress a.bytes.now a.safe c.args.name c.args.len f.0 f.1 f.2;
    }

pub returns : goal.returns
returns c =
    let a = c.args.self.now in
    let s = c.in_ok-before.field-0 in
    let f = c.in_ok-before.ensures in
    let h = a.safe in
    let g = c.requires in
    record {
      same = record { bytes = search rules; size = search rules; round = search rules };
      did = rw (c.filed-self.ensures, c.shift.ensures)
          (lay_done c.args.alone a.round (length a.bytes.now) a.progress a.bytes.now h c.args.name c.args.len s f.0
          c.ranges.name.fits (omega (arith, h, g)) f.1 f.2 (omega (arith, h, g)) g.1 (omega (arith, h, g)) c.put_head.new.work c.put_head.ensures);
    }
