-- `members::member::write_cell` meets its contract. Assumes nothing.
use mathlib.Core.Path.{refl, sym, ◌∙◌}
use lib.ListN.{length}
use borrow.Author.Rules.{rules}
use Rattle.cells.specs.Cells.{cell_bytes}
use Rattle.members.proofs.Filling.{cell_long, cell_stored, cell_wrong, cell_refused}
use Rattle.area.proofs.Stepping.{also_ok}
use Rattle.members.proofs.member.write_cell.Goals as goal

pub returns-then-not-fits : goal.returns-then-not-fits
returns-then-not-fits c = λ F.
    let g = c.args in
    let t = g.at.now in
    let a = g.area.now in
    also_ok c.too_small.ensures (λ h. cell_long a.round (length a.bytes.now) a.progress a.bytes.now g.sheet.now F t.structure t.member t.value g.need (cell_bytes g.sheet.now g.cell) g.name
    _ _ a.safe c.requires.open (sym c.fits.ensures ∙ c.if-not-fits.true) h)

pub returns-in-Err-FloatText : goal.returns-in-Err-FloatText
returns-in-Err-FloatText c = λ F.
    let g = c.args in
    let t = g.at.now in
    let a = g.area.now in
    record {
      same = record { bytes = search rules; size = search rules; round = search rules };
      did = cell_refused a.round (length a.bytes.now) a.progress a.bytes.now g.sheet.now F t.structure t.member t.value g.need (cell_bytes g.sheet.now g.cell) g.name
          c.value_row-row.result c.value_row-row.ensures (sym c.fits.ensures ∙ c.if-not-fits.false) c.put_cell.new.buf
          a.safe (rw c.in-Err-FloatText.field-0-is at c.in-Err-FloatText.ensures);
    }

pub returns-in-Ok : goal.returns-in-Ok
returns-in-Ok c = λ F.
    let g = c.args in
    let t = g.at.now in
    let a = g.area.now in
    let e = c.used.ensures in
    record {
      same = record { bytes = e.same.bytes; size = search (rules, e.same.size); round = e.same.round };
      did = cell_stored a.round (length a.bytes.now) a.progress a.bytes.now g.sheet.now F t.structure t.member t.value g.need (cell_bytes g.sheet.now g.cell) g.name
          c.value_row-row.result c.value_row-row.ensures (sym c.fits.ensures ∙ c.if-not-fits.false) c.put_cell.new.buf
          _ _ a.safe c.requires.buffer.0 refl c.in-Ok.ensures c.put_cell.auto.buf e.did;
    }

pub returns-in-Err-Unfit : goal.returns-in-Err-Unfit
returns-in-Err-Unfit c = λ F.
    let g = c.args in
    let t = g.at.now in
    let a = g.area.now in
    let e = c.wrong.ensures.fills F in
    record {
      same = record { bytes = e.same.bytes; size = search (rules, e.same.size); round = e.same.round };
      did = cell_wrong a.round (length a.bytes.now) a.progress a.bytes.now g.sheet.now F t.structure t.member t.value g.need (cell_bytes g.sheet.now g.cell) g.name
          c.value_row-row.result c.value_row-row.ensures (sym c.fits.ensures ∙ c.if-not-fits.false) c.put_cell.new.buf
          _ _ refl (rw c.in-Err-Unfit.field-0-is at c.in-Err-Unfit.ensures) e.did;
    }
