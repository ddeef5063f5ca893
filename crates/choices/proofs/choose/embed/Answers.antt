-- `choices::choose::embed` meets its contract. Assumes nothing.
use mathlib.Core.Path.{refl, ap}
use mathlib.Core.Bool.{not}
use lib.ListN.{length}
use borrow.Author.Rules.{rules}
use Rattle.area.proofs.Stepping.{same_then, change_then}
use Rattle.choices.proofs.Embedding.{embeds_wide, embeds_fits, shift_room}
use Rattle.choices.proofs.choose.embed.Goals as goal

pub returns-then-not-fits : goal.returns-then-not-fits
returns-then-not-fits c =
    let g = c.args in
    let a = g.area.now in
    let t = g.at.now in
    let e = c.drop_to.ensures in
    let f = c.too_small.ensures in
    record {
      same = same_then e.same f.same;
      did = embeds_wide a.round (length a.bytes.now) g.base a.progress a.bytes.now t.structure t.member a.safe c.requires.open c.requires.size_bound.0 c.requires.size_bound.1 _ _ _ _ _ _
          c.fits.ensures (ap not c.if-not-fits.true) e.did refl (change_then e.same f);
    }

pub shift-requires : goal.shift-requires
shift-requires c =
    let g = c.args in
    let a = g.area.now in
    let t = g.at.now in
    rw c.place.ensures
    (shift_room a.round (length a.bytes.now) g.base a.progress a.bytes.now t.structure t.member a.safe c.requires.open c.requires.size_bound.0 c.requires.size_bound.1 _ _
    c.fits.ensures (ap not c.if-not-fits.false) refl)

pub returns : goal.returns
returns c =
    let g = c.args in
    let a = g.area.now in
    let t = g.at.now in
    record {
      same = record { bytes = search rules; size = search rules; round = search rules };
      did = embeds_fits a.round (length a.bytes.now) g.base a.progress a.bytes.now t.structure t.member a.safe c.requires.open c.requires.size_bound.0 c.requires.size_bound.1 _ _
          c.fits.ensures (ap not c.if-not-fits.false) (rw c.place.ensures at c.shift.ensures);
    }
