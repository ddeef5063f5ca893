-- Maps and their pairs. Assumes nothing.
use mathlib.Core.Bool.{not}
use mathlib.Core.Path.{refl, ap}
use borrow.Author.Rules.{rules}
use Rattle.std.proofs.lemmas.Result.{err_from_is_err_and}
use Rattle.area.proofs.Stepping.{same_then, also_ok}
use Rattle.writers.proofs.Pairing.{map_subtype, map_wide, map_wrong, map_pairs, map_empty, pairs_missing, pairs_refused, pairs_dropped, pairs_kept}
use Rattle.writers.proofs.write.Writer.+write.Goals as goal

-- `write_map`.

pub write_map-returns-then-sub-ne1 : goal.write_map-returns-then-sub-ne1
write_map-returns-then-sub-ne1 t c =
    let g = c.args in
    let a = g.area.now in
    let at = g.at.now in
    let F = g.self.now.schema.now in
    let T = g.self.now.sheet.now in
    also_ok c.say.ensures (λ h. map_subtype T F a.round g.self.now.left a.progress a.bytes.now at.structure at.member a.safe c.requires.open at.value _ _ c.if-sub-ne1.true (rw c.from.ensures at h))

pub write_map-returns-then-not-fits : goal.write_map-returns-then-not-fits
write_map-returns-then-not-fits t c =
    let g = c.args in
    let a = g.area.now in
    let at = g.at.now in
    let F = g.self.now.schema.now in
    let T = g.self.now.sheet.now in
    also_ok c.too_small.ensures (λ h. map_wide T F a.round g.self.now.left a.progress a.bytes.now at.structure at.member a.safe c.requires.open at.value c.if-sub-ne1.false _ c.fits.ensures _ _ (ap not c.if-not-fits.true) h)

pub write_map-returns-then-not-is-2 : goal.write_map-returns-then-not-is-2
write_map-returns-then-not-is-2 t c =
    let g = c.args in
    let a = g.area.now in
    let at = g.at.now in
    let F = g.self.now.schema.now in
    let T = g.self.now.sheet.now in
    record {
      same = (c.wrong.ensures.fills F).same;
      did = map_wrong T F a.round g.self.now.left a.progress a.bytes.now at.structure at.member a.safe c.requires.open at.value c.if-sub-ne1.false _ c.fits.ensures (ap not c.if-not-fits.false) _ c.value_row-row.ensures _ _ (search rules) (λ F. (c.wrong.ensures.fills F).did);
    }

pub write_map-returns-then-count-eq0 : goal.write_map-returns-then-count-eq0
write_map-returns-then-count-eq0 t c =
    let g = c.args in
    let a = g.area.now in
    let at = g.at.now in
    let F = g.self.now.schema.now in
    let T = g.self.now.sheet.now in
    record {
      same = record { bytes = search rules; size = search rules; round = search rules };
      did = map_empty T F a.round g.self.now.left a.progress a.bytes.now at.structure at.member a.safe c.requires.open at.value c.if-sub-ne1.false _ c.fits.ensures (ap not c.if-not-fits.false) _ c.value_row-row.ensures (search rules) _ c.count_of-count.ensures c.requires.buffer.low _ (rw c.place.ensures at c.put_pointer.ensures) c.put_pointer.auto.work c.if-count-eq0.true;
    }

pub write_map-returns : goal.write_map-returns
write_map-returns t c =
    let g = c.args in
    let a = g.area.now in
    let at = g.at.now in
    let F = g.self.now.schema.now in
    let T = g.self.now.sheet.now in
    let f = c.pairs.ensures in
    record {
      same = record { bytes = f.same.bytes; size = search (rules, f.same.size); round = f.same.round };
      did = map_pairs T F a.round g.self.now.left a.progress a.bytes.now at.structure at.member a.safe c.requires.open at.value c.if-sub-ne1.false _ c.fits.ensures (ap not c.if-not-fits.false) _ c.value_row-row.ensures (search rules) _ c.count_of-count.ensures c.requires.buffer.low _ (rw c.place.ensures at c.put_pointer.ensures) _ _ c.put_pointer.auto.work f.did;
    }

-- `pairs`.

pub pairs-returns-in_default : goal.pairs-returns-in_default
pairs-returns-in_default t c =
    let g = c.args in
    let a = g.area.now in
    let at = g.at.now in
    let F = g.self.now.schema.now in
    let T = g.self.now.sheet.now in
    also_ok c.say.ensures (λ h. pairs_missing T F a.round g.self.now.left a.progress a.bytes.now at.structure at.member a.safe c.requires.open c.requires.buffer.0.low c.requires.buffer.1 g.rows.first g.rows.count c.requires.buffer.2 _ c.reference_at-h.ensures _ c.look_up.ensures.name_value _ _ c.in_default.is h)

pub pairs-returns-in_err-block : goal.pairs-returns-in_err-block
pairs-returns-in_err-block t c =
    let g = c.args in
    let a = g.area.now in
    let at = g.at.now in
    let F = g.self.now.schema.now in
    let T = g.self.now.sheet.now in
    let x = err_from_is_err_and c.from_residual.result c.from_residual.ensures.1 in
    let e = c.in_err-block.ensures in
    rw (x.1, x.2)
    record {
      same = e.same;
      did = pairs_refused T F a.round g.self.now.left a.progress a.bytes.now at.structure at.member a.safe c.requires.open c.requires.buffer.0.low c.requires.buffer.1 g.rows.first g.rows.count c.requires.buffer.2 _ c.reference_at-h.ensures _ c.look_up.ensures.name_value _ c.in-Some.is _ _ e.did _ _ refl;
    }

pub pairs-returns-in_default-2 : goal.pairs-returns-in_default-2
pairs-returns-in_default-2 t c =
    let g = c.args in
    let a = g.area.now in
    let at = g.at.now in
    let F = g.self.now.schema.now in
    let T = g.self.now.sheet.now in
    let e = c.in_ok-block.ensures in
    record {
      same = e.same;
      did = pairs_dropped T F a.round g.self.now.left a.progress a.bytes.now at.structure at.member a.safe c.requires.open c.requires.buffer.0.low c.requires.buffer.1 g.rows.first g.rows.count c.requires.buffer.2 _ c.reference_at-h.ensures _ c.look_up.ensures.name_value _ c.in-Some.is _ _ (rw c.in_default-2.is at e.did) _ refl;
    }

pub pairs-returns : goal.pairs-returns
pairs-returns t c =
    let g = c.args in
    let a = g.area.now in
    let at = g.at.now in
    let F = g.self.now.schema.now in
    let T = g.self.now.sheet.now in
    let e = c.in_ok-block.ensures in
    let f = c.lay_run.ensures in
    record {
      same = same_then e.same f.same;
      did = pairs_kept T F a.round g.self.now.left a.progress a.bytes.now at.structure at.member a.safe c.requires.open c.requires.buffer.0.low c.requires.buffer.1 g.rows.first g.rows.count c.requires.buffer.2 _ c.reference_at-h.ensures _ c.look_up.ensures.name_value _ c.in-Some.is _ _ (rw c.in-Some-2.is at e.did) _ _ _ _ refl e.same.size (rw (e.same.round, c.place-place.ensures) at f.did);
    }
