-- Arrays and their elements. Assumes nothing.
use mathlib.Core.Bool.{not}
use mathlib.Core.Path.{refl, sym, ap, ◌∙◌}
use Rattle.std.proofs.lemmas.Result.{err_from_is_err_and}
use Rattle.area.proofs.Stepping.{same_then, also_ok, also}
use Rattle.writers.proofs.Kindly.{run_plain, run_pointers, run_missing, run_structs}
use Rattle.writers.proofs.Fillings.{embedded_refused, embedded_dropped, embedded_kept, array_none, array_wrong, array_pointed, array_embedded, laid_wide, laid_empty, laid_refused, laid_dropped, laid_kept}
use Rattle.writers.proofs.write.Writer.+write.Goals as goal

-- `write_array`.

pub write_array-returns-in_default : goal.write_array-returns-in_default
write_array-returns-in_default t c =
    let g = c.args in
    let a = g.area.now in
    let at = g.at.now in
    let F = g.self.now.schema.now in
    let T = g.self.now.sheet.now in
    also_ok c.say.ensures (λ h. array_none T F a.round g.self.now.left a.progress a.bytes.now at.structure at.member a.safe c.requires.open c.requires.buffer at.value _ c.array_info.ensures _ _ c.in_default.is h)

pub write_array-returns-then-not-is_array_value : goal.write_array-returns-then-not-is_array_value
write_array-returns-then-not-is_array_value t c =
    let g = c.args in
    let a = g.area.now in
    let at = g.at.now in
    let F = g.self.now.schema.now in
    let T = g.self.now.sheet.now in
    record {
      same = (c.wrong.ensures.fills F).same;
      did = array_wrong T F a.round g.self.now.left a.progress a.bytes.now at.structure at.member a.safe c.requires.open c.requires.buffer at.value _ c.array_info.ensures _ c.in-Some.is _ c.value_row-row.ensures _ c.is_array_value.ensures _ _ (ap not c.if-not-is_array_value.true) (λ F. (c.wrong.ensures.fills F).did);
    }

pub write_array-returns-then-by_pointer : goal.write_array-returns-then-by_pointer
write_array-returns-then-by_pointer t c =
    let g = c.args in
    let a = g.area.now in
    let at = g.at.now in
    let F = g.self.now.schema.now in
    let T = g.self.now.sheet.now in
    also c.write_laid.ensures (λ h. array_pointed T F a.round g.self.now.left a.progress a.bytes.now at.structure at.member a.safe c.requires.open c.requires.buffer at.value _ c.array_info.ensures _ c.in-Some.is _ c.value_row-row.ensures _ c.is_array_value.ensures (ap not c.if-not-is_array_value.false) _ c.count_of-count.ensures _ c.by_pointer.ensures _ _ c.if-by_pointer.true h)

pub write_array-returns : goal.write_array-returns
write_array-returns t c =
    let g = c.args in
    let a = g.area.now in
    let at = g.at.now in
    let F = g.self.now.schema.now in
    let T = g.self.now.sheet.now in
    also c.write_embedded.ensures (λ h. array_embedded T F a.round g.self.now.left a.progress a.bytes.now at.structure at.member a.safe c.requires.open c.requires.buffer at.value _ c.array_info.ensures _ c.in-Some.is _ c.value_row-row.ensures _ c.is_array_value.ensures (ap not c.if-not-is_array_value.false) _ c.count_of-count.ensures _ c.by_pointer.ensures _ _ _ _ c.if-by_pointer.false c.high_half.ensures.0 c.min-count.ensures h)

-- `write_laid`.

pub write_laid-returns-then-not-fits : goal.write_laid-returns-then-not-fits
write_laid-returns-then-not-fits t c =
    let g = c.args in
    let a = g.area.now in
    let at = g.at.now in
    let F = g.self.now.schema.now in
    let T = g.self.now.sheet.now in
    also_ok c.too_small.ensures (λ h. laid_wide T F a.round g.self.now.left a.progress a.bytes.now at.structure at.member a.safe c.requires.open c.requires.buffer g.x g.rows.first g.rows.count _ c.fits.ensures _ _ (ap not c.if-not-fits.true) h)

pub write_laid-returns-then-rows-eq0 : goal.write_laid-returns-then-rows-eq0
write_laid-returns-then-rows-eq0 t c =
    let g = c.args in
    let a = g.area.now in
    let at = g.at.now in
    let F = g.self.now.schema.now in
    let T = g.self.now.sheet.now in
    record {
      same = record { bytes = refl; size = refl; round = refl };
      did = laid_empty T F a.round g.self.now.left a.progress a.bytes.now at.structure at.member a.safe c.requires.open c.requires.buffer g.x g.rows.first g.rows.count _ c.fits.ensures (ap not c.if-not-fits.false) c.if-rows-eq0.true;
    }

pub write_laid-returns-in_err-block : goal.write_laid-returns-in_err-block
write_laid-returns-in_err-block t c =
    let g = c.args in
    let a = g.area.now in
    let at = g.at.now in
    let F = g.self.now.schema.now in
    let T = g.self.now.sheet.now in
    let x = err_from_is_err_and c.from_residual.result c.from_residual.ensures.1 in
    let e = c.in_err-block.ensures in
    rw (x.1, x.2)
    record {
      same = e.same;
      did = laid_refused T F a.round g.self.now.left a.progress a.bytes.now at.structure at.member a.safe c.requires.open c.requires.buffer g.x g.rows.first g.rows.count _ c.fits.ensures (ap not c.if-not-fits.false) c.if-rows-eq0.false _ _ e.did _ _ refl;
    }

pub write_laid-returns-in_default : goal.write_laid-returns-in_default
write_laid-returns-in_default t c =
    let g = c.args in
    let a = g.area.now in
    let at = g.at.now in
    let F = g.self.now.schema.now in
    let T = g.self.now.sheet.now in
    let e = c.in_ok-block.ensures in
    record {
      same = e.same;
      did = laid_dropped T F a.round g.self.now.left a.progress a.bytes.now at.structure at.member a.safe c.requires.open c.requires.buffer g.x g.rows.first g.rows.count _ c.fits.ensures (ap not c.if-not-fits.false) c.if-rows-eq0.false _ _ (rw c.in_default.is at e.did) _ refl;
    }

pub write_laid-returns : goal.write_laid-returns
write_laid-returns t c =
    let g = c.args in
    let a = g.area.now in
    let at = g.at.now in
    let F = g.self.now.schema.now in
    let T = g.self.now.sheet.now in
    let e = c.in_ok-block.ensures in
    let f = c.lay_run.ensures in
    record {
      same = same_then e.same f.same;
      did = laid_kept T F a.round g.self.now.left a.progress a.bytes.now at.structure at.member a.safe c.requires.open c.requires.buffer g.x g.rows.first g.rows.count _ c.fits.ensures (ap not c.if-not-fits.false) c.if-rows-eq0.false _ _ (rw c.in-Some.is at e.did) _ _ _ _ refl e.same.size (rw (e.same.round, c.place-place.ensures) at f.did);
    }

-- `write_embedded`.

pub write_embedded-returns-in_err-element_run : goal.write_embedded-returns-in_err-element_run
write_embedded-returns-in_err-element_run t c =
    let g = c.args in
    let a = g.area.now in
    let at = g.at.now in
    let F = g.self.now.schema.now in
    let T = g.self.now.sheet.now in
    let x = err_from_is_err_and c.from_residual.result c.from_residual.ensures.1 in
    let e = c.in_err-element_run.ensures in
    rw (x.1, x.2)
    record {
      same = e.same;
      did = embedded_refused T F a.round g.self.now.left a.progress a.bytes.now at.structure at.member a.safe c.requires.open c.requires.buffer g.x g.rows.first g.rows.count _ _ e.did _ _ refl;
    }

pub write_embedded-returns-else-is_some : goal.write_embedded-returns-else-is_some
write_embedded-returns-else-is_some t c =
    let g = c.args in
    let a = g.area.now in
    let at = g.at.now in
    let F = g.self.now.schema.now in
    let T = g.self.now.sheet.now in
    let e = c.in_ok-element_run.ensures in
    record {
      same = e.same;
      did = embedded_dropped T F a.round g.self.now.left a.progress a.bytes.now at.structure at.member a.safe c.requires.open c.requires.buffer g.x g.rows.first g.rows.count _ _ e.did _ _ refl (sym c.is_some.ensures ∙ c.if-is_some.false);
    }

pub write_embedded-returns-then-is_some : goal.write_embedded-returns-then-is_some
write_embedded-returns-then-is_some t c =
    let g = c.args in
    let a = g.area.now in
    let at = g.at.now in
    let F = g.self.now.schema.now in
    let T = g.self.now.sheet.now in
    let e = c.in_ok-element_run.ensures in
    let f = c.embed.ensures in
    record {
      same = same_then e.same f.same;
      did = embedded_kept T F a.round g.self.now.left a.progress a.bytes.now at.structure at.member a.safe c.requires.open c.requires.buffer g.x g.rows.first g.rows.count _ _ e.did _ _ _ _ refl (sym c.is_some.ensures ∙ c.if-is_some.true) e.same.size (rw e.same.round at f.did);
    }

-- `element_run`.

pub element_run-returns-then-x-ne12 : goal.element_run-returns-then-x-ne12
element_run-returns-then-x-ne12 t c =
    let g = c.args in
    let at = g.at.now in
    let F = g.self.now.schema.now in
    let T = g.self.now.sheet.now in
    also c.plain_element_run.ensures (λ h. run_plain _ _ _ _ T F g.self.now.left at.structure at.member g.x g.rows.first g.rows.count _ _ c.if-x-ne12.true h)

pub element_run-returns-then-x-eq3 : goal.element_run-returns-then-x-eq3
element_run-returns-then-x-eq3 t c =
    let g = c.args in
    let at = g.at.now in
    let F = g.self.now.schema.now in
    let T = g.self.now.sheet.now in
    also c.pointer_run.ensures (λ h. run_pointers _ _ _ _ T F g.self.now.left at.structure at.member g.x g.rows.first g.rows.count _ _ c.if-x-ne12.false c.if-x-eq3.true h)

pub element_run-returns-in_default : goal.element_run-returns-in_default
element_run-returns-in_default t c =
    let g = c.args in
    let at = g.at.now in
    let F = g.self.now.schema.now in
    let T = g.self.now.sheet.now in
    record {
      same = (c.stop_run.ensures.yields F).same;
      did = run_missing _ _ _ _ T F g.self.now.left at.structure at.member g.x g.rows.first g.rows.count _ _ _ c.if-x-ne12.false c.if-x-eq3.false c.look_up.ensures.name_value c.in_default.is (λ F. rw c.into.ensures at (c.stop_run.ensures.yields F).did);
    }

pub element_run-returns : goal.element_run-returns
element_run-returns t c =
    let g = c.args in
    let at = g.at.now in
    let F = g.self.now.schema.now in
    let T = g.self.now.sheet.now in
    also c.struct_run.ensures (λ h. run_structs _ _ _ _ T F g.self.now.left at.structure at.member g.x g.rows.first g.rows.count _ c.in-Some.inner _ _ c.if-x-ne12.false c.if-x-eq3.false c.look_up.ensures.name_value c.in-Some.is h)
