-- A member, and a structure in a member. Assumes nothing.
use mathlib.Core.Path.{refl, sym, ◌∙◌}
use native.Mathlib.Omega.{arith}
use lib.ListN.{length}
use borrow.Author.Rules.{rules}
use borrow.Author.Tests.{eqb-true, eqb-false}
use Rattle.std.proofs.lemmas.Result.{err_from_is_err_and}
use Rattle.area.proofs.Stepping.{same_then, also_ok, also}
use Rattle.writers.proofs.Kindly.{member_as_structure, member_as_array, member_as_map, member_as_plain, structure_wrong, structure_inline, structure_pointed}
use Rattle.writers.proofs.Inlines.{inline_missing, inline_long, inline_refused, inline_done}
use Rattle.writers.proofs.Pointers.{pointed_long, pointed_absent, pointed_other, pointed_refused, pointed_nothing, pointed_at, point_missing, point_refused, point_unlaid, point_laid}
use Rattle.writers.proofs.write.Writer.+write.Goals as goal

-- `write_member`.

pub write_member-returns-in-12 : goal.write_member-returns-in-12
write_member-returns-in-12 t c =
    let g = c.args in
    let at = g.at.now in
    let F = g.self.now.schema.now in
    let T = g.self.now.sheet.now in
    also c.write_structure.ensures (λ h. member_as_structure _ _ _ _ T F g.self.now.left g.depths at.structure at.member at.value _ _ c.in-12.is h)

pub write_member-returns-in-13 : goal.write_member-returns-in-13
write_member-returns-in-13 t c =
    let g = c.args in
    let at = g.at.now in
    let F = g.self.now.schema.now in
    let T = g.self.now.sheet.now in
    also c.write_array.ensures (λ h. member_as_array _ _ _ _ T F g.self.now.left g.depths at.structure at.member at.value _ _ c.in-13.is h)

pub write_member-returns-in-16 : goal.write_member-returns-in-16
write_member-returns-in-16 t c =
    let g = c.args in
    let at = g.at.now in
    let F = g.self.now.schema.now in
    let T = g.self.now.sheet.now in
    also c.write_map.ensures (λ h. member_as_map _ _ _ _ T F g.self.now.left g.depths at.structure at.member at.value _ _ c.in-16.is h)

pub write_member-returns-in_default : goal.write_member-returns-in_default
write_member-returns-in_default t c =
    let g = c.args in
    let at = g.at.now in
    let F = g.self.now.schema.now in
    let T = g.self.now.sheet.now in
    also c.write_plain.ensures (λ h. member_as_plain _ _ _ _ T F g.self.now.left g.depths at.structure at.member at.value _ _ (omega arith) (omega arith) (omega arith) h)

-- `write_structure`.

pub write_structure-returns-then-not-is_struct_value : goal.write_structure-returns-then-not-is_struct_value
write_structure-returns-then-not-is_struct_value t c =
    let g = c.args in
    let at = g.at.now in
    let F = g.self.now.schema.now in
    let T = g.self.now.sheet.now in
    record {
      same = (c.wrong.ensures.fills F).same;
      did = structure_wrong _ _ _ _ T F g.self.now.left g.depths at.structure at.member at.value _ _ _ _ c.value_row.ensures c.is_struct_value.ensures c.if-not-is_struct_value.true (λ F. (c.wrong.ensures.fills F).did);
    }

pub write_structure-returns-then-at-eq0 : goal.write_structure-returns-then-at-eq0
write_structure-returns-then-at-eq0 t c =
    let g = c.args in
    let at = g.at.now in
    let F = g.self.now.schema.now in
    let T = g.self.now.sheet.now in
    also c.write_inline.ensures (λ h. structure_inline _ _ _ _ T F g.self.now.left g.depths at.structure at.member at.value _ _ _ _ c.value_row.ensures c.is_struct_value.ensures c.if-not-is_struct_value.false c.if-at-eq0.true h)

pub write_structure-returns : goal.write_structure-returns
write_structure-returns t c =
    let g = c.args in
    let at = g.at.now in
    let F = g.self.now.schema.now in
    let T = g.self.now.sheet.now in
    also c.write_pointed.ensures (λ h. structure_pointed _ _ _ _ T F g.self.now.left g.depths at.structure at.member at.value _ _ _ _ c.value_row.ensures c.is_struct_value.ensures c.if-not-is_struct_value.false c.if-at-eq0.false h)

-- `write_inline`.

pub write_inline-returns-in_default : goal.write_inline-returns-in_default
write_inline-returns-in_default t c =
    let g = c.args in
    let a = g.area.now in
    let at = g.at.now in
    let F = g.self.now.schema.now in
    let T = g.self.now.sheet.now in
    also_ok c.say.ensures (λ h. inline_missing a.round (length a.bytes.now) a.progress a.bytes.now T F g.self.now.left g.depths at.structure at.member _ _ _ _ a.safe c.requires.open c.look_up.ensures.name_value c.in_default.is h)

pub write_inline-returns-then-not-fits : goal.write_inline-returns-then-not-fits
write_inline-returns-then-not-fits t c =
    let g = c.args in
    let a = g.area.now in
    let at = g.at.now in
    let F = g.self.now.schema.now in
    let T = g.self.now.sheet.now in
    also_ok c.too_small.ensures (λ h. inline_long a.round (length a.bytes.now) a.progress a.bytes.now T F g.self.now.left g.depths at.structure at.member _ _ c.in-Some.inner _ _ _ a.safe c.requires.open c.look_up.ensures.name_value c.in-Some.is c.fits.ensures c.if-not-fits.true h)

pub write_inline-returns-in_err-write_struct : goal.write_inline-returns-in_err-write_struct
write_inline-returns-in_err-write_struct t c =
    let g = c.args in
    let a = g.area.now in
    let at = g.at.now in
    let F = g.self.now.schema.now in
    let T = g.self.now.sheet.now in
    let x = err_from_is_err_and c.from_residual.result c.from_residual.ensures.1 in
    let e = c.in_err-write_struct.ensures in
    rw (x.1, x.2)
    record {
      same = e.same;
      did = inline_refused a.round (length a.bytes.now) a.progress a.bytes.now T F g.self.now.left g.depths at.structure at.member _ _ c.in-Some.inner _ _ _ _ _ _ c.look_up.ensures.name_value c.in-Some.is c.fits.ensures c.if-not-fits.false (c.from.ensures T) e.did refl;
    }

pub write_inline-returns : goal.write_inline-returns
write_inline-returns t c =
    let g = c.args in
    let a = g.area.now in
    let at = g.at.now in
    let F = g.self.now.schema.now in
    let T = g.self.now.sheet.now in
    let e = c.in_ok-write_struct.ensures in
    let b = c.write_struct.new.area in
    record {
      same = record { bytes = e.same.bytes; size = search (rules, e.same.size); round = e.same.round };
      did = inline_done a.round (length a.bytes.now) a.progress a.bytes.now T F g.self.now.left g.depths at.structure at.member _ _ c.in-Some.inner _ _ _ b.progress b.bytes.now _ a.safe c.requires.buffer c.look_up.ensures.name_value c.in-Some.is c.fits.ensures c.if-not-fits.false (c.from.ensures T) e.did refl (rw c.place.ensures at c.shift.ensures);
    }

-- `write_pointed`.

pub write_pointed-returns-then-not-fits : goal.write_pointed-returns-then-not-fits
write_pointed-returns-then-not-fits t c =
    let g = c.args in
    let a = g.area.now in
    let at = g.at.now in
    let F = g.self.now.schema.now in
    let T = g.self.now.sheet.now in
    also_ok c.too_small.ensures (λ h. pointed_long a.round (length a.bytes.now) a.progress a.bytes.now T F g.self.now.left at.structure at.member at.value _ _ _ a.safe c.requires.open c.fits.ensures c.if-not-fits.true h)

pub write_pointed-returns-in_default : goal.write_pointed-returns-in_default
write_pointed-returns-in_default t c =
    let g = c.args in
    let a = g.area.now in
    let at = g.at.now in
    let F = g.self.now.schema.now in
    let T = g.self.now.sheet.now in
    record {
      same = record { bytes = refl; size = refl; round = refl };
      did = pointed_absent a.round (length a.bytes.now) a.progress a.bytes.now T F g.self.now.left at.structure at.member at.value _ a.safe c.fits.ensures c.if-not-fits.false c.in_default.is;
    }

pub write_pointed-returns-then-not-is : goal.write_pointed-returns-then-not-is
write_pointed-returns-then-not-is t c =
    let g = c.args in
    let a = g.area.now in
    let at = g.at.now in
    let F = g.self.now.schema.now in
    let T = g.self.now.sheet.now in
    record {
      same = record { bytes = refl; size = refl; round = refl };
      did = pointed_other a.round (length a.bytes.now) a.progress a.bytes.now T F g.self.now.left at.structure at.member at.value _ c.in-Some.r _ a.safe c.fits.ensures c.if-not-fits.false c.in-Some.is c.read_row.ensures (eqb-false _ _ (sym c.is.ensures ∙ c.if-not-is.true));
    }

pub write_pointed-returns-in_err-x : goal.write_pointed-returns-in_err-x
write_pointed-returns-in_err-x t c =
    let g = c.args in
    let a = g.area.now in
    let at = g.at.now in
    let F = g.self.now.schema.now in
    let T = g.self.now.sheet.now in
    let x = err_from_is_err_and c.from_residual.result c.from_residual.ensures.1 in
    let e = c.in_err-x.ensures in
    rw (x.1, x.2)
    record {
      same = e.same;
      did = pointed_refused a.round (length a.bytes.now) a.progress a.bytes.now T F g.self.now.left at.structure at.member at.value _ c.in-Some.r _ _ _ _ _ c.fits.ensures c.if-not-fits.false c.in-Some.is c.read_row.ensures (eqb-true _ _ (sym c.is.ensures ∙ c.if-not-is.false)) e.did refl;
    }

pub write_pointed-returns-in_default-2 : goal.write_pointed-returns-in_default-2
write_pointed-returns-in_default-2 t c =
    let g = c.args in
    let a = g.area.now in
    let at = g.at.now in
    let F = g.self.now.schema.now in
    let T = g.self.now.sheet.now in
    let e = c.in_ok-x.ensures in
    record {
      same = e.same;
      did = pointed_nothing a.round (length a.bytes.now) a.progress a.bytes.now T F g.self.now.left at.structure at.member at.value _ c.in-Some.r _ _ _ _ c.fits.ensures c.if-not-fits.false c.in-Some.is c.read_row.ensures (eqb-true _ _ (sym c.is.ensures ∙ c.if-not-is.false)) (rw c.in_default-2.is at e.did) refl;
    }

pub write_pointed-returns-in-Some-2 : goal.write_pointed-returns-in-Some-2
write_pointed-returns-in-Some-2 t c =
    let g = c.args in
    let a = g.area.now in
    let at = g.at.now in
    let F = g.self.now.schema.now in
    let T = g.self.now.sheet.now in
    let e = c.in_ok-x.ensures in
    record {
      same = record { bytes = e.same.bytes; size = search (rules, e.same.size); round = e.same.round };
      did = pointed_at a.round (length a.bytes.now) a.progress a.bytes.now T F g.self.now.left at.structure at.member at.value _ c.in-Some.r _ _ _ _ _ _ c.requires.buffer c.fits.ensures c.if-not-fits.false c.in-Some.is c.read_row.ensures (eqb-true _ _ (sym c.is.ensures ∙ c.if-not-is.false)) (rw c.in-Some-2.is at e.did) refl (rw c.place-place.ensures at c.put_pointer.ensures);
    }

-- `point_to`.

pub point_to-returns-in_default : goal.point_to-returns-in_default
point_to-returns-in_default t c =
    let g = c.args in
    let a = g.area.now in
    let at = g.at.now in
    let F = g.self.now.schema.now in
    let T = g.self.now.sheet.now in
    also_ok c.say.ensures (λ h. point_missing a.round (length a.bytes.now) a.progress a.bytes.now T F g.self.now.left at.structure at.member g.reference _ _ _ _ _ a.safe c.requires c.read_row.ensures c.own_type.ensures.owned c.in_default.is h)

pub point_to-returns-in_err-write_struct : goal.point_to-returns-in_err-write_struct
point_to-returns-in_err-write_struct t c =
    let g = c.args in
    let a = g.area.now in
    let at = g.at.now in
    let F = g.self.now.schema.now in
    let T = g.self.now.sheet.now in
    let x = err_from_is_err_and c.from_residual.result c.from_residual.ensures.1 in
    let e = c.in_err-write_struct.ensures in
    rw (x.1, x.2)
    record {
      same = e.same;
      did = point_refused a.round (length a.bytes.now) a.progress a.bytes.now T F g.self.now.left at.structure at.member g.reference _ _ _ c.in-Some.inner _ _ _ _ _ c.read_row.ensures c.own_type.ensures.owned c.in-Some.is refl e.did refl;
    }

pub point_to-returns-in_err-x : goal.point_to-returns-in_err-x
point_to-returns-in_err-x t c =
    let g = c.args in
    let a = g.area.now in
    let at = g.at.now in
    let F = g.self.now.schema.now in
    let T = g.self.now.sheet.now in
    let x = err_from_is_err_and c.from_residual-in_err-x.result c.from_residual-in_err-x.ensures.1 in
    let e = c.in_ok-write_struct.ensures in
    let b = c.write_struct.new.area in
    let f = c.in_err-x.ensures in
    rw (x.1, x.2)
    record {
      same = same_then e.same f.same;
      did = point_unlaid a.round (length a.bytes.now) a.progress a.bytes.now T F g.self.now.left at.structure at.member g.reference _ _ _ c.in-Some.inner _ _ b.progress _ _ _ _ _ _ c.read_row.ensures c.own_type.ensures.owned c.in-Some.is refl e.did refl e.same.size (rw e.same.round at f.did) refl;
    }

pub point_to-returns : goal.point_to-returns
point_to-returns t c =
    let g = c.args in
    let a = g.area.now in
    let at = g.at.now in
    let F = g.self.now.schema.now in
    let T = g.self.now.sheet.now in
    let e = c.in_ok-write_struct.ensures in
    let b = c.write_struct.new.area in
    let f = c.in_ok-x.ensures in
    record {
      same = same_then e.same f.same;
      did = point_laid a.round (length a.bytes.now) a.progress a.bytes.now T F g.self.now.left at.structure at.member g.reference _ _ _ c.in-Some.inner _ _ b.progress _ _ _ _ _ _ a.safe c.read_row.ensures c.own_type.ensures.owned c.in-Some.is refl e.did refl e.same.size (rw e.same.round at f.did) refl;
    }
