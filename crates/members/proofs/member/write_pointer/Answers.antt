-- `members::member::write_pointer` meets its contract. Assumes nothing.
use mathlib.Core.Path.{sym, ◌∙◌}
use Prim.Native.Nat.{◌+◌}
use native.Mathlib.Omega.{arith}
use lib.ListN.{length}
use borrow.Author.Tests.{leb-true}
use Rattle.members.proofs.PointerMembers.{text_short, pointer_long, pointer_wrong, pointer_slot}
use Rattle.area.proofs.Stepping.{also_ok, also}
use Rattle.members.proofs.member.write_pointer.Goals as goal

pub returns-then-not-fits : goal.returns-then-not-fits
returns-then-not-fits c = λ F.
    let g = c.args in
    let t = g.at.now in
    let a = g.area.now in
    also_ok c.too_small.ensures (λ h. pointer_long a.round (length a.bytes.now) a.progress a.bytes.now g.sheet.now F t.structure t.member t.value _ _ a.safe c.requires.open
    (rw (← c.slot_size.ensures.0) (sym c.fits.ensures ∙ c.if-not-fits.true)) h)

pub returns-then-not-has_str : goal.returns-then-not-has_str
returns-then-not-has_str c = λ F.
    let g = c.args in
    let t = g.at.now in
    let a = g.area.now in
    let e = c.wrong.ensures.fills F in
    record {
      same = e.same;
      did = pointer_wrong a.round (length a.bytes.now) a.progress a.bytes.now g.sheet.now F t.structure t.member t.value c.value_row-row.result c.value_row-row.ensures
          (rw (← c.slot_size.ensures.0) (sym c.fits.ensures ∙ c.if-not-fits.false)) _ _
          (sym (c.has_str.ensures g.sheet.now) ∙ c.if-not-has_str.true) e.did;
    }

pub text_slot-requires : goal.text_slot-requires
text_slot-requires c =
    let t = c.args.at.now in
    let g = c.args in
    let y = leb-true (t.member.offset + c.slot_size.result) t.structure.size (sym c.fits.ensures ∙ c.if-not-fits.false) in (
      omega (arith, c.requires.buffer),
      omega (arith, c.requires.buffer, y, c.slot_size.ensures.0),
      text_short g.sheet.now c.value_row-row.result c.str_of.result.now (omega (arith, c.value_row-row.type_inv)) c.str_of.ensures,
    )

pub returns : goal.returns
returns c = λ F.
    let g = c.args in
    let t = g.at.now in
    let a = g.area.now in
    also c.text_slot.ensures (λ h. pointer_slot a.round (length a.bytes.now) a.progress a.bytes.now g.sheet.now F t.structure t.member t.value c.value_row-row.result c.value_row-row.ensures
    (rw (← c.slot_size.ensures.0) (sym c.fits.ensures ∙ c.if-not-fits.false)) c.str_of.result.now _ _
    (sym (c.has_str.ensures g.sheet.now) ∙ c.if-not-has_str.false) c.str_of.ensures c.requires.buffer (rw c.place-place.ensures at h))
