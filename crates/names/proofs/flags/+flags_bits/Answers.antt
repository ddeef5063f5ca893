-- `names::flags::flags_bits` meets its contract: it calls itself with one level less. Assumes nothing.
use Rattle.std.proofs.lemmas.Result.{err_from_is_err_and}
use Rattle.std.specs.Prelude.{◌≡◌, suc, ◌-◌}
use mathlib.Core.Path.{sym, ap, ◌∙◌}
use native.Mathlib.Omega.{arith}
use Rattle.value.specs.Rows.{Row}
use Rattle.value.specs.Kind.{number_of}
use Rattle.names.specs.Entries.{all_of}
use Rattle.names.specs.Names.{flags_bits}
use Rattle.names.proofs.Splits
use Rattle.names.proofs.flags.+flags_bits.Goals as goal

pub loop-i-init : goal.loop-i-init
loop-i-init t c =
    let a = c.args in
    let z = c.if-levels-eq0.false in
    let e : a.levels ≡ suc (a.levels - 1) = omega arith in
    Splits.or_none_law _ ∙ Splits.flags_items a.levels (a.levels - 1) a.sheet.now (all_of a.entries) a.v _ _ e (sym c.in-Ok-Array.ensures ∙ ap number_of c.in-Ok-Array.field-0-is) c.first_child-first.ensures.0 c.child_count-i-end.ensures.0

pub returns-in_err-bits-in-Ok-Array : goal.returns-in_err-bits-in-Ok-Array
returns-in_err-bits-in-Ok-Array t c =
    let a = c.args in
    let l = c.loop-i in
    let p = err_from_is_err_and c.from_residual.result c.from_residual.ensures.1 in
    let e = sym (c.flags_bits.ensures ∙ ap (λ (v : Row). flags_bits (a.levels - 1) a.sheet.now (all_of a.entries) v) c.read_row.ensures) ∙ c.in_err-bits-in-Ok-Array.was in
    rw (p.1, p.2)
    (sym (Splits.items_err (a.levels - 1) a.sheet.now (all_of a.entries) c.first_child-first.result c.child_count-i-end.result l.i l.bits c.loop-i-test.true _ e) ∙ l.invariant)

pub loop-i-preserved : goal.loop-i-preserved
loop-i-preserved t c =
    let a = c.args in
    let l = c.loop-i in
    let e = sym (c.flags_bits.ensures ∙ ap (λ (v : Row). flags_bits (a.levels - 1) a.sheet.now (all_of a.entries) v) c.read_row.ensures) ∙ c.in_ok-bits-in-Ok-Array.was in
    sym (Splits.items_turn (a.levels - 1) a.sheet.now (all_of a.entries) c.first_child-first.result c.child_count-i-end.result l.i l.bits c.loop-i-test.true _ e) ∙ l.invariant

pub returns-after-loop-i : goal.returns-after-loop-i
returns-after-loop-i t c =
    let a = c.args in
    let l = c.loop-i in
    sym (Splits.items_done (a.levels - 1) a.sheet.now (all_of a.entries) c.first_child-first.result c.child_count-i-end.result l.i l.bits c.loop-i-test.false) ∙ l.invariant
