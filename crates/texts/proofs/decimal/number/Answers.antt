-- `texts::decimal::number` meets its contract: one digit more, or none. Assumes nothing.
use Rattle.std.specs.Prelude.{length}
use Prim.Native.Nat.{◌-◌}
use mathlib.Core.Path.{◌≡◌, refl, sym, ◌∙◌}
use native.Mathlib.Omega.{arith}
use Rattle.texts.proofs.Digits.{next_digit, no_digit, room_left, digit_fits, number_end}
use Rattle.texts.proofs.decimal.number.Goals as goal

pub loop-b-init : goal.loop-b-init
loop-b-init c =
    let e : length c.args.s.now - 0 ≡ length c.args.s.now = omega arith in
    (refl, rw e c.requires)

pub returns-then-not-is_ascii_digit : goal.returns-then-not-is_ascii_digit
returns-then-not-is_ascii_digit c =
    let l = c.loop-b in
    sym (l.invariant.0 ∙ no_digit c.args.s.now l.b-index l.m c.loop-b-test.true (sym c.is_ascii_digit.ensures.value ∙ c.if-not-is_ascii_digit.true))

pub overflow_mul-m : goal.overflow_mul-m
overflow_mul-m c =
    let l = c.loop-b in
    omega (arith, digit_fits c.args.s.now l.b-index l.m c.loop-b-test.true (sym c.is_ascii_digit.ensures.value ∙ c.if-not-is_ascii_digit.false) l.invariant.1)

pub overflow_add-m : goal.overflow_add-m
overflow_add-m c =
    let l = c.loop-b in
    omega
    (arith, c.from.ensures, digit_fits c.args.s.now l.b-index l.m c.loop-b-test.true (sym c.is_ascii_digit.ensures.value ∙ c.if-not-is_ascii_digit.false) l.invariant.1)

pub loop-b-preserved : goal.loop-b-preserved
loop-b-preserved c =
    let l = c.loop-b in
    let d = sym c.is_ascii_digit.ensures.value ∙ c.if-not-is_ascii_digit.false in
    rw c.from.ensures
    (l.invariant.0 ∙ next_digit c.args.s.now l.b-index l.m c.loop-b-test.true d, room_left c.args.s.now l.b-index l.m c.loop-b-test.true d l.invariant.1)

pub returns : goal.returns
returns c = sym (c.loop-b.invariant.0 ∙ number_end c.args.s.now c.loop-b.b-index c.loop-b.m c.loop-b-test.false)
