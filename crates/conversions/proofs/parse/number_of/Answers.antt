-- `conversions::parse::number_of` meets its contract. Assumes nothing.
use mathlib.Core.Path.{sym, ◌∙◌}
use native.Mathlib.Omega.{arith}
use Rattle.conversions.proofs.Integers.{digits_is, digits_none, turn, bad, full, done}
use Rattle.conversions.proofs.parse.number_of.Goals as goal

pub returns-then-is_empty : goal.returns-then-is_empty
returns-then-is_empty c = sym (digits_none _ _ _ (grind arith))

pub loop-b-init : goal.loop-b-init
loop-b-init c = (omega arith, digits_is _ _ _ (grind arith))

pub returns-in_err-d : goal.returns-in_err-d
returns-in_err-d c =
    let l = c.loop-b in
    c.from_residual.ensures ∙ sym (sym l.invariant.1 ∙ bad _ _ (omega arith) c.args.s.now l.n l.b-index _ c.loop-b-test.true c.from.ensures c.in_err-d.ensures.value)

pub returns-in_err-checked_mul : goal.returns-in_err-checked_mul
returns-in_err-checked_mul c =
    let l = c.loop-b in
    c.from_residual-in_err-checked_mul.ensures
    ∙ sym
    (sym l.invariant.1
    ∙ full _ _ (omega arith) c.args.s.now l.n l.b-index _ c.loop-b-test.true c.from.ensures c.in_ok-d.ensures.value.0 (omega (arith, c.in_err-checked_mul.ensures)))

pub returns-in_err-n : goal.returns-in_err-n
returns-in_err-n c =
    let l = c.loop-b in
    c.from_residual-in_err-n.ensures
    ∙ sym
    (sym l.invariant.1
    ∙ full _ _ (omega arith) c.args.s.now l.n l.b-index _ c.loop-b-test.true c.from.ensures c.in_ok-d.ensures.value.0
    (omega (arith, c.in_err-n.ensures, c.in_ok-checked_mul.ensures.1, c.in_ok-d.ensures.value.1, c.from-in-loop-b.ensures)))

pub loop-b-preserved : goal.loop-b-preserved
loop-b-preserved c =
    let l = c.loop-b in (
      omega (arith, c.in_ok-n.ensures.0, c.in_ok-n.ensures.1),
      sym
          (turn _ _ (omega arith) c.args.s.now l.n l.b-index _ c.loop-b-test.true c.from.ensures c.in_ok-n.n c.in_ok-d.ensures.value.0
          (omega (arith, c.in_ok-n.ensures.1, c.in_ok-checked_mul.ensures.1, c.in_ok-d.ensures.value.1, c.from-in-loop-b.ensures)))
          ∙ l.invariant.1,
    )

pub returns : goal.returns
returns c =
    let l = c.loop-b in
    sym (sym l.invariant.1 ∙ done _ _ c.args.s.now l.n l.b-index c.loop-b-test.false l.invariant.0)
