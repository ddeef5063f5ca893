-- `numbers::words::move_up` meets its contract. Assumes nothing.
use mathlib.Core.Path.{◌≡◌, ap, ◌∙◌}
use Prim.Native.Nat.{◌-◌, ◌+◌}
use native.Mathlib.Omega.{arith}
use lib.ListN.{length-set, take, drop, set, get_or}
use Rattle.numbers.specs.Words.{over}
use Rattle.numbers.proofs.Copies.{up_turn, up_done}
use Rattle.numbers.proofs.words.move_up.Goals as goal

pub loop-i-preserved : goal.loop-i-preserved
loop-i-preserved c =
    let l = c.loop-i in
    let a = c.args in
    let e : a.n - 1 - l.i ≡ a.n - l.i - 1 = omega arith in
    let f : a.n - (l.i + 1) ≡ a.n - l.i - 1 = omega arith in
    (length-set l.s _ _ ∙ l.invariant.0, rw (e, f) (up_turn l.s a.from a.to (a.n - l.i) _ (omega (arith, c.loop-i-test.true)) c.requires.0 (omega arith) l.invariant.1))

pub returns : goal.returns
returns c =
    let l = c.loop-i in
    let a = c.args in
    up_done l.s a.from a.to (a.n - l.i) _ (omega (arith, c.loop-i-test.false)) l.invariant.1
