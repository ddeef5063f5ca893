-- `numbers::words::move_down` meets its contract. Assumes nothing.
use mathlib.Core.Path.{◌∙◌}
use native.Mathlib.Omega.{arith}
use lib.ListN.{length-set}
use Rattle.numbers.proofs.Copies.{down_turn, down_done}
use Rattle.numbers.proofs.words.move_down.Goals as goal

pub loop-i-preserved : goal.loop-i-preserved
loop-i-preserved c =
    let l = c.loop-i in
    let a = c.args in
    (length-set l.s _ _ ∙ l.invariant.0, down_turn l.s a.from a.to l.i _ a.n c.requires.0 c.loop-i-test.true (omega arith) l.invariant.1)

pub returns : goal.returns
returns c =
    let l = c.loop-i in
    let a = c.args in
    down_done l.s a.from a.to l.i _ a.n c.loop-i-test.false l.invariant.1
