-- `numbers::words::copy` meets its contract. Assumes nothing.
use mathlib.Core.Path.{◌∙◌}
use Prim.Native.Nat.{◌+◌}
use native.Mathlib.Omega.{arith}
use lib.ListN.{length-set}
use Rattle.numbers.proofs.Copies.{copy_turn, copy_done}
use Rattle.numbers.proofs.words.copy.Goals as goal

pub loop-i-preserved : goal.loop-i-preserved
loop-i-preserved c =
    let l = c.loop-i in
    (length-set l.s _ _ ∙ l.invariant.0, copy_turn l.s c.args.at l.i (omega arith) _ c.args.from.now c.loop-i-test.true l.invariant.1)

pub returns : goal.returns
returns c =
    let l = c.loop-i in
    copy_done l.s (c.args.at + l.i) _ c.args.from.now l.i c.loop-i-test.false l.invariant.1
