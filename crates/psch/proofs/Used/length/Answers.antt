-- `psch::Used::length` meets its contract. Assumes nothing.
use mathlib.Core.Path.{◌∙◌}
use native.Mathlib.Omega.{arith}
use Rattle.psch.proofs.Listing.{names_turn, names_none, sum_turn, sum_last}
use Rattle.psch.proofs.Used.length.Goals as goal

pub loop-name-preserved : goal.loop-name-preserved
loop-name-preserved c =
    let l = c.loop-name in
    let t = c.in-Some.ensures.steps in (
      t.0 ∙ l.invariant.0,
      sum_turn _ _ _ _ _ _ l.invariant.1 c.body_length.result c.read.result _
          (names_turn _ _ _ c.read.result t.1.0 (t.1.1 ∙ l.invariant.0) c.read.ensures) (omega arith) c.body_length.ensures,
    )

pub returns : goal.returns
returns c =
    let l = c.loop-name in
    let t = c.in-None.ensures.steps in
    sum_last _ _ _ _ _ _ l.invariant.1 (names_none _ (omega (arith, t.1.0, l.invariant.0)))
