-- `cells::plan::text` meets its contract. Assumes nothing.
use mathlib.Core.Logic.{inl, inr}
use native.Mathlib.Omega.{arith}
use Rattle.cells.proofs.Planning.{text_fixed, text_pointed, text_hashed, text_strange}
use Rattle.cells.proofs.plan.text.Goals as goal
use Rattle.cells.proofs.plan.text.Goals.{in_default-2-via-then-m-lt7, in_default-2-via-else-m-lt7+else-m-lt9}

pub returns-in-0 : goal.returns-in-0
returns-in-0 c = λ F d. rw c.fixed.ensures.0 (text_fixed F d c.args.m c.in-0.is c.fixed.ensures.1)

pub returns-in-1-to-3 : goal.returns-in-1-to-3
returns-in-1-to-3 c = λ F d. text_pointed F d c.args.m c.in-1-to-3.in_default-own.rest.1 c.in-1-to-3.if-m-lt4-own.true

pub returns-in-7 : goal.returns-in-7
returns-in-7 c = λ F d. text_hashed F d c.args.m (omega arith) (omega arith)

pub returns-in_default : goal.returns-in_default
returns-in_default c =
    λ F d. rw c.from.ensures
    (text_strange F d c.args.m (omega arith) (elim c.in_default-2.branch [ in_default-2-via-then-m-lt7 w ↦ inl (omega arith) | in_default-2-via-else-m-lt7+else-m-lt9 w ↦ inr (omega arith) ]))
