-- `runs::integer_block` meets its contract. Assumes nothing.
use mathlib.Core.Path.{refl}
use borrow.Author.Tests.{le-leb, lt-leb, eq-eqb, ne_eqb}
use Rattle.runs.proofs.integer_block.Goals as goal

pub returns-then-k-le1 : goal.returns-then-k-le1
returns-then-k-le1 c = rw (le-leb c.args.k 1 c.if-k-le1.true) refl

pub returns-then-k-le2 : goal.returns-then-k-le2
returns-then-k-le2 c =
    let a = c.args in
    rw (lt-leb a.k 1 c.if-k-le1.false, le-leb a.k 2 c.if-k-le2.true) refl

pub returns-then-ty-eq5 : goal.returns-then-ty-eq5
returns-then-ty-eq5 c =
    let a = c.args in
    rw (lt-leb a.k 1 c.if-k-le1.false, lt-leb a.k 2 c.if-k-le2.false, eq-eqb a.ty 5 c.if-ty-eq5.true) refl

pub returns-else-ty-eq5 : goal.returns-else-ty-eq5
returns-else-ty-eq5 c =
    let a = c.args in
    rw (lt-leb a.k 1 c.if-k-le1.false, lt-leb a.k 2 c.if-k-le2.false, ne_eqb a.ty 5 c.if-ty-eq5.false) refl
