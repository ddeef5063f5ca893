-- `members::slots::slot_size` meets its contract. Assumes nothing.
use mathlib.Core.Path.{refl}
use native.Mathlib.Omega.{arith}
use borrow.Author.Tests.{ne_eqb}
use Rattle.members.proofs.slots.slot_size.Goals as goal

pub returns-then-sub-eq3 : goal.returns-then-sub-eq3
returns-then-sub-eq3 c = (rw c.if-sub-eq3.true refl, omega arith, omega arith)

pub returns-else-sub-eq3 : goal.returns-else-sub-eq3
returns-else-sub-eq3 c = (rw (ne_eqb c.args.sub 3 c.if-sub-eq3.false) refl, omega arith, omega arith)
