-- `runs::slot_block` meets its contract. Assumes nothing.
use mathlib.Core.Path.{refl}
use borrow.Author.Tests.{eq-eqb, ne_eqb}
use Rattle.runs.proofs.slot_block.Goals as goal

pub returns-then-sub-eq3 : goal.returns-then-sub-eq3
returns-then-sub-eq3 c = rw (eq-eqb c.args.sub 3 c.if-sub-eq3.true) refl

pub returns-else-sub-eq3 : goal.returns-else-sub-eq3
returns-else-sub-eq3 c = rw (ne_eqb c.args.sub 3 c.if-sub-eq3.false) refl
