-- `runs::vector_stride` meets its contract. Assumes nothing.
use mathlib.Core.Path.{refl}
use borrow.Author.Tests.{eq-eqb, ne_eqb}
use Rattle.runs.proofs.vector_stride.Goals as goal

pub returns-then-n-eq2 : goal.returns-then-n-eq2
returns-then-n-eq2 c = rw (eq-eqb c.args.n 2 c.if-n-eq2.true) refl

pub returns-else-n-eq2 : goal.returns-else-n-eq2
returns-else-n-eq2 c = rw (ne_eqb c.args.n 2 c.if-n-eq2.false) refl
