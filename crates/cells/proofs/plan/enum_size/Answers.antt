-- `cells::plan::enum_size` meets its contract. Assumes nothing.
use mathlib.Core.Path.{refl}
use native.Mathlib.Omega.{arith}
use borrow.Author.Tests.{ne_eqb}
use Rattle.cells.proofs.plan.enum_size.Goals as goal

pub returns-in-0 : goal.returns-in-0
returns-in-0 c = (rw c.in-0.is refl, omega arith)

pub returns-in-1 : goal.returns-in-1
returns-in-1 c = (rw c.in-1.is refl, omega arith)

pub returns-in_default : goal.returns-in_default
returns-in_default c =
    (rw (ne_eqb c.args.sub 0 c.in_default.in_default-own.rest.0.1, ne_eqb c.args.sub 1 c.in_default.in_default-own.rest.1) refl, omega arith)
