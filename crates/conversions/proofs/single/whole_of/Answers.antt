-- `conversions::single::whole_of` meets its contract, by the exponent. Assumes nothing.
use mathlib.Core.Path.{sym}
use native.Mathlib.Omega.{arith}
use Rattle.conversions.proofs.Trunc.{whole_none, whole_mid, whole_big}
use Rattle.conversions.proofs.single.whole_of.Goals as goal

pub returns-then-e-lt127 : goal.returns-then-e-lt127
returns-then-e-lt127 c = sym (whole_none c.args.p (omega arith))

pub returns-then-e-lt150 : goal.returns-then-e-lt150
returns-then-e-lt150 c = rw c.from-c.ensures (whole_mid c.args.p (omega arith) (omega arith))

pub returns-else-e-lt150 : goal.returns-else-e-lt150
returns-else-e-lt150 c = rw c.from-c.ensures (whole_big c.args.p (omega arith) c.requires)
