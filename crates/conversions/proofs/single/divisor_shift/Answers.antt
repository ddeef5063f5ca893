-- `conversions::single::divisor_shift` meets its contract: d has at most 31 digits of 64. Assumes nothing.
use native.Mathlib.Omega.{arith}
use Rattle.conversions.proofs.Ratio.{v_low, shift_23}
use Rattle.conversions.proofs.single.divisor_shift.Goals as goal

pub overflow_sub-result : goal.overflow_sub-result
overflow_sub-result c = omega (arith, v_low c.args.d c.requires.0 c.requires.1)

pub overflow_sub-result-else-t-d : goal.overflow_sub-result-else-t-d
overflow_sub-result-else-t-d c = omega (arith, v_low c.args.d c.requires.0 c.requires.1)

pub returns-else-t-d : goal.returns-else-t-d
returns-else-t-d c = shift_23 c.args.d c.requires.0 c.requires.1 c.args.t c.if-t-d.false
