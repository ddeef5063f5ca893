-- `conversions::parse::after_plus` meets its contract. Assumes nothing.
use mathlib.Core.Path.{◌∙◌}
use Rattle.std.proofs.Common.{rules}
use native.Mathlib.Omega.{arith}
use Rattle.numbers.proofs.Parts.{part_rest}
use Rattle.conversions.proofs.Integers.{first_none, plus_there, plus_none}
use Rattle.conversions.proofs.parse.after_plus.Goals as goal

pub returns-in-43 : goal.returns-in-43
returns-in-43 c = part_rest c.args.s.now 1 ∙ plus_there c.args.s.now (search rules)

pub returns-in_default : goal.returns-in_default
returns-in_default c = plus_none c.args.s.now (λ h. omega (arith, first_none c.args.s.now (omega (arith, c.in_default.len_below))))

pub returns-in_default-2 : goal.returns-in_default-2
returns-in_default-2 c = plus_none c.args.s.now (search rules)
