-- `texts::float::after_sign` meets its contract. Assumes nothing.
use mathlib.Core.Path.{◌∙◌}
use Rattle.std.proofs.Common.{rules}
use Rattle.numbers.proofs.Parts.{part_rest}
use Rattle.texts.proofs.Decimals.{sign_there, sign_none, sign_past}
use Rattle.texts.proofs.float.after_sign.Goals as goal

pub returns-in-43 : goal.returns-in-43
returns-in-43 c = part_rest c.args.s.now 1 ∙ sign_there c.args.s.now (search rules)

pub returns-in_default : goal.returns-in_default
returns-in_default c = sign_past c.args.s.now c.in_default.len_below

pub returns-in_default-2 : goal.returns-in_default-2
returns-in_default-2 c = sign_none c.args.s.now (search rules)
