-- `texts::float::exponent` meets its contract. Assumes nothing.
use mathlib.Core.Path.{ap, ◌∙◌}
use Rattle.std.proofs.Common.{rules}
use Rattle.numbers.proofs.Parts.{part_rest}
use Rattle.texts.specs.Float
use Rattle.texts.proofs.Decimals.{mark_there, mark_none, mark_past}
use Rattle.texts.proofs.float.exponent.Goals as goal

pub returns-in-empty : goal.returns-in-empty
returns-in-empty c = mark_past c.args.s.now c.in-empty.len_below

pub returns-in-101 : goal.returns-in-101
returns-in-101 c =
    c.only_digits.ensures ∙ ap Float.only_digits (c.after_sign.ensures ∙ ap Float.after_sign (part_rest c.args.s.now 1))
    ∙ mark_there c.args.s.now c.in-101.len_at_least (search rules)

pub returns-in_default : goal.returns-in_default
returns-in_default c = mark_none c.args.s.now c.in_default.len_at_least (search rules)
