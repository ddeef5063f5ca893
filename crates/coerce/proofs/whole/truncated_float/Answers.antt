-- `coerce::whole::truncated_float` meets its contract: a decimal has at most nine places. Assumes nothing.
use mathlib.Core.Path.{sym, ◌∙◌}
use Rattle.texts.proofs.Grammar.{described}
use Rattle.coerce.proofs.whole.truncated_float.Goals as goal

pub to_i64-requires : goal.to_i64-requires
to_i64-requires c = (described c.args.s.now c.in-Some.x (sym c.decimal_of.ensures ∙ c.in-Some.is)).places_high
