-- `coerce::whole::float_text` meets its contract: a decimal has at most nine places. Assumes nothing.
use mathlib.Core.Path.{sym, ◌∙◌}
use Rattle.texts.proofs.Grammar.{described}
use Rattle.coerce.proofs.whole.float_text.Goals as goal

pub to_f32-requires : goal.to_f32-requires
to_f32-requires c = (described c.args.s.now c.in-Some.x (sym c.decimal_of.ensures ∙ c.in-Some.is)).places_high
