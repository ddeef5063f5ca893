-- `conversions::parse::u64_of` meets its contract. Assumes nothing.
use mathlib.Core.Path.{ap, ◌∙◌}
use Prim.Native.Nat.{◌-◌, ◌^◌}
use Rattle.conversions.specs.Radix.{digits, unsigned}
use Rattle.conversions.proofs.parse.u64_of.Goals as goal

pub returns : goal.returns
unfolding unsigned
returns c = c.number_of.ensures ∙ ap (digits c.args.radix (2 ^ 64 - 1)) c.after_plus.ensures
