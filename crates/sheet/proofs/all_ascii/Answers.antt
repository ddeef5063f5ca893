-- `sheet::all_ascii` meets its contract. Assumes nothing.
use mathlib.Core.Path.{ap, ◌∙◌}
use Prim.Native.Nat.{ℕ}
use lib.Dec.{ltb}
use Rattle.sheet.proofs.Laws
use Rattle.sheet.proofs.all_ascii.Goals as goal

pub returns : goal.returns
returns c = ap (λ (x : ℕ). ltb x 128) c.largest.ensures ∙ Laws.largest_below 128 0 c.args.s.now
