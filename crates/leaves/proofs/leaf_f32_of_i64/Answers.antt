-- `leaves::leaf_f32_of_i64` meets its contract. Assumes nothing.
use mathlib.Core.Path.{subst}
use lib.IntN.{ℤ}
use mir.Facts.{to_z-of_z}
use Rattle.conversions.specs.Round.{Rounded}
use Rattle.leaves.proofs.leaf_f32_of_i64.Goals as goal

pub returns : goal.returns
returns c = subst (λ (x : ℤ). Rounded x c.f32_of_i64.result) (to_z-of_z c.ranges.x) c.f32_of_i64.ensures
