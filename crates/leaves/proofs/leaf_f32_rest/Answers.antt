-- `leaves::leaf_f32_rest` meets its contract. Assumes nothing.
use mathlib.Core.Path.{◌≡◌, sym, ap, subst, ◌∙◌}
use Prim.Native.Nat.{◌^◌}
use mir.Syntax.{w64}
use lib.IntN.{ℤ, pos, ◌-ℤ◌, ◌*ℤ◌}
use mir.Facts.{to_z-of_z}
use Rattle.conversions.specs.Single.{value}
use Rattle.conversions.specs.Round.{f32_of}
use Rattle.leaves.proofs.leaf_f32_rest.Goals as goal

pub returns : goal.returns
returns c =
    subst (λ (x : ℤ). x *ℤ pos (2 ^ 149) -ℤ value (f32_of x) ≡ c.f32_rest.result *ℤ pos (2 ^ 149)) (to_z-of_z c.ranges.x) c.f32_rest.ensures
    ∙ ap (λ (r : ℤ). r *ℤ pos (2 ^ 149)) (sym (to_z-of_z {w = w64} {z = c.f32_rest.result} (record { sfits = c.f32_rest.type_inv })))
