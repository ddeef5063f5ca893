-- `members::look_up` meets its contract. Assumes nothing.
use mathlib.Core.Path.{refl}
use Rattle.members.proofs.Looking.{looked_missing, looked_at_law}
use Rattle.members.proofs.look_up.Goals as goal

pub returns-in_err-place : goal.returns-in_err-place
returns-in_err-place c =
    let f = c.in_err-place.ensures in
    looked_missing c.args.schema.now c.args.name _ c.from_residual.ensures f.result_value (f.structure_value refl)

pub returns : goal.returns
returns c =
    let f = c.in_ok-place.ensures in
    looked_at_law c.args.schema.now c.args.name c.in_ok-place.place _ f.result_value (f.structure_value refl) c.def_at.ensures
