-- `coerce::whole::sign_extended` meets its contract. Assumes nothing.
use native.Mathlib.Omega.{arith}
use Rattle.coerce.proofs.Wholes
use Rattle.coerce.proofs.whole.sign_extended.Goals as goal

pub returns : goal.returns
returns c =
    let x = c.cast_signed in
    let y = c.from in
    Wholes.sign_extended_law c.args.bits _ x.result y.result (omega arith) x.ensures (record { sfits = x.type_inv }) y.ensures (record { sfits = y.type_inv }) c.cast_unsigned.ensures
