-- `definitions::members::read_entry` meets its contract. Assumes nothing.
use Prim.Native.Nat.{◌+◌, ◌*◌}
use native.Mathlib.Omega.{arith}
use Rattle.definitions.proofs.Fields.{from_sum, entry_is_law}
use Rattle.definitions.proofs.members.read_entry.Goals as goal

pub returns : goal.returns
returns c =
    let a = c.args in
    entry_is_law a.file.now (a.place + 4 + 8 * a.k) _ (from_sum a.file.now _ _ _ _ c.part_from-here.ensures c.saturating_add.ensures (omega arith) (omega arith))
    _ _ c.read.ensures c.read-2.ensures
