-- `definitions::members::read_member` meets its contract. Assumes nothing.
use Prim.Native.Nat.{◌+◌, ◌*◌}
use native.Mathlib.Omega.{arith}
use Rattle.std.proofs.Common.{rules}
use Rattle.definitions.proofs.Fields.{from_sum, member_here}
use Rattle.definitions.proofs.members.read_member.Goals as goal

pub returns : goal.returns
returns c =
    let a = c.args in
    let h = from_sum a.file.now _ _ _ (a.place + 12 + 12 * a.k) c.part_from.ensures c.saturating_add-at.ensures (omega arith) (omega arith) in
    member_here a.file.now _ _ _ h _ (search rules) c.parsed.ensures.shows
