-- `pso::lookup::find_definition` meets its contract. Assumes nothing.
use Rattle.std.specs.Prelude.{Some, None}
use Rattle.pso.proofs.Leading.{defines}
use Rattle.pso.proofs.lookup.find_definition.Goals as goal

pub returns-in_err-at : goal.returns-in_err-at
returns-in_err-at c =
    let a = c.args in
    defines a.file.now a.kind a.name None _ c.in_err-at.ensures c.from_residual.ensures

pub returns-in-Structure : goal.returns-in-Structure
returns-in-Structure c =
    let a = c.args in
    defines a.file.now a.kind a.name (Some c.in_ok-at.at) _ c.in_ok-at.ensures (rw (c.in-Structure.is, c.from.ensures, c.read_head-head.ensures))

pub returns-in-Enum : goal.returns-in-Enum
returns-in-Enum c =
    let a = c.args in
    defines a.file.now a.kind a.name (Some c.in_ok-at.at) _ c.in_ok-at.ensures (rw (c.in-Enum.is, c.entry_count.ensures.0))
