-- `members::member::write_plain` meets its contract. Assumes nothing.
use mathlib.Core.Path.{refl}
use lib.ListN.{length}
use Rattle.layout.specs.Kinds
use Rattle.area.specs.Fault.{fault_number}
use Rattle.cells.specs.declared.plan.Plan.TheVariants as P
use Rattle.cells.specs.Plans.{Knows}
use Rattle.members.proofs.Filling.{stays, said, as_planned}
use Rattle.area.proofs.Stepping.{also, also_ok}
use Rattle.members.proofs.member.write_plain.Goals as goal

pub returns-in-Nothing : goal.returns-in-Nothing
returns-in-Nothing c =
    let g = c.args in
    let t = g.at.now in
    let a = g.area.now in
    record {
      same = record { bytes = refl; size = refl; round = refl };
      did = as_planned g.schema.now t.structure t.member a.round (length a.bytes.now) a.progress a.bytes.now g.sheet.now t.value (Kinds.kind_of t.member.kind) c.plan_of.result P.Nothing
          c.plan_of.ensures c.in-Nothing.is _ _ (stays a.round (length a.bytes.now) a.progress a.bytes.now (λ S. Knows S P.Nothing) t.structure.size a.safe);
    }

pub returns-in-Store : goal.returns-in-Store
returns-in-Store c =
    let g = c.args in
    let t = g.at.now in
    let a = g.area.now in
    also (c.write_cell.ensures g.schema.now) (λ h. as_planned g.schema.now t.structure t.member a.round (length a.bytes.now) a.progress a.bytes.now g.sheet.now t.value (Kinds.kind_of t.member.kind) c.plan_of.result
    (P.Store c.in-Store.cell c.in-Store.need c.in-Store.name) c.plan_of.ensures c.in-Store.is _ _ (rw c.ok.ensures.value at h))

pub returns-in-Pointer : goal.returns-in-Pointer
returns-in-Pointer c =
    let g = c.args in
    let t = g.at.now in
    let a = g.area.now in
    also (c.write_pointer.ensures g.schema.now) (λ h. as_planned g.schema.now t.structure t.member a.round (length a.bytes.now) a.progress a.bytes.now g.sheet.now t.value (Kinds.kind_of t.member.kind) c.plan_of.result P.Pointer
    c.plan_of.ensures c.in-Pointer.is _ _ h)

pub returns-in-Remark : goal.returns-in-Remark
returns-in-Remark c =
    let g = c.args in
    let t = g.at.now in
    let a = g.area.now in
    also_ok c.say.ensures (λ h. as_planned g.schema.now t.structure t.member a.round (length a.bytes.now) a.progress a.bytes.now g.sheet.now t.value (Kinds.kind_of t.member.kind) c.plan_of.result
    (P.Remark c.in-Remark.fault c.in-Remark.detail) c.plan_of.ensures c.in-Remark.is _ _
    (said a.round (length a.bytes.now) a.progress a.bytes.now (λ S. Knows S (P.Remark c.in-Remark.fault c.in-Remark.detail)) t.structure.size g.schema.now t.structure t.member
    (fault_number c.in-Remark.fault) c.in-Remark.detail _ _ a.safe c.requires.open h))
