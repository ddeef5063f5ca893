-- `cells::defs::Def::reference_at` meets its contract. Assumes nothing.
use native.Mathlib.Omega.{arith}
use Rattle.cells.proofs.References.{no_reference, a_reference}
use Rattle.cells.proofs.defs.Def.reference_at.Goals as goal

pub returns-then-from-i : goal.returns-then-from-i
returns-then-from-i c = no_reference c.args.schema.now c.args.self c.args.i (omega (arith, c.if-from-i.true, c.from.ensures))

pub returns : goal.returns
returns c = a_reference c.args.schema.now c.args.self c.args.i _ (omega (arith, c.if-from-i.false, c.from.ensures)) c.member.ensures
