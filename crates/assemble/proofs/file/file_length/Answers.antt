-- `assemble::file::file_length` meets its contract. Assumes nothing.
use mathlib.Core.Path.{ap, ◌∙◌}
use native.Mathlib.Omega.{arith}
use Rattle.assemble.specs.Packed.{lengths_in}
use Rattle.assemble.proofs.Adding.{lengths_area, lengths_total}
use Rattle.assemble.proofs.Filing.{rows_stand, counted}
use Rattle.assemble.proofs.file.file_length.Goals as goal

pub returns-clause-counts : goal.returns-clause-counts
returns-clause-counts c =
    λ S s σ pointer H.
    let a = c.args.area.now in
    let w = a.bytes.now in
    let d = c.data_length-data in
    let n = c.length-structs in
    let r = lengths_area w _ a.progress.blocks c.rows.ensures (omega (arith, a.safe)) in
    counted a.safe H pointer d.result n.result c.length.result
    (d.ensures.0 ∙ r.1 ∙ ap (lengths_in w 0) H.rep.blocks ∙ lengths_total w 0 s.core.blocks H.rep.small (rows_stand a.safe H))
    (rw (c.of.ensures.kind, c.of.ensures.names.names) at n.ensures.0) (rw (c.of-2.ensures.kind, c.of-2.ensures.names.names) at c.length.ensures.0)
