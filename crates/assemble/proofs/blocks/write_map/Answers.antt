-- `assemble::blocks::write_map` meets its contract. Assumes nothing.
use Prim.Native.Nat.{◌/◌}
use native.Mathlib.Omega.{arith}
use mathlib.Core.Path.{ap}
use lib.ListN.{length}
use Rattle.area.proofs.Spots.{length_rows_of}
use Rattle.assemble.proofs.Heads.{pmap_whole}
use Rattle.assemble.proofs.blocks.write_map.Goals as goal

pub returns : goal.returns
returns c =
    λ bs r.
    let a = c.args in
    let p = c.requires.room in
    pmap_whole a.out.now c.head.new.out c.write_words.new.s c.map_rows.new.out a.at (length a.rows.now / 8) a.root bs p.0 p.1 (omega (arith, ap length r.is, length_rows_of bs))
    c.head.ensures c.write_words.ensures (c.map_rows.ensures bs r)
