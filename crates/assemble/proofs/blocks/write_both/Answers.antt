-- `assemble::blocks::write_both` meets its contract. Assumes nothing.
use Prim.Native.Nat.{◌+◌}
use mathlib.Core.Path.{◌≡◌, refl, ap, ◌∙◌}
use native.Mathlib.Omega.{arith}
use lib.ListN.{length}
use Rattle.numbers.specs.Words.{over}
use Rattle.layout.specs.Assemble.{data_of}
use Rattle.assemble.proofs.Heads.{psin_right, count_rows, pieces_ready, size_is, both_whole}
use Rattle.assemble.proofs.blocks.write_both.Goals as goal

pub write_data-requires : goal.write_data-requires
write_data-requires c =
    let k = c.requires.pieces.core in
    let P = c.requires.pieces.held in
    record { core = k; ready = pieces_ready P c.args.table.now (c.requires.placed k.blocks P.blocks).0 }

pub write_map-requires : goal.write_map-requires
write_map-requires c =
    let k = c.requires.pieces.core in
    let P = c.requires.pieces.held in
    let s = (c.requires.placed k.blocks P.blocks).1 in
    record {
      some_rows = record { blocks = k.blocks; held = P.blocks };
      room = (omega (arith, s, size_is P, count_rows P, P.fits, c.write_data.auto.out), omega (arith, count_rows P, P.few));
    }

pub overflow_add-result : goal.overflow_add-result
overflow_add-result c = omega (arith, count_rows c.requires.pieces.held, c.requires.pieces.held.few)

pub overflow_add-result-2 : goal.overflow_add-result-2
overflow_add-result-2 c = omega (arith, c.ranges.size.fits, count_rows c.requires.pieces.held, c.requires.pieces.held.few)

pub returns : goal.returns
returns c =
    λ k P.
    let a = c.args in
    let p = c.requires.placed k.blocks P.blocks in
    let z : a.size ≡ 16 + length (data_of k) = p.1 ∙ size_is P in (
      both_whole P a.out.now c.write_data.new.out c.write_map.new.out a.root a.size refl z
          (c.write_data.ensures k (pieces_ready P a.table.now p.0) ∙ ap (over a.out.now 0) (psin_right (data_of k) a.size z))
          (c.write_map.ensures k.blocks P.blocks),
      omega (arith, z, count_rows P),
    )
