-- `assemble::blocks::map_rows` meets its contract. Assumes nothing.
use Prim.Native.Nat.{◌+◌, ◌*◌, ◌/◌}
use mathlib.Core.Path.{◌≡◌}
use mathlib.Core.List.{List}
use lib.ListN.{length}
use Rattle.std.specs.Iterator.Adapters.{enumerate_source, enumerate_count}
use Rattle.std.specs.Slice.Iter.{chunks_exact_rest, chunks_exact_size}
use Rattle.layout.specs.State.{Block}
use Rattle.layout.specs.Assemble.{block_rows}
use Rattle.assemble.specs.Map.{Rows}
use Rattle.assemble.proofs.Maps.{Going}
use Rattle.assemble.proofs.blocks.map_rows.Given as goal

abbrev pub invariant-loop-k : goal.invariant-loop-k
invariant-loop-k l =
    let s = enumerate_source l.k-iterator in
    let k = enumerate_count l.k-iterator in
    let rest = chunks_exact_rest s in
    (chunks_exact_size s ≡ 8)
    × (k + length rest / 8 ≡ length l.rows / 8)
    × (length l.out ≡ length l.initial.out)
    × ((bs : List Block) → Rows l.rows bs → Going block_rows bs l.initial.out l.at l.place (l.at + 16 * k) rest l.out)
