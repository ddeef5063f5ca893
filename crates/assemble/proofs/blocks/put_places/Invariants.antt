-- `assemble::blocks::put_places` meets its contract. Assumes nothing.
use Prim.Native.Nat.{◌+◌, ◌*◌, ◌/◌}
use mathlib.Core.Path.{◌≡◌}
use mathlib.Core.List.{List}
use lib.ListN.{length}
use Rattle.std.specs.Iterator.Adapters.{enumerate_source, enumerate_count}
use Rattle.std.specs.Slice.Iter.{chunks_exact_rest, chunks_exact_size}
use Rattle.layout.specs.State.{Block}
use Rattle.assemble.specs.Map.{Rows}
use Rattle.assemble.proofs.Maps.{Going, table_all}
use Rattle.assemble.proofs.blocks.put_places.Given as goal

abbrev pub invariant-loop-k : goal.invariant-loop-k
invariant-loop-k l =
    let s = enumerate_source l.k-iterator in
    let k = enumerate_count l.k-iterator in
    let rest = chunks_exact_rest s in
    (chunks_exact_size s ≡ 8)
    × (k + length rest / 8 ≡ length l.rows / 8)
    × (length l.table ≡ length l.initial.table)
    × ((bs : List Block) → Rows l.rows bs → Going table_all bs l.initial.table 0 l.place (4 * k) rest l.table)
