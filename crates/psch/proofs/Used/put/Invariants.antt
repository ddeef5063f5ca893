-- `psch::Used::put` meets its contract. Assumes nothing.
use mathlib.Core.Path.{◌≡◌}
use Rattle.std.specs.Iterator.Adapters.{enumerate_source, enumerate_count}
use Rattle.std.specs.Slice.Iter.{chunks_exact_rest, chunks_exact_size}
use Rattle.psch.specs.Used.{names_of}
use Rattle.psch.proofs.Listing.{Putting}
use Rattle.psch.proofs.Used.put.Given as goal

abbrev pub invariant-loop-k : goal.invariant-loop-k
invariant-loop-k l =
    let c = enumerate_source l.k-iterator in
    (chunks_exact_size c ≡ 4)
    × Putting l.schema l.self.kind (names_of l.self.names.now) l.initial.out l.index l.to l.at (enumerate_count l.k-iterator) l.out (names_of (chunks_exact_rest c))
