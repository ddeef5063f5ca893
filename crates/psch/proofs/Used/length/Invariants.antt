-- `psch::Used::length` meets its contract. Assumes nothing.
use mathlib.Core.Path.{◌≡◌}
use Rattle.std.specs.Slice.Iter.{chunks_exact_rest, chunks_exact_size}
use Rattle.psch.specs.Used.{names_of}
use Rattle.psch.proofs.Listing.{Summing}
use Rattle.psch.proofs.Used.length.Given as goal

abbrev pub invariant-loop-name : goal.invariant-loop-name
invariant-loop-name l =
    (chunks_exact_size l.name-iterator ≡ 4) × Summing l.schema l.self.kind (names_of l.self.names.now) l.from l.sum (names_of (chunks_exact_rest l.name-iterator))
