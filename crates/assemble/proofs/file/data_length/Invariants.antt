-- `assemble::file::data_length` meets its contract. Assumes nothing.
use mathlib.Core.Path.{◌≡◌}
use Prim.Native.Nat.{◌+◌, ◌*◌, ◌/◌, ◌≤◌}
use lib.ListN.{length}
use Rattle.std.specs.Slice.Iter.{chunks_exact_rest, chunks_exact_size}
use Rattle.assemble.proofs.Adding.{lengths_of}
use Rattle.assemble.proofs.file.data_length.Given as goal

abbrev pub invariant-loop-row : goal.invariant-loop-row
invariant-loop-row l =
    let rest = chunks_exact_rest l.row-iterator in
    (chunks_exact_size l.row-iterator ≡ 8)
    × (l.sum + 4294967296 * (length rest / 8) ≤ 4294967296 * (length l.rows / 8))
    × (l.sum + lengths_of rest ≡ lengths_of l.rows)
