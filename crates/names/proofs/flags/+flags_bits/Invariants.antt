-- `names::flags::flags_bits` meets its contract: it calls itself with one level less. Assumes nothing.
use Rattle.std.specs.Prelude.{◌≡◌, ◌-◌}
use Rattle.std.specs.Int.Bits.{bit_or}
use Rattle.coerce.specs.Numbers.{map_fit}
use Rattle.names.specs.Entries.{all_of}
use Rattle.names.specs.Names
use Rattle.names.proofs.Splits.{item_bits}
use Rattle.names.proofs.flags.+flags_bits.Given as goal

abbrev pub decreases-flags_bits : goal.decreases-flags_bits
decreases-flags_bits l = l.levels

abbrev pub invariant-loop-i : goal.invariant-loop-i
invariant-loop-i l = map_fit (bit_or l.bits) (item_bits (l.levels - 1) l.sheet (all_of l.entries) l.first l.i-end l.i) ≡ Names.flags_bits l.levels l.sheet (all_of l.entries) l.fn.v
