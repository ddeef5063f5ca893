-- `names::flags::flag_names` meets its contract. Assumes nothing.
use Rattle.std.specs.Prelude.{◌≡◌, length}
use Rattle.std.specs.Int.Bits.{bit_or}
use Rattle.texts.specs.Text.{parts}
use Rattle.coerce.specs.Numbers.{map_fit}
use Rattle.names.specs.Entries.{all_of}
use Rattle.names.specs.Names
use Rattle.names.proofs.Splits.{part_bits_from}
use Rattle.names.proofs.flags.flag_names.Given as goal

abbrev pub invariant-loop-part : goal.invariant-loop-part
invariant-loop-part l =
    map_fit (bit_or l.bits) (part_bits_from (all_of l.entries) l.t (length l.yielded)) ≡ Names.flag_names (all_of l.entries) (parts l.t)
