-- What parts of the code compute.
use Rattle.std.specs.Prelude.{ℕ, cond, Ok, Err}
use Rattle.numbers.specs.Words.{Bytes, is_empty}
use Rattle.schema.specs.Defs.{first_entry}
use Rattle.coerce.specs.Numbers.{Fit, fit_or, map_fit}
use Rattle.coerce.specs.declared.misfit.Misfit.TheVariants.{Unfit}
use Rattle.names.specs.Names.{Entries, hash_text, bit_of}

-- the bit of a name; no bit where it is empty
abbrev pub part_bits : Entries → Bytes → Fit ℕ
part_bits es p = cond (is_empty p) (Ok 0) (map_fit bit_of (fit_or (first_entry es (hash_text p)) (Err Unfit)))
