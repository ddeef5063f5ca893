-- What a run of structures is made of.
use Rattle.std.specs.Prelude.{Bool, true, false}
use Rattle.choices.specs.declared.elements.Items.{Items}
use Rattle.choices.specs.declared.elements.Items.TheVariants as I

-- whether it is a map's pairs
abbrev pub is_pairs : Items → Bool
is_pairs I.Elements = false
is_pairs I.Pairs = true
