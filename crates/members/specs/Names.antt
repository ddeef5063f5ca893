-- What a name stands for, in the terms of the definitions.
use Rattle.std.specs.Prelude.{ℕ, Option, option_map}
use Rattle.numbers.specs.Words.{Bytes}
use Rattle.schema.specs.Defs
use Rattle.schema.specs.Index.{last_place}
use Rattle.definitions.specs.Answers.{head_here}
use Rattle.cells.specs.declared.defs.Def.{Def}
use Rattle.cells.specs.Names.{def_of}

-- the structure at a place, under a name
abbrev pub defined_at : Bytes → ℕ → ℕ → Def
defined_at F name at = record { name = name; place = at; size = (head_here F at).size; count = (head_here F at).count }

-- .. if there is a place
abbrev pub looked_at : Bytes → ℕ → Option ℕ → Option Def
looked_at F name o = option_map (defined_at F name) o

-- the one that building finds under a name
unfoldable pub looked_up : Bytes → ℕ → Option Def
looked_up F name = looked_at F name (last_place F 0 name)

-- what was looked up
abbrev pub looked_is : Bytes → Option Def → Option Defs.StructDef
looked_is F r = option_map (def_of F) r
