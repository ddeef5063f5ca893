-- `definitions::members::entry_count` meets its contract. Assumes nothing.
use mathlib.Core.Path.{◌∙◌}
use Rattle.definitions.proofs.Fields.{behind}
use Rattle.definitions.proofs.members.entry_count.Goals as goal

pub returns : goal.returns
returns c =
    (c.read_number.ensures.0 ∙ behind c.args.file.now c.args.place _ c.part_from.ensures 3 1, c.read_number.ensures.1)
