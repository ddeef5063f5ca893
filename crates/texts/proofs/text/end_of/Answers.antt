-- `texts::text::end_of` meets its contract. Assumes nothing.
use Rattle.std.proofs.Common.{rules}
use Rattle.texts.proofs.Ends.{ended}
use Rattle.texts.proofs.text.end_of.Goals as goal

pub returns : goal.returns
returns c = ended c.args.s.now c.rposition.result c.map_or.result (search rules) (search rules) (search rules) (search rules) (search rules)
