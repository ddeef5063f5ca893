-- `numbers::words::same` meets its contract. Assumes nothing.
use Rattle.std.proofs.Common.{rules}
use Rattle.numbers.proofs.Mid.{same_pairs}
use Rattle.numbers.proofs.words.same.Goals as goal

pub returns : goal.returns
returns c = search (rules, same_pairs)
