-- `area::write_words` meets its contract. Assumes nothing.
use Rattle.std.proofs.Common.{◌≡◌, take}
use Rattle.numbers.specs.Words.{words, over}
use Rattle.area.proofs.write_words.Given as goal

abbrev pub invariant-loop-k : goal.invariant-loop-k
invariant-loop-k l = l.s ≡ over l.initial.s l.at (words (take l.k l.numbers))
