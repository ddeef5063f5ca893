-- `numbers::words::number_of` meets its contract. Assumes nothing.
use Rattle.std.proofs.Common.{◌≡◌, ◌^◌, ◌<◌, take}
use Rattle.numbers.specs.Words.{number}
use Rattle.numbers.proofs.words.number_of.Given as goal

abbrev pub invariant-loop-b : goal.invariant-loop-b
invariant-loop-b l = (l.n ≡ number 0 (take l.b-index l.bytes)) × (l.n < 256 ^ l.b-index)
