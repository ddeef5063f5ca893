-- `numbers::words::number_of` meets its contract. Assumes nothing.
use Rattle.std.proofs.Common.{arith}
use Rattle.numbers.proofs.Mid.{room_left}
use Rattle.numbers.proofs.words.number_of.Goals as goal

pub overflow_mul-n : goal.overflow_mul-n
overflow_mul-n c = omega (arith, room_left c.loop-b.n c.loop-b.b-index (omega arith) c.loop-b.invariant.1)
