-- `texts::decimal::number` meets its contract. Assumes nothing.
use Rattle.std.specs.Prelude.{◌≡◌, ◌≤◌, ◌+◌, ◌-◌, ◌*◌, ◌^◌, length, drop}
use Rattle.conversions.specs.Radix.{number}
use Rattle.texts.proofs.decimal.number.Given as goal

abbrev pub invariant-loop-b : goal.invariant-loop-b
invariant-loop-b l = (number 10 l.fn.n l.s ≡ number 10 l.m (drop l.b-index l.s)) × ((l.m + 1) * 10 ^ (length l.s - l.b-index) ≤ 10 ^ 9)
