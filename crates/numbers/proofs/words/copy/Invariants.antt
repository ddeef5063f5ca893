-- `numbers::words::copy` meets its contract. Assumes nothing.
use mathlib.Core.Path.{◌≡◌}
use Prim.Native.Nat.{◌+◌}
use lib.ListN.{length, drop}
use Rattle.numbers.specs.Words.{over}
use Rattle.numbers.proofs.words.copy.Given as goal

abbrev pub invariant-loop-i : goal.invariant-loop-i
invariant-loop-i l = (length l.s ≡ length l.initial.s) × (over l.s (l.at + l.i) (drop l.i l.from) ≡ over l.initial.s l.at l.from)
