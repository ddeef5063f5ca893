-- `numbers::words::move_down` meets its contract. Assumes nothing.
use mathlib.Core.Path.{◌≡◌}
use Prim.Native.Nat.{◌+◌, ◌-◌}
use lib.ListN.{length, take, drop}
use Rattle.numbers.specs.Words.{over}
use Rattle.numbers.proofs.words.move_down.Given as goal

abbrev pub invariant-loop-i : goal.invariant-loop-i
invariant-loop-i l = (length l.s ≡ length l.initial.s) × (over l.s (l.to + l.i) (take (l.n - l.i) (drop (l.from + l.i) l.s)) ≡ over l.initial.s l.to (take l.n (drop l.from l.initial.s)))
