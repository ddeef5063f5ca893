-- `coerce::vector::vec_text` meets its contract. Assumes nothing.
use Rattle.std.specs.Prelude.{◌≡◌, ◌≤◌, length, max}
use Rattle.texts.specs.Text.{parts}
use Rattle.coerce.specs.Numbers
use Rattle.coerce.proofs.Parts.{left, parts_from}
use Rattle.coerce.proofs.vector.vec_text.Given as goal

abbrev pub invariant-loop-part : goal.invariant-loop-part
invariant-loop-part l =
    (left (max l.fn.n 1) l.v l.m (parts_from l.fn.s (length l.yielded)) ≡ Numbers.vec_text l.fn.n (parts l.fn.s)) × (l.m ≤ length l.yielded)
