-- `sheet::Walk::after` meets its contract. Assumes nothing.
use native.Mathlib.Omega.{arith}
use Rattle.sheet.specs.Layout
use Rattle.sheet.proofs.Walk.after.Goals as goal

pub returns : goal.returns
unfolding Layout.after
returns c =
    (rw (c.number_of.ensures, c.child_count.ensures.0, c.text_bytes.ensures.0, c.level_at.ensures, c.next_at.ensures), omega arith)
