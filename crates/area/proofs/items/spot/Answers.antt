-- `area::items::spot` meets its contract. Assumes nothing.
use mathlib.Core.Path.{sym, ◌∙◌}
use native.Mathlib.Omega.{arith}
use Rattle.area.proofs.Spots.{seek_begin, seek_here, seek_on, seek_none}
use Rattle.area.proofs.items.spot.Goals as goal
use Rattle.area.proofs.items.spot.Goals.{then-read-name+else-len-need-le1048576, else-read-name}

pub loop-k-init : goal.loop-k-init
loop-k-init c = let a = c.args in seek_begin a.work.now a.n a.name a.need

-- a block of another name, or without room
pub loop-k-preserved : goal.loop-k-preserved
loop-k-preserved c =
    let a = c.args in
    let on = seek_on a.work.now a.n a.name a.need c.loop-k.k c.loop-k-test.true c.loop-k.invariant in
    elim c.if-read-name.branch [
      | then-read-name+else-len-need-le1048576 w ↦ on (λ g. rw (← w.read-len.ensures) (omega arith))
      | else-read-name w ↦ on (λ g. absurd (w.if-read-name.false (c.read.ensures ∙ g)))
    ]

-- the block takes it
pub returns-then-len-need-le1048576 : goal.returns-then-len-need-le1048576
returns-then-len-need-le1048576 c =
    let a = c.args in
    let z =
    seek_here a.work.now a.n a.name a.need c.loop-k.k c.loop-k-test.true c.loop-k.invariant (sym c.read.ensures ∙ c.if-read-name.true)
    (rw (← c.read-len.ensures) (omega arith)) in
    record { before = omega arith; start = omega arith; is = (sym z.0, c.read-len.ensures ∙ sym z.1) }

-- no block takes it
pub returns : goal.returns
returns c =
    let a = c.args in
    let z = seek_none a.work.now a.n a.name a.need c.loop-k.k c.loop-k.auto.k-end c.loop-k-test.false c.loop-k.invariant in
    record { before = omega arith; start = omega arith; is = (sym z.0, sym z.1) }
