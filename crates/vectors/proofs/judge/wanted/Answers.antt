-- `vectors::judge::wanted` meets its contract. Assumes nothing.
use borrow.Author.Tests.{lt-ltb, le-ltb}
use Rattle.vectors.specs.Judge.{wanted_at}
use Rattle.vectors.proofs.judge.wanted.Goals as goal

pub returns-then-i-count : goal.returns-then-i-count
unfolding wanted_at
returns-then-i-count c = let a = c.args in rw (lt-ltb a.i a.count c.if-i-count.true) c.row_at.ensures

pub returns-then-i-n : goal.returns-then-i-n
unfolding wanted_at
returns-then-i-n c =
    let a = c.args in
    rw (le-ltb a.i a.count c.if-i-count.false, lt-ltb a.i a.n c.if-i-n.true) c.«record».ensures

pub returns-else-i-n : goal.returns-else-i-n
unfolding wanted_at
returns-else-i-n c =
    let a = c.args in
    rw (le-ltb a.i a.count c.if-i-count.false, le-ltb a.i a.n c.if-i-n.false) c.record-else-i-n.ensures
