-- `area::used::insert` meets its contract. Assumes nothing.
use mathlib.Core.Path.{sym, ◌∙◌}
use native.Mathlib.Omega.{arith}
use borrow.Author.Tests.{le-leb, lt-leb}
use Rattle.area.specs.Posts.{inserted_in}
use Rattle.area.proofs.used.insert.Goals as goal

-- it is among them
pub returns-then-contains : goal.returns-then-contains
unfolding inserted_in
returns-then-contains c = record { few = c.requires.0; exact = rw (sym c.contains.ensures ∙ c.if-contains.true) }

-- there is no room
pub returns-then-room-n : goal.returns-then-room-n
unfolding inserted_in
returns-then-room-n c =
    record { few = c.requires.0; exact = rw (sym c.contains.ensures ∙ c.if-contains.false, le-leb c.args.room c.args.n c.if-room-n.true) }

-- it is put behind them
pub returns : goal.returns
unfolding inserted_in
returns c =
    let a = c.args in
    record {
      few = omega arith;
      exact = rw (sym c.contains.ensures ∙ c.if-contains.false, lt-leb a.room a.n c.if-room-n.false, c.write_u32.ensures);
    }
