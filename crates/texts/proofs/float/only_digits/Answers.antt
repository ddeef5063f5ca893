-- `texts::float::only_digits` meets its contract. Assumes nothing.
use borrow.Author.Tests.{le-leb, lt-leb}
use Rattle.texts.proofs.Decimals.{only_is, and_then, and_else}
use Rattle.texts.proofs.float.only_digits.Goals as goal

pub returns-then-n-ge1 : goal.returns-then-n-ge1
returns-then-n-ge1 c =
    let n = c.leading_digits-n in
    and_then _ _ _ (only_is c.args.s.now c.leading_digits-n.result c.leading_digits-n.ensures.0 c.leading_digits-n.ensures.1) (le-leb 1 c.leading_digits-n.result c.if-n-ge1.true)

pub returns-else-n-ge1 : goal.returns-else-n-ge1
returns-else-n-ge1 c =
    and_else _ _ _ (only_is c.args.s.now c.leading_digits-n.result c.leading_digits-n.ensures.0 c.leading_digits-n.ensures.1) (lt-leb 1 c.leading_digits-n.result c.if-n-ge1.false)
