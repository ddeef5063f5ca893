-- `value::name_of` meets its contract. Assumes nothing.
use borrow.Author.Rules.{rules}
use Rattle.value.specs.Rows
use Rattle.value.proofs.name_of.Goals as goal

pub overflow_mul-r : goal.overflow_mul-r
unfolding Rows.row
overflow_mul-r c = search rules

pub overflow_add-r : goal.overflow_add-r
unfolding Rows.row
overflow_add-r c = search rules

pub overflow_add-r-2 : goal.overflow_add-r-2
unfolding Rows.row
overflow_add-r-2 c = search rules

pub returns : goal.returns
unfolding Rows.row
returns c = c.read.ensures
