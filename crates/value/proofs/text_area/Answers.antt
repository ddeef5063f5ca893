-- `value::text_area` meets its contract. Assumes nothing.
use borrow.Author.Rules.{rules}
use Rattle.value.specs.Rows
use Rattle.value.proofs.text_area.Goals as goal

pub overflow_mul-n : goal.overflow_mul-n
unfolding Rows.text_area
overflow_mul-n c = search rules

pub overflow_add-n : goal.overflow_add-n
unfolding Rows.text_area
overflow_add-n c = search rules

pub returns : goal.returns
unfolding Rows.text_area
returns c = rw (← c.row_count-n.ensures.0) c.part_from.ensures
