-- `texts::text::trim` meets its contract: the front's white space is cut, and then the end's. Assumes nothing.
use mathlib.Core.Path.{sym, ap, ◌∙◌}
use lib.Seq.{length-take-le}
use borrow.Author.Rules.{rules}
use Rattle.texts.specs.Text.{trim_end, trimmed}
use Rattle.numbers.proofs.Parts.{part_rest}
use Rattle.texts.proofs.text.trim.Goals as goal

pub slice_bounds-t-count : goal.slice_bounds-t-count
unfolding trimmed
slice_bounds-t-count c = search rules

pub slice_bounds-t-start : goal.slice_bounds-t-start
unfolding trimmed
slice_bounds-t-start c = search rules

pub slice_bounds-t-end : goal.slice_bounds-t-end
unfolding trimmed
slice_bounds-t-end c = search rules

pub slice_bounds-result-end : goal.slice_bounds-result-end
unfolding trimmed
slice_bounds-result-end c = sym (length-take-le _ _ c.end_of-e.ensures.0)

pub returns : goal.returns
unfolding trimmed
returns c =
    c.end_of-e.ensures.1 ∙ ap trim_end (part_rest c.args.s.now c.start_of.result ∙ c.start_of.ensures.1)
