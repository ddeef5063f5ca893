-- `choices::source::pair_source` meets its contract. Assumes nothing.
use mathlib.Core.Path.{sym}
use Rattle.cells.specs.Names.{def_of}
use Rattle.choices.proofs.Naming.{pair_none, pair_one, pair_two}
use Rattle.choices.proofs.Nths.{count_members, nth_read}
use Rattle.choices.proofs.source.pair_source.Goals as goal

pub returns-in_default : goal.returns-in_default
returns-in_default c = λ T.
    let g = c.args in
    sym (pair_none (def_of g.schema.now g.d) g.d.count (count_members g.schema.now g.d) g.r g.s c.in_default.ensures)

pub returns-in_default-next_named : goal.returns-in_default-next_named
returns-in_default-next_named c = λ T.
    let g = c.args in
    let i = c.in-Some.ensures in
    let a = nth_read g.schema.now g.d _ _ c.member-a.ensures i.few in
    sym (pair_one (def_of g.schema.now g.d) g.d.count (count_members g.schema.now g.d) g.r g.s _ _ i a c.in_default-next_named.ensures)

pub returns : goal.returns
returns c = λ T.
    let g = c.args in
    let i = c.in-Some.ensures in
    let j = c.in-Some-next_named.ensures in
    let a = nth_read g.schema.now g.d _ _ c.member-a.ensures i.few in
    let b = nth_read g.schema.now g.d _ _ c.member-b.ensures j.few in
    sym (pair_two (def_of g.schema.now g.d) g.d.count (count_members g.schema.now g.d) g.r g.s _ _ i a _ _ j b)
