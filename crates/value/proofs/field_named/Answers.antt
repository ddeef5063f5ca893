-- `value::field_named` meets its contract. Assumes nothing.
use mathlib.Core.Path.{refl, sym, ◌∙◌}
use Rattle.std.specs.Prelude.{eqb, ◌+◌}
use Rattle.std.proofs.Common.{rules, tests}
use Rattle.std.proofs.lemmas.Iterator.{YieldsList-from_range}
use Rattle.std.proofs.lemmas.Iterator.Search.{find_from_yields_List}
use Rattle.std.proofs.lemmas.Iterator.Adapters.{option_map_id}
use Rattle.value.specs.Rows.{row}
use Rattle.value.proofs.Laws.{member_found, member_none}
use Rattle.value.proofs.field_named.Goals as goal

pub returns-then-not-is : goal.returns-then-not-is
returns-then-not-is c = member_none c.args.sheet.now c.args.v c.args.name c.is.result c.is.ensures c.if-not-is.true

pub returns : goal.returns
returns c =
    let a = c.args in
    let r = c.first_child-first in
    let n = c.child_count in
    sym (option_map_id c.find.result)
    ∙ find_from_yields_List (λ q. eqb (row a.sheet.now q).name a.name) _ _ c.find.result c.find.ensures.ran (YieldsList-from_range r.result (r.result + n.result) _ refl refl) (λ x b q k. search (rules, tests))
    ∙ member_found a.sheet.now a.v a.name c.is.result c.is.ensures r.result n.result c.if-not-is.false r.ensures.0 n.ensures.0
