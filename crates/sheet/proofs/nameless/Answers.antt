-- `sheet::nameless` meets its contract. Assumes nothing.
use mathlib.Core.Path.{refl, ◌∙◌}
use Rattle.std.specs.Prelude.{eqb, ◌-◌}
use Rattle.std.proofs.Common.{rules, tests}
use Rattle.std.proofs.lemmas.Iterator.{YieldsList-from_range}
use Rattle.std.proofs.lemmas.Iterator.Search.{all_from_yields_List}
use Rattle.value.specs.Rows.{row}
use Rattle.sheet.proofs.Laws.{nameless_is}
use Rattle.sheet.proofs.nameless.Goals as goal

pub returns : goal.returns
returns c =
    let a = c.args in
    all_from_yields_List (λ q. eqb (row a.sheet.now q).name 0) _ _ c.all.result c.all.ensures.ran (YieldsList-from_range a.first a.end (a.end - a.first) refl refl) (λ x b q k. search (rules, tests))
    ∙ nameless_is a.sheet.now a.first (a.end - a.first)
