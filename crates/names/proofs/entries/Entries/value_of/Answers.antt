-- `names::entries::Entries::value_of` meets its contract. Assumes nothing.
use mathlib.Core.Path.{sym, ap, ◌∙◌}
use native.Mathlib.Omega.{arith}
use Rattle.std.specs.Prelude.{◌≡◌}
use Rattle.std.proofs.Common.{rules, tests}
use Rattle.std.proofs.lemmas.Iterator.{YieldsList-from_range, YieldsList-from_map}
use Rattle.std.proofs.lemmas.Iterator.Search.{find_from_yields_List}
use Rattle.std.proofs.lemmas.Iterator.Adapters.{option_map_id}
use Rattle.names.proofs.Finding.{has_name, value, value_found}
use Rattle.names.proofs.entries.Entries.value_of.Goals as goal

pub returns : goal.returns
returns c =
    let s = c.args.self in
    let F = s.schema.now in
    let n = c.args.name in
    let m : c.map-2.result ≡ value F s.at n c.find.result = search (rules, tests) in
    let road = YieldsList-from_map _ _ (YieldsList-from_range 0 s.count _ c.map.ensures.source (omega arith)) c.map.ensures.closure (λ x r q k. search (rules, tests)) in
    let f = find_from_yields_List (has_name F s.at n) _ _ c.find.result c.find.ensures.ran road (λ x b q k. search (rules, tests)) in
    m ∙ ap (value F s.at n) (sym (option_map_id c.find.result) ∙ f) ∙ value_found F s.at n s.count
