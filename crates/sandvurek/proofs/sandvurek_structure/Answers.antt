-- `sandvurek::sandvurek_structure` meets its contract. Assumes nothing.
use mathlib.Core.Path.{ap, ◌∙◌}
use Rattle.sandvurek.specs.Exports.{definition_is}
use Rattle.sandvurek.proofs.Looked.{struct_told}
use Rattle.sandvurek.proofs.sandvurek_structure.Goals as goal

pub returns : goal.returns
returns c =
    let a = c.args in
    let t = struct_told a.file.now a.name c.into.result (c.into.ensures ∙ ap definition_is c.find_definition.ensures.value) in
    record { value = t.0; struct_is = t.1 }
