-- `coerce::whole::hex_mark` meets its contract. Assumes nothing.
use Rattle.std.specs.Prelude.{[], ◌∷◌}
use mathlib.Core.Path.{◌∙◌}
use Rattle.texts.proofs.Letters.{prefix_is}
use Rattle.coerce.proofs.whole.hex_mark.Goals as goal

pub returns-then-starts_with : goal.returns-then-starts_with
returns-then-starts_with c =
    let e = c.starts_with.ensures.value ∙ prefix_is (48 ∷ 120 ∷ []) c.args.s.now in rw (← e, c.if-starts_with.true)

pub returns-else-starts_with : goal.returns-else-starts_with
returns-else-starts_with c =
    let e = c.starts_with.ensures.value ∙ prefix_is (48 ∷ 120 ∷ []) c.args.s.now in
    let f = c.starts_with-else-starts_with.ensures.value ∙ prefix_is (48 ∷ 88 ∷ []) c.args.s.now in
    rw (← e, c.if-starts_with.false, ← f)
