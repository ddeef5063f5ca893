-- `texts::text::start_of` meets its contract. Assumes nothing.
use Rattle.std.proofs.Common.{rules, refl, ap, true, false, ◌∙◌}
use Rattle.std.specs.Prelude.{◌≡◌, ℕ, drop}
use Rattle.std.proofs.lemmas.Iterator.{IsFirst-from_position, YieldsList-from_slice}
use Rattle.texts.proofs.First.{counted}
use Rattle.texts.proofs.Ends.{other, spaces, spaces_stop, spaces_go, start_is}
use Rattle.texts.proofs.text.start_of.Goals as goal

pub returns : goal.returns
returns c =
    let s = c.args.s.now in
    let n = counted spaces other refl spaces_stop spaces_go c.args.s.now c.position.result
    (IsFirst-from_position _ _ _ (λ x. other x ≡ true) (λ x. other x ≡ false) c.position.ensures.ran (YieldsList-from_slice c.args.s.now cc)
    (λ x q k. search rules) (λ x q k. search rules))
    c.unwrap_or.result c.unwrap_or.ensures in
    (n.1, ap (λ (i : ℕ). drop i c.args.s.now) n.0 ∙ start_is c.args.s.now)
