-- `definitions::lookup::last_in` meets its contract. Assumes nothing.
use Rattle.std.specs.Prelude.{option_map}
use Rattle.std.proofs.Common.{rules}
use mathlib.Core.Path.{◌≡◌, ap, ◌∙◌}
use Prim.Native.Nat.{◌+◌}
use native.Mathlib.Omega.{arith}
use Rattle.schema.specs.Index.{index_count, places_from, last_of}
use Rattle.schema.specs.Steps.{kind_number}
use Rattle.definitions.proofs.Seek.{last_maps, other_section, psch_section}
use Rattle.definitions.proofs.lookup.last_in.Goals as goal

pub returns-then-not-is : goal.returns-then-not-is
unfolding last_of
returns-then-not-is c =
    let s = c.args.section in
    ap (λ l. option_map (s.place +◌) (last_of l))
    (other_section s.bytes.now (kind_number c.args.kind) c.args.name c.is.result (c.is.ensures.number (omega arith)) c.if-not-is.true)

pub returns : goal.returns
returns c =
    let s = c.args.section in
    let P = s.bytes.now in
    let k = kind_number c.args.kind in
    let n = index_count P in
    let f : c.find_map.result ≡ last_of (places_from P k c.args.name n 12) = last_maps P k c.args.name n _ _ (λ x b q h. search rules) _ _ _ (search rules) (search rules) c.find_map.ensures.ran c.find_map.ensures.runs in
    let m : c.map.result ≡ option_map (s.place +◌) c.find_map.result = search rules in
    m ∙ ap (option_map (s.place +◌))
    (f ∙ ap last_of (psch_section P k c.args.name c.is.result (c.is.ensures.number (omega arith)) c.if-not-is.false))
