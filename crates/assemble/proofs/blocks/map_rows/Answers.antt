-- `assemble::blocks::map_rows` meets its contract. Assumes nothing.
use mathlib.Core.Path.{refl, ◌∙◌}
use native.Mathlib.Omega.{arith}
use Rattle.layout.specs.Assemble.{block_rows}
use Rattle.assemble.proofs.Maps.{taken, begin, turn, again, last, map_part, map_parts}
use Rattle.assemble.proofs.blocks.map_rows.Goals as goal

pub loop-k-init : goal.loop-k-init
loop-k-init c =
    let e = c.enumerate-k-items.ensures in
    let s = c.chunks_exact.ensures in
    rw (c.into_iter-k-iterator.ensures.into_iter_gives, e.source, e.count, s.rest, s.size)
    (refl, omega arith, refl, λ bs r. begin map_part block_rows 16 map_parts bs _ _ _ _ (omega arith) r)

pub map_row-place-requires : goal.map_row-place-requires
map_row-place-requires c =
    let l = c.loop-k in
    let s = c.in-Some.ensures.steps in
    let x = s.0.1.1 ∙ l.invariant.0 in
    let t = taken _ _ _ _ _ s.0.1.0 x l.invariant.1 in
    record {
      fits = turn map_part block_rows 16 map_parts _ _ _ _ _ _ _ (l.invariant.3 _ c.requires.some_rows.held) _ _ s.0.1.0 x;
      to_in_bounds = omega (arith, c.requires.room, s.1, t.0, l.invariant.2);
    }

pub loop-k-preserved : goal.loop-k-preserved
loop-k-preserved c =
    let l = c.loop-k in
    let s = c.in-Some.ensures.steps in
    let p = c.map_row-place in
    let x = s.0.1.1 ∙ l.invariant.0 in
    let t = taken _ _ _ _ _ s.0.1.0 x l.invariant.1 in (
      s.0.0 ∙ l.invariant.0,
      omega (arith, s.2, t.1),
      p.auto.out ∙ l.invariant.2,
      λ bs r. again map_part block_rows 16 map_parts bs _ _ _ _ _ _ (l.invariant.3 bs r) _ _ s.0.1.0 x _ _ _ _ _ (λ b en el. rw (en, el))
          p.ensures.0 (omega (arith, s.2)) (omega (arith, c.requires.room, s.1, t.0, l.invariant.2)) p.ensures.1 (omega (arith, s.1)),
    )

pub returns : goal.returns
returns c =
    λ bs r.
    let l = c.loop-k in
    let s = c.in-None.ensures.steps in
    (last map_part block_rows 16 map_parts bs _ _ _ _ _ _ (l.invariant.3 bs r) (omega (arith, s.0.1.0, l.invariant.0))).0
