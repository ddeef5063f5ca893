-- `assemble::data::scatter` meets its contract. Assumes nothing.
use mathlib.Core.Path.{refl, sym, ◌∙◌, subst}
use Rattle.assemble.specs.Scatter.{Turn}
use Rattle.assemble.proofs.Turns.{begin, turn, again, last}
use Rattle.assemble.proofs.data.scatter.Goals as goal

pub loop-pos-init : goal.loop-pos-init
loop-pos-init c =
    let a = c.args in
    (refl, λ k r. begin a.items.now a.table.now a.out.now k r)

pub place_item-pos-requires : goal.place_item-pos-requires
place_item-pos-requires c =
    let a = c.args in
    let l = c.loop-pos in
    subst (λ n. Turn a.items.now a.table.now n l.pos) (sym l.invariant.0)
    (turn a.items.now a.table.now a.out.now c.requires.core c.requires.ready l.pos l.out (l.invariant.1 c.requires.core c.requires.ready) c.loop-pos-test.true)

pub loop-pos-preserved : goal.loop-pos-preserved
loop-pos-preserved c =
    let a = c.args in
    let l = c.loop-pos in
    let p = c.place_item-pos in (
      p.auto.out ∙ l.invariant.0,
      λ k r. again a.items.now a.table.now a.out.now k r l.pos l.out (l.invariant.1 k r) c.loop-pos-test.true
          p.result p.new.out p.ensures.0 p.ensures.1,
    )

pub returns : goal.returns
returns c =
    λ k r.
    let a = c.args in
    let l = c.loop-pos in
    last a.items.now a.table.now a.out.now k r l.pos l.out (l.invariant.1 k r) c.loop-pos-test.false
