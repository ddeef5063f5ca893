-- `sheet::walks` meets its contract. Assumes nothing.
use mathlib.Core.Path.{sym, ◌∙◌}
use Prim.Native.Nat.{◌<◌}
use native.Mathlib.Omega.{arith}
use Rattle.sheet.proofs.Laws
use Rattle.sheet.proofs.walks.Goals as goal

pub returns-then-not-sits : goal.returns-then-not-sits
returns-then-not-sits c =
    let a = c.args in
    let l = c.loop-r in
    let v = c.read_row-v in
    let h : l.r < a.n = omega (arith, c.loop-r-test.true, c.number_of-r-end.ensures) in
    sym (Laws.walk_off a.sheet.now a.n l.r l.w v.result c.requires.0 v.ensures h (sym c.sits.ensures ∙ c.if-not-sits.true)) ∙ l.invariant.2

pub after-stepped-requires : goal.after-stepped-requires
after-stepped-requires c =
    let a = c.args in
    let l = c.loop-r in
    let t = sym c.sits.ensures ∙ c.if-not-sits.false in (
      omega (arith, l.invariant.0),
      omega (arith, Laws.sits_sum a.n l.r l.w c.read_row-v.result t, c.requires.1),
      omega (arith, l.invariant.1, c.loop-r-test.true, c.number_of-r-end.ensures, c.requires.1),
    )

pub names_fit-requires : goal.names_fit-requires
names_fit-requires c = Laws.claimed_after c.loop-r.r c.loop-r.w c.read_row-v.result c.after-stepped.result c.after-stepped.ensures.0

pub returns-then-not-names_fit : goal.returns-then-not-names_fit
returns-then-not-names_fit c =
    let a = c.args in
    let l = c.loop-r in
    let v = c.read_row-v in
    let h : l.r < a.n = omega (arith, c.loop-r-test.true, c.number_of-r-end.ensures) in
    sym (Laws.walk_named a.sheet.now a.n l.r l.w v.result c.requires.0 v.ensures h (sym c.names_fit.ensures ∙ c.if-not-names_fit.true)) ∙ l.invariant.2

pub loop-r-preserved : goal.loop-r-preserved
loop-r-preserved c =
    let a = c.args in
    let l = c.loop-r in
    let v = c.read_row-v in
    let h : l.r < a.n = omega (arith, c.loop-r-test.true, c.number_of-r-end.ensures) in
    let x = c.after-stepped.result in
    let y = c.after-stepped.ensures.0 in
    let t = sym c.sits.ensures ∙ c.if-not-sits.false in (
      Laws.sits_level a.n l.r l.w v.result t x y,
      omega (arith, c.after-stepped.ensures.1, l.invariant.1),
      sym (Laws.walk_next a.sheet.now a.n l.r l.w v.result c.requires.0 v.ensures h x t (sym c.names_fit.ensures ∙ c.if-not-names_fit.false) y) ∙ l.invariant.2,
    )
