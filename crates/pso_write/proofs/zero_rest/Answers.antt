-- `pso_write::zero_rest`: each turn makes one more zero.
use mathlib.Core.Path.{◌≡◌, ◌∙◌, ap}
use mathlib.Core.List.{List}
use Prim.Native.Nat.{◌+◌}
use lib.ListN.{length, take, set}
use native.Mathlib.Omega.{arith}
use Rattle.layout.specs.Build.{zero_remark, filled}
use Rattle.layout.specs.declared.Remark.{Remark}
use Rattle.pso_write.proofs.Zeros.{zero_is, one_zero, no_more_zeros}
use Rattle.pso_write.proofs.zero_rest.Goals as goal

pub loop-at-preserved : goal.loop-at-preserved
loop-at-preserved c =
    let l = c.loop-at in
    let n = length c.args.list.now in
    let z : c.default.result ≡ zero_remark = zero_is c.default.result c.default.ensures in (
      c.store.auto.list ∙ l.invariant.0,
      ap (λ (zs : List Remark). filled n (take (l.at + 1) zs)) (c.store.ensures ∙ ap (set l.list l.at) z) ∙ one_zero n l.at l.list l.invariant.0 (omega arith) ∙ l.invariant.1,
    )

pub returns : goal.returns
returns c =
    let l = c.loop-at in no_more_zeros (length c.args.list.now) l.at l.list l.invariant.0 c.loop-at-test.false ∙ l.invariant.1
