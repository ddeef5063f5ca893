-- `area::notes::remarked` meets its contract. Assumes nothing.
use mathlib.Core.Path.{◌≡◌, ◌∙◌}
use mathlib.Core.Bool.{Bool, true, false}
use Prim.Native.Nat.{ℕ, ◌+◌, ◌*◌}
use native.Mathlib.Omega.{arith}
use borrow.Author.Rules.{rules}
use borrow.Author.Tests.{tests}
use Rattle.std.proofs.lemmas.Iterator.{cases_from_any, YieldsList-from_range}
use Rattle.layout.specs.State.{same_remark}
use Rattle.area.specs.Rows.{row_in}
use Rattle.area.proofs.Anys.{any_below}
use Rattle.area.proofs.Remarks.{any_row}
use Rattle.area.proofs.notes.remarked.Goals as goal

pub returns : goal.returns
returns c =
    let s = c.args in
    let p : ℕ → Bool = λ k. same_remark (row_in s.work.now (32768 + 16 * k)) s.r in
    any_below p s.n c.any.result
    (cases_from_any _ _ c.any.result (λ k. p k ≡ true) (λ k. p k ≡ false) c.any.ensures.ran (YieldsList-from_range 0 s.n s.n (cc) (omega arith))
    (λ x q k. search (rules, tests)) (λ x q k. search (rules, tests)))
    ∙ any_row s.work.now 32768 s.n s.r
