-- `area::used::contains` meets its contract. Assumes nothing.
use mathlib.Core.Path.{◌≡◌, ◌∙◌}
use mathlib.Core.Bool.{Bool, true, false}
use Prim.Native.Nat.{ℕ, ◌+◌, ◌*◌}
use native.Mathlib.Omega.{arith}
use lib.Dec.{eqb}
use borrow.Author.Rules.{rules}
use borrow.Author.Tests.{tests}
use Rattle.std.proofs.lemmas.Iterator.{cases_from_any, YieldsList-from_range}
use Rattle.numbers.specs.Words.{read_at}
use Rattle.area.proofs.Anys.{any_below}
use Rattle.area.proofs.Names.{any_name}
use Rattle.area.proofs.used.contains.Goals as goal

pub returns : goal.returns
returns c =
    let s = c.args in
    let p : ℕ → Bool = λ k. eqb (read_at 4 s.work.now (s.at + 4 * k)) s.name in
    any_below p s.n c.any.result
    (cases_from_any _ _ c.any.result (λ k. p k ≡ true) (λ k. p k ≡ false) c.any.ensures.ran (YieldsList-from_range 0 s.n s.n (cc) (omega arith))
    (λ x q k. search (rules, tests)) (λ x q k. search (rules, tests)))
    ∙ any_name s.work.now s.at s.n s.name
