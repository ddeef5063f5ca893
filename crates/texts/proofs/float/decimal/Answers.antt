-- `texts::float::decimal` meets its contract. Assumes nothing.
use mathlib.Core.Path.{◌≡◌, sym, ap, ◌∙◌}
use Prim.Native.Nat.{◌+◌, ◌-◌}
use native.Mathlib.Omega.{arith}
use borrow.Author.Tests.{le-leb, lt-leb, ltb-true}
use lib.ListN.{drop, take, length}
use Rattle.numbers.proofs.Parts.{part_rest}
use Rattle.conversions.specs.Radix.{first_of}
use Rattle.conversions.proofs.Integers.{first_none}
use Rattle.texts.specs.Float
use Rattle.texts.proofs.Decimals.{point_is, pointless_is, and_then, and_else, after_part}
use Rattle.texts.proofs.float.decimal.Goals as goal
use Rattle.texts.proofs.float.decimal.Goals.{in_default-via-then-t-lt1, in_default-via-else-t-lt1+in_default-1}

pub returns-then-n-m-ge1 : goal.returns-then-n-m-ge1
returns-then-n-m-ge1 c =
    let n = c.leading_digits-n.result in
    let m = c.leading_digits-m.result in
    let u = after_part c.args.s.now n in
    let e : first_of (drop n c.args.s.now) ≡ 46 = sym (ap first_of (part_rest c.args.s.now n)) ∙ omega arith in
    c.exponent.ensures ∙ ap Float.exponent (part_rest _ m ∙ ap (drop m) u)
    ∙ and_then _ _ _ (point_is c.args.s.now n c.leading_digits-n.ensures.0 e m (c.leading_digits-m.ensures.0 ∙ ap Float.leading_digits u))
    (le-leb 1 (n + m) c.if-n-m-ge1.true)

pub returns-else-n-m-ge1 : goal.returns-else-n-m-ge1
returns-else-n-m-ge1 c =
    let n = c.leading_digits-n.result in
    let m = c.leading_digits-m.result in
    let u = after_part c.args.s.now n in
    let e : first_of (drop n c.args.s.now) ≡ 46 = sym (ap first_of (part_rest c.args.s.now n)) ∙ omega arith in
    and_else _ _ _ (point_is c.args.s.now n c.leading_digits-n.ensures.0 e m (c.leading_digits-m.ensures.0 ∙ ap Float.leading_digits u))
    (lt-leb 1 (n + m) c.if-n-m-ge1.false)

pub returns-then-n-ge1 : goal.returns-then-n-ge1
returns-then-n-ge1 c =
    let n = c.leading_digits-n.result in
    let t = take (length c.args.s.now - n) (drop n c.args.s.now) in
    let e : first_of t ≡ 46 → ⊥ =
    λ h. elim c.in_default.branch [
      | in_default-via-then-t-lt1 w ↦ omega (arith, first_none t (omega (arith, ltb-true)))
      | in_default-via-else-t-lt1+in_default-1 w ↦ omega arith
    ] in
    c.exponent-then-n-ge1.ensures ∙ ap Float.exponent (part_rest c.args.s.now n)
    ∙ and_then _ _ _ (pointless_is c.args.s.now n c.leading_digits-n.ensures.0 (λ q. e (ap first_of (part_rest c.args.s.now n) ∙ q))) (le-leb 1 n c.if-n-ge1.true)

pub returns-else-n-ge1 : goal.returns-else-n-ge1
returns-else-n-ge1 c =
    let n = c.leading_digits-n.result in
    let t = take (length c.args.s.now - n) (drop n c.args.s.now) in
    let e : first_of t ≡ 46 → ⊥ =
    λ h. elim c.in_default.branch [
      | in_default-via-then-t-lt1 w ↦ omega (arith, first_none t (omega (arith, ltb-true)))
      | in_default-via-else-t-lt1+in_default-1 w ↦ omega arith
    ] in
    and_else _ _ _ (pointless_is c.args.s.now n c.leading_digits-n.ensures.0 (λ q. e (ap first_of (part_rest c.args.s.now n) ∙ q))) (lt-leb 1 n c.if-n-ge1.false)
