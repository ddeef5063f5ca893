-- `conversions::parse::i64_of` meets its contract. Assumes nothing.
use mathlib.Core.Path.{◌≡◌, ap, ◌∙◌}
use Prim.Native.Nat.{◌-◌, ◌^◌}
use Rattle.std.proofs.Common.{rules}
use native.Mathlib.Omega.{arith}
use borrow.Author.Tests.{ltb-true}
use lib.ListN.{drop}
use lib.IntN.{pos, +ℤ_idl}
use mir.Syntax.{w64}
use mir.Val.{SFits}
use Rattle.numbers.proofs.Parts.{part_rest}
use Rattle.conversions.specs.Radix.{plain, digits, after_plus, first_of, minus_of}
use Rattle.conversions.proofs.Integers.{first_none, signed_minus, signed_plus, narrow_none, narrow_some, ok_some, minus_fits, minus_low, plus_fits, plus_low}
use Rattle.conversions.proofs.parse.i64_of.Goals as goal
use Rattle.conversions.proofs.parse.i64_of.Goals.{in_default-via-then-s-lt1, in_default-via-else-s-lt1+in_default-1}

pub returns-in_err-number_of-in-45 : goal.returns-in_err-number_of-in-45
returns-in_err-number_of-in-45 c =
    let s = c.args.s.now in
    let r = c.args.radix in
    c.from_residual.ensures
    ∙ narrow_none minus_of (2 ^ 63) (2 ^ 64 - 1) (omega arith) (plain r (drop 1 s)) (c.in_err-number_of-in-45.ensures ∙ ap (digits r (2 ^ 64 - 1)) (part_rest s 1))
    ∙ signed_minus r s (search rules)

pub returns-in_err-number_of-in_default : goal.returns-in_err-number_of-in_default
returns-in_err-number_of-in_default c =
    let s = c.args.s.now in
    let r = c.args.radix in
    let t = after_plus s in
    let e : first_of s ≡ 45 → ⊥ =
    λ h. elim c.in_default.branch [
      | in_default-via-then-s-lt1 w ↦ omega (arith, first_none s (omega (arith, ltb-true)))
      | in_default-via-else-s-lt1+in_default-1 w ↦ omega arith
    ] in
    c.from_residual-in_err-number_of-in_default.ensures
    ∙ narrow_none pos (2 ^ 63 - 1) (2 ^ 64 - 1) (omega arith) (plain r t) (c.in_err-number_of-in_default.ensures ∙ ap (digits r (2 ^ 64 - 1)) c.after_plus.ensures)
    ∙ signed_plus r s e

pub returns-in_ok-number_of-in-45 : goal.returns-in_ok-number_of-in-45
returns-in_ok-number_of-in-45 c =
    let s = c.args.s.now in
    let r = c.args.radix in
    let n = c.in_ok-number_of-in-45.field-0 in
    narrow_some minus_of (2 ^ 63) (2 ^ 64 - 1) (omega arith) (plain r (drop 1 s)) n (c.in_ok-number_of-in-45.ensures ∙ ap (digits r (2 ^ 64 - 1)) (part_rest s 1)) (SFits w64 (minus_of n))
    (minus_low n) (minus_fits n) _ (rw (← +ℤ_idl (minus_of n)) c.checked_sub_unsigned.ensures)
    ∙ signed_minus r s (search rules)

pub returns-in_ok-number_of-in_default : goal.returns-in_ok-number_of-in_default
returns-in_ok-number_of-in_default c =
    let s = c.args.s.now in
    let r = c.args.radix in
    let t = after_plus s in
    let n = c.in_ok-number_of-in_default.field-0 in
    let e : first_of s ≡ 45 → ⊥ =
    λ h. elim c.in_default.branch [
      | in_default-via-then-s-lt1 w ↦ omega (arith, first_none s (omega (arith, ltb-true)))
      | in_default-via-else-s-lt1+in_default-1 w ↦ omega arith
    ] in
    c.ok.ensures.value
    ∙ narrow_some pos (2 ^ 63 - 1) (2 ^ 64 - 1) (omega arith) (plain r t) n (c.in_ok-number_of-in_default.ensures ∙ ap (digits r (2 ^ 64 - 1)) c.after_plus.ensures) (SFits w64 (pos n))
    (plus_low n) (plus_fits n) _ (ok_some _ _ _ c.try_from.ensures)
    ∙ signed_plus r s e
