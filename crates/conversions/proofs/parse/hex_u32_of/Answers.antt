-- `conversions::parse::hex_u32_of` meets its contract. Assumes nothing.
use mathlib.Core.Path.{ap, ◌∙◌}
use Prim.Native.Nat.{◌-◌, ◌^◌, ◌<◌}
use native.Mathlib.Omega.{arith}
use Rattle.conversions.specs.Radix.{plain, digits, after_plus, unsigned}
use Rattle.conversions.proofs.Integers.{narrow_none, narrow_some, same, ok_some}
use Rattle.conversions.proofs.parse.hex_u32_of.Goals as goal

pub returns-in_err-number_of : goal.returns-in_err-number_of
unfolding unsigned
returns-in_err-number_of c =
    let t = after_plus c.args.s.now in
    c.from_residual.ensures
    ∙ narrow_none (λ n. n) (2 ^ 32 - 1) (2 ^ 64 - 1) (omega arith) (plain 16 t) (c.in_err-number_of.ensures ∙ ap (digits 16 (2 ^ 64 - 1)) c.after_plus.ensures)
    ∙ same (digits 16 (2 ^ 32 - 1) t)

pub returns : goal.returns
unfolding unsigned
returns c =
    let t = after_plus c.args.s.now in
    let n = c.in_ok-number_of.field-0 in
    c.ok.ensures.value
    ∙ narrow_some (λ n. n) (2 ^ 32 - 1) (2 ^ 64 - 1) (omega arith) (plain 16 t) n (c.in_ok-number_of.ensures ∙ ap (digits 16 (2 ^ 64 - 1)) c.after_plus.ensures) (n < 2 ^ 32)
    (λ l. omega arith) (λ l. omega arith) _ (ok_some _ _ _ c.try_from.ensures)
    ∙ same (digits 16 (2 ^ 32 - 1) t)
