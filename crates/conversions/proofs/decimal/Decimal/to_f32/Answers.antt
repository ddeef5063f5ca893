-- `conversions::decimal::Decimal::to_f32` meets its contract, by the law `decimal_nearest`. Assumes nothing.
use Rattle.std.specs.Prelude.{true, false}
use native.Mathlib.Omega.{arith}
use Rattle.conversions.proofs.Nearest.{ten_pos, ten_high, p_high, rounded_decimal}
use Rattle.conversions.proofs.decimal.Decimal.to_f32.Goals as goal

pub f32_of_ratio-p-requires : goal.f32_of_ratio-p-requires
f32_of_ratio-p-requires c =
    let k = c.args.self.places in (omega (arith, c.pow.ensures, ten_pos k), omega (arith, c.pow.ensures, ten_high k c.requires))

pub overflow_add-result : goal.overflow_add-result
overflow_add-result c =
    omega (arith, p_high c.args.self (omega (arith, c.from.ensures)) c.requires _ _ _ c.f32_of_ratio-p.ensures c.from.ensures c.pow.ensures)

pub returns-then-self : goal.returns-then-self
returns-then-self c =
    rounded_decimal c.args.self (omega (arith, c.from.ensures)) c.requires _ _ _ c.f32_of_ratio-p.ensures c.from.ensures c.pow.ensures true c.if-self.true

pub returns-else-self : goal.returns-else-self
returns-else-self c =
    rounded_decimal c.args.self (omega (arith, c.from.ensures)) c.requires _ _ _ c.f32_of_ratio-p.ensures c.from.ensures c.pow.ensures false c.if-self.false
