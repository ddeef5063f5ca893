-- A decimal digits / 10 ^ places as the nearest f32 and as a whole number.
use Rattle.std.specs.Prelude.{◌≡◌, ℕ, ◌/◌, ◌^◌, ℤ}
use Rattle.conversions.specs.Single.{with_sign}
use Rattle.conversions.specs.Round.{Nearest, ratio_of, with_bit}
use Rattle.conversions.specs.Round as Round
use Rattle.conversions.specs.declared.decimal.Decimal.{Decimal}

-- "the f32 nearest to the exact fraction, ties to even", with its sign: "-0" gives 0x80000000
unfoldable pub f32_of_decimal : Decimal → ℕ
f32_of_decimal x = with_bit x.minus (ratio_of x.digits (10 ^ x.places))

-- "in integer places it is truncated toward zero"
unfoldable pub i64_of_decimal : Decimal → ℤ
i64_of_decimal x = with_sign x.minus (x.digits / 10 ^ x.places)

-- r is the f32 of the decimal x
pub record RoundedDecimal (x : Decimal) (r : ℕ) : Type 0 where
  pub is : r ≡ f32_of_decimal x
  pub nearest : Nearest x.minus x.digits (10 ^ x.places) r

-- for evaluation
unfoldable pub evaluated : Decimal → ℕ
unfolding Round.evaluated f32_of_decimal i64_of_decimal
evaluated x = f32_of_decimal x
