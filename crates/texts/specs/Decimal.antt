-- "text of an optional sign, one to nine digits in all and at most one point, with a digit on either side of it or both"
use Rattle.std.specs.Prelude.{ℕ, Bool, cond, ◌&&◌, ◌++◌, leb, eqb, length, take, drop, Option, None, option_map}
use Rattle.numbers.specs.Words.{Bytes}
use Rattle.conversions.specs.Radix.{first_of, number}
use Rattle.conversions.specs.Radix as Radix
use Rattle.conversions.specs.declared.decimal.Decimal.{Decimal}
use Rattle.texts.specs.Float.{leading_digits, after_digits, is_point, after_sign}
use Rattle.texts.specs.Float as Float

-- a minus stands in front
abbrev pub is_minus : Bytes → Bool
is_minus l = eqb (first_of l) 45

-- the digits in front
abbrev pub whole_digits : Bytes → Bytes
whole_digits l = take (leading_digits l) l

-- without the point if one stands in front
abbrev pub without_point : Bytes → Bytes
without_point l = cond (is_point l) (drop 1 l) l

-- what follows the digits in front and the point behind them; with no point, nothing or a first byte that is no digit
abbrev pub after_point : Bytes → Bytes
after_point l = without_point (after_digits l)

-- the number of "one to nine digits in all" and nothing else
abbrev pub nine_digits : Bytes → Option ℕ
nine_digits l = cond (leb 1 (length l) && leb (length l) 9) (number 10 0 l) None

-- the number of a text behind its sign, and where its point is
abbrev pub decimal_from : Bool → Bytes → Option Decimal
decimal_from minus l =
    option_map (λ n. record { minus = minus; digits = n; places = length (after_point l) }) (nine_digits (whole_digits l ++ after_point l))

-- the decimal that a text is
unfoldable pub decimal_of : Bytes → Option Decimal
decimal_of t = decimal_from (is_minus t) (after_sign t)

-- for evaluation
unfoldable pub evaluated : Bytes → Option Decimal
unfolding Radix.evaluated Float.evaluated decimal_of
evaluated t = decimal_of t
