-- What Rust's `f32` and `f64` parse takes: refusal 11's grammar, but for decimals (`Decimal`).
use Rattle.std.specs.Prelude.{ℕ, suc, ◌+◌, Bool, true, false, cond, ◌&&◌, ◌||◌, [], ◌∷◌, leb, eqb, drop}
use Rattle.numbers.specs.Words.{Bytes, is_empty}
use Rattle.conversions.specs.Radix.{first_of}
use Rattle.texts.specs.Text.{is_word}

-- a decimal digit
abbrev pub is_digit : ℕ → Bool
is_digit b = leb 48 b && leb b 57

-- how many digits stand in front
unfoldable pub leading_digits : Bytes → ℕ
leading_digits [] = 0
leading_digits (b ∷ bs) = elim (is_digit b) [ true ↦ suc (leading_digits bs) | false ↦ 0 ]

-- what follows the digits in front
abbrev pub after_digits : Bytes → Bytes
after_digits l = drop (leading_digits l) l

-- a point stands in front
abbrev pub is_point : Bytes → Bool
is_point l = eqb (first_of l) 46

-- "optional sign"
unfoldable pub after_sign : Bytes → Bytes
after_sign l = cond (eqb (first_of l) 43 || eqb (first_of l) 45) (drop 1 l) l

-- "one or more digits" and nothing else
unfoldable pub only_digits : Bytes → Bool
only_digits l = leb 1 (leading_digits l) && is_empty (after_digits l)

-- "optionally followed by e, optional sign and one or more digits"
unfoldable pub exponent : Bytes → Bool
exponent l = is_empty l || ((eqb (first_of l) 101 || eqb (first_of l) 69) && only_digits (after_sign (drop 1 l)))

-- "digits with at most one point and at least one digit"
unfoldable pub decimal : Bytes → Bool
decimal l =
    let r = after_digits l in
    cond (is_point r)
    (leb 1 (leading_digits l + leading_digits (drop 1 r)) && exponent (after_digits (drop 1 r)))
    (leb 1 (leading_digits l) && exponent r)

-- "inf, infinity, nan"
unfoldable pub special : Bytes → Bool
special l =
    is_word (105 ∷ 110 ∷ 102 ∷ []) l || is_word (105 ∷ 110 ∷ 102 ∷ 105 ∷ 110 ∷ 105 ∷ 116 ∷ 121 ∷ []) l
    || is_word (110 ∷ 97 ∷ 110 ∷ []) l

-- "that parse would succeed: optional sign, then inf, infinity, nan, or digits .."
unfoldable pub parses_float : Bytes → Bool
parses_float l = special (after_sign l) || decimal (after_sign l)

-- for evaluation
unfoldable pub evaluated : Bytes → Bool
unfolding leading_digits after_sign only_digits exponent decimal special parses_float
evaluated l = parses_float l
