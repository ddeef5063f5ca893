-- A whole number written in a radix from 2 to 36, as Rust's `from_str_radix` reads it: over any radix and any width.
use Rattle.std.specs.Prelude.{ℕ, ◌+◌, ◌-◌, ◌*◌, ◌^◌, true, false, cond, [], ◌∷◌, leb, ltb, eqb, get_or, drop, ℤ, pos, neg_ℤ, Option, Some, None, option_map}
use Rattle.numbers.specs.Words.{Bytes}

-- The number that a digit or a letter in either case stands for; 36, which no radix has, for any other byte.
-- From the lowest byte up: the digits are 48 to 57, the capitals 65 to 90, the small letters 97 to 122.
unfoldable pub digit_of : ℕ → ℕ
digit_of b =
    cond (ltb b 48) 36
    (cond (ltb b 58) (b - 48)
    (cond (ltb b 65) 36 (cond (ltb b 91) (b - 55) (cond (ltb b 97) 36 (cond (ltb b 123) (b - 87) 36)))))

-- the digits of a text, behind digits whose number is n
unfoldable pub number : ℕ → ℕ → Bytes → Option ℕ
number r n [] = Some n
number r n (b ∷ bs) = elim (ltb (digit_of b) r) [ true ↦ number r (n * r + digit_of b) bs | false ↦ None ]

-- a number above the limit is none
abbrev pub up_to : ℕ → Option ℕ → Option ℕ
up_to max None = None
up_to max (Some n) = cond (leb n max) (Some n) None

-- one digit at least, and nothing but digits
unfoldable pub plain : ℕ → Bytes → Option ℕ
plain r [] = None
plain r (b ∷ bs) = number r 0 (b ∷ bs)

-- the same up to a limit
abbrev pub digits : ℕ → ℕ → Bytes → Option ℕ
digits r max l = up_to max (plain r l)

-- the first byte, or 0
abbrev pub first_of : Bytes → ℕ
first_of l = get_or l 0 0

-- what follows a '+'
unfoldable pub after_plus : Bytes → Bytes
after_plus l = cond (eqb (first_of l) 43) (drop 1 l) l

-- unsigned at a width: an optional '+'
unfoldable pub unsigned : ℕ → ℕ → Bytes → Option ℕ
unsigned w r l = digits r (2 ^ w - 1) (after_plus l)

-- minus n
abbrev pub minus_of : ℕ → ℤ
minus_of n = neg_ℤ (pos n)

-- signed at a width: an optional '+' or '-'
unfoldable pub signed : ℕ → ℕ → Bytes → Option ℤ
signed w r l =
    cond (eqb (first_of l) 45)
    (option_map minus_of (digits r (2 ^ (w - 1)) (drop 1 l)))
    (option_map pos (digits r (2 ^ (w - 1) - 1) (after_plus l)))

-- for evaluation
unfoldable pub evaluated : ℕ → ℕ → Bytes → Option ℤ
unfolding signed unsigned after_plus plain number digit_of
evaluated w r l = signed w r l
