-- A fraction as the nearest f32, ties to even: what is right (`Nearest`), and a definition that computes (`ratio_of`). A whole number is
-- a fraction over 1 (`f32_of`).
use Rattle.std.specs.Prelude.{◌≡◌, Bool, true, false, cond, ℕ, zero, suc, ◌+◌, ◌-◌, ◌*◌, ◌/◌, ◌%◌, ◌^◌, ◌≤◌, ◌<◌, ltb, eqb, ℤ, pos, negsuc, nat_abs}
use Rattle.std.specs.Int.Count.{count_leading_zeros}
use Rattle.conversions.specs.Single.{inf, low, value, away}

-- the pattern b is finite
abbrev pub Finite : ℕ → Type 0
Finite b = (b < 2 ^ 32) × (low b < inf)

-- the sign bit of r is set just where `minus`
abbrev pub Signed : Bool → ℕ → Type 0
Signed false r = r < 2 ^ 31
Signed true r = 2 ^ 31 ≤ r

-- r is the pattern of n / d, or where `minus` of -n / d, by IEEE 754's default rounding; d is above 0, and n / d below the half step behind
-- the largest finite value. No finite pattern is nearer; where another value is as near, r's last digit is even; and the sign bit is
-- `minus`, so that -0 has a pattern of its own.
pub record Nearest (minus : Bool) (n d r : ℕ) : Type 0 where
  pub finite : Finite r
  pub nearest : (y : ℕ) → Finite y → away minus n d r ≤ away minus n d y
  pub even : (y : ℕ) → Finite y → away minus n d y ≡ away minus n d r → (value y ≡ value r → ⊥) → r % 2 ≡ 0
  pub sign : Signed minus r

-- the quotient q, or the next number up, by how the remainder compares with half of the divisor; at a tie the even one
abbrev pub even_up : ℕ → ℕ → ℕ → ℕ
even_up q rest half = cond (ltb rest half) q (cond (eqb rest half) (q + q % 2) (q + 1))

-- n / d to the nearest whole number, at a tie to the even one; d is even
abbrev pub round_quotient : ℕ → ℕ → ℕ
round_quotient n d = even_up (n / d) (n % d) (d / 2)

-- By how many binary digits the divisor d is moved up, so that t, whose first digit is in place 63, gives a quotient of 24 digits: d's first
-- digit comes to place 40, or to place 39 where t's digits are those of a smaller number than d's.
abbrev pub divisor_shift : ℕ → ℕ → ℕ
divisor_shift t d =
    let v = count_leading_zeros 64 d in
    cond (ltb t (d * 2 ^ v)) (v - 24) (v - 23)

-- The pattern of n / d: n's binary digits are moved up so that 64 are in use, and the quotient's 24 digits are rounded. The exponent is 1 too
-- small, since the leading digit is added in; where rounding carries, the sum moves to the next exponent.
unfoldable pub ratio_of : ℕ → ℕ → ℕ
ratio_of zero d = zero
ratio_of (suc k) d =
    let z = count_leading_zeros 64 (suc k) in
    let t = suc k * 2 ^ z in
    let s = divisor_shift t d in
    (149 + s - z) * 2 ^ 23 + round_quotient t (d * 2 ^ s)

-- the pattern of a whole number
abbrev pub mag_of : ℕ → ℕ
mag_of n = ratio_of n 1

-- a pattern with the sign bit
abbrev pub with_bit : Bool → ℕ → ℕ
with_bit false p = p
with_bit true p = 2 ^ 31 + p

-- x is below 0
abbrev pub is_negative : ℤ → Bool
is_negative (pos n) = false
is_negative (negsuc n) = true

-- the f32 of a signed whole number
unfoldable pub f32_of : ℤ → ℕ
f32_of x = with_bit (is_negative x) (mag_of (nat_abs x))

-- r is the f32 of the whole number x
pub record Rounded (x : ℤ) (r : ℕ) : Type 0 where
  pub is : r ≡ f32_of x
  pub nearest : Nearest (is_negative x) (nat_abs x) 1 r

-- for evaluation
unfoldable pub evaluated : ℤ → ℕ
unfolding f32_of ratio_of count_leading_zeros
evaluated z = f32_of z
