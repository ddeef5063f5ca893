-- An f32 as a signed number of 64 bits: toward zero, at the nearer end where it lies outside, and 0 for what is no number.
use Rattle.std.specs.Prelude.{cond, ℕ, ◌-◌, ◌/◌, ◌^◌, min, ltb, ℤ, pos, neg_ℤ}
use Rattle.conversions.specs.Single.{inf, low, units}

-- the whole part of the pattern p with no sign bit; an infinity's is past every end
unfoldable pub whole : ℕ → ℕ
whole p = units p / 2 ^ 149

-- "truncates toward zero, saturates at the i64 ends, and NaN gives 0"
unfoldable pub i64_of : ℕ → ℤ
i64_of b =
    cond (ltb inf (low b)) (pos 0)
    (cond (ltb b (2 ^ 31)) (pos (min (whole (low b)) (2 ^ 63 - 1))) (neg_ℤ (pos (min (whole (low b)) (2 ^ 63)))))

-- for evaluation
unfoldable pub evaluated : ℕ → ℤ
unfolding i64_of whole
evaluated b = i64_of b
