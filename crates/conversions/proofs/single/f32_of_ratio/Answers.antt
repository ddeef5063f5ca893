-- `conversions::single::f32_of_ratio` meets its contract: the shifts lose nothing. Assumes nothing.
use native.Mathlib.Omega.{arith}
use Prim.Native.Nat.{ℕ, ◌<◌}
use mathlib.Core.Path.{◌≡◌}
use Rattle.conversions.specs.Round.{ratio_of}
use Rattle.conversions.proofs.Ratio.{shift_high, divisor_even, c_high, ratio_is}
use Rattle.conversions.proofs.single.f32_of_ratio.Goals as goal

some : (n : ℕ) → (n ≡ 0 → ⊥) → 0 < n
some n h = omega (arith, h)

pub returns-then-n-eq0 : goal.returns-then-n-eq0
unfolding ratio_of
returns-then-n-eq0 c = rw c.if-n-eq0.true

pub quotient_even-c-requires : goal.quotient_even-c-requires
quotient_even-c-requires c =
    divisor_even c.args.n c.args.d (some c.args.n c.if-n-eq0.false) c.ranges.n.fits c.requires.0 c.requires.1 c.divisor_shift-s.result c.divisor_shift-s.ensures

pub overflow_cast-result : goal.overflow_cast-result
overflow_cast-result c =
    omega (
      arith,
      c_high c.args.n c.args.d (some c.args.n c.if-n-eq0.false) c.ranges.n.fits c.requires.0 c.requires.1 c.divisor_shift-s.result c.divisor_shift-s.ensures c.quotient_even-c.result c.quotient_even-c.ensures,
    )

pub overflow_add-result-2 : goal.overflow_add-result-2
overflow_add-result-2 c =
    let n = c.args.n in
    let p = some n c.if-n-eq0.false in
    omega (
      arith,
      shift_high n c.args.d p c.ranges.n.fits c.requires.0 c.requires.1 c.divisor_shift-s.result c.divisor_shift-s.ensures,
      c_high n c.args.d p c.ranges.n.fits c.requires.0 c.requires.1 c.divisor_shift-s.result c.divisor_shift-s.ensures c.quotient_even-c.result c.quotient_even-c.ensures,
    )

pub returns : goal.returns
returns c =
    ratio_is c.args.n c.args.d (some c.args.n c.if-n-eq0.false) c.ranges.n.fits c.requires.0 c.requires.1 c.divisor_shift-s.result c.divisor_shift-s.ensures c.quotient_even-c.result c.quotient_even-c.ensures
