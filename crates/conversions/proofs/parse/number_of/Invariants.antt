-- `conversions::parse::number_of` meets its contract. The invariant: the digits that are left, behind n, give what all the digits give. Assumes nothing.
use Rattle.std.specs.Prelude.{◌≡◌, ◌≤◌, ◌-◌, ◌^◌, drop}
use Rattle.conversions.specs.Radix.{number, up_to, digits}
use Rattle.conversions.proofs.parse.number_of.Given as goal

abbrev pub invariant-loop-b : goal.invariant-loop-b
invariant-loop-b l = (l.n ≤ 2 ^ 64 - 1) × (up_to (2 ^ 64 - 1) (number l.radix l.n (drop l.b-index l.s)) ≡ digits l.radix (2 ^ 64 - 1) l.s)
