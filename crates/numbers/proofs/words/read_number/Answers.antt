-- `numbers::words::read_number` meets its contract. Assumes nothing.
use Rattle.std.proofs.Common.{◌≡◌, ◌+◌, ◌-◌, ◌≤◌, ◌^◌, ℕ, take, drop, ap, sym, arith}
use native.Mathlib.Nat.{pow-le-pow_right}
use Rattle.numbers.proofs.Parts.{read_none}
use Rattle.numbers.proofs.Mid.{read_parts}
use Rattle.numbers.proofs.words.read_number.Goals as goal

pub returns-then-s-at : goal.returns-then-s-at
returns-then-s-at c =
    let k = c.args.k in
    let z : 0 ≤ k = omega arith in
    let e : 256 ^ 0 ≤ 256 ^ k = pow-le-pow_right (omega arith) z in
    (sym (read_none k c.args.s.now c.args.at c.if-s-at.true), omega arith)

pub returns : goal.returns
returns c =
    let a = c.args in
    let n : a.at + a.k - a.at ≡ a.k = omega arith in
    read_parts a.k a.s.now _ a.at c.number_of.result (ap (λ (j : ℕ). take j (drop a.at a.s.now)) n) c.number_of.ensures.0 c.number_of.ensures.1
