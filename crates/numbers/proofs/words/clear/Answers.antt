-- `numbers::words::clear` meets its contract. Assumes nothing.
use Rattle.std.proofs.Common.{ℕ, ◌+◌, ◌-◌, drop, replicate, ap, sym, arith, ◌∙◌}
use lib.ListN.{length-drop}
use lib.Seq.{length-take-le}
use Rattle.numbers.proofs.Mid.{over_mid}
use Rattle.numbers.proofs.words.clear.Goals as goal

pub returns : goal.returns
returns c =
    over_mid c.args.at _ c.args.n c.args.s.now c.fill.new.self _ c.fill.ensures.len (omega arith) (omega arith) (c.fill.ensures.after (λ y e. e) ∙ sym (ap (λ (n : ℕ). replicate n 0) (let e = length-take-le (c.args.at + c.args.n - c.args.at) (drop c.args.at c.args.s.now) (omega (arith, length-drop c.args.at c.args.s.now)) in omega (arith, e))))
