-- `numbers::words::write` meets its contract. Assumes nothing.
use Rattle.std.proofs.Common.{ℕ, ◌-◌, List, take, drop, ap, arith, ◌∙◌}
use Rattle.numbers.specs.Words.{over}
use Rattle.numbers.proofs.Mid.{lowest_of}
use Rattle.numbers.proofs.words.write.Goals as goal

pub returns : goal.returns
returns c =
    let a = c.args in
    c.copy.ensures
    ∙ ap (over a.s.now a.at) (ap (λ (b : List ℕ). take (8 - (8 - a.k)) (drop (8 - a.k) b)) c.to_be_bytes.ensures ∙ lowest_of a.k a.v (omega arith))
