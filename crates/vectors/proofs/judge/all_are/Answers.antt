-- `vectors::judge::all_are` meets its contract. Assumes nothing.
use Rattle.std.proofs.Common.{rules, ◌≡◌, ℕ, ◌<◌, true, false, length, get_or}
use Rattle.vectors.proofs.Judging.{all_is}
use Rattle.vectors.proofs.judge.all_are.Goals as goal

pub returns : goal.returns
returns c =
    let s = c.args.s.now in
    let b = c.args.b in
    let all : c.all.result ≡ true → (k : ℕ) → k < length s → get_or s k 0 ≡ b = search rules in
    let one : c.all.result ≡ false → (k : ℕ) × (k < length s) × (get_or s k 0 ≡ b → ⊥) = search rules in
    all_is b s c.all.result all one
