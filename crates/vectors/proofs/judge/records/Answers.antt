-- `vectors::judge::records` meets its contract. Assumes nothing.
use Rattle.std.proofs.Common.{rules, ◌≡◌, ℕ, ◌<◌, true, false, get_or}
use Rattle.layout.specs.Build.{zero_remark}
use Rattle.vectors.specs.Judge.{wanted_at}
use Rattle.vectors.proofs.Judging.{alike, records_is}
use Rattle.vectors.proofs.judge.records.Goals as goal

pub returns : goal.returns
returns c =
    let s = c.args.s.now in
    let n = c.args.n in
    let m = c.args.count in
    let l = c.args.list in
    let all : c.all.result ≡ true → (k : ℕ) → k < 64 → alike (get_or l k zero_remark) (wanted_at s m n k) ≡ true = search rules in
    let one : c.all.result ≡ false → (k : ℕ) × (k < 64) × (alike (get_or l k zero_remark) (wanted_at s m n k) ≡ false) = search rules in
    records_is s m n l c.all.result all one
