-- `schema::cursor::Cursor::step` meets its contract. Assumes nothing.
use mathlib.Core.Path.{refl, sym, ap, ◌∙◌}
use mathlib.Core.List.{List}
use Prim.Native.Nat.{ℕ, ◌+◌}
use native.Mathlib.Omega.{arith}
use lib.ListN.{length, take, drop}
use Rattle.numbers.specs.Words.{read_at}
use Rattle.schema.specs.Sections.{section}
use Rattle.schema.specs.Steps.{rest}
use Rattle.schema.proofs.Walk.{at_end_law, at_short, at_long, at_section, part_is, part_length}
use Rattle.schema.proofs.cursor.Cursor.step.Goals as goal
use Rattle.schema.proofs.cursor.Cursor.step.Goals.{then-len-lt8-via-then-len-lt8, then-len-lt8-via-else-len-lt8+then-n-len}

pub returns-then-n-lt8 : goal.returns-then-n-lt8
returns-then-n-lt8 c =
    (at_end_law c.args.self.file.now c.args.self.at (omega arith), tt)

pub returns-then-len-lt8 : goal.returns-then-len-lt8
returns-then-len-lt8 c =
    let F = c.args.self.file.now in
    let at = c.args.self.at in
    let n = c.read-len.result in
    let e = c.read-len.ensures in
    elim c.then-len-lt8.branch [
      | then-len-lt8-via-then-len-lt8 w ↦ (at_short F at n e (omega arith) (omega arith), refl)
      | then-len-lt8-via-else-len-lt8+then-n-len w ↦ (at_long F at n e (omega arith) (omega arith) (omega arith), refl)
    ]

pub returns : goal.returns
returns c =
    let F = c.args.self.file.now in
    let at = c.args.self.at in
    let n = c.read-len.result in
    let p = part_is F at n in
    let l = ap length p ∙ part_length F at n (omega arith) in (
      at_section F at n c.read-len.ensures (omega arith) (omega arith) (omega arith) ∙ ap (λ (x : List ℕ). section (read_at 4 x 0) x (rest F (at + n))) (sym p),
      record {
        here = refl;
        least = omega (arith, l);
        inside = omega (arith, l);
        part = p ∙ ap (λ (x : ℕ). take x (drop at F)) (sym l);
        on = ap (at +◌) (sym l);
        same = refl;
      },
    )
