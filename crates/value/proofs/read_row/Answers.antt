-- `value::read_row` meets its contract. Assumes nothing.
use mathlib.Core.Path.{◌≡◌, ap, ◌∙◌}
use Prim.Native.Nat.{ℕ, ◌+◌, ◌-◌}
use lib.ListN.{take, drop}
use native.Mathlib.Omega.{arith}
use Rattle.numbers.specs.Words.{Bytes}
use Rattle.value.specs.Rows.{row, row_at, fields_at, null_row}
use Rattle.value.proofs.Laws
use Rattle.value.proofs.read_row.Goals as goal

pub returns-then-r-left : goal.returns-then-r-left
unfolding row
returns-then-r-left c =
    let a = c.args in
    let n : (row_at a.r + 24) - row_at a.r ≡ 24 = omega arith in
    c.row_of.ensures ∙ ap (λ (x : ℕ). fields_at (take x (drop (row_at a.r) a.sheet.now)) 0) n ∙ Laws.fields_within a.sheet.now (row_at a.r)

pub returns-then-sheet-r : goal.returns-then-sheet-r
unfolding row
returns-then-sheet-r c =
    let d = c.default.ensures in
    let e : c.default.result ≡ null_row = rw (d.0, d.1.0, d.1.1.0, d.1.1.1.0, d.1.1.1.1.0, d.1.1.1.1.1.0, d.1.1.1.1.1.1) in
    e ∙ Laws.fields_past c.args.sheet.now (row_at c.args.r) (omega (arith, c.if-sheet-r.true))

pub returns : goal.returns
unfolding row
returns c =
    c.row_of-2.ensures ∙ ap (λ (x : Bytes). fields_at x 0) c.part_from.ensures ∙ Laws.fields_behind c.args.sheet.now (row_at c.args.r)
