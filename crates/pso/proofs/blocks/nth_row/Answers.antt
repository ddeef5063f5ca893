-- `pso::blocks::nth_row` meets its contract. Assumes nothing.
use mathlib.Core.Path.{ap, ◌∙◌}
use native.Mathlib.Omega.{arith}
use lib.ListN.{length}
use Rattle.numbers.specs.Words.{read_at}
use Rattle.schema.proofs.Walk.{onward_or, ended_or}
use Rattle.pso.proofs.Numbered.{first, block_end, block_found, block_turn, block_none}
use Rattle.pso.proofs.blocks.nth_row.Goals as goal

pub loop-section-init : goal.loop-section-init
loop-section-init c =
    let e = c.new-cursor.ensures in
    (e.0, omega (arith, e.1), first c.args.file.now c.args.n _ (rw (e.0, e.1)))

pub returns-then-k-rows : goal.returns-then-k-rows
returns-then-k-rows c =
    let a = c.args in
    let s = c.in-Some.section in
    let l = c.loop-section in
    let o = onward_or l.cursor c.step.result _ c.step.ensures c.unwrap_or.ensures s c.in-Some.next c.in-Some.is in
    block_found a.file.now a.n (read_at 4 s.bytes.now 0) s.bytes.now _ l.k (rw o.left at l.invariant.2) c.in-Some-rows_of.rows c.in-Some-rows_of.ensures c.if-k-rows.true _ c.row_at.ensures

pub loop-section-preserved-else-k-rows : goal.loop-section-preserved-else-k-rows
loop-section-preserved-else-k-rows c =
    let a = c.args in
    let s = c.in-Some.section in
    let l = c.loop-section in
    let o = onward_or l.cursor c.step.result _ c.step.ensures c.unwrap_or.ensures s c.in-Some.next c.in-Some.is in (
      o.step.same ∙ l.invariant.0,
      omega (arith, o.step.inside, o.step.on, ap length l.invariant.0),
      block_turn a.file.now a.n (read_at 4 s.bytes.now 0) s.bytes.now _ l.k (rw o.left at l.invariant.2) c.in-Some-rows_of.rows c.in-Some-rows_of.ensures c.if-k-rows.false,
    )

pub loop-section-preserved : goal.loop-section-preserved
loop-section-preserved c =
    let a = c.args in
    let s = c.in-Some.section in
    let l = c.loop-section in
    let o = onward_or l.cursor c.step.result _ c.step.ensures c.unwrap_or.ensures s c.in-Some.next c.in-Some.is in (
      o.step.same ∙ l.invariant.0,
      omega (arith, o.step.inside, o.step.on, ap length l.invariant.0),
      block_none a.file.now a.n (read_at 4 s.bytes.now 0) s.bytes.now _ l.k (rw o.left at l.invariant.2) c.in_default-rows_of.ensures,
    )

pub returns : goal.returns
returns c =
    let a = c.args in
    let l = c.loop-section in
    block_end a.file.now a.n _ l.k l.invariant.2 (ended_or l.cursor c.step.result _ c.step.ensures c.unwrap_or.ensures c.in_default.is)
