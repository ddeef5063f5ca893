-- `runs::text_run` meets its contract. Assumes nothing.
use lib.ListN.{length}
use Rattle.value.specs.Rows.{rows_from}
use Rattle.runs.proofs.Elements.{texts_zero, texts_fixed, texts_pointed, texts_hashed, texts_strange}
use native.Mathlib.Omega.{arith}
use mathlib.Core.Logic.{inl, inr}
use Rattle.runs.proofs.text_run.Goals as goal
use Rattle.area.proofs.Stepping.{also}
use Rattle.runs.proofs.text_run.Goals.{in_default-via-then-sub-lt7, in_default-via-else-sub-lt7+else-sub-lt9}

pub returns-then-len-eq0 : goal.returns-then-len-eq0
returns-then-len-eq0 c = λ F.
    let g = c.args in
    let t = g.at.now in
    let a = g.area.now in
    record {
      same = (c.stop_run.ensures.yields F).same;
      did = texts_zero a.round (length a.bytes.now) a.progress a.bytes.now g.sheet.now F t.structure t.member g.x (rows_from g.rows.first g.rows.count) c.high_half-len.result _ _ c.in-0.is c.high_half-len.ensures.0 c.if-len-eq0.true (rw c.into.ensures at (c.stop_run.ensures.yields F).did);
    }

pub returns-else-len-eq0 : goal.returns-else-len-eq0
returns-else-len-eq0 c = λ F.
    let g = c.args in
    let t = g.at.now in
    let a = g.area.now in
    also c.cell_run.ensures (λ h. texts_fixed a.round (length a.bytes.now) a.progress a.bytes.now g.sheet.now F t.structure t.member g.x (rows_from g.rows.first g.rows.count) c.high_half-len.result _ _ c.in-0.is c.high_half-len.ensures.0 c.if-len-eq0.false h)

pub returns-in-1-to-3 : goal.returns-in-1-to-3
returns-in-1-to-3 c = λ F.
    let g = c.args in
    let t = g.at.now in
    let a = g.area.now in
    also c.pointer_text_run.ensures (λ h. texts_pointed a.round (length a.bytes.now) a.progress a.bytes.now g.sheet.now F t.structure t.member g.x (rows_from g.rows.first g.rows.count) _ _ c.in-1-to-3.in_default-own.rest.1 c.in-1-to-3.if-sub-lt4-own.true h)

pub returns-in-7 : goal.returns-in-7
returns-in-7 c = λ F.
    let g = c.args in
    let t = g.at.now in
    let a = g.area.now in
    also c.cell_run-in-7.ensures (λ h. texts_hashed a.round (length a.bytes.now) a.progress a.bytes.now g.sheet.now F t.structure t.member g.x (rows_from g.rows.first g.rows.count) _ _ (omega arith) (omega arith) h)

pub returns-in_default : goal.returns-in_default
returns-in_default c = λ F.
    let g = c.args in
    let t = g.at.now in
    let a = g.area.now in
    record {
      same = (c.stop_run-in_default.ensures.yields F).same;
      did = texts_strange a.round (length a.bytes.now) a.progress a.bytes.now g.sheet.now F t.structure t.member g.x (rows_from g.rows.first g.rows.count) _ _ (omega arith) (λ t. t) (λ t. t)
          (elim c.in_default.branch [ in_default-via-then-sub-lt7 w ↦ inl (omega arith) | in_default-via-else-sub-lt7+else-sub-lt9 w ↦ inr (omega arith) ]) (rw (c.into-in_default.ensures, c.from.ensures) at (c.stop_run-in_default.ensures.yields F).did);
    }
