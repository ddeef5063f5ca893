-- `rounds::merge::judged` meets its contract. Assumes nothing.
use mathlib.Core.Path.{sym, subst, ◌∙◌}
use native.Mathlib.Omega.{arith}
use Rattle.assemble.specs.Packed.{length_of}
use Rattle.rounds.specs.Merge.{Judges}
use Rattle.rounds.proofs.Judging.{at_bad, at_huge, at_past, at_end_law, judge_bad, judge_huge, judge_long, judge_fits}
use Rattle.rounds.proofs.Task.judged.Goals as goal
use Rattle.rounds.proofs.Task.judged.Goals.{then-n-gt16777216-via-then-n-gt16777216, then-n-gt16777216-via-else-n-gt16777216+then-self-n}

pub returns-in-Err : goal.returns-in-Err
returns-in-Err c =
    let s = c.args.self.now in
    let a = c.args.area.now in
    let st = c.args.stage in
    let k = c.in-Err.refusal in
    record {
      value = c.refused.ensures ∙ at_bad s.size st 0 (length_of s.schema.now st.job.opening.round st.job.progress a.bytes.now) k c.in-Err.is;
      judges = subst (Judges s.alone s.schema.now s.size st a.bytes.now) (sym c.refused.ensures) (judge_bad s.alone s.schema.now s.size st a.bytes.now k c.in-Err.is);
    }

pub returns-then-n-gt16777216 : goal.returns-then-n-gt16777216
returns-then-n-gt16777216 c =
    let s = c.args.self.now in
    let a = c.args.area.now in
    let st = c.args.stage in
    let x = c.in_default.field-0 in
    let n = c.file_length-n.result in
    let e = rw (c.requires.round, c.requires.progress) at c.file_length-n.ensures in
    let r = c.refused-then-n-gt16777216.ensures in
    elim c.then-n-gt16777216.branch [
      | then-n-gt16777216-via-then-n-gt16777216 w ↦
          record {
            value = r ∙ at_huge s.size st n _ x c.in_default.is e.value w.if-n-gt16777216.true;
            judges = subst (Judges s.alone s.schema.now s.size st a.bytes.now) (sym r) (judge_huge s.alone s.schema.now s.size st a.bytes.now n x c.in_default.is e.counts w.if-n-gt16777216.true);
          }
      | then-n-gt16777216-via-else-n-gt16777216+then-self-n w ↦
          record {
            value = r ∙ at_past s.size st n _ x c.in_default.is e.value w.if-self-n.true;
            judges = subst (Judges s.alone s.schema.now s.size st a.bytes.now) (sym r)
                (judge_long s.alone s.schema.now s.size st a.bytes.now n x c.in_default.is e.counts (omega arith) w.if-self-n.true);
          }
    ]

pub returns : goal.returns
returns c =
    let s = c.args.self.now in
    let a = c.args.area.now in
    let st = c.args.stage in
    let x = c.in_default.field-0 in
    let n = c.file_length-n.result in
    let e = rw (c.requires.round, c.requires.progress) at c.file_length-n.ensures in
    record {
      value = at_end_law s.size st n _ x c.in_default.is e.value (omega arith) c.if-self-n.false;
      judges = judge_fits s.alone s.schema.now s.size st a.bytes.now n x c.in_default.is e.counts (omega arith) c.if-self-n.false;
    }
