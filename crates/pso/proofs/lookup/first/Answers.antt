-- `pso::lookup::first` meets its contract. Assumes nothing.
use mathlib.Core.Path.{ap, ◌∙◌}
use native.Mathlib.Omega.{arith}
use lib.ListN.{length}
use Rattle.numbers.specs.Words.{read_at}
use Rattle.schema.specs.Steps.{kind_number}
use Rattle.schema.proofs.Walk.{onward_or, ended_or}
use Rattle.pso.proofs.Leading.{begin, at_end_law, found, goes_on}
use Rattle.pso.proofs.lookup.first.Goals as goal

pub loop-section-init : goal.loop-section-init
loop-section-init c =
    let e = c.new-cursor.ensures in
    (e.0, omega (arith, e.1), begin c.args.file.now (kind_number c.args.kind) c.args.name _ _ (rw (e.0, e.1)) e.1)

pub returns-in-Some-first_in : goal.returns-in-Some-first_in
returns-in-Some-first_in c =
    let a = c.args in
    let s = c.in-Some.section in
    let l = c.loop-section in
    let o = onward_or l.cursor c.step.result _ c.step.ensures c.unwrap_or.ensures s c.in-Some.next c.in-Some.is in
    found a.file.now (kind_number a.kind) a.name (read_at 4 s.bytes.now 0) s.bytes.now _ l.cursor.at s.place c.in-Some.next.at c.first_in.result (rw o.left at l.invariant.2) o.step.here o.step.on
    c.first_in.ensures _ c.in-Some-first_in.is

pub loop-section-preserved : goal.loop-section-preserved
loop-section-preserved c =
    let a = c.args in
    let s = c.in-Some.section in
    let l = c.loop-section in
    let o = onward_or l.cursor c.step.result _ c.step.ensures c.unwrap_or.ensures s c.in-Some.next c.in-Some.is in (
      o.step.same ∙ l.invariant.0,
      omega (arith, o.step.inside, o.step.on, ap length l.invariant.0),
      goes_on a.file.now (kind_number a.kind) a.name (read_at 4 s.bytes.now 0) s.bytes.now _ l.cursor.at s.place c.in-Some.next.at c.first_in.result (rw o.left at l.invariant.2) o.step.here o.step.on
          c.first_in.ensures c.in_default-first_in.is,
    )

pub returns : goal.returns
returns c =
    let a = c.args in
    let l = c.loop-section in
    at_end_law a.file.now (kind_number a.kind) a.name _ l.cursor.at l.invariant.2 (ended_or l.cursor c.step.result _ c.step.ensures c.unwrap_or.ensures c.in_default.is)
