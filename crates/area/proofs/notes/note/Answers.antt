-- `area::notes::note` meets its contract. Assumes nothing.
use mathlib.Core.Path.{sym, ◌∙◌}
use lib.ListN.{length}
use borrow.Author.Tests.{lt-ltb, le-ltb}
use Rattle.area.proofs.Noting.{note_late, note_known, note_new, note_full}
use Rattle.area.proofs.notes.note.Goals as goal
use Rattle.area.proofs.notes.note.Goals.{then-p-round+then-not-remarked+else-n-ge1024, else-p-round, else-p-round-via-then-p-round+else-not-remarked, else-p-round-via-else-p-round}

pub returns-then-p : goal.returns-then-p
returns-then-p c =
    let a = c.args in
    note_late a.round (length a.work.now) a.p a.work.now a.r c.requires c.if-p.true

pub returns-then-n-ge1024 : goal.returns-then-n-ge1024
returns-then-n-ge1024 c =
    let a = c.args in
    note_full a.round (length a.work.now) a.p a.work.now a.r c.requires c.if-p.false
    (rw (le-ltb a.p.seen a.round.skip c.if-p-round.true) (sym c.remarked.ensures ∙ c.if-not-remarked.true)) c.if-n-ge1024.true

pub returns : goal.returns
returns c =
    let a = c.args in
    let g = c.well_formed.1.1.1.0.1.1 in
    elim c.if-p-round.branch [
      | then-p-round+then-not-remarked+else-n-ge1024 w ↦ rw (w.q-is, w.work-is, w.write_words.ensures)
          (note_new a.round (length a.work.now) a.p a.work.now a.r c.requires c.if-p.false
          (rw (le-ltb a.p.seen a.round.skip w.if-p-round.true) (sym w.remarked.ensures ∙ w.if-not-remarked.true)) w.if-n-ge1024.false
          record { kind = g.0.1; structure = g.1.0.1; member = g.1.1.0.1; detail = g.1.1.1.0.1 })
      | else-p-round w ↦ rw (w.q-is, w.work-is)
          (note_known a.round (length a.work.now) a.p a.work.now a.r c.requires c.if-p.false
          (elim w.else-p-round.branch [
            | else-p-round-via-then-p-round+else-not-remarked v ↦ rw (le-ltb a.p.seen a.round.skip v.if-p-round.true) (sym v.remarked.ensures ∙ v.if-not-remarked.false)
            | else-p-round-via-else-p-round v ↦ rw (lt-ltb a.p.seen a.round.skip v.if-p-round.false)
          ]))
    ]
