-- `rounds::run::run` meets its contract. Assumes nothing.
use lib.ListN.{length}
use Rattle.std.proofs.lemmas.Result.{err_from_is_err_and}
use Rattle.members.specs.Names.{defined_at}
use Rattle.area.proofs.Stepping.{same_then, step_then}
use Rattle.rounds.proofs.Roots.{root_def_law, root_refused, root_laid}
use Rattle.rounds.proofs.Task.run.Goals as goal

pub returns-in_err-write_struct : goal.returns-in_err-write_struct
returns-in_err-write_struct c =
    let g = c.args in
    let a = g.area.now in
    let d = defined_at g.self.now.schema.now g.opening.now.name g.opening.now.place in
    let x = err_from_is_err_and c.from_residual.result c.from_residual.ensures.1 in
    let e = c.in_err-write_struct.ensures in
    rw (x.1, x.2)
    record {
      same = e.same;
      did = root_refused g.self.now.alone g.self.now.sheet.now g.self.now.schema.now a.round (length a.bytes.now) a.bytes.now d (a.safe.small, a.safe.room) c.requires.clear
          (λ S q. root_def_law g.self.now.schema.now S g.opening.now.name g.opening.now.place q c.requires.rooted.found) _ _ _ (rw (c.def_at-root.ensures, c.requires.begun) at e.did);
    }

pub returns : goal.returns
returns c =
    let g = c.args in
    let a = g.area.now in
    let d = defined_at g.self.now.schema.now g.opening.now.name g.opening.now.place in
    let e = c.in_ok-write_struct.ensures in
    let f = c.lay_item.ensures in
    record {
      same = same_then e.same f.same;
      did = root_laid g.self.now.alone g.self.now.sheet.now g.self.now.schema.now a.round (length a.bytes.now) a.bytes.now d (a.safe.small, a.safe.room) c.requires.clear
          (λ S q. root_def_law g.self.now.schema.now S g.opening.now.name g.opening.now.place q c.requires.rooted.found) _ _ _ _ (rw (c.def_at-root.ensures, c.requires.begun) at e.did) (step_then e.same (rw c.def_at-root.ensures at f));
    }
