-- `members::Target::wrong` meets its contract. Assumes nothing.
use mathlib.Core.Path.{refl, sym, ◌∙◌}
use lib.ListN.{length}
use Rattle.cells.specs.Names.{def_of, member_of}
use Rattle.members.specs.Posts.{any_schema}
use Rattle.members.proofs.Filling.{wrong_missing, wrong_value}
use Rattle.area.proofs.Stepping.{also_ok}
use Rattle.members.proofs.Target.wrong.Goals as goal

pub returns-then-is_some-clause-fills : goal.returns-then-is_some-clause-fills
returns-then-is_some-clause-fills c = λ F.
    let t = c.args.self.now in
    let a = c.args.area.now in
    also_ok c.say.ensures (λ h. wrong_value a.round (length a.bytes.now) a.progress a.bytes.now any_schema t.structure.size F t.structure t.member t.value _ _
    (sym c.is_some.ensures ∙ c.if-is_some.true) a.safe c.requires (rw c.type_number.ensures at h))

pub returns-else-is_some-clause-fills : goal.returns-else-is_some-clause-fills
returns-else-is_some-clause-fills c = λ F.
    let t = c.args.self.now in
    let a = c.args.area.now in
    record {
      same = record { bytes = refl; size = refl; round = refl };
      did = wrong_missing a.round (length a.bytes.now) a.progress a.bytes.now any_schema t.structure.size (def_of F t.structure) (member_of t.member) t.value
          (sym c.is_some.ensures ∙ c.if-is_some.false) a.safe;
    }
