-- `runs::stop_run` meets its contract. Assumes nothing.
use mathlib.Core.Path.{refl}
use lib.ListN.{length}
use Rattle.std.proofs.Common.{rules}
use Rattle.runs.proofs.Elements.{run_said}
use Rattle.runs.proofs.stop_run.Goals as goal

pub returns-clause-yields : goal.returns-clause-yields
returns-clause-yields c = λ F.
    let g = c.args in
    let t = g.at.now in
    let a = g.area.now in
    record {
      same = record { bytes = refl; size = search rules; round = refl };
      did = run_said a.round (length a.bytes.now) a.progress a.bytes.now t.structure t.member g.kind g.detail _ _ a.safe c.requires c.say-area.ensures F;
    }
