-- `rounds::opening::roomed` meets its contract. Assumes nothing.
use mathlib.Core.Path.{◌∙◌}
use native.Mathlib.Omega.{arith}
use Rattle.rounds.proofs.Openings.{roomed_short, roomed_wide, cap_is}
use Rattle.rounds.proofs.opening.roomed.Goals as goal
use Rattle.rounds.proofs.opening.roomed.Goals.{then-work-lt-NAMES-via-then-work-lt-NAMES, then-work-lt-NAMES-via-else-work-lt-NAMES+then-work-entries}

pub returns-then-work-lt-NAMES : goal.returns-then-work-lt-NAMES
returns-then-work-lt-NAMES c =
    let a = c.args in
    roomed_short a.work a.entries a.place a.name
    (elim c.then-work-lt-NAMES.branch [
      | then-work-lt-NAMES-via-then-work-lt-NAMES w ↦ omega arith
      | then-work-lt-NAMES-via-else-work-lt-NAMES+then-work-entries w ↦ omega arith
    ])

pub returns : goal.returns
returns c =
    let a = c.args in
    roomed_wide a.work a.entries a.place a.name _ (omega (arith, c.if-work-entries.false, c.if-work-lt-NAMES.false)) (c.min-cap.ensures ∙ cap_is a.work a.entries)
