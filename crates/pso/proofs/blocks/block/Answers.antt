-- `pso::blocks::block` meets its contract. Assumes nothing.
use Rattle.std.specs.Prelude.{option_map}
use mathlib.Core.Path.{ap, ◌∙◌}
use native.Mathlib.Omega.{arith}
use Rattle.schema.specs.Sections.{sections}
use Rattle.pso.specs.Blocks.{blocks_of}
use Rattle.pso.specs.Answers.{row_of}
use Rattle.pso.proofs.Numbered.{numbered_is, from_one_law}
use Rattle.pso.proofs.blocks.block.Goals as goal

pub returns : goal.returns
returns c =
    let e = c.in_ok-checked_sub.ensures in
    numbered_is c.args.file.now c.args.number c.nth_row.result
    (c.nth_row.ensures ∙ ap (option_map row_of) (rw e.1 (from_one_law (blocks_of (sections c.args.file.now)) c.args.number (λ z. omega (arith, e.0)))))
