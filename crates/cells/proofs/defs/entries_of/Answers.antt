-- `cells::defs::entries_of` meets its contract. Assumes nothing.
use mathlib.Core.Path.{refl, ap, ◌∙◌}
use Prim.Native.Nat.{ℕ}
use Rattle.schema.specs.Psch.{entries_at}
use Rattle.cells.proofs.Choosing.{entries_from_law}
use Rattle.cells.proofs.defs.entries_of.Goals as goal

pub returns : goal.returns
returns c =
    let m = c.min.ensures in
    let k = c.entry_count.ensures in
    let f = c.args.schema.now in
    record { file = refl; start = m; many = k.0; all = ap (λ (j : ℕ). entries_at f j c.min.result) k.0 ∙ ap (entries_at f _) m ∙ entries_from_law f _ c.args.place }
