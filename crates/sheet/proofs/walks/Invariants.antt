-- `sheet::walks` meets its contract. Assumes nothing.
use mathlib.Core.Path.{◌≡◌}
use Prim.Native.Nat.{◌-◌, ◌*◌, ◌^◌, ◌≤◌}
use Rattle.sheet.specs.Layout
use Rattle.sheet.proofs.walks.Given as goal

abbrev pub invariant-loop-r : goal.invariant-loop-r
invariant-loop-r l = (l.w.level ≤ 64) × (l.w.texts ≤ l.r * 2 ^ 32) × (Layout.walks l.sheet (l.n - l.r) l.r l.w ≡ Layout.walks l.sheet l.n 0 Layout.begin)
