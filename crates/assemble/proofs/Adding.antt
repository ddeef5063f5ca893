-- The lengths of the blocks summed, from their rows. Assumes nothing.
use Prim.Native.Nat.{ℕ, zero, suc, ◌+◌, ◌*◌, ◌/◌, ◌≤◌, ◌<◌}
use native.Mathlib.Omega.{arith}
use mathlib.Core.Path.{◌≡◌, refl, sym, ◌∙◌, ap, ap₂}
use mathlib.Core.List.{List, [], ◌∷◌, ◌++◌}
use lib.ListN.{length, take, drop, length-append}
use lib.Seq.{length-take-le, take_all, take_at, drop_at}
use Rattle.numbers.specs.Words.{Bytes, read_at, Stands}
use Rattle.numbers.specs.Result.{Every}
use Rattle.numbers.proofs.Parts.{read_part}
use Rattle.layout.specs.State.{Block}
use Rattle.layout.specs.Always.{total}
use Rattle.area.specs.Area.{rows_of, Small}
use Rattle.area.proofs.Spots.{row_at}
use Rattle.assemble.specs.Packed.{lengths_in}

-- of a part of the rows
lengths_part : (w : Bytes) (from m at n : ℕ) → at + 8 * n ≤ m → lengths_in (take m (drop from w)) at n ≡ lengths_in w (from + at) n
unfolding lengths_in
lengths_part w from m at zero h = refl
lengths_part w from m at (suc n) h =
    let e : from + (at + 4) ≡ from + at + 4 = omega arith in
    let f : from + (at + 8) ≡ from + at + 8 = omega arith in
    ap₂ (λ (x y : ℕ). x + y) (read_part 4 w from m (at + 4) (omega arith) ∙ ap (read_at 4 w) e)
    (lengths_part w from m (at + 8) n (omega arith) ∙ ap (λ (i : ℕ). lengths_in w i n) f)

-- in rows and nothing else
abbrev pub lengths_of : Bytes → ℕ
lengths_of r = lengths_in r 0 (length r / 8)

-- the first row's, and those behind it
pub lengths_turn : (r x t : Bytes) → r ≡ x ++ t → length x ≡ 8 → (length r / 8 ≡ 1 + length t / 8) × (lengths_of r ≡ read_at 4 x 4 + lengths_of t)
unfolding lengths_in
lengths_turn r x t e l =
    let s : length r ≡ 8 + length t = ap length e ∙ length-append x t ∙ omega (arith, l) in
    let n : length r / 8 ≡ suc (length t / 8) = omega (arith, s) in
    let a : take 8 (drop 0 r) ≡ x = ap (take 8) e ∙ take_at x t 8 l in
    let b : take (length t) (drop 8 r) ≡ t = ap (λ (y : Bytes). take (length t) (drop 8 y)) e ∙ ap (take (length t)) (drop_at x t 8 l) ∙ take_all (length t) t (omega arith) in (
      omega (arith, n),
      ap (lengths_in r 0) n
          ∙ ap₂ (λ (y z : ℕ). y + z) (sym (read_part 4 r 0 8 4 (omega arith)) ∙ ap (λ (y : Bytes). read_at 4 y 4) a)
          (sym (lengths_part r 8 (length t) 0 (length t / 8) (omega arith)) ∙ ap (λ (y : Bytes). lengths_in y 0 (length t / 8)) b),
    )

pub lengths_none : (r : Bytes) → length r < 8 → lengths_of r ≡ 0
unfolding lengths_in
lengths_none r h = let n : length r / 8 ≡ 0 = omega arith in ap (lengths_in r 0) n

-- the rows of n blocks, at the area's beginning
pub lengths_area : (w rows : Bytes) (n : ℕ) → rows ≡ take (8 * n) w → 8 * n ≤ length w → (length rows / 8 ≡ n) × (lengths_in rows 0 (length rows / 8) ≡ lengths_in w 0 n)
lengths_area w rows n e h =
    let l : length rows / 8 ≡ n = omega (arith, ap length e, length-take-le (8 * n) w h) in
    (l, ap₂ (λ (r : Bytes) (k : ℕ). lengths_in r 0 k) e l ∙ lengths_part w 0 (8 * n) 0 n (omega arith))

-- of the rows of blocks they are the blocks' lengths
pub lengths_total : (w : Bytes) (at : ℕ) (bs : List Block) → Every Small bs → Stands w at (rows_of bs) → lengths_in w at (length bs) ≡ total bs
unfolding lengths_in total
lengths_total w at [] s h = refl
lengths_total w at (b ∷ bs) s h = let r = row_at w at b bs s.0 h in ap₂ (λ (x y : ℕ). x + y) r.len (lengths_total w (at + 8) bs s.1 r.rest)
