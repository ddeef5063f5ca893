-- A test of the numbers below n. Assumes nothing.
use mathlib.Core.Path.{◌≡◌, refl, sym}
use mathlib.Core.Bool.{Bool, true, false, cond, ◌||◌}
use Prim.Native.Nat.{ℕ, ◌<◌}
use lib.ListN.{length}
use Rattle.std.specs.Bool.{MatchBool}
use Rattle.std.specs.List.{list_any, range_with_len, HoldsAt, AllWithin}
use Rattle.std.proofs.lemmas.List.Folds.{list_any_at, list_any_none}
use Rattle.std.proofs.lemmas.List.Elements.{All-from_all_within}

-- whether one of them passes it
pub any_below : (p : ℕ → Bool) (n : ℕ) (r : Bool)
    → MatchBool r ((k : ℕ) × (k < length (range_with_len 0 n)) × HoldsAt (λ k. p k ≡ true) (range_with_len 0 n) k)
    (AllWithin (λ k. p k ≡ false) (range_with_len 0 n) 0 (length (range_with_len 0 n)))
    → r ≡ list_any p (range_with_len 0 n)
any_below p n true (k, l, h) = sym (list_any_at p (range_with_len 0 n) k 0 l (h 0))
any_below p n false h = sym (list_any_none p (range_with_len 0 n) (All-from_all_within (λ k. p k ≡ false) (range_with_len 0 n) h))

pub or_cond : (a b : Bool) → a || b ≡ cond a true b
or_cond true b = refl
or_cond false b = refl
