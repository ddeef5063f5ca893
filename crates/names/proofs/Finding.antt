-- The first entry with a name. Assumes nothing.
use Rattle.std.specs.Prelude.{◌≡◌, ℕ, zero, suc, ◌+◌, ◌*◌, Bool, true, false, List, map, Option, find, option_map, eqb}
use Rattle.std.specs.List.{range_with_len}
use mathlib.Core.Path.{refl}
use native.Mathlib.Omega.{arith}
use Rattle.numbers.specs.Words.{Bytes, read_at}
use Rattle.schema.specs.Psch.{entries_at}
use Rattle.schema.specs.Defs.{first_entry}

module _ (F : Bytes) (at name : ℕ) where
  -- where n entries start, from the i-th on
  abbrev pub starts : ℕ → ℕ → List ℕ
  starts i n = map (λ (k : ℕ). at + 8 * k) (range_with_len i n)

  abbrev pub has_name : ℕ → Bool
  has_name p = eqb (read_at 4 F p) name

  abbrev pub value : Option ℕ → Option ℕ
  value = option_map (λ (p : ℕ). read_at 4 F (p + 4))

  found : (i n : ℕ) → value (find has_name (starts i n)) ≡ first_entry (entries_at F n (at + 8 * i)) name
  unfolding first_entry entries_at
  found i zero = refl
  found i (suc n) =
      let next : at + 8 * (i + 1) ≡ at + 8 * i + 8 = omega arith in
      by (has_name (at + 8 * i)) refl (rw next at (found (i + 1) n))
    where
      by : (b : Bool) → has_name (at + 8 * i) ≡ b → value (find has_name (starts (i + 1) n)) ≡ first_entry (entries_at F n (at + 8 * i + 8)) name
          → value (find has_name (starts i (suc n))) ≡ first_entry (entries_at F (suc n) (at + 8 * i)) name
      by true q e = rw (q, first_entry)
      by false q e = rw (q, first_entry) e

  pub value_found : (n : ℕ) → value (find has_name (starts 0 n)) ≡ first_entry (entries_at F n at) name
  value_found n = let z : at + 8 * 0 ≡ at = omega arith in rw z at (found 0 n)
