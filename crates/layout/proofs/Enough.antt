-- The end of `write`'s recursion is never reached on a sheet that keeps its layout (`fuel_enough`).
-- Assumes nothing.
use Prim.Native.Nat.{ℕ, zero, suc, ◌+◌, ◌-◌, ◌≤◌, ◌<◌}
use native.Mathlib.Omega.{arith}
use Rattle.value.specs.Rows.{row, Fields}
use Rattle.schema.specs.Defs.{StructDef}
use Rattle.layout.specs.State.{Env, if_m}
use Rattle.layout.specs.Runs.{Writer}
use Rattle.layout.specs.Write.{body, write}
use Rattle.layout.specs.Fuel.{write_until, FuelEnough}
use Rattle.layout.proofs.Levels.{levels}
use Rattle.layout.proofs.Alike.{Alike, a_same, a_if, FieldsDeep, fields_deep, a_started}

-- at most so many structures start inside one another, one that depth refuses counted too: the first one's fields have n levels each, and `left` depths are left
abbrev inside : ℕ → ℕ → ℕ
inside zero left = suc left
inside (suc n) left = suc n + 33

inside_inline : (n k m left f : ℕ) → k ≤ n - 1 → m < left → left ≤ 32 → inside n left ≤ suc f → inside k m ≤ f
inside_inline zero zero m left f h d l g = omega arith
inside_inline zero (suc k) m left f h d l g = absurd (omega arith)
inside_inline (suc n) zero m left f h d l g = omega arith
inside_inline (suc n) (suc k) m left f h d l g = omega arith

inside_afresh : (n k left f : ℕ) → k < n → inside n left ≤ suc f → inside k 32 ≤ f
inside_afresh zero k left f h g = absurd (omega arith)
inside_afresh (suc n) zero left f h g = omega arith
inside_afresh (suc n) (suc k) left f h g = omega arith

some_inside : (n left : ℕ) → inside n left ≤ 0 → ⊥
some_inside zero left h = omega arith
some_inside (suc n) left h = omega arith

module _ (E : Env) (last : ℕ → Writer) where
  -- f is enough: the end is not reached
  abbrev Enough : ℕ → Type 0
  Enough f =
      (n left : ℕ) → left ≤ 32 → inside n left ≤ f → (d : StructDef) (fs : Fields) → FieldsDeep E.sheet n fs → Alike (write_until E last f left d fs) (write E f left d fs)

  one_more : (f : ℕ) → Enough f → Enough (suc f)
  unfolding write_until write body
  one_more f r n zero l a d fs h = unfold if_m in a_same _
  one_more f r n (suc left) l a d fs h =
      a_if _ _ _ _ _ (a_same _)
      (a_started E n _ _
      (λ k x i gs p. r k _ (omega arith) (inside_inline n k _ (suc left) f x (omega arith) l a) i gs p)
      (λ k x i gs p. r k _ (omega arith) (inside_afresh n k (suc left) f x a) i gs p) d fs h)

  enough : (f : ℕ) → Enough f
  enough zero = λ n left l a d fs h. absurd (some_inside n left a)
  enough (suc f) = one_more f (enough f)

-- "the sheet's 64 levels bound the rest"
pub fuel_enough : FuelEnough
unfolding Alike
fuel_enough E h last d s = enough E last _ 63 32 (omega arith) (omega arith) d _ (fields_deep E.sheet 63 (row E.sheet 0) (levels E.sheet h)) s
