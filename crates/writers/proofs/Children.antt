-- The rows of an array's items and of a map's pairs. Assumes nothing.
use mathlib.Core.Path.{◌≡◌, refl, sym, ap, ◌∙◌}
use mathlib.Core.Bool.{Bool, true, false, cond, not, ◌&&◌, ◌||◌}
use mathlib.Core.List.{List, ◌∷◌}
use Prim.Native.Nat.{ℕ, zero, suc, min, ◌*◌, ◌≤◌}
use native.Mathlib.Omega.{arith}
use borrow.Author.Tests.{eqb-true, ltb-true, ltb-false}
use lib.Dec.{ltb, eqb}
use lib.ListN.{length, take}
use Rattle.numbers.specs.Words.{is_empty}
use Rattle.value.specs.Rows.{Row, rows_from, child_count, first_child, children_of}
use Rattle.layout.specs.State.{Env}
use Rattle.layout.specs.Write.{pairs_of, is_array_value}
use Rattle.choices.specs.Sources.{item_count, pair_count}

-- the first k of n rows
take_rows : (r n k : ℕ) → k ≤ n → take k (rows_from r n) ≡ rows_from r k
unfolding rows_from
take_rows r n zero h = refl
take_rows r zero (suc k) h = absurd (omega arith)
take_rows r (suc n) (suc k) h = ap (r ∷◌) (take_rows (suc r) n k (omega arith))

take_all : (r n k : ℕ) → n ≤ k → take k (rows_from r n) ≡ rows_from r n
unfolding rows_from
take_all r zero zero h = refl
take_all r zero (suc k) h = refl
take_all r (suc n) zero h = absurd (omega arith)
take_all r (suc n) (suc k) h = ap (r ∷◌) (take_all (suc r) n k (omega arith))

pub take_min : (r n k : ℕ) → take k (rows_from r n) ≡ rows_from r (min n k)
take_min r n k = go (ltb n k) refl
  where
    go : (b : Bool) → ltb n k ≡ b → take k (rows_from r n) ≡ rows_from r (min n k)
    go true e =
        let h = ltb-true n k e in
        let i : n ≡ min n k = omega arith in
        take_all r n k (omega arith) ∙ ap (rows_from r) i
    go false e =
        let h = ltb-false n k e in
        let i : k ≡ min n k = omega arith in
        take_rows r n k h ∙ ap (rows_from r) i

-- there are none, or some
pub rows_none : (r n : ℕ) → n ≡ 0 → is_empty (rows_from r n) ≡ true
unfolding rows_from
rows_none r n e = rw e refl

pub rows_some : (r n : ℕ) → (n ≡ 0 → ⊥) → is_empty (rows_from r n) ≡ false
unfolding rows_from
rows_some r zero h = absurd (h refl)
rows_some r (suc n) h = refl

-- two by two
rows_two : (r n : ℕ) → rows_from r (2 * suc n) ≡ r ∷ suc r ∷ rows_from (suc (suc r)) (2 * n)
unfolding rows_from
rows_two r n =
    let e : 2 * suc n ≡ suc (suc (2 * n)) = omega arith in
    ap (rows_from r) e

pub length_pairs : (r n : ℕ) → length (pairs_of (rows_from r (2 * n))) ≡ n
unfolding pairs_of rows_from
length_pairs r zero = refl
length_pairs r (suc n) = ap (λ (l : List ℕ). length (pairs_of l)) (rows_two r n) ∙ ap suc (length_pairs (suc (suc r)) n)

pub pairs_empty : (r n : ℕ) → n ≡ 0 → is_empty (pairs_of (rows_from r (2 * n))) ≡ true
unfolding pairs_of rows_from
pairs_empty r n e = rw e refl

pub pairs_some : (r n : ℕ) → (n ≡ 0 → ⊥) → is_empty (pairs_of (rows_from r (2 * n))) ≡ false
unfolding pairs_of
pairs_some r zero h = absurd (h refl)
pairs_some r (suc n) h = ap (λ (l : List ℕ). is_empty (pairs_of l)) (rows_two r n)

-- ---- a row's children
children_array : (v : Row) → v.kind ≡ 19 → children_of v ≡ rows_from v.a (item_count v)
unfolding children_of first_child child_count
children_array v e = rw e refl

children_null : (v : Row) → v.kind ≡ 0 → children_of v ≡ rows_from v.a 0
unfolding children_of first_child child_count
children_null v e = rw e refl

children_text : (v : Row) → v.kind ≡ 15 → children_of v ≡ rows_from v.a 0
unfolding children_of first_child child_count
children_text v e = rw e refl

children_map : (v : Row) → v.kind ≡ 20 → children_of v ≡ rows_from v.a (2 * pair_count v)
unfolding children_of first_child child_count
children_map v e = rw e refl

-- what has another kind has no items
none_else : (v : Row) (k : ℕ) → v.kind ≡ k → eqb k 19 ≡ false → item_count v ≡ 0
none_else v k e f = ap (λ (x : ℕ). cond (eqb x 19) v.b 0) e ∙ ap (λ (x : Bool). cond x v.b 0) f

-- an array's items; what else counts as an array has none
pub children_items : (E : Env) (v : Row) → is_array_value E v ≡ true → children_of v ≡ rows_from v.a (item_count v)
children_items E v h = go (eqb v.kind 19) refl (eqb v.kind 0) refl (eqb v.kind 15) refl _ h
  where
    go : (a : Bool) → eqb v.kind 19 ≡ a → (b : Bool) → eqb v.kind 0 ≡ b → (c : Bool) → eqb v.kind 15 ≡ c → (x : Bool) → a || b || (c && x) ≡ true → children_of v ≡ rows_from v.a (item_count v)
    go true p b q c r x f = children_array v (eqb-true v.kind 19 p)
    go false p true q c r x f = children_null v (eqb-true v.kind 0 q) ∙ ap (rows_from v.a) (sym (none_else v 0 (eqb-true v.kind 0 q) refl))
    go false p false q true r x f = children_text v (eqb-true v.kind 15 r) ∙ ap (rows_from v.a) (sym (none_else v 15 (eqb-true v.kind 15 r) refl))
    go false p false q false r x f = let z : ◌≡◌ {A = ℕ} 0 1 = cc in absurd (omega arith)

-- a map's rows; Null has none
pub children_pairs : (v : Row) → eqb v.kind 20 || eqb v.kind 0 ≡ true → children_of v ≡ rows_from v.a (2 * pair_count v)
children_pairs v h = go (eqb v.kind 20) refl (eqb v.kind 0) refl h
  where
    go : (a : Bool) → eqb v.kind 20 ≡ a → (b : Bool) → eqb v.kind 0 ≡ b → a || b ≡ true → children_of v ≡ rows_from v.a (2 * pair_count v)
    go true p b q f = children_map v (eqb-true v.kind 20 p)
    go false p true q f = children_null v (eqb-true v.kind 0 q) ∙ ap (λ (x : Bool). rows_from v.a (2 * cond x v.b 0)) (sym p)
    go false p false q f = let z : ◌≡◌ {A = ℕ} 0 1 = cc in absurd (omega arith)

-- neither Map nor Null
pub map_other : (k : ℕ) → not (eqb k 20) && not (eqb k 0) ≡ true → eqb k 20 || eqb k 0 ≡ false
map_other k h = go (eqb k 20) (eqb k 0) h
  where
    go : (a b : Bool) → not a && not b ≡ true → a || b ≡ false
    go true b f = sym f
    go false true f = sym f
    go false false f = refl

-- Map or Null
pub map_or_null : (k : ℕ) → not (eqb k 20) && not (eqb k 0) ≡ false → eqb k 20 || eqb k 0 ≡ true
map_or_null k h = go (eqb k 20) (eqb k 0) h
  where
    go : (a b : Bool) → not a && not b ≡ false → a || b ≡ true
    go true b f = refl
    go false true f = refl
    go false false f = sym f
