-- The sheet's layout, one row at a time. Assumes nothing.
use Rattle.std.specs.Prelude.{Result, Ok, Err, fold}
use Rattle.std.specs.List.{range_with_len, list_all}
use mathlib.Core.Path.{◌≡◌, refl, sym, ap, ◌∙◌}
use mathlib.Core.Bool.{Bool, true, false, cond, ◌&&◌}
use mathlib.Core.List.{[], ◌∷◌}
use Prim.Native.Nat.{ℕ, zero, suc, ◌+◌, ◌-◌, ◌≤◌, ◌<◌, max}
use native.Mathlib.Numerals.{add-one}
use native.Mathlib.Omega.{arith}
use borrow.Author.Tests.{leb-true, ltb-true, ltb-false, lt-ltb, le-ltb}
use lib.Dec.{eqb, leb, ltb}
use lib.ListN.{length}
use Rattle.numbers.specs.Words.{Bytes}
use Rattle.value.specs.Kind.{number_of}
use Rattle.value.specs.declared.kind.Kind.{Kind}
use Rattle.value.specs.declared.kind.Kind.TheVariants as K
use Rattle.value.specs.Rows.{Row, row, row_count, text_area, child_count}
use Rattle.sheet.specs.Layout.{nameless, Walk, level_at, sits, names_fit, placed, after, walks, framed, laid_out, all_below, ascii, rooted}
use Rattle.sheet.specs.Answer.{checked}
use Rattle.numbers.specs.Result.{ok, refused}
use Rattle.numbers.specs.Refusal.{answer_of}
use Rattle.numbers.specs.declared.refusal.Refusal.{Refusal}
use Rattle.numbers.specs.declared.refusal.Refusal.TheVariants as R

-- ---- rows with no name

-- n rows from r on
pub nameless_is : (T : Bytes) (r n : ℕ) → list_all (λ (q : ℕ). eqb (row T q).name 0) (range_with_len r n) ≡ nameless T r n
unfolding nameless
nameless_is T r zero = refl
nameless_is T r (suc n) = by (eqb (row T r).name 0) refl (rw add-one at (nameless_is T (r + 1) n))
  where
    by : (b : Bool) → eqb (row T r).name 0 ≡ b → list_all (λ (q : ℕ). eqb (row T q).name 0) (range_with_len (suc r) n) ≡ nameless T (suc r) n
        → list_all (λ (q : ℕ). eqb (row T q).name 0) (range_with_len r (suc n)) ≡ nameless T r (suc n)
    by true q e = rw (q, add-one, nameless) e
    by false q e = rw (q, nameless)

-- ---- the walk

pub and_false : (a : Bool) → (a && false) ≡ false
and_false true = refl
and_false false = refl

-- a bound that a true conjunction t has among its parts: without it t would be false
pub bound : (x n : ℕ) (t : Bool) → t ≡ true → (leb x n ≡ false → t ≡ false) → x ≤ n
bound x n t h f = by (leb x n) refl where
  by : (b : Bool) → leb x n ≡ b → x ≤ n
  by true q = leb-true x n q
  by false q =
      let e : true ≡ false = sym h ∙ f q in
      let z : ◌≡◌ {A = ℕ} 0 1 = cc in
      omega arith

pub walks_step : (T : Bytes) (n r : ℕ) (w : Walk) → placed T w r ≡ true → walks T (suc n) r w ≡ walks T n (suc r) (after w r (row T r))
unfolding walks
walks_step T n r w q = rw (q, walks)

pub walks_stop : (T : Bytes) (n r : ℕ) (w : Walk) → placed T w r ≡ false → walks T (suc n) r w ≡ false
unfolding walks
walks_stop T n r w q = rw (q, walks)

-- the rows claimed with v
pub claimed_after : (r : ℕ) (w : Walk) (v : Row) (x : Walk) → x ≡ after w r v → x.claimed ≡ w.claimed + child_count v
unfolding after
claimed_after r w v x e = rw e refl

-- what a row that sits says of the counters
module _ (n r : ℕ) (w : Walk) (v : Row) (h : sits n w r v ≡ true) where
  pub sits_sum : w.claimed + child_count v ≤ n
  unfolding sits
  sits_sum = bound (w.claimed + child_count v) n (sits n w r v) h (λ q. rw (q, and_false))

  pub sits_level : (x : Walk) → x ≡ after w r v → x.level ≤ 64
  unfolding sits after
  sits_level x e = rw e (bound (level_at w r) 64 (sits n w r v) h (λ q. rw (q, and_false)))

-- row r of n, after w; v is the row
module _ (T : Bytes) (n r : ℕ) (w : Walk) (v : Row) (e : n ≡ row_count T) (f : v ≡ row T r) (h : r < n) where
  pub walk_off : sits n w r v ≡ false → walks T (n - r) r w ≡ false
  unfolding placed
  walk_off g =
      let q : n - r ≡ suc (n - (r + 1)) = omega arith in
      let g' : sits (row_count T) w r (row T r) ≡ false = rw (← e, ← f) g in
      rw q (walks_stop T (n - (r + 1)) r w (rw g'))

  pub walk_named : names_fit T w.claimed v ≡ false → walks T (n - r) r w ≡ false
  unfolding placed
  walk_named g =
      let q : n - r ≡ suc (n - (r + 1)) = omega arith in
      let g' : names_fit T w.claimed (row T r) ≡ false = rw (← f) g in
      rw q (walks_stop T (n - (r + 1)) r w (rw g' (and_false (sits (row_count T) w r (row T r)))))

  pub walk_next : (x : Walk) → sits n w r v ≡ true → names_fit T w.claimed v ≡ true → x ≡ after w r v
      → walks T (n - r) r w ≡ walks T (n - (r + 1)) (r + 1) x
  unfolding placed
  walk_next x g k y =
      let q : n - r ≡ suc (n - (r + 1)) = omega arith in
      let g' : sits (row_count T) w r (row T r) ≡ true = rw (← e, ← f) g in
      let k' : names_fit T w.claimed (row T r) ≡ true = rw (← f) k in
      rw (q, y, f) (walks_step T (n - (r + 1)) r w (rw (g', k')) ∙ ap (λ (x : ℕ). walks T (n - (r + 1)) x (after w r (row T r))) (sym (add-one r)))

-- all n rows are walked
pub walk_done : (T : Bytes) (n r : ℕ) (w : Walk) → n ≡ row_count T → n ≤ r → walks T (n - r) r w ≡ (eqb w.claimed n && eqb w.texts (length (text_area T)))
unfolding walks
walk_done T n r w e h =
    let q : n - r ≡ 0 = omega arith in
    rw (q, e)

-- ---- the check

pub framed_rows : (T : Bytes) → framed T ≡ true → row_count T ≤ 16384
unfolding framed
framed_rows T h = bound (row_count T) 16384 (framed T) h (λ q. rw (q, and_false))

-- the refusals by number, in their order
pub refusal : (T : Bytes) → answer_of (checked T) ≡ cond (laid_out T) (cond (ascii T) (cond (rooted T) (ok tt) (refused 3)) (refused 2)) (refused 1)
unfolding checked
refusal T = by (laid_out T) (ascii T) (rooted T) where
  done : Result (Unit {0}) Refusal
  done = Ok tt

  by : (a b c : Bool) → answer_of (cond a (cond b (cond c done (Err R.SheetRoot)) (Err R.SheetText)) (Err R.SheetLayout)) ≡ cond a (cond b (cond c (ok tt) (refused 3)) (refused 2)) (refused 1)
  by false b c = refl
  by true false c = refl
  by true true false = refl
  by true true true = refl

-- ---- a kind's number

pub known : (k : Kind) (n : ℕ) → number_of k ≡ n → leb n 21 ≡ true
known k n e = ap (λ (x : ℕ). leb x 21) (sym e) ∙ go k where
  go : (k : Kind) → leb (number_of k) 21 ≡ true
  go K.Null = refl
  go K.Bool = refl
  go K.I8 = refl
  go K.U8 = refl
  go K.I16 = refl
  go K.U16 = refl
  go K.I32 = refl
  go K.U32 = refl
  go K.I64 = refl
  go K.U64 = refl
  go K.F32 = refl
  go K.Vec2 = refl
  go K.Vec3 = refl
  go K.Vec4 = refl
  go K.Hash = refl
  go K.Str = refl
  go K.Enum = refl
  go K.Flags = refl
  go K.Bytes = refl
  go K.Array = refl
  go K.Map = refl
  go K.Struct = refl

-- ---- the largest byte

-- the larger of two is below n where both are
both : (a b n : ℕ) (x : Bool) → ltb (max a b) n && x ≡ ltb a n && (ltb b n && x)
both a b n x = go (ltb a n) (ltb b n) refl refl
  where
    go : (u v : Bool) → ltb a n ≡ u → ltb b n ≡ v → ltb (max a b) n && x ≡ ltb a n && (ltb b n && x)
    go true true q r =
        let z : max a b < n = omega (arith, ltb-true a n q, ltb-true b n r) in
        rw (q, r, lt-ltb (max a b) n z) refl
    go true false q r =
        let z : n ≤ max a b = omega (arith, ltb-false b n r) in
        rw (q, r, le-ltb (max a b) n z) refl
    go false v q r =
        let z : n ≤ max a b = omega (arith, ltb-false a n q) in
        rw (q, le-ltb (max a b) n z) refl

pub largest_below : (n a : ℕ) (s : Bytes) → ltb (fold max a s) n ≡ ltb a n && all_below n s
unfolding all_below
largest_below n a [] = go (ltb a n) where
  go : (b : Bool) → b ≡ b && true
  go true = refl
  go false = refl
largest_below n a (b ∷ s) = largest_below n (max a b) s ∙ both a b n (all_below n s)
