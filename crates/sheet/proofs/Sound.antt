-- What a sheet that is laid out gives at each of its rows. Assumes nothing.
use mathlib.Core.Path.{◌≡◌, refl, sym, ◌∙◌}
use mathlib.Core.Bool.{Bool, true, false}
use Prim.Native.Nat.{ℕ, zero, suc, ◌+◌, ◌≤◌, ◌<◌}
use native.Mathlib.Nat.{add-zero, zero-add}
use native.Mathlib.Omega.{arith}
use borrow.Author.Tests.{ltb-true, leb-true, eqb-true, eq-eqb}
use lib.Dec.{eqb, leb, ltb}
use lib.ListN.{length}
use Rattle.numbers.specs.Words.{Bytes}
use Rattle.value.specs.Rows.{Row, row, row_count, text_area, child_count, first_child}
use Rattle.sheet.specs.Layout.{Walk, begin, level_at, is_container, row_sound, text_bytes, sits, placed, after, walks, laid_out}
use Rattle.sheet.proofs.Laws.{and_false, walks_step, walks_stop}

no : true ≡ false → ⊥
no e = let z : ◌≡◌ {A = ℕ} 0 1 = cc in omega arith

-- a part x of a true conjunction t
part : (x t : Bool) → t ≡ true → (x ≡ false → t ≡ false) → x ≡ true
part true t h f = refl
part false t h f = absurd (no (sym h ∙ f refl))

-- row r sits after some walk, and the walk goes on to the end
pub record At (T : Bytes) (r : ℕ) : Type 0 where
  pub walk : Walk
  pub left : ℕ
  pub here : placed T walk r ≡ true
  pub rest : walks T left (suc r) (after walk r (row T r)) ≡ true

module _ (T : Bytes) where
  pub one : (n r : ℕ) (w : Walk) → walks T (suc n) r w ≡ true → (placed T w r ≡ true) × (walks T n (suc r) (after w r (row T r)) ≡ true)
  one n r w h = by (placed T w r) refl where
    by : (t : Bool) → placed T w r ≡ t → (placed T w r ≡ true) × (walks T n (suc r) (after w r (row T r)) ≡ true)
    by true q = (q, sym (walks_step T n r w q) ∙ h)
    by false q = absurd (no (sym h ∙ walks_stop T n r w q))

  pub each : (n r : ℕ) (w : Walk) → walks T n r w ≡ true → (j : ℕ) → j < n → At T (r + j)
  each zero r w h j g = absurd (omega arith)
  each (suc n) r w h zero g =
      let p = one n r w h in
      rw add-zero (record { walk = w; left = n; here = p.0; rest = p.1 })
  each (suc n) r w h (suc j) g =
      let e : r + suc j ≡ suc r + j = omega arith in
      rw e (each n (suc r) (after w r (row T r)) (one n r w h).1 j (omega arith))

  -- texts claimed so far are texts of the area
  pub texts_in : (n r : ℕ) (w : Walk) → walks T n r w ≡ true → w.texts ≤ length (text_area T)
  unfolding walks after
  texts_in zero r w h =
      let e : w.texts ≡ length (text_area T) = eqb-true _ _ (part (eqb w.texts (length (text_area T))) _ h (λ q. rw (q, and_false))) in
      omega arith
  texts_in (suc n) r w h = let k = texts_in n (suc r) (after w r (row T r)) (one n r w h).1 in omega arith

  -- of a row: sound by itself, at most level 64, its children behind it and in the sheet, its text in the area
  module _ (r : ℕ) (a : At T r) where
    abbrev pub v : Row
    v = row T r

    s : sits (row_count T) a.walk r v ≡ true
    unfolding placed
    s = part (sits (row_count T) a.walk r v) _ a.here (λ q. rw q)

    pub sound : row_sound v ≡ true
    unfolding sits
    sound = part (row_sound v) _ s (λ q. rw (q, and_false))

    pub before : r < a.walk.claimed
    unfolding sits
    before = ltb-true _ _ (part (ltb r a.walk.claimed) _ s (λ q. rw q))

    pub level : level_at a.walk r ≤ 64
    unfolding sits
    level = leb-true _ _ (part (leb (level_at a.walk r) 64) _ s (λ q. rw (q, and_false)))

    room : a.walk.claimed + child_count v ≤ row_count T
    unfolding sits
    room = leb-true _ _ (part (leb (a.walk.claimed + child_count v) (row_count T)) _ s (λ q. rw (q, and_false)))

    pub first : is_container v.kind ≡ true → first_child v ≡ a.walk.claimed
    unfolding sits
    first c = eqb-true _ _ (part (eqb (first_child v) a.walk.claimed) _ s (λ q. rw (c, q, and_false)))

    pub children : is_container v.kind ≡ true → (r < first_child v) × (first_child v + child_count v ≤ row_count T)
    children c = (omega (arith, before, first c), omega (arith, room, first c))

    pub text : v.kind ≡ 15 → v.a + v.b ≤ length (text_area T)
    unfolding sits after
    text k =
        let e : v.a ≡ a.walk.texts = eqb-true _ _ (part (eqb v.a a.walk.texts) _ s (λ q. rw (eq-eqb v.kind 15 k, q, and_false))) in
        let b : text_bytes v ≡ v.b = rw (eq-eqb v.kind 15 k) in
        let t = texts_in a.left (suc r) (after a.walk r v) a.rest in
        omega arith

  -- so it is at each row of a sheet that passed the check
  pub at_row : laid_out T ≡ true → (r : ℕ) → r < row_count T → At T r
  unfolding laid_out
  at_row h r g =
      let w : walks T (row_count T) 0 begin ≡ true = part (walks T (row_count T) 0 begin) _ h (λ q. rw (q, and_false, and_false)) in
      rw (← zero-add r) (each (row_count T) 0 begin w r g)
