-- A sheet that keeps its layout has at most 64 levels (`levels`).
-- Assumes nothing.
use Prim.Native.Nat.{ℕ, zero, suc, ◌+◌, ◌-◌, ◌*◌, ◌≤◌, ◌<◌}
use native.Mathlib.Omega.{arith}
use mathlib.Core.Path.{◌≡◌, refl, sym, ap, subst, ◌∙◌}
use mathlib.Core.Bool.{Bool, true, false, cond, ◌&&◌}
use lib.Dec.{eqb}
use Rattle.std.proofs.lemmas.Bool.{true≢false, eqb-true, eqb-false, and_parts}
use Rattle.numbers.specs.Words.{Bytes}
use Rattle.numbers.specs.Result.{Every}
use Rattle.value.specs.Rows.{Row, row, row_count, child_count, first_child, rows_from, children_of, Array, Map, Struct}
use Rattle.sheet.specs.Layout.{Walk, begin, is_container, text_bytes, after, walks, framed, laid_out}
use Rattle.sheet.proofs.Sound.{At, one, before, level, first}

-- row r with all that is in it has at most n levels
abbrev pub Deep : Bytes → ℕ → ℕ → Type 0
Deep T zero r = ⊥
Deep T (suc n) r = Every (Deep T n) (children_of (row T r))

-- n rows from r on
every_from : (Q : ℕ → Type 0) (r n : ℕ) → ((c : ℕ) → r ≤ c → c < r + n → Q c) → Every Q (rows_from r n)
unfolding rows_from
every_from Q r zero h = tt
every_from Q r (suc n) h = (h r (omega arith) (omega arith), every_from Q (suc r) n (λ c a b. h c (omega arith) (omega arith)))

-- what is no container has no children
childless : (v : Row) → is_container v.kind ≡ false → child_count v ≡ 0
unfolding child_count
childless v e = go (eqb v.kind Array) refl (eqb v.kind Map) refl (eqb v.kind Struct) refl
  where
    out : (k : ℕ) → v.kind ≡ k → is_container k ≡ true → ⊥
    out k q t = true≢false (sym t ∙ ap is_container (sym q) ∙ e)

    go : (a : Bool) → eqb v.kind Array ≡ a → (b : Bool) → eqb v.kind Map ≡ b → (c : Bool) → eqb v.kind Struct ≡ c
        → cond a v.b (cond b (2 * v.b) (cond c v.c 0)) ≡ 0
    go true p b q c r = absurd (out Array (eqb-true v.kind Array p) refl)
    go false p true q c r = absurd (out Map (eqb-true v.kind Map q) refl)
    go false p false q true r = absurd (out Struct (eqb-true v.kind Struct r) refl)
    go false p false q false r = refl

-- c is r or behind it
first_or : (Q : ℕ → Type 0) (r c : ℕ) → r ≤ c → Q r → (suc r ≤ c → Q c) → Q c
first_or Q r c h a b = go (eqb r c) refl
  where
    go : (t : Bool) → eqb r c ≡ t → Q c
    go true e = subst Q (eqb-true r c e) a
    go false e = b (omega (arith, eqb-false r c e))

module _ (T : Bytes) where
  -- a row's children are claimed next
  kids : (r : ℕ) (a : At T r) (Q : ℕ → Type 0) → ((c : ℕ) → a.walk.claimed ≤ c → c < a.walk.claimed + child_count (row T r) → Q c) → Every Q (children_of (row T r))
  unfolding children_of
  kids r a Q h = go (is_container (row T r).kind) refl
    where
      go : (b : Bool) → is_container (row T r).kind ≡ b → Every Q (rows_from (first_child (row T r)) (child_count (row T r)))
      go true e = rw (first T r a e) (every_from Q a.walk.claimed (child_count (row T r)) h)
      go false e = rw (childless (row T r) e) (unfold rows_from in tt)

  -- rows from r on, before the first of the next level, have the last row's level; those claimed from there on have one more
  record Under (r : ℕ) (w : Walk) : Type 0 where
    here : (c : ℕ) → r ≤ c → c < w.next → Deep T (65 - w.level) c
    next : (c : ℕ) → w.next ≤ c → c < w.claimed → Deep T (64 - w.level) c

  -- what the rows up to r claim, where b says whether r starts a level
  abbrev onward : Bool → Walk → ℕ → Walk
  onward b w r =
      record { claimed = w.claimed + child_count (row T r); texts = w.texts + text_bytes (row T r); level = cond b (suc w.level) w.level; next = cond b w.claimed w.next }

  -- row r starts a level
  under_next : (r : ℕ) (a : At T r) → r ≡ a.walk.next → suc a.walk.level ≤ 64 → Under (suc r) (onward true a.walk r) → Under r a.walk
  under_next r a e d u =
      let w = a.walk in
      let l : r < w.claimed = before T r a in
      let f : suc (64 - suc w.level) ≡ 64 - w.level = omega arith in
      let g : 65 - suc w.level ≡ 64 - w.level = omega arith in
      let own : Deep T (64 - w.level) r = subst (λ k. Deep T k r) f (kids r a (Deep T (64 - suc w.level)) (λ c x y. u.next c x y)) in
      record {
        here = λ c x y. absurd (omega arith);
        next = λ c x y. first_or (Deep T (64 - w.level)) r c (omega arith) own (λ z. subst (λ k. Deep T k c) g (u.here c z y));
      }

  -- row r is in the level of the one before
  under_here : (r : ℕ) (a : At T r) → r < a.walk.next → a.walk.next ≤ a.walk.claimed → a.walk.level ≤ 64 → Under (suc r) (onward false a.walk r) → Under r a.walk
  under_here r a e l d u =
      let w = a.walk in
      let f : suc (64 - w.level) ≡ 65 - w.level = omega arith in
      let own : Deep T (65 - w.level) r = subst (λ k. Deep T k r) f (kids r a (Deep T (64 - w.level)) (λ c x y. u.next c (omega arith) y)) in
      record {
        here = λ c x y. first_or (Deep T (65 - w.level)) r c x own (λ z. u.here c z y);
        next = λ c x y. u.next c x (omega arith);
      }

  -- row r, which the walk w comes to
  abbrev at : (n r : ℕ) (w : Walk) → walks T (suc n) r w ≡ true → At T r
  at n r w h = let p = one T n r w h in record { walk = w; left = n; here = p.0; rest = p.1 }

  under : (n r : ℕ) (w : Walk) → walks T n r w ≡ true → r + n ≡ row_count T → r ≤ w.next → w.next ≤ w.claimed → Under r w
  unfolding walks
  under zero r w h e a b =
      let q : w.claimed ≡ row_count T = eqb-true w.claimed (row_count T) (and_parts _ _ h).0 in
      record { here = λ c x y. absurd (omega arith); next = λ c x y. absurd (omega arith) }
  under (suc n) r w h e a b = go (under n (suc r)) (eqb r w.next) refl (level T r (at n r w h))
    where
      go : ((x : Walk) → walks T n (suc r) x ≡ true → suc r + n ≡ row_count T → suc r ≤ x.next → x.next ≤ x.claimed → Under (suc r) x)
          → (t : Bool) → eqb r w.next ≡ t → cond t (suc w.level) w.level ≤ 64 → Under r w
      go f true q d =
          let k = at n r w h in
          let l : r < w.claimed = before T r k in
          let is : after w r (row T r) ≡ onward true w r = unfold after in ap (λ t. onward t w r) q in
          under_next r k (eqb-true r w.next q) d (f (onward true w r) (subst (λ x. walks T n (suc r) x ≡ true) is k.rest) (omega arith) l (omega arith))
      go f false q d =
          let k = at n r w h in
          let l : r < w.next = omega (arith, eqb-false r w.next q) in
          let is : after w r (row T r) ≡ onward false w r = unfold after in ap (λ t. onward t w r) q in
          under_here r k l b d (f (onward false w r) (subst (λ x. walks T n (suc r) x ≡ true) is k.rest) (omega arith) l (omega arith))

  -- "Nesting is at most 64 levels, row 0 being the first."
  pub levels : laid_out T ≡ true → Deep T 64 0
  unfolding laid_out
  levels h =
      let p : (eqb (row T 0).name 0 && walks T (row_count T) 0 begin) ≡ true = (and_parts (framed T) _ h).1 in
      let w : walks T (row_count T) 0 begin ≡ true = (and_parts (eqb (row T 0).name 0) _ p).1 in
      let u : Under 0 begin = under (row_count T) 0 begin w (omega arith) (omega arith) (omega arith) in
      u.next 0 (omega arith) (omega arith)
