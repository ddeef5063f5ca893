-- What a round keeps: its rows are the distinct ones of the remarks that it accounts for, and it accounts for all unless it is full. Assumes nothing.
use mathlib.Core.Path.{◌≡◌, refl, sym, ap, subst, ◌∙◌}
use mathlib.Core.Bool.{Bool, true, false}
use mathlib.Core.List.{List, [], ◌∷◌, ◌++◌, append-nil, append_assoc}
use Prim.Native.Nat.{ℕ, ◌+◌, ◌-◌, ◌<◌, ◌≤◌}
use native.Mathlib.Nat.{lt_irrefl}
use native.Mathlib.Omega.{arith}
use lib.Dec.{ltb}
use lib.ListN.{length, take, drop, length-append, drop_of_length-le}
use lib.Seq.{take_all, drop-append-le, take-append-le}
use borrow.Author.Tests.{ltb-true, ltb-false}
use Rattle.layout.specs.State.{Remark, remarked, noted, thinned, thin}
use Rattle.layout.proofs.Grows.{thin_snoc}
use Rattle.area.specs.Kept.{Kept, meet, meets, kept, max_rows}
use Rattle.rounds.proofs.Thinning.{noted_in, noted_out}

-- k is what is kept of the remarks xs
pub record Accounts (skip : ℕ) (xs : List Remark) (k : Kept) : Type 0 where
  pub rows_are : k.rows ≡ thin (drop skip (take k.next xs))
  pub seen : k.seen ≡ length xs
  pub next : k.next ≤ k.seen
  pub few : length k.rows ≤ 1024
  pub fewer : length k.rows ≤ k.next - skip
  pub fills : k.next < k.seen → length k.rows ≡ 1024

module _ (skip : ℕ) (xs : List Remark) (k : Kept) (r : Remark) (h : Accounts skip xs k) where
  long : length (xs ++ (r ∷ [])) ≡ length xs + 1
  long = length-append xs (r ∷ [])

  -- the remark is not accounted for
  left_out : k.rows ≡ thin (drop skip (take k.next (xs ++ (r ∷ []))))
  left_out = h.rows_are ∙ ap (λ (l : List Remark). thin (drop skip l)) (sym (take-append-le k.next xs (r ∷ []) (omega (arith, h.next, h.seen))))

  late : length k.rows ≡ 1024 → Accounts skip (xs ++ (r ∷ [])) (record { rows = k.rows; next = k.next; seen = k.seen + 1 })
  late f = record {
    rows_are = left_out;
    seen = omega (arith, h.seen, long);
    next = omega (arith, h.next);
    few = h.few;
    fewer = h.fewer;
    fills = λ _. f;
  }

  module _ (all : k.seen ≤ k.next) where
    -- all are accounted for, before and after
    before : k.rows ≡ thin (drop skip xs)
    before = h.rows_are ∙ ap (λ (l : List Remark). thin (drop skip l)) (take_all k.next xs (omega (arith, h.seen, all)))

    whole : take (k.next + 1) (xs ++ (r ∷ [])) ≡ xs ++ (r ∷ [])
    whole = take_all (k.next + 1) (xs ++ (r ∷ [])) (omega (arith, h.seen, all, long))

    with_it : (rows : List Remark) → rows ≡ thin (drop skip (xs ++ (r ∷ []))) → length rows ≤ 1024 → length rows ≤ k.next + 1 - skip
        → Accounts skip (xs ++ (r ∷ [])) (record { rows = rows; next = k.next + 1; seen = k.seen + 1 })
    with_it rows e f g = record {
      rows_are = e ∙ ap (λ (l : List Remark). thin (drop skip l)) (sym whole);
      seen = omega (arith, h.seen, long);
      next = omega (arith, h.next);
      few = f;
      fewer = g;
      fills = λ lt. absurd (lt_irrefl 0 (omega (arith, lt, all)));
    }

    skipped : k.seen < skip → Accounts skip (xs ++ (r ∷ [])) (record { rows = k.rows; next = k.next + 1; seen = k.seen + 1 })
    skipped l =
        let a : drop skip xs ≡ [] = drop_of_length-le xs {i = skip} (omega (arith, h.seen, l)) in
        let b : drop skip (xs ++ (r ∷ [])) ≡ [] = drop_of_length-le (xs ++ (r ∷ [])) {i = skip} (omega (arith, h.seen, l, long)) in
        with_it k.rows (before ∙ ap thin (a ∙ sym b)) h.few (omega (arith, h.fewer))

    after : skip ≤ k.seen → thin (drop skip (xs ++ (r ∷ []))) ≡ noted r k.rows
    after l =
        ap thin (drop-append-le skip xs (r ∷ []) (omega (arith, h.seen, l))) ∙ thin_snoc (drop skip xs) r ∙ ap (noted r) (sym before)

    known : skip ≤ k.seen → remarked r k.rows ≡ true → Accounts skip (xs ++ (r ∷ [])) (record { rows = k.rows; next = k.next + 1; seen = k.seen + 1 })
    known l e = with_it k.rows (sym (after l ∙ noted_in r k.rows e)) h.few (omega (arith, h.fewer))

    new : skip ≤ k.seen → remarked r k.rows ≡ false → length k.rows < 1024
        → Accounts skip (xs ++ (r ∷ [])) (record { rows = k.rows ++ (r ∷ []); next = k.next + 1; seen = k.seen + 1 })
    new l e f =
        let n : length (k.rows ++ (r ∷ [])) ≡ length k.rows + 1 = length-append k.rows (r ∷ []) in
        with_it (k.rows ++ (r ∷ [])) (sym (after l ∙ noted_out r k.rows e)) (omega (arith, n, f)) (omega (arith, n, h.fewer, all, l))

  step : (b c d e : Bool) → ltb k.next k.seen ≡ b → ltb k.seen skip ≡ c → remarked r k.rows ≡ d → ltb (length k.rows) max_rows ≡ e
      → Accounts skip (xs ++ (r ∷ [])) (meet skip k r)
  unfolding meet
  step true c d e p q s t = rw p (late (h.fills (ltb-true k.next k.seen p)))
  step false true d e p q s t = rw (p, q) (skipped (ltb-false k.next k.seen p) (ltb-true k.seen skip q))
  step false false true e p q s t = rw (p, q, s) (known (ltb-false k.next k.seen p) (ltb-false k.seen skip q) s)
  step false false false true p q s t = rw (p, q, s, t) (new (ltb-false k.next k.seen p) (ltb-false k.seen skip q) s (ltb-true (length k.rows) max_rows t))
  step false false false false p q s t = rw (p, q, s, t) (late (omega (arith, h.few, ltb-false (length k.rows) max_rows t)))

  account_meet : Accounts skip (xs ++ (r ∷ [])) (meet skip k r)
  account_meet = step (ltb k.next k.seen) (ltb k.seen skip) (remarked r k.rows) (ltb (length k.rows) max_rows) refl refl refl refl

account_meets : (skip : ℕ) (xs es : List Remark) (k : Kept) → Accounts skip xs k → Accounts skip (xs ++ es) (meets skip k es)
unfolding meets
account_meets skip xs [] k h = subst (λ (l : List Remark). Accounts skip l k) (sym (append-nil xs)) h
account_meets skip xs (r ∷ es) k h =
    subst (λ (l : List Remark). Accounts skip l (meets skip (meet skip k r) es)) (append_assoc xs (r ∷ []) es)
    (account_meets skip (xs ++ (r ∷ [])) es (meet skip k r) (account_meet skip xs k r h))

-- what a round keeps of all remarks
pub accounts : (skip : ℕ) (es : List Remark) → Accounts skip es (kept skip es)
unfolding kept thin thinned
accounts skip es =
    account_meets skip [] es (record { rows = []; next = 0; seen = 0 })
    (record {
      rows_are = ap (thinned []) (sym (drop_of_length-le [] {i = skip} (omega arith)));
      seen = refl;
      next = omega arith;
      few = omega arith;
      fewer = omega arith;
      fills = λ lt. absurd (lt_irrefl 0 (omega (arith, lt)));
    })

-- it goes on behind what earlier rounds took
pub goes_on : (skip : ℕ) (es : List Remark) → skip ≤ length es → skip ≤ (kept skip es).next
goes_on skip es h = go (ltb (kept skip es).next (kept skip es).seen) refl
  where
    go : (b : Bool) → ltb (kept skip es).next (kept skip es).seen ≡ b → skip ≤ (kept skip es).next
    go true e = omega (arith, (accounts skip es).fills (ltb-true (kept skip es).next (kept skip es).seen e), (accounts skip es).fewer)
    go false e = omega (arith, ltb-false (kept skip es).next (kept skip es).seen e, (accounts skip es).seen, h)
