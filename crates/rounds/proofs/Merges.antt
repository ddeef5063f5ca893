-- The merge, by value: a row that is looked for leads on within `Inv`, and so does a refusal. Assumes nothing.
use mathlib.Core.Path.{◌≡◌, refl, sym, ap, subst, ◌∙◌}
use mathlib.Core.Bool.{Bool, true, false, false≢true, true≢false}
use mathlib.Core.List.{List, [], ◌∷◌, ◌++◌}
use Prim.Native.Nat.{ℕ, suc, ◌+◌, ◌*◌, ◌-◌, ◌<◌, ◌≤◌}
use native.Mathlib.Nat.{lt_irrefl}
use native.Mathlib.Omega.{arith}
use lib.Dec.{eqb, ltb}
use lib.ListN.{length, get_or, take, drop, length-append}
use lib.Seq.{length-take-le, get_or-take}
use borrow.Author.Tests.{eq-eqb, ne_eqb, eqb-true, eqb-false, lt-ltb, le-ltb, ltb-true, ltb-false}
use Rattle.numbers.specs.Words.{Bytes}
use Rattle.numbers.specs.Result.{refused}
use Rattle.numbers.specs.Refusal.{number_of}
use Rattle.numbers.specs.declared.refusal.Refusal.{Refusal}
use Rattle.numbers.specs.declared.refusal.Refusal.TheVariants.{RemarkCount}
use Rattle.layout.specs.State.{Remark, same_remark, remarked, noted, thinned, thin}
use Rattle.layout.specs.Build.{zero_remark, build}
use Rattle.area.specs.Rows.{rows_in}
use Rattle.rounds.specs.declared.Job.{Job}
use Rattle.rounds.specs.declared.Stage.{Stage}
use Rattle.rounds.specs.Run.{met_in}
use Rattle.rounds.specs.Merge.{refusal_of, moved_to, sought_at, remarks_in, row_of, Fit, Left, Own, Remains, Inv, bound, turns, Goes}
use Rattle.rounds.proofs.Thinning.{noted_out, longer, absent}
use Rattle.rounds.proofs.Standings.{refuses_full, remains}

-- turns
pub turns_seeking : (room : ℕ) (st : Stage) → st.last ≡ false → turns room st ≡ bound room (st.job.progress.rows - st.row) (st.job.progress.seen - st.job.progress.next) st.at
unfolding turns
turns_seeking room st e = rw e refl

pub turns_last : (room : ℕ) (st : Stage) → st.last ≡ true → turns room st ≡ 0
unfolding turns
turns_last room st e = rw e refl

-- the code's ways
module _ (room : ℕ) (st : Stage) (k : ℕ) where
  pub sought_before : k < st.base → moved_to st k ≡ sought_at room st k
  unfolding sought_at
  sought_before h = rw (lt-ltb k st.base h) refl

  pub sought_full : (r : Stage) → r ≡ refusal_of st.job RemarkCount → st.base ≤ k → st.count ≡ room → r ≡ sought_at room st k
  unfolding sought_at
  sought_full r e h q = rw (le-ltb k st.base h, eq-eqb st.count room q) e

  pub sought_behind : st.base ≤ k → (st.count ≡ room → ⊥) → moved_to st st.count ≡ sought_at room st k
  unfolding sought_at
  sought_behind h q = rw (le-ltb k st.base h, ne_eqb st.count room q) refl

-- the row is the next to be merged
pub some_left : (w : Bytes) (st : Stage) (zs : List Remark) (es : List Remark) → st.row < st.job.progress.rows → Left es w st st.row zs
    → thinned (noted (row_of w st.row) (take st.count zs)) (rows_in w (32768 + 16 * (st.row + 1)) (st.job.progress.rows - (st.row + 1)) ++ drop st.job.progress.next es) ≡ thin es
unfolding rows_in thinned
some_left w st zs es h l =
    let e : st.job.progress.rows - st.row ≡ suc (st.job.progress.rows - (st.row + 1)) = omega (arith, h) in
    let f : 32768 + 16 * (st.row + 1) ≡ 32768 + 16 * st.row + 16 = omega arith in
    ap (λ (a : ℕ). thinned (noted (row_of w st.row) (take st.count zs)) (rows_in w a (st.job.progress.rows - (st.row + 1)) ++ drop st.job.progress.next es)) f
    ∙ ap (λ (m : ℕ). thinned (take st.count zs) (rows_in w (32768 + 16 * st.row) m ++ drop st.job.progress.next es)) (sym e)
    ∙ l

-- no record before n equals it
pub not_there : (zs : List Remark) (r : Remark) (n : ℕ) → n ≤ length zs → ((k : ℕ) → k < n → same_remark (get_or zs k zero_remark) r ≡ false) → remarked r (take n zs) ≡ false
not_there zs r n h f =
    absent (take n zs) r
    (λ k l. let g : k < n = subst (λ (m : ℕ). k < m) (length-take-le n zs h) l in ap (λ (x : Remark). same_remark x r) (get_or-take n zs k zero_remark g) ∙ f k g)

module _ (alone : Bool) (T F : Bytes) (size room : ℕ) where
  -- a refusal
  pub closes : (j : Job) (k : Refusal) (zs : List Remark) (w : Bytes) → build alone T F (length w) size room ≡ refused (number_of k) → Remains j.opening.round j.progress w → Inv alone T F size room (refusal_of j k) zs w
  closes j k zs w e m = (
    λ q. absurd (true≢false q),
    λ _. record {
      closing = record { counts = ap (λ x. length (remarks_in x)) (sym e); answer = (e, m) };
      front = ap remarks_in (sym e);
    },
  )

  -- a row that is looked for, from record k on
  pub record Seeks (w : Bytes) (st : Stage) (zs : List Remark) (k : ℕ) : Type 0 where
    pub len : length zs ≡ room
    pub fit : Fit alone T F w size room st
    pub upto : k ≤ st.base
    pub left : Left (met_in fit.stands) w st st.row zs
    pub own : Own w st st.row zs
    pub apart : (i : ℕ) → i < k → same_remark (get_or zs i zero_remark) (row_of w st.row) ≡ false

  module _ (w : Bytes) (st : Stage) (zs : List Remark) (k : ℕ) (h : Seeks w st zs k) where
    -- where the records of earlier rounds are looked through, none of all equals the row
    all_apart : st.base ≤ k → (i : ℕ) → i < st.count → same_remark (get_or zs i zero_remark) (row_of w st.row) ≡ false
    all_apart b i l = go (ltb i st.base) refl
      where
        go : (t : Bool) → ltb i st.base ≡ t → same_remark (get_or zs i zero_remark) (row_of w st.row) ≡ false
        go true q = h.apart i (omega (arith, ltb-true i st.base q, b))
        go false q = h.own i st.row (ltb-false i st.base q) l (omega arith) h.fit.some

    merging : (a : ℕ) → a < room → (st.base ≤ a → a ≡ st.count) → ((i : ℕ) → i < a → same_remark (get_or zs i zero_remark) (row_of w st.row) ≡ false) → k ≤ a
        → Goes alone T F size room (moved_to st a) zs w (bound room (st.job.progress.rows - st.row) (st.job.progress.seen - st.job.progress.next) k)
    merging a l s f g = (
      (
        λ _. record {
          fit = record { stands = h.fit.stands; going = h.fit.going; some = h.fit.some; count = h.fit.count; base = h.fit.base };
          place = l;
          settled = s;
          left = h.left;
          own = h.own;
          apart = f;
        },
        λ q. absurd (false≢true (sym h.fit.going ∙ q)),
      ),
      omega (arith, turns_seeking room (moved_to st a) h.fit.going, g),
    )

    overfull : st.base ≤ k → st.count ≡ room → build alone T F (length w) size room ≡ refused 14
    overfull b n =
        let es : List Remark = met_in h.fit.stands in
        let acc : List Remark = take st.count zs in
        let r : Remark = row_of w st.row in
        let ys : List Remark = rows_in w (32768 + 16 * (st.row + 1)) (st.job.progress.rows - (st.row + 1)) ++ drop st.job.progress.next es in
        let fits : st.count ≤ length zs = omega (arith, n, h.len) in
        let m : remarked r acc ≡ false = not_there zs r st.count fits (all_apart b) in
        let t : thinned (noted r acc) ys ≡ thin es = some_left w st zs es h.fit.some h.left in
        let g : length (noted r acc) ≤ length (thin es) = subst (λ (l : List Remark). length (noted r acc) ≤ length l) t (longer (noted r acc) ys) in
        let d : length (noted r acc) ≡ st.count + 1 = ap length (noted_out r acc m) ∙ length-append acc (r ∷ []) ∙ ap (λ (i : ℕ). i + 1) (length-take-le st.count zs fits) in
        refuses_full h.fit.stands (omega (arith, g, d, n))

    sought_case : (b c : Bool) → ltb k st.base ≡ b → eqb st.count room ≡ c
        → Goes alone T F size room (sought_at room st k) zs w (bound room (st.job.progress.rows - st.row) (st.job.progress.seen - st.job.progress.next) k)
    unfolding sought_at
    sought_case true c p q =
        let l : k < st.base = ltb-true k st.base p in
        rw p (merging k (omega (arith, l, h.fit.base, h.fit.count)) (λ g. absurd (lt_irrefl 0 (omega (arith, g, l)))) h.apart (omega arith))
    sought_case false true p q =
        let b : st.base ≤ k = ltb-false k st.base p in
        rw (p, q) (closes st.job RemarkCount zs w (overfull b (eqb-true st.count room q)) (remains h.fit.stands), omega (arith, turns_last room (refusal_of st.job RemarkCount) refl))
    sought_case false false p q =
        let b : st.base ≤ k = ltb-false k st.base p in
        rw (p, q)
        (merging st.count (omega (arith, eqb-false st.count room q, h.fit.count)) (λ _. refl) (all_apart b) (omega (arith, h.upto, h.fit.base)))

    pub sought : Goes alone T F size room (sought_at room st k) zs w (bound room (st.job.progress.rows - st.row) (st.job.progress.seen - st.job.progress.next) k)
    sought = sought_case (ltb k st.base) (eqb st.count room) refl refl
