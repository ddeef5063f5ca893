-- What a round that has run tells of the remarks and of the answer. Assumes nothing.
use mathlib.Core.Path.{◌≡◌, refl, sym, ap, subst, ◌∙◌}
use Rattle.std.specs.Prelude as Rust
use Rattle.std.specs.Prelude.{Ok, Err}
use mathlib.Core.Bool.{true, false, ◌||◌, Bool}
use mathlib.Core.List.{List, []}
use Prim.Native.Nat.{ℕ, zero, suc, ◌+◌, ◌*◌, ◌<◌, ◌≤◌}
use native.Mathlib.Nat.{lt_irrefl, suc-le-suc_iff}
use native.Mathlib.Omega.{arith}
use lib.Dec.{ltb}
use lib.ListN.{length, get_or, take, drop, take-append-drop}
use borrow.Author.Tests.{lt-ltb, le-ltb}
use Rattle.numbers.specs.Words.{Bytes, over}
use Rattle.numbers.specs.Result.{ok, refused, and_then}
use Rattle.numbers.specs.declared.refusal.Refusal.{Refusal}
use Rattle.schema.specs.Defs.{Schema, Lookup, winning}
use Rattle.layout.specs.State.{Remark, State, Out, done, stop, same_remark, thin, events_of}
use Rattle.layout.specs.Assemble.{file_of}
use Rattle.layout.specs.Build.{Built, zero_remark, within, laid_from, packed, fitted, build}
use Rattle.area.specs.declared.Round.{Round}
use Rattle.area.specs.declared.Progress.{Progress}
use Rattle.area.specs.Kept.{kept}
use Rattle.area.specs.Rows.{row_in, rows_in}
use Rattle.area.specs.Area.{Rep}
use Rattle.area.specs.Posts.{answered, Meets, Stopped}
use Rattle.area.proofs.Noting.{rows_are}
use Rattle.rounds.specs.declared.Job.{Job}
use Rattle.assemble.specs.Packed.{InUse, table_at}
use Rattle.rounds.specs.Run.{run_of, made, Standing, met_in}
use Rattle.rounds.specs.Merge.{row_of, Remains}
use Rattle.rounds.proofs.Thinning.{Distinct, distinct_thin}
use Rattle.rounds.proofs.Accounts.{Accounts, accounts, goes_on}

-- too many remarks
pub made_full : (L : Lookup) (size room : ℕ) (o : Out ℕ) → room < length (thin (events_of o)) → made L size room o ≡ refused 14
unfolding laid_from within and_then
made_full L size room (done p s) h = rw (lt-ltb room (length (thin s.events)) h) refl
made_full L size room (stop n es) h = rw (lt-ltb room (length (thin es)) h) refl

-- a refusal of the layout's own
pub made_stop : (L : Lookup) (size room k : ℕ) (es : List Remark) → length (thin es) ≤ room → made L size room (stop k es) ≡ refused k
unfolding laid_from within and_then
made_stop L size room k es h = rw (le-ltb room (length (thin es)) h) refl

abbrev laid_as : Lookup → ℕ → State → Built
laid_as L p s = packed (record { state = s; pointer = p; defs = L })

-- the layout ended well
pub made_done : (L : Lookup) (size room p : ℕ) (s : State) → length (thin s.events) ≤ room → made L size room (done p s) ≡ fitted size (laid_as L p s)
unfolding laid_from within and_then
made_done L size room p s h = rw (le-ltb room (length (thin s.events)) h) refl

-- 13
pub fitted_long : (L : Lookup) (size p : ℕ) (s : State) (n : ℕ) → n ≡ length (file_of L p s.core) → ltb size n || ltb 16777216 n ≡ true → fitted size (laid_as L p s) ≡ refused 13
unfolding fitted packed
fitted_long L size p s n e h =
    let f : ltb size (length (file_of L p s.core)) || ltb 16777216 (length (file_of L p s.core)) ≡ true = ap (λ (k : ℕ). ltb size k || ltb 16777216 k) (sym e) ∙ h in
    rw f refl

pub fitted_fits : (L : Lookup) (size p : ℕ) (s : State) (n : ℕ) → n ≡ length (file_of L p s.core) → n ≤ size → n ≤ 16777216 → fitted size (laid_as L p s) ≡ ok (laid_as L p s)
unfolding fitted packed
fitted_fits L size p s n e h g =
    let m : ℕ = length (file_of L p s.core) in
    rw (le-ltb size m (omega (arith, e, h)), le-ltb 16777216 m (omega (arith, e, g))) refl

-- rows, by number
pub row_is_law : (w : Bytes) (at n k : ℕ) → k < n → get_or (rows_in w at n) k zero_remark ≡ row_in w (at + 16 * k)
unfolding rows_in
row_is_law w at zero k h = absurd (lt_irrefl 0 (omega (arith, h)))
row_is_law w at (suc n) zero h = let e : at ≡ at + 16 * 0 = omega arith in ap (row_in w) e
row_is_law w at (suc n) (suc k) h = let e : at + 16 + 16 * k ≡ at + 16 * suc k = omega arith in row_is_law w (at + 16) n k (suc-le-suc_iff.0 h) ∙ ap (row_in w) e

pub length_rows_in : (w : Bytes) (at n : ℕ) → length (rows_in w at n) ≡ n
unfolding rows_in
length_rows_in w at zero = refl
length_rows_in w at (suc n) = ap suc (length_rows_in w (at + 16) n)

-- what stands in the area, be it after an answer or after a refusal
stood : (S : Schema) (R : Round) (n : ℕ) (o : Out ℕ) (r : Rust.Result ℕ Refusal) (p : Progress) (w : Bytes)
    → Meets S R n (λ _. []) (λ a x. a ≡ x) o (answered r p) w → Stopped S R n (events_of o) p w
stood S R n (done a s) (Ok x) p w m = record { state = s; stack = []; rep = m.0; met = refl }
stood S R n (done a s) (Err e) p w m = absurd m
stood S R n (stop k es) (Ok x) p w m = absurd m
stood S R n (stop k es) (Err e) p w m = m.1

-- what holds a state is in use, without a table of places
pub in_use : {S : Schema} {R : Round} {s : State} {σ : Bytes} {p : Progress} {w : Bytes} → Rep S R (length w) s σ p w → InUse S R (length w) p w
unfolding over
in_use {S} {R} {s} {σ} {p} {w} r =
    record { state = s; stack = σ; before = w; table = []; rep = r; few = omega arith; is = sym (take-append-drop table_at w) }

module _ {alone : Bool} {T F : Bytes} {size room : ℕ} {j : Job} {w : Bytes} (h : Standing alone T F size room j w) where
  pub standing : Stopped h.rooted.schema j.opening.round (length w) (met_in h) j.progress w
  standing = stood h.rooted.schema j.opening.round (length w) (run_of alone T h.rooted.schema h.rooted.def j.opening.round) j.outcome j.progress w h.meets

  -- what a refusal finds in the work area
  pub remains : Remains j.opening.round j.progress w
  remains = record { safe = h.safe; some = (h.rooted.schema, in_use standing.rep) }

  abbrev met : List Remark
  met = met_in h

  account : Accounts j.opening.round.skip met (kept j.opening.round.skip met)
  account = accounts j.opening.round.skip met

  -- the numbers of what is kept
  rows_count : j.progress.rows ≡ length (kept j.opening.round.skip met).rows
  rows_count = standing.rep.rows ∙ ap (λ (es : List Remark). length (kept j.opening.round.skip es).rows) standing.met

  next_is : j.progress.next ≡ (kept j.opening.round.skip met).next
  next_is = standing.rep.next ∙ ap (λ (es : List Remark). (kept j.opening.round.skip es).next) standing.met

  pub seen_is : j.progress.seen ≡ length met
  seen_is = standing.rep.seen ∙ ap (λ (es : List Remark). (kept j.opening.round.skip es).seen) standing.met ∙ account.seen

  pub rows_kept : rows_in w 32768 j.progress.rows ≡ thin (drop j.opening.round.skip (take j.progress.next met))
  rows_kept =
      rows_are j.opening.round (length w) j.progress w zero_remark h.safe h.rooted.schema standing.state standing.stack standing.rep
      ∙ ap (λ (es : List Remark). (kept j.opening.round.skip es).rows) standing.met
      ∙ account.rows_are
      ∙ ap (λ (n : ℕ). thin (drop j.opening.round.skip (take n met))) (sym next_is)

  pub next_within : j.progress.next ≤ length met
  next_within = omega (arith, next_is, account.next, account.seen)

  pub next_after : j.opening.round.skip ≤ j.progress.next
  next_after = omega (arith, next_is, goes_on j.opening.round.skip met h.skips)

  pub rows_fewer : j.progress.rows + j.opening.round.skip ≤ j.progress.next
  rows_fewer = omega (arith, rows_count, next_is, account.fewer, next_after)

  pub rows_fill : j.progress.next < j.progress.seen → j.progress.rows ≡ 1024
  rows_fill l = rows_count ∙ account.fills (omega (arith, l, next_is, seen_is, account.seen))

  -- no two rows are equal
  pub rows_distinct : (i k : ℕ) → i < k → k < j.progress.rows → same_remark (row_of w i) (row_of w k) ≡ false
  rows_distinct i k l g =
      let d : Distinct (rows_in w 32768 j.progress.rows) = subst Distinct (sym rows_kept) (distinct_thin (drop j.opening.round.skip (take j.progress.next met))) in
      let rs : List Remark = rows_in w 32768 j.progress.rows in
      ap (λ (x : Remark). same_remark x (row_of w k)) (sym (row_is_law w 32768 j.progress.rows i (omega (arith, l, g))))
      ∙ ap (same_remark (get_or rs i zero_remark)) (sym (row_is_law w 32768 j.progress.rows k g))
      ∙ d i k l (omega (arith, g, length_rows_in w 32768 j.progress.rows))

  -- 14
  pub refuses_full : room < length (thin met) → build alone T F (length w) size room ≡ refused 14
  refuses_full l = h.builds ∙ made_full (winning h.rooted.schema) size room (run_of alone T h.rooted.schema h.rooted.def j.opening.round) l
