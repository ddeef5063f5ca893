-- A round has run, and its rows are taken. Assumes nothing.
use mathlib.Core.Path.{◌≡◌, refl, sym, ap, subst, ◌∙◌}
use mathlib.Core.Bool.{Bool, true, false}
use mathlib.Core.List.{List, [], ◌++◌}
use Prim.Native.Nat.{ℕ, ◌+◌, ◌*◌, ◌-◌, ◌<◌, ◌≤◌}
use native.Mathlib.Nat.{lt_irrefl, sub-zero, mul-le-mul_right}
use native.Mathlib.Omega.{arith}
use lib.Dec.{ltb}
use lib.ListN.{length, get_or, take, drop, drop_of_length-le}
use borrow.Author.Count.{below_none}
use borrow.Author.Tests.{ltb-true, ltb-false}
use Rattle.std.specs.Prelude.{Result}
use Rattle.numbers.specs.Words.{Bytes}
use Rattle.numbers.specs.declared.refusal.Refusal.{Refusal}
use Rattle.schema.specs.Defs.{winning}
use Rattle.layout.specs.State.{Remark, same_remark, thinned, thin, events_of}
use Rattle.layout.specs.Build.{zero_remark, build}
use Rattle.area.specs.declared.Progress.{Progress}
use Rattle.area.specs.Rows.{rows_in}
use Rattle.area.specs.declared.Area.{Area}
use Rattle.area.specs.Posts.{Safe, answered}
use Rattle.area.specs.Steps.{Step}
use Rattle.rounds.specs.declared.Job.{Job}
use Rattle.rounds.specs.declared.Stage.{Stage}
use Rattle.rounds.specs.declared.opening.Opening.{Opening}
use Rattle.rounds.specs.Run.{Rooted, run_of, Runs, made, Standing, met_in}
use Rattle.rounds.specs.Merge.{sought_at, taken_at, row_of, bound, Goes, Judges, Takes}
use Rattle.rounds.proofs.Thinning.{rejoin}
use Rattle.rounds.proofs.Standings.{seen_is, rows_kept, next_within, next_after, rows_fewer, rows_fill}
use Rattle.rounds.proofs.Merges.{sought}

-- a round without rows has met no remark that it does not account for
not_full : (next seen rows : ℕ) → rows ≡ 0 → (next < seen → rows ≡ 1024) → seen ≤ next
not_full next seen rows z f = go (ltb next seen) refl
  where
    go : (b : Bool) → ltb next seen ≡ b → seen ≤ next
    go true e = absurd (lt_irrefl 0 (omega (arith, z, f (ltb-true next seen e))))
    go false e = ltb-false next seen e

module _ (alone : Bool) (T F : Bytes) (size room : ℕ) where
  -- a round has run
  module _ (o : Opening) (count : ℕ) (w : Bytes) (r : Result ℕ Refusal) (p : Progress) where
    abbrev J : Job
    J = record { opening = o; outcome = r; progress = p }

    module _ (h : Rooted F o.round o.place o.name) where
      abbrev es : List Remark
      es = events_of (run_of alone T h.schema h.def o.round)

      -- its rows, and the remarks after them, are what was left
      taken_left : (k : Standing alone T F size room J w) (zs : List Remark) → thinned (take count zs) (drop o.round.skip (met_in k)) ≡ thin (met_in k)
          → thinned (take count zs) (rows_in w 32768 p.rows ++ drop p.next (met_in k)) ≡ thin (met_in k)
      taken_left k zs t = rejoin (take count zs) (met_in k) (rows_in w 32768 p.rows) o.round.skip p.next (rows_kept k) (next_after k) (next_within k) ∙ t

      some_rows : (k : Standing alone T F size room J w) → 0 < p.rows → count ≤ room → (zs : List Remark) → length zs ≡ room
          → thinned (take count zs) (drop o.round.skip (met_in k)) ≡ thin (met_in k)
          → Goes alone T F size room (sought_at room (taken_at J count) 0) zs w (bound room 0 (length (met_in k) - o.round.skip) 0)
      some_rows k l n zs len t =
          let x = sought alone T F size room w (taken_at J count) zs 0
          (record {
            len = len;
            fit = record { stands = k; going = refl; some = l; count = n; base = omega arith };
            upto = omega arith;
            left = ap (λ (i : ℕ). thinned (take count zs) (rows_in w 32768 i ++ drop p.next (met_in k))) (sub-zero p.rows) ∙ taken_left k zs t;
            own = λ i j a b c d. absurd (lt_irrefl 0 (omega (arith, a, b)));
            apart = below_none (λ (i : ℕ). same_remark (get_or zs i zero_remark) (row_of w 0) ≡ false);
          }) in
          let m : p.rows - 0 + (p.seen - p.next) ≤ 0 + (length (met_in k) - o.round.skip) = omega (arith, rows_fewer k, seen_is k, next_within k) in
          let e : (p.rows - 0 + (p.seen - p.next)) * (room + 1) ≤ (0 + (length (met_in k) - o.round.skip)) * (room + 1) = mul-le-mul_right (room + 1) m in
          (x.0, omega (arith, e, x.1))

      no_rows : (k : Standing alone T F size room J w) → p.rows ≡ 0 → (q : Stage) → Judges alone F size (taken_at J count) w q → count ≤ room → (zs : List Remark) → length zs ≡ room
          → thinned (take count zs) (drop o.round.skip (met_in k)) ≡ thin (met_in k)
          → Goes alone T F size room q zs w (bound room 0 (length (met_in k) - o.round.skip) 0)
      unfolding rows_in thinned
      no_rows k z q judges n zs len t =
          let f : p.seen ≤ p.next = not_full p.next p.seen p.rows z (rows_fill k) in
          let o : drop p.next (met_in k) ≡ [] = drop_of_length-le (met_in k) {i = p.next} (omega (arith, f, seen_is k)) in
          let u : take count zs ≡ thin (met_in k) =
          ap (thinned (take count zs)) (sym o) ∙ ap (λ (i : ℕ). thinned (take count zs) (rows_in w 32768 i ++ drop p.next (met_in k))) (sym z) ∙ taken_left k zs t in
          let x = judges T room k zs len n u in
          (x.0, omega (arith, x.1))

      abbrev standing_of : Safe o.round (length w) p → build alone T F (length w) size room ≡ made (winning h.schema) size room (run_of alone T h.schema h.def o.round) → o.round.skip ≤ length es
          → Runs alone T F o.round (length w) o.name (answered r p) w → Standing alone T F size room J w
      standing_of s b k runs = record { rooted = h; safe = s; builds = b; meets = runs.says h.schema h.def h.whole h.entries h.wins; skips = k }

  -- it ran in the area a, and the work area is what b left
  module _ (o : Opening) (count : ℕ) (a b : Area) (r : Result ℕ Refusal) (ran : Step (λ R n p w. Runs alone T F R n o.name) a r b) (at : a.round ≡ o.round) (w : Bytes) (is : w ≡ b.bytes.now) where
    safe : Safe o.round (length w) b.progress
    safe = rw (is, ← at, ← ran.same.round) b.safe

    runs : Runs alone T F o.round (length w) o.name (answered r b.progress) w
    runs = rw (is, ran.same.size, ← at) ran.did

    abbrev Took : Stage → Type 0
    Took q = Takes alone T F size room o count q w

    abbrev taken : Stage
    taken = taken_at (record { opening = o; outcome = r; progress = b.progress }) count

    -- its rows are to be merged
    pub take_some : 0 < b.progress.rows → (q : Stage) → q ≡ sought_at room taken 0 → Took q
    take_some l q e = rw e (λ h t s n zs len u. some_rows o count w r b.progress h (standing_of o count w r b.progress h safe t s runs) l n zs len u)

    -- it has none
    pub take_none : b.progress.rows ≡ 0 → (q : Stage) → Judges alone F size taken b.bytes.now q → Took q
    take_none z q judges h t s n zs len u =
        no_rows o count w r b.progress h (standing_of o count w r b.progress h safe t s runs) z q (subst (λ (v : Bytes). Judges alone F size taken v q) (sym is) judges) n zs len u
