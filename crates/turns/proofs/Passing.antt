-- A row is done with: the next one, the end, or another round. Assumes nothing.
use mathlib.Core.Path.{◌≡◌, sym, ap, subst, ◌∙◌}
use mathlib.Core.Bool.{false, Bool}
use mathlib.Core.List.{List, [], ◌++◌}
use Prim.Native.Nat.{ℕ, ◌+◌, ◌*◌, ◌-◌, ◌<◌, ◌≤◌}
use native.Mathlib.Nat.{mul-le-mul_right}
use native.Mathlib.Omega.{arith}
use lib.ListN.{length, get_or, take, drop, drop_of_length-le}
use borrow.Author.Count.{below_none}
use Rattle.numbers.specs.Words.{Bytes, zeros}
use Rattle.schema.specs.Defs.{Schema}
use Rattle.layout.specs.State.{Remark, same_remark, thinned, thin}
use Rattle.layout.specs.Build.{zero_remark, build}
use Rattle.area.specs.Rows.{rows_in}
use Rattle.area.proofs.Flat.{length_zeros}
use Rattle.rounds.specs.declared.Stage.{Stage}
use Rattle.rounds.specs.declared.opening.Opening.{Opening}
use Rattle.assemble.specs.Packed.{InUse}
use Rattle.rounds.specs.Run.{Roomy, Rooted, met_in}
use Rattle.rounds.specs.Merge.{sought_at, row_of, Fit, Left, bound, Goes, Judges, Takes}
use Rattle.turns.specs.Turns.{with_row, Passes}
use Rattle.rounds.proofs.Standings.{standing, in_use, seen_is, next_within}
use Rattle.rounds.proofs.Merges.{sought}

module _ (alone : Bool) (T F : Bytes) (size room : ℕ) where
  module _ (st : Stage) (w : Bytes) where
    -- the next row
    pub pass_next : st.row + 1 < st.job.progress.rows → Passes alone T F size room st w (sought_at room (with_row st (st.row + 1)) 0) w
    pass_next l h zs len left own =
        sought alone T F size room w (with_row st (st.row + 1)) zs 0
        (record {
          len = len;
          fit = record { stands = h.stands; going = h.going; some = l; count = h.count; base = h.base };
          upto = omega arith;
          left = left;
          own = own;
          apart = below_none (λ (k : ℕ). same_remark (get_or zs k zero_remark) (row_of w (st.row + 1)) ≡ false);
        })

    -- no row is left: what is left are the remarks from `next` on
    none_left : st.job.progress.rows ≤ st.row + 1 → (zs es : List Remark) → Left es w st (st.row + 1) zs → thinned (take st.count zs) (drop st.job.progress.next es) ≡ thin es
    unfolding rows_in
    none_left l zs es left =
        let z : st.job.progress.rows - (st.row + 1) ≡ 0 = omega (arith, l) in
        ap (λ (k : ℕ). thinned (take st.count zs) (rows_in w (32768 + 16 * (st.row + 1)) k ++ drop st.job.progress.next es)) (sym z) ∙ left

    -- .. and no remark
    pub pass_end : st.job.progress.rows ≤ st.row + 1 → st.job.progress.seen ≤ st.job.progress.next → (r : Stage) (v w' : Bytes) → v ≡ w → w' ≡ v → Judges alone F size st v r
        → Passes alone T F size room st w r w'
    unfolding thinned
    pass_end l g r v w' same is judges h zs len left own =
        let es : List Remark = met_in h.stands in
        let o : drop st.job.progress.next es ≡ [] = drop_of_length-le es {i = st.job.progress.next} (omega (arith, g, seen_is h.stands)) in
        let x = (subst (λ (b : Bytes). Judges alone F size st b r) same judges) T room h.stands zs len h.count (ap (thinned (take st.count zs)) (sym o) ∙ none_left l zs es left) in
        subst (λ (v : Bytes). Goes alone T F size room r zs v (bound room (st.job.progress.rows - (st.row + 1)) (st.job.progress.seen - st.job.progress.next) 0)) (sym (is ∙ same)) (x.0, omega (arith, x.1))

    abbrev again : Opening
    again = record {
      round = record { entries = st.job.opening.round.entries; cap = st.job.opening.round.cap; skip = st.job.progress.next };
      place = st.job.opening.place;
      name = st.job.opening.name;
    }

    -- another round can run in the wiped area
    pub round_again : Fit alone T F w size room st → (v w' : Bytes) → w' ≡ v
        → ((S : Schema) → InUse S st.job.opening.round (length w) st.job.progress w → v ≡ zeros (length w))
        → Roomy again.round (length w') × (w' ≡ zeros (length w')) × Rooted F again.round again.place again.name
    round_again h v w' is wipes =
        let k = h.stands.rooted in
        let s = standing h.stands in
        let z : w' ≡ zeros (length w) = is ∙ wipes k.schema (in_use s.rep) in
        let lw : length w' ≡ length w = ap length z ∙ length_zeros (length w) in (
          (h.stands.safe.small, omega (arith, h.stands.safe.room, lw)),
          z ∙ ap zeros (sym lw),
          record { schema = k.schema; def = k.def; whole = k.whole; entries = k.entries; wins = k.wins; found = k.found },
        )

    -- another round
    pub pass_round : st.job.progress.rows ≤ st.row + 1 → (w' : Bytes) → length w' ≡ length w → (r : Stage)
        → Takes alone T F size room again st.count r w'
        → Passes alone T F size room st w r w'
    pass_round l w' lw r takes h zs len left own =
        let k = h.stands.rooted in
        let es : List Remark = met_in h.stands in
        let x = takes (record { schema = k.schema; def = k.def; whole = k.whole; entries = k.entries; wins = k.wins; found = k.found })
        (ap (λ (n : ℕ). build alone T F n size room) lw ∙ h.stands.builds) (next_within h.stands) h.count zs len (none_left l zs es left) in
        let n : 0 + (length es - st.job.progress.next) ≤ st.job.progress.rows - (st.row + 1) + (st.job.progress.seen - st.job.progress.next) = omega (arith, seen_is h.stands) in
        let p : (0 + (length es - st.job.progress.next)) * (room + 1) ≤ (st.job.progress.rows - (st.row + 1) + (st.job.progress.seen - st.job.progress.next)) * (room + 1) = mul-le-mul_right (room + 1) n in
        (x.0, omega (arith, p, x.1))
