-- A turn keeps `Inv` and leaves fewer turns. Assumes nothing.
use mathlib.Core.Path.{◌≡◌, refl, sym, ap, subst, ◌∙◌}
use mathlib.Core.Bool.{Bool, true, false}
use mathlib.Core.List.{List, ◌++◌}
use Prim.Native.Nat.{ℕ, suc, ◌+◌, ◌*◌, ◌-◌, ◌<◌, ◌≤◌}
use native.Mathlib.Numerals.{add-one}
use native.Mathlib.Nat.{suc-mul}
use native.Mathlib.Omega.{arith}
use lib.Dec.{eqb}
use lib.ListN.{length, get_or, take, drop, set, length-set}
use lib.Seq.{length-take-le, take-suc-set, get_or-take, set-get_or, get_or-set_same, get_or-set_other}
use borrow.Author.Count.{below_more}
use borrow.Author.Tests.{eqb-true, eqb-false}
use Rattle.numbers.specs.Words.{Bytes}
use Rattle.layout.specs.State.{Remark, same_remark, remarked, noted, thinned}
use Rattle.layout.specs.Build.{zero_remark}
use Rattle.area.specs.Rows.{rows_in}
use Rattle.rounds.specs.declared.Stage.{Stage}
use Rattle.rounds.specs.Run.{met_in}
use Rattle.rounds.specs.Merge.{sought_at, row_of, Fit, Own, Merging, Inv, bound, turns}
use Rattle.turns.specs.Turns.{with_count, Passes, Steps}
use Rattle.rounds.proofs.Thinning.{noted_in, noted_out, found}
use Rattle.rounds.proofs.Standings.{rows_distinct}
use Rattle.rounds.proofs.Merges.{turns_seeking, some_left, not_there, sought}

turns_fall : (room : ℕ) (st : Stage) (n : ℕ) → st.last ≡ false → st.row < st.job.progress.rows → st.at < room
    → n ≤ bound room (st.job.progress.rows - (st.row + 1)) (st.job.progress.seen - st.job.progress.next) 0 → n < turns room st
turns_fall room st n l h a b =
    let m : ℕ = st.job.progress.seen - st.job.progress.next in
    let y : ℕ = st.job.progress.rows - (st.row + 1) + m in
    let e : st.job.progress.rows - st.row + m ≡ suc y = omega (arith, h) in
    let p : (st.job.progress.rows - st.row + m) * (room + 1) ≡ y * (room + 1) + (room + 1) = ap (λ (k : ℕ). k * (room + 1)) e ∙ suc-mul y (room + 1) in
    omega (arith, turns_seeking room st l, p, b, a)

module _ (alone : Bool) (T F : Bytes) (size room : ℕ) where
  -- a turn
  module _ (st : Stage) (old : Remark) (w : Bytes) (place : st.at < room) (fit : Fit alone T F w size room st) where
    -- the record equals the row
    pub step_found : st.at < st.base → same_remark old (row_of w st.row) ≡ true → (r : Stage) (w' : Bytes) → Passes alone T F size room st w r w'
        → Steps alone T F size room st old w (record { stage = r; new = old }) w'
    step_found h same r w' passes zs len eo inv =
        let m : Merging alone T F size room st zs w = inv.0 fit.going in
        let es : List Remark = met_in m.fit.stands in
        let acc : List Remark = take st.count zs in
        let x : Remark = row_of w st.row in
        let c : st.at < st.count = omega (arith, h, fit.base) in
        let lt : st.at < length acc = omega (arith, c, length-take-le st.count zs (omega (arith, fit.count, len))) in
        let mem : remarked x acc ≡ true = found acc x st.at lt (ap (λ (y : Remark). same_remark y x) (get_or-take st.count zs st.at zero_remark c ∙ sym eo) ∙ same) in
        let g = passes m.fit zs len
        (ap (λ (l : List Remark). thinned l (rows_in w (32768 + 16 * (st.row + 1)) (st.job.progress.rows - (st.row + 1)) ++ drop st.job.progress.next es)) (sym (noted_in x acc mem))
        ∙ some_left w st zs es fit.some m.left)
        (λ k j a b c d. m.own k j a b (omega (arith, c)) d) in (
          subst (λ (l : List Remark). Inv alone T F size room r l w') (sym (ap (set zs st.at) eo ∙ set-get_or zs st.at zero_remark)) g.0,
          turns_fall room st (turns room r) fit.going fit.some place g.1,
        )

    -- it does not: the next one
    pub step_next : st.at < st.base → same_remark old (row_of w st.row) ≡ false → (r : Stage) → r ≡ sought_at room st (st.at + 1)
        → Steps alone T F size room st old w (record { stage = r; new = old }) w
    step_next h differ r q zs len eo inv =
        let m : Merging alone T F size room st zs w = inv.0 fit.going in
        let g = sought alone T F size room w st zs (st.at + 1)
        (record {
          len = len;
          fit = m.fit;
          upto = omega (arith, h);
          left = m.left;
          own = m.own;
          apart = below_more (λ (k : ℕ). same_remark (get_or zs k zero_remark) (row_of w st.row) ≡ false) st.at m.apart
              (ap (λ (y : Remark). same_remark y (row_of w st.row)) (sym eo) ∙ differ);
        }) in
        let t : turns room (sought_at room st (st.at + 1)) < turns room st = omega (arith, turns_seeking room st fit.going, g.1, place) in (
          subst (λ (l : List Remark). Inv alone T F size room r l w) (sym (ap (set zs st.at) eo ∙ set-get_or zs st.at zero_remark)) (subst (λ (x : Stage). Inv alone T F size room x zs w) (sym q) g.0),
          subst (λ (x : Stage). turns room x < turns room st) (sym q) t,
        )

    -- .. with the row there, none of this round's records is one of the rows behind it
    own_put : (zs : List Remark) → length zs ≡ room → st.at ≡ st.count → (x : Remark) → x ≡ row_of w st.row → Own w st st.row zs
        → Own w (with_count st (st.count + 1)) (st.row + 1) (set zs st.at x)
    own_put zs len a x ex own k j b c d e = go (eqb k st.at) refl
      where
        go : (t : Bool) → eqb k st.at ≡ t → same_remark (get_or (set zs st.at x) k zero_remark) (row_of w j) ≡ false
        go true q =
            ap (λ (i : ℕ). same_remark (get_or (set zs st.at x) i zero_remark) (row_of w j)) (eqb-true k st.at q)
            ∙ ap (λ (y : Remark). same_remark y (row_of w j)) (get_or-set_same zs st.at x zero_remark (omega (arith, place, len)) ∙ ex)
            ∙ rows_distinct fit.stands st.row j (omega (arith, d)) e
        go false q =
            ap (λ (y : Remark). same_remark y (row_of w j)) (get_or-set_other zs st.at k x zero_remark (eqb-false k st.at q))
            ∙ own k j b (omega (arith, c, a, eqb-false k st.at q)) (omega (arith, d)) e

    -- the row is put behind the others
    pub step_put : st.base ≤ st.at → (x : Remark) → x ≡ row_of w st.row → (r : Stage) (w' : Bytes) → Passes alone T F size room (with_count st (st.count + 1)) w r w'
        → Steps alone T F size room st old w (record { stage = r; new = x }) w'
    step_put h x ex r w' passes zs len eo inv =
        let m : Merging alone T F size room st zs w = inv.0 fit.going in
        let es : List Remark = met_in m.fit.stands in
        let a : st.at ≡ st.count = m.settled h in
        let acc : List Remark = take st.count zs in
        let out : remarked x acc ≡ false = not_there zs x st.count (omega (arith, fit.count, len)) (λ k l. ap (same_remark (get_or zs k zero_remark)) ex ∙ m.apart k (omega (arith, l, a))) in
        let zs' : List Remark = set zs st.at x in
        let t : take (st.count + 1) zs' ≡ noted (row_of w st.row) acc =
        ap (λ (j : ℕ). take j zs') (add-one st.count) ∙ ap (λ (j : ℕ). take (suc st.count) (set zs j x)) a ∙ take-suc-set zs st.count x (omega (arith, a, place, len))
        ∙ sym (noted_out x acc out) ∙ ap (λ (y : Remark). noted y acc) ex in
        let g = passes (record { stands = m.fit.stands; going = fit.going; some = fit.some; count = omega (arith, a, place); base = omega (arith, fit.base) }) zs' (length-set zs st.at x ∙ len)
        (ap (λ (l : List Remark). thinned l (rows_in w (32768 + 16 * (st.row + 1)) (st.job.progress.rows - (st.row + 1)) ++ drop st.job.progress.next es)) t
        ∙ some_left w st zs es fit.some m.left)
        (own_put zs len a x ex m.own) in
        (g.0, turns_fall room st (turns room r) fit.going fit.some place g.1)
