-- All rows are merged: the layout's own answer, and the file's length. Assumes nothing.
use mathlib.Core.Path.{◌≡◌, refl, sym, ap, subst, ◌∙◌}
use Rattle.std.specs.Prelude as Rust
use Rattle.std.specs.Prelude.{Ok, Err}
use mathlib.Core.Bool.{Bool, true, false, cond, ◌||◌, or-true, true≢false}
use mathlib.Core.List.{List, []}
use Prim.Native.Nat.{ℕ, ◌<◌, ◌≤◌}
use native.Mathlib.Omega.{arith}
use lib.Dec.{ltb}
use lib.ListN.{length, take}
use lib.Seq.{length-take-le}
use borrow.Author.Tests.{lt-ltb, le-ltb}
use Rattle.numbers.specs.Words.{Bytes}
use Rattle.numbers.specs.Result.{ok, refused}
use Rattle.numbers.specs.Refusal.{number_of}
use Rattle.numbers.specs.declared.refusal.Refusal.{Refusal}
use Rattle.numbers.specs.declared.refusal.Refusal.TheVariants.{OutputLength}
use Rattle.value.specs.Rows.{row, fields_of}
use Rattle.schema.specs.Defs.{Schema, Lookup, winning}
use Rattle.layout.specs.State.{Remark, State, Out, done, stop, thin, events_of}
use Rattle.layout.specs.Assemble.{file_of}
use Rattle.layout.specs.Build as Build
use Rattle.layout.specs.Build.{packed, build}
use Rattle.layout.specs.Always.{Tiled}
use Rattle.layout.proofs.Tiling.{root_tiled}
use Rattle.area.specs.declared.Round.{Round}
use Rattle.area.specs.declared.Progress.{Progress}
use Rattle.area.specs.Area.{env_of, Rep}
use Rattle.area.specs.Posts.{gives, refuses, answered, Meets}
use Rattle.rounds.specs.declared.Stage.{Stage}
use Rattle.psch.specs.Used.{Counts}
use Rattle.assemble.specs.Packed.{Holds}
use Rattle.rounds.specs.Run.{run_of, made, Standing, met_in}
use Rattle.rounds.specs.Merge.{refusal_of, ended_at, judged_by, judged_at, remarks_in, Known, Goes, Judges}
use Rattle.rounds.proofs.Standings.{made_stop, made_done, fitted_long, fitted_fits, remains}
use Rattle.rounds.proofs.Merges.{turns_last, closes}

-- the code's ways, where m is the length that was counted
module _ (size : ℕ) (st : Stage) (m n : ℕ) where
  pub at_bad : (k : Refusal) → st.job.outcome ≡ Err k → refusal_of st.job k ≡ judged_at size st n
  unfolding judged_at
  at_bad k g = ap (judged_by size st n) (sym g)

  module _ (x : ℕ) (good : st.job.outcome ≡ Ok x) (e : m ≡ n) where
    at_long : ltb size n || ltb 16777216 n ≡ true → refusal_of st.job OutputLength ≡ judged_at size st n
    unfolding judged_at
    at_long f =
        sym (ap (λ (b : Bool). cond b (refusal_of st.job OutputLength) (ended_at st n)) f)
        ∙ ap (judged_by size st n) (sym good)

    pub at_huge : 16777216 < m → refusal_of st.job OutputLength ≡ judged_at size st n
    at_huge f = at_long (rw (lt-ltb 16777216 n (omega (arith, f, e))) (or-true (ltb size n)))

    pub at_past : size < m → refusal_of st.job OutputLength ≡ judged_at size st n
    at_past f = at_long (rw (lt-ltb size n (omega (arith, f, e))) refl)

    pub at_end_law : m ≤ 16777216 → m ≤ size → ended_at st m ≡ judged_at size st n
    unfolding judged_at
    at_end_law g f =
        let t : ltb size n || ltb 16777216 n ≡ false = rw (le-ltb size n (omega (arith, f, e)), le-ltb 16777216 n (omega (arith, g, e))) refl in
        ap (ended_at st) e ∙ sym (ap (λ (b : Bool). cond b (refusal_of st.job OutputLength) (ended_at st n)) t)
        ∙ ap (judged_by size st n) (sym good)

-- a refusal of the layout's own
ended_badly : (S : Schema) (R : Round) (n size room : ℕ) (L : Lookup) (o : Out ℕ) (k : ℕ) (p : Progress) (w : Bytes)
    → Meets S R n (λ _. []) (λ a x. a ≡ x) o (refuses k p) w → length (thin (events_of o)) ≤ room → made L size room o ≡ refused k
ended_badly S R n size room L (done a s) k p w m h = absurd m
ended_badly S R n size room L (stop j es) k p w m h = made_stop L size room j es h ∙ ap refused (sym m.0)

-- the layout ended well
record Well (S : Schema) (R : Round) (n : ℕ) (o : Out ℕ) (value : ℕ) (p : Progress) (w : Bytes) : Type 0 where
  state : State
  rep : Rep S R n state [] p w
  is : o ≡ done value state

ended_well : (S : Schema) (R : Round) (n : ℕ) (o : Out ℕ) (value : ℕ) (p : Progress) (w : Bytes)
    → Meets S R n (λ _. []) (λ a x. a ≡ x) o (gives value p) w → Well S R n o value p w
ended_well S R n (done a s) value p w m = record { state = s; rep = m.0; is = ap (λ (x : ℕ). done x s) m.1 }
ended_well S R n (stop k es) value p w m = absurd m

module _ (alone : Bool) (F : Bytes) (size : ℕ) (st : Stage) (w : Bytes) where
  -- what the round gave
  given : (T : Bytes) (room : ℕ) (h : Standing alone T F size room st.job w) (r : Rust.Result ℕ Refusal) → st.job.outcome ≡ r
      → Meets h.rooted.schema st.job.opening.round (length w) (λ _. []) (λ a x. a ≡ x) (run_of alone T h.rooted.schema h.rooted.def st.job.opening.round) (answered r st.job.progress) w
  given T room h r g = rw (← g) h.meets

  refused_goes : (T : Bytes) (room : ℕ) → Standing alone T F size room st.job w → (zs : List Remark) (k : Refusal) → build alone T F (length w) size room ≡ refused (number_of k)
      → Goes alone T F size room (refusal_of st.job k) zs w 0
  refused_goes T room h zs k e = (closes alone T F size room st.job k zs w e (remains h), omega (arith, turns_last room (refusal_of st.job k) refl))

  few : (room : ℕ) (zs es : List Remark) → length zs ≡ room → st.count ≤ room → take st.count zs ≡ thin es → length (thin es) ≡ st.count
  few room zs es len h t = ap length (sym t) ∙ length-take-le st.count zs (omega (arith, h, len))

  pub judge_bad : (k : Refusal) → st.job.outcome ≡ Err k → Judges alone F size st w (refusal_of st.job k)
  judge_bad k g T room h zs len n t =
      refused_goes T room h zs k
      (h.builds
      ∙ ended_badly h.rooted.schema st.job.opening.round (length w) size room (winning h.rooted.schema) (run_of alone T h.rooted.schema h.rooted.def st.job.opening.round)
      (number_of k) st.job.progress w (given T room h (Err k) g) (omega (arith, few room zs (met_in h) len n t, n)))

  module _ (len pointer : ℕ) (good : st.job.outcome ≡ Ok pointer)
      (measured : (S : Schema) (s : State) (σ : Bytes) (pointer : ℕ) → Holds F st.job.opening.round st.job.progress w S s σ → Counts len (length (file_of (winning S) pointer s.core))) where
    abbrev Ended : (T : Bytes) (room : ℕ) → Standing alone T F size room st.job w → Type 0
    Ended T room h = Well h.rooted.schema st.job.opening.round (length w) (run_of alone T h.rooted.schema h.rooted.def st.job.opening.round) pointer st.job.progress w

    well : (T : Bytes) (room : ℕ) (h : Standing alone T F size room st.job w) → Ended T room h
    well T room h =
        ended_well h.rooted.schema st.job.opening.round (length w) (run_of alone T h.rooted.schema h.rooted.def st.job.opening.round) pointer st.job.progress w (given T room h (Ok pointer) good)

    met_is : (T : Bytes) (room : ℕ) (h : Standing alone T F size room st.job w) (e : Ended T room h) → met_in h ≡ e.state.events
    met_is T room h e = ap events_of e.is

    built : (T : Bytes) (room : ℕ) (h : Standing alone T F size room st.job w) (e : Ended T room h) → length (thin (met_in h)) ≤ room
        → build alone T F (length w) size room ≡ Build.fitted size (packed (record { state = e.state; pointer = pointer; defs = winning h.rooted.schema }))
    built T room h e l =
        h.builds ∙ ap (made (winning h.rooted.schema) size room) e.is
        ∙ made_done (winning h.rooted.schema) size room pointer e.state (subst (λ (es : List Remark). length (thin es) ≤ room) (met_is T room h e) l)

    tiles : (T : Bytes) (room : ℕ) (h : Standing alone T F size room st.job w) (e : Ended T room h) → Tiled e.state.core
    tiles T room h e =
        root_tiled alone (env_of T h.rooted.schema st.job.opening.round) st.job.opening.name h.rooted.def (fields_of T (row T 0)) pointer e.state h.rooted.wins e.is

    counted : (T : Bytes) (room : ℕ) (h : Standing alone T F size room st.job w) (e : Ended T room h)
        → Counts len (length (file_of (winning h.rooted.schema) pointer e.state.core))
    counted T room h e = measured h.rooted.schema e.state [] pointer (record { schema = h.rooted.whole; rep = e.rep; tiled = tiles T room h e })

    -- 13
    refuses_long : (T : Bytes) (room : ℕ) (h : Standing alone T F size room st.job w) (e : Ended T room h) (zs : List Remark) (n : ℕ)
        → n ≡ length (file_of (winning h.rooted.schema) pointer e.state.core) → ltb size n || ltb 16777216 n ≡ true
        → length (thin (met_in h)) ≤ room → Goes alone T F size room (refusal_of st.job OutputLength) zs w 0
    refuses_long T room h e zs n m f l =
        refused_goes T room h zs OutputLength (built T room h e l ∙ fitted_long (winning h.rooted.schema) size pointer e.state n m f)

    pub judge_huge : 16777216 < len → Judges alone F size st w (refusal_of st.job OutputLength)
    judge_huge f T room h zs lz n t =
        let e : Ended T room h = well T room h in
        let x : ℕ = length (file_of (winning h.rooted.schema) pointer e.state.core) in
        refuses_long T room h e zs x refl (rw (lt-ltb 16777216 x ((counted T room h e).long f)) (or-true (ltb size x))) (omega (arith, few room zs (met_in h) lz n t, n))

    pub judge_long : len ≤ 16777216 → size < len → Judges alone F size st w (refusal_of st.job OutputLength)
    judge_long g f T room h zs lz n t =
        let e : Ended T room h = well T room h in
        refuses_long T room h e zs len ((counted T room h e).exact g) (rw (lt-ltb size len f) refl) (omega (arith, few room zs (met_in h) lz n t, n))

    pub judge_fits : len ≤ 16777216 → len ≤ size → Judges alone F size st w (ended_at st len)
    unfolding packed
    judge_fits g f T room h zs lz n t =
        let e : Ended T room h = well T room h in
        let k : length (thin (met_in h)) ≡ st.count = few room zs (met_in h) lz n t in
        let m : len ≡ length (file_of (winning h.rooted.schema) pointer e.state.core) = (counted T room h e).exact g in
        let b : build alone T F (length w) size room ≡ ok (packed (record { state = e.state; pointer = pointer; defs = winning h.rooted.schema })) =
        built T room h e (omega (arith, k, n)) ∙ fitted_fits (winning h.rooted.schema) size pointer e.state len m f g in
        let r : remarks_in (build alone T F (length w) size room) ≡ thin (met_in h) = ap remarks_in b ∙ ap thin (sym (met_is T room h e)) in (
          (
            λ q. absurd (true≢false q),
            λ _. record {
              closing = record {
                counts = sym k ∙ ap length (sym r);
                answer = subst (λ (r : Rust.Result ℕ Refusal). Known alone T F size room st.job len w r) (sym good)
                    (record {
                      schema = h.rooted.schema;
                      state = e.state;
                      stack = [];
                      whole = h.rooted.whole;
                      safe = h.safe;
                      tiled = tiles T room h e;
                      rep = e.rep;
                      long = m;
                      fits = f;
                      small = g;
                      builds = b;
                    });
              };
              front = t ∙ sym r;
            },
          ),
          omega (arith, turns_last room (ended_at st len) refl),
        )
