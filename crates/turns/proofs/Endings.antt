-- The beginning and the end: the first round, the answer, the file, and what the list holds. Assumes nothing.
use Rattle.std.specs.Prelude.{Result, Ok, Err, Bool}
use mathlib.Core.Path.{◌≡◌, refl, sym, ap, subst, ◌∙◌}
use mathlib.Core.List.{List, [], ◌++◌, append-nil}
use Prim.Native.Nat.{ℕ, ◌+◌, ◌≤◌, zero-le}
use native.Mathlib.Nat.{sub-zero}
use native.Mathlib.Omega.{arith}
use lib.ListN.{length, take, drop, replicate, drop_of_length-le}
use Rattle.numbers.specs.Words.{Bytes, words, over, zeros}
use Rattle.numbers.specs.Result as Answers
use Rattle.numbers.specs.Result.{ok, refused}
use Rattle.numbers.specs.Refusal.{number_of}
use Rattle.numbers.specs.declared.refusal.Refusal.{Refusal}
use Rattle.schema.specs.Defs.{Schema, winning}
use Rattle.layout.specs.State.{Remark, State, thinned, thin, events_of}
use Rattle.layout.specs.Assemble.{file_of}
use Rattle.layout.specs.Build as Build
use Rattle.layout.specs.Build.{Answer, success, refusal, After, zero_remark, packed, build, afterwards, build_pso, filled}
use Rattle.area.proofs.Flat.{length_zeros}
use Rattle.turns.specs.declared.Built.{Built}
use Rattle.rounds.specs.declared.Job.{Job}
use Rattle.rounds.specs.declared.Stage.{Stage}
use Rattle.rounds.specs.declared.opening.Opening.{Opening}
use Rattle.turns.specs.Answers.{answer_of, leaves}
use Rattle.assemble.specs.Map.{places_of}
use Rattle.assemble.specs.Packed.{Fitting, table_at, InUse}
use Rattle.assemble.proofs.Wiping.{tabled_in_use}
use Rattle.rounds.specs.Run.{Roomy, Rooted, run_of, Laid}
use Rattle.rounds.specs.Merge.{remarks_in, Known, Closing, Closed, Takes, Opens}
use Rattle.turns.specs.Turns.{Unbegun, Begins, Ends}

-- the whole area cleared
pub cleared : (w : Bytes) → over w 0 (zeros (length w)) ≡ zeros (length w)
unfolding over
cleared w =
    let l : length w ≤ 0 + length (zeros (length w)) = omega (arith, length_zeros (length w)) in
    ap (λ (x : Bytes). zeros (length w) ++ x) (drop_of_length-le w l) ∙ append-nil (zeros (length w))

-- bytes written to the front
over_front : (out b : Bytes) → over out 0 b ≡ b ++ drop (length b) out
unfolding over
over_front out b = let e : 0 + length b ≡ length b = omega arith in ap (λ (k : ℕ). b ++ drop k out) e

module _ (alone : Bool) (T F : Bytes) (size room : ℕ) where
  -- a refusal before the layout
  pub begin_refused : (w w' : Bytes) (e : Refusal) → w' ≡ over w 0 (zeros (length w)) → Opens alone T F (length w) (refused (number_of e)) → Begins alone T F size room (Err e) w'
  begin_refused w w' e q o =
      let z : w' ≡ zeros (length w) = q ∙ cleared w in
      let l : length w' ≡ length w = ap length z ∙ length_zeros (length w) in
      (ap (λ (m : ℕ). build alone T F m size room) l ∙ o size room, z ∙ ap zeros (sym l))

  -- the first round can run in the cleared area
  pub begin_ready : (w w' : Bytes) (o : Opening) → w' ≡ over w 0 (zeros (length w)) → Opens alone T F (length w) (ok o)
      → Roomy o.round (length w') × (w' ≡ zeros (length w')) × Rooted F o.round o.place o.name
  begin_ready w w' o e h =
      let z : w' ≡ zeros (length w) = e ∙ cleared w in
      let l : length w' ≡ length w = ap length z ∙ length_zeros (length w) in
      (subst (Roomy o.round) (sym l) h.1.0, z ∙ ap zeros (sym l), h.0)

  -- the first round
  pub begin_round : (w : Bytes) (n : ℕ) (o : Opening) → length w ≡ n → Opens alone T F n (ok o) → (r : Stage) → Takes alone T F size room o 0 r w → Begins alone T F size room (Ok r) w
  unfolding thin
  begin_round w n o l h r takes zs len =
      (takes h.0 (ap (λ (m : ℕ). build alone T F m size room) l ∙ h.1.2 size room) (omega (arith, h.1.1)) zero-le zs len
      (ap (λ (k : ℕ). thinned [] (drop k (events_of (run_of alone T h.0.schema h.0.def o.round)))) h.1.1)).0

-- the end

-- a refusal before the first round: all stays as it is
pub end_unbegun : (alone : Bool) (T F out w : Bytes) (room : ℕ) (e : Refusal) → Unbegun alone T F (length out) room e w → Ends alone T F room (length w) out (Err e) out w
unfolding build_pso afterwards
end_unbegun alone T F out w room e h =
    (ap (λ x. (afterwards (length w) out room x).answer) (sym h.0), ap (λ x. (afterwards (length w) out room x).output) (sym h.0), h.1)

module _ (alone : Bool) (T F out w : Bytes) (room len count : ℕ) (j : Job) (h : Closing alone T F (length out) room j len count w) where
  known : (r : Result ℕ Refusal) → j.outcome ≡ r → Known alone T F (length out) room j len w r
  known r g = subst (Known alone T F (length out) room j len w) g h.answer

  -- a refusal, after which what is in use of the work area is wiped
  pub end_wiped : (e : Refusal) → j.outcome ≡ Err e → (v w' : Bytes) → w' ≡ v → ((S : Schema) → InUse S j.opening.round (length w) j.progress w → v ≡ zeros (length w))
      → Ends alone T F room (length w) out (Err e) out w'
  unfolding build_pso afterwards
  end_wiped e g v w' is wipes =
      let k = known (Err e) g in
      let u = k.1.some in (
        ap (λ x. (afterwards (length w) out room x).answer) (sym k.0),
        ap (λ x. (afterwards (length w) out room x).output) (sym k.0),
        is ∙ wipes u.0 u.1,
      )

  -- the file fits
  module _ (pointer : ℕ) (g : j.outcome ≡ Ok pointer) where
    laid : Laid alone T F (length out) room j pointer len w
    laid = known (Ok pointer) g

    fitting : Fitting F j.opening.round j.progress w pointer (length out) laid.schema laid.state laid.stack
    fitting =
        record {
          holds = record { schema = laid.whole; rep = laid.rep; tiled = laid.tiled };
          fits = subst (λ (n : ℕ). n ≤ length out) laid.long laid.fits;
          small = subst (λ (n : ℕ). n ≤ 16777216) laid.long laid.small;
        }

    -- the file
    pub end_file : (out' w₁ v w' : Bytes) → w' ≡ v
        → ((S : Schema) (s : State) (σ : Bytes) → Fitting F j.opening.round j.progress w pointer (length out) S s σ
        → (out' ≡ over out 0 (file_of (winning S) pointer s.core)) × (w₁ ≡ over w table_at (words (places_of 16 s.core.blocks))))
        → length w₁ ≡ length w → ((S : Schema) → InUse S j.opening.round (length w₁) j.progress w₁ → v ≡ zeros (length w₁))
        → Ends alone T F room (length w) out (Ok (record { length = len; remarks = count })) out' w'
    unfolding build_pso afterwards packed
    end_file out' w₁ v w' is writes l₁ wipes =
        let b = laid.builds in
        let c : count ≡ length (thin laid.state.events) = h.counts ∙ ap (λ x. length (remarks_in x)) b in
        let p = writes laid.schema laid.state laid.stack fitting in (
          ap (λ (n : ℕ). success n count) laid.long ∙ ap (λ (k : ℕ). success (length (file_of (winning laid.schema) pointer laid.state.core)) k) c
              ∙ ap (λ x. (afterwards (length w) out room x).answer) (sym b),
          p.0 ∙ over_front out (file_of (winning laid.schema) pointer laid.state.core) ∙ ap (λ x. (afterwards (length w) out room x).output) (sym b),
          is ∙ wipes laid.schema (subst (λ (n : ℕ). InUse laid.schema j.opening.round n j.progress w₁) (sym l₁) (tabled_in_use laid.rep w₁ p.1)) ∙ ap zeros l₁,
        )

-- the list at the end
remarks_are : (n room : ℕ) (out : Bytes) (r : Answers.Result Build.Built) → filled room (remarks_in r) ≡ (afterwards n out room r).remarks
unfolding filled afterwards
remarks_are n room out (refused k) = ap (λ (m : ℕ). replicate m zero_remark) (sub-zero room)
remarks_are n room out (ok b) = refl

work_is : (n room : ℕ) (out : Bytes) (r : Answers.Result Build.Built) → zeros n ≡ (afterwards n out room r).work
unfolding afterwards
work_is n room out (refused k) = refl
work_is n room out (ok b) = refl

together : (a : Answer) (o : Bytes) (zs : List Remark) (w : Bytes) (x : After) → a ≡ x.answer → o ≡ x.output → zs ≡ x.remarks → w ≡ x.work
    → record { answer = a; output = o; remarks = zs; work = w } ≡ x
together a o zs w x p q r s = rw (p, q, r, s) refl

-- what the call leaves, with zeros behind the remarks
leaves_law : (alone : Bool) (T F : Bytes) (size room n : ℕ) (w out : Bytes) (zs : List Remark) → length w ≡ n → length out ≡ size → zs ≡ filled room (remarks_in (build alone T F (length w) size room))
    → (r : Result Built Refusal) (out' w' : Bytes) → Ends alone T F room (length w) out r out' w' → leaves r out' zs w' ≡ build_pso alone T F n out room
unfolding build_pso
leaves_law alone T F size room n w out zs ln lo q r out' w' e =
    together (answer_of r) out' zs w' (build_pso alone T F (length w) out room) e.0 e.1
    (q ∙ ap (λ (k : ℕ). filled room (remarks_in (build alone T F (length w) k room))) (sym lo) ∙ remarks_are (length w) room out (build alone T F (length w) (length out) room))
    (e.2 ∙ work_is (length w) room out (build alone T F (length w) (length out) room))
    ∙ ap (λ (k : ℕ). build_pso alone T F k out room) ln

-- a refusal before the first round, with zeros in all records
pub leaves_none : (alone : Bool) (T F : Bytes) (size room n : ℕ) (e : Refusal) (w out : Bytes) (zs : List Remark) → length w ≡ n → length out ≡ size → Unbegun alone T F size room e w
    → zs ≡ filled room [] → (r : Result Built Refusal) (out' w' : Bytes) → Ends alone T F room (length w) out r out' w' → leaves r out' zs w' ≡ build_pso alone T F n out room
leaves_none alone T F size room n e w out zs ln lo h q = leaves_law alone T F size room n w out zs ln lo (q ∙ ap (λ x. filled room (remarks_in x)) (sym h.0))

-- all rounds are over, with zeros behind the remarks
pub leaves_all : (alone : Bool) (T F : Bytes) (size room : ℕ) (st : Stage) (zs : List Remark) (w : Bytes) → length zs ≡ room → Closed alone T F size room st zs w
    → (zs' : List Remark) → zs' ≡ filled (length zs) (take st.at zs) → (n : ℕ) → length w ≡ n → (out : Bytes) → length out ≡ size
    → (r : Result Built Refusal) (out' w' : Bytes) → Ends alone T F room (length w) out r out' w' → leaves r out' zs' w' ≡ build_pso alone T F n out room
leaves_all alone T F size room st zs w len h zs' rest n ln out lo =
    leaves_law alone T F size room n w out zs' ln lo (rest ∙ ap (λ (m : ℕ). filled m (take st.at zs)) len ∙ ap (filled room) h.front)
