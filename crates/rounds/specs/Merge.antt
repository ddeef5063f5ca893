-- The merge of the rounds' rows into the lent list. Its invariant: what is left leads to the same end.
use Rattle.std.specs.Prelude as Rust
use Rattle.std.specs.Prelude.{◌≡◌, ℕ, ◌+◌, ◌*◌, ◌-◌, ◌<◌, ◌≤◌, true, false, cond, ◌||◌, List, [], ◌++◌, ltb, eqb, length, get_or, take, drop, Ok, Err, Bool}
use Rattle.numbers.specs.Words.{Bytes}
use Rattle.numbers.specs.Result.{Result, ok, refused, and_then, needed}
use Rattle.numbers.specs.Refusal.{number_of}
use Rattle.numbers.specs.declared.refusal.Refusal.{Refusal}
use Rattle.numbers.specs.declared.refusal.Refusal.TheVariants.{OutputLength, RemarkCount}
use Rattle.value.specs.Rows.{row}
use Rattle.schema.specs.Defs.{Schema, winning, index_entries}
use Rattle.schema.specs.Psch.{schema_of}
use Rattle.schema.specs.Index.{last_place}
use Rattle.layout.specs.State.{Remark, same_remark, thinned, thin, events_of}
use Rattle.layout.specs.Build as Build
use Rattle.layout.specs.Build.{build, zero_remark, sheet_ok, work_need, cap_of}
use Rattle.area.specs.declared.Round.{Round}
use Rattle.area.specs.declared.Progress.{Progress}
use Rattle.area.specs.Rows.{row_in, rows_in}
use Rattle.area.specs.Posts.{Safe}
use Rattle.assemble.specs.Packed.{InUse}
use Rattle.rounds.specs.declared.Job.{Job}
use Rattle.rounds.specs.declared.Stage.{Stage}
use Rattle.rounds.specs.declared.opening.Opening.{Opening}
use Rattle.rounds.specs.Run.{Roomy, Rooted, run_of, made, Standing, met_in, Laid}

-- the stages, by value

-- a refusal, after the round j: "zeroes all remarks"
abbrev pub refusal_of : Job → Refusal → Stage
refusal_of j e =
    record {
      at = 0;
      last = true;
      length = 0;
      base = 0;
      count = 0;
      row = 0;
      job = record { opening = j.opening; outcome = Err e; progress = j.progress };
    }

-- the list holds all remarks, and the file has n bytes
abbrev pub ended_at : Stage → ℕ → Stage
ended_at st n = record { at = st.count; last = true; length = n; base = st.base; count = st.count; row = st.row; job = st.job }

-- the stage at which all rows are merged, by what the layout gave: 13, "longer than the output or than 16,777,216", or the end; or its own refusal
abbrev pub judged_by : ℕ → Stage → ℕ → Rust.Result ℕ Refusal → Stage
judged_by size st n (Ok x) = cond (ltb size n || ltb 16777216 n) (refusal_of st.job OutputLength) (ended_at st n)
judged_by size st n (Err e) = refusal_of st.job e

-- all rows are merged, and the file has n bytes
unfoldable pub judged_at : ℕ → Stage → ℕ → Stage
judged_at size st n = judged_by size st n st.job.outcome

-- another record is looked at
abbrev pub moved_to : Stage → ℕ → Stage
moved_to st k = record { at = k; last = st.last; length = st.length; base = st.base; count = st.count; row = st.row; job = st.job }

-- the row is looked for from record k on: among those of earlier rounds, then it is put behind all; 14: "one more distinct remark than records"
unfoldable pub sought_at : ℕ → Stage → ℕ → Stage
sought_at room st k = cond (ltb k st.base) (moved_to st k) (cond (eqb st.count room) (refusal_of st.job RemarkCount) (moved_to st st.count))

-- a round's rows are to be merged behind `count` records
abbrev pub taken_at : Job → ℕ → Stage
taken_at j count = record { at = 0; last = false; length = 0; base = count; count = count; row = 0; job = j }

-- the invariant

-- the remarks that building gives
abbrev pub remarks_in : Result Build.Built → List Remark
remarks_in (ok b) = b.remarks
remarks_in (refused n) = []

-- a row of the round
abbrev pub row_of : Bytes → ℕ → Remark
row_of w i = row_in w (32768 + 16 * i)

-- a row is being merged
pub record Fit (alone : Bool) (T F w : Bytes) (size room : ℕ) (st : Stage) : Type 0 where
  pub stands : Standing alone T F size room st.job w
  pub going : st.last ≡ false
  pub some : st.row < st.job.progress.rows
  pub count : st.count ≤ room
  pub base : st.base ≤ st.count

-- rows from i on, and the remarks after them, are still to be merged
abbrev pub Left : List Remark → Bytes → Stage → ℕ → List Remark → Type 0
Left es w st i zs = thinned (take st.count zs) (rows_in w (32768 + 16 * i) (st.job.progress.rows - i) ++ drop st.job.progress.next es) ≡ thin es

-- none of this round's records is a row from i on
abbrev pub Own : Bytes → Stage → ℕ → List Remark → Type 0
Own w st i zs = (k j : ℕ) → st.base ≤ k → k < st.count → i ≤ j → j < st.job.progress.rows → same_remark (get_or zs k zero_remark) (row_of w j) ≡ false

pub record Merging (alone : Bool) (T F : Bytes) (size room : ℕ) (st : Stage) (zs : List Remark) (w : Bytes) : Type 0 where
  pub fit : Fit alone T F w size room st
  pub place : st.at < room
  pub settled : st.base ≤ st.at → st.at ≡ st.count
  pub left : Left (met_in fit.stands) w st st.row zs
  pub own : Own w st st.row zs
  pub apart : (k : ℕ) → k < st.at → same_remark (get_or zs k zero_remark) (row_of w st.row) ≡ false

-- what stands in the work area at a refusal: what the round has in use
pub record Remains (R : Round) (p : Progress) (w : Bytes) : Type 0 where
  pub safe : Safe R (length w) p
  pub some : (S : Schema) × InUse S R (length w) p w

-- the file is known, or the refusal
abbrev pub Known : Bool → Bytes → Bytes → ℕ → ℕ → Job → ℕ → Bytes → Rust.Result ℕ Refusal → Type 0
Known alone T F size room j len w (Ok x) = Laid alone T F size room j x len w
Known alone T F size room j len w (Err e) = (build alone T F (length w) size room ≡ refused (number_of e)) × Remains j.opening.round j.progress w

-- the answer is known
pub record Closing (alone : Bool) (T F : Bytes) (size room : ℕ) (j : Job) (len count : ℕ) (w : Bytes) : Type 0 where
  pub counts : count ≡ length (remarks_in (build alone T F (length w) size room))
  pub answer : Known alone T F size room j len w j.outcome

pub record Closed (alone : Bool) (T F : Bytes) (size room : ℕ) (st : Stage) (zs : List Remark) (w : Bytes) : Type 0 where
  pub closing : Closing alone T F size room st.job st.length st.count w
  pub front : take st.at zs ≡ remarks_in (build alone T F (length w) size room)

-- a row is being merged, or all are
abbrev pub Inv : Bool → Bytes → Bytes → ℕ → ℕ → Stage → List Remark → Bytes → Type 0
Inv alone T F size room st zs w = (st.last ≡ false → Merging alone T F size room st zs w) × (st.last ≡ true → Closed alone T F size room st zs w)

-- turns that are left at most, with n rows and m remarks left
abbrev pub bound : ℕ → ℕ → ℕ → ℕ → ℕ
bound room n m at = (n + m) * (room + 1) + (room - at)

unfoldable pub turns : ℕ → Stage → ℕ
turns room st = cond st.last 0 (bound room (st.job.progress.rows - st.row) (st.job.progress.seen - st.job.progress.next) st.at)

-- the invariant holds, with at most n turns left
abbrev pub Goes : Bool → Bytes → Bytes → ℕ → ℕ → Stage → List Remark → Bytes → ℕ → Type 0
Goes alone T F size room st zs w n = Inv alone T F size room st zs w × (turns room st ≤ n)

-- what the functions say

-- all rows are merged
abbrev pub Judges : Bool → Bytes → ℕ → Stage → Bytes → Stage → Type 0
Judges alone F size st w r =
    (T : Bytes) (room : ℕ) (h : Standing alone T F size room st.job w) (zs : List Remark) → length zs ≡ room → st.count ≤ room → take st.count zs ≡ thin (met_in h)
    → Goes alone T F size room r zs w 0

-- a round runs, and its rows are taken
abbrev pub Takes : Bool → Bytes → Bytes → ℕ → ℕ → Opening → ℕ → Stage → Bytes → Type 0
Takes alone T F size room o count r w =
    (h : Rooted F o.round o.place o.name) → build alone T F (length w) size room ≡ made (winning h.schema) size room (run_of alone T h.schema h.def o.round)
    → o.round.skip ≤ length (events_of (run_of alone T h.schema h.def o.round)) → count ≤ room → (zs : List Remark) → length zs ≡ room
    → thinned (take count zs) (drop o.round.skip (events_of (run_of alone T h.schema h.def o.round))) ≡ thin (events_of (run_of alone T h.schema h.def o.round))
    → Goes alone T F size room r zs w (bound room 0 (length (events_of (run_of alone T h.schema h.def o.round)) - o.round.skip) 0)

-- what is refused before the layout, or what it runs with, in a work area of n bytes
abbrev pub Opens : Bool → Bytes → Bytes → ℕ → Result Opening → Type 0
Opens alone T F n (refused k) = (size room : ℕ) → build alone T F n size room ≡ refused k
Opens alone T F n (ok o) =
    (h : Rooted F o.round o.place o.name)
    × (Roomy o.round n × (o.round.skip ≡ 0) × ((size room : ℕ) → build alone T F n size room ≡ made (winning h.schema) size room (run_of alone T h.schema h.def o.round)))

-- the rooms of a work area of n bytes; 12
abbrev pub roomed_at : ℕ → ℕ → ℕ → ℕ → Result Opening
roomed_at n i place name = cond (ltb n (work_need i)) (refused 12) (ok (record { round = record { entries = i; cap = cap_of n i; skip = 0 }; place = place; name = name }))

-- 7: "the root type has no definition"; then the rooms. i index entries
unfoldable pub rooted_at : Bytes → Bytes → ℕ → ℕ → Result Opening
rooted_at T F n i = and_then (needed (last_place F 0 (row T 0).a) 7) (λ place. roomed_at n i place (row T 0).a)

-- 4, 5, 6; then the root
unfoldable pub schemed_at : Bytes → Bytes → ℕ → Result Opening
schemed_at T F n = and_then (schema_of F) (λ S. rooted_at T F n (index_entries S))

-- 1, 2, 3; then the schema
unfoldable pub opening_of : Bytes → Bytes → ℕ → Result Opening
opening_of T F n = and_then (sheet_ok T) (λ _. schemed_at T F n)
