-- The driver's steps: what each says.
use Rattle.std.specs.Prelude.{◌≡◌, ℕ, ◌+◌, ◌-◌, ◌<◌, ◌≤◌, List, length, get_or, set, Result, Ok, Err, Bool}
use Rattle.numbers.specs.Words.{Bytes, zeros}
use Rattle.numbers.specs.Result.{refused}
use Rattle.numbers.specs.Refusal.{number_of}
use Rattle.numbers.specs.declared.refusal.Refusal.{Refusal}
use Rattle.layout.specs.State.{Remark}
use Rattle.layout.specs.Build.{build, build_pso, zero_remark}
use Rattle.rounds.specs.declared.Stage.{Stage}
use Rattle.rounds.specs.Run.{met_in}
use Rattle.rounds.specs.Merge.{Fit, Left, Own, Inv, Closing, bound, turns, Goes}
use Rattle.turns.specs.declared.Built.{Built}
use Rattle.turns.specs.declared.Turn.{Turn}
use Rattle.turns.specs.Answers.{answer_of}

-- another row is looked for
abbrev pub with_row : Stage → ℕ → Stage
with_row st i = record { at = st.at; last = st.last; length = st.length; base = st.base; count = st.count; row = i; job = st.job }

-- other records are filled
abbrev pub with_count : Stage → ℕ → Stage
with_count st n = record { at = st.at; last = st.last; length = st.length; base = st.base; count = n; row = st.row; job = st.job }

-- a row is done with
abbrev pub Passes : Bool → Bytes → Bytes → ℕ → ℕ → Stage → Bytes → Stage → Bytes → Type 0
Passes alone T F size room st w r w' =
    (h : Fit alone T F w size room st) (zs : List Remark) → length zs ≡ room → Left (met_in h.stands) w st (st.row + 1) zs → Own w st (st.row + 1) zs
    → Goes alone T F size room r zs w' (bound room (st.job.progress.rows - (st.row + 1)) (st.job.progress.seen - st.job.progress.next) 0)

-- a turn: record `at` is `old`
abbrev pub Ready : Bool → Bytes → Bytes → ℕ → ℕ → Stage → Bytes → Type 0
Ready alone T F size room st w = (st.at < room) × Fit alone T F w size room st × (st.base ≤ st.at → st.at ≡ st.count)

abbrev pub Steps : Bool → Bytes → Bytes → ℕ → ℕ → Stage → Remark → Bytes → Turn → Bytes → Type 0
Steps alone T F size room st old w t w' =
    (zs : List Remark) → length zs ≡ room → old ≡ get_or zs st.at zero_remark → Inv alone T F size room st zs w
    → Inv alone T F size room t.stage (set zs st.at t.new) w' × (turns room t.stage < turns room st)

-- a refusal before the first round, which leaves a clear work area
abbrev pub Unbegun : Bool → Bytes → Bytes → ℕ → ℕ → Refusal → Bytes → Type 0
Unbegun alone T F size room e w = (build alone T F (length w) size room ≡ refused (number_of e)) × (w ≡ zeros (length w))

-- the first round; or a refusal before it
abbrev pub Begins : Bool → Bytes → Bytes → ℕ → ℕ → Result Stage Refusal → Bytes → Type 0
Begins alone T F size room (Ok st) w = (zs : List Remark) → length zs ≡ room → Inv alone T F size room st zs w
Begins alone T F size room (Err e) w = Unbegun alone T F size room e w

-- all rounds are over; or a refusal before the first
abbrev pub Reached : Bool → Bytes → Bytes → ℕ → ℕ → Result Stage Refusal → Bytes → Type 0
Reached alone T F size room (Ok st) w = Closing alone T F size room st.job st.length st.count w
Reached alone T F size room (Err e) w = Unbegun alone T F size room e w

-- the end: the answer, the output, the work area
abbrev pub Ends : Bool → Bytes → Bytes → ℕ → ℕ → Bytes → Result Built Refusal → Bytes → Bytes → Type 0
Ends alone T F room n out r out' w =
    (answer_of r ≡ (build_pso alone T F n out room).answer) × (out' ≡ (build_pso alone T F n out room).output) × (w ≡ zeros n)
