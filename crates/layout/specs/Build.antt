-- Building: the order of refusals, and what stands in the lent buffers after the call.
use Rattle.std.specs.Prelude.{ℕ, ◌+◌, ◌-◌, ◌*◌, ◌/◌, min, Bool, cond, ◌||◌, List, ◌++◌, ltb, length, drop, replicate}
use Rattle.numbers.specs.Words.{Bytes, zeros}
use Rattle.numbers.specs.Result.{Result, ok, refused, and_then, needed}
use Rattle.value.specs.Rows.{row, fields_of}
use Rattle.numbers.specs.Refusal.{answer_of}
use Rattle.sheet.specs.Answer.{checked}
use Rattle.schema.specs.Defs.{Schema, Lookup, StructDef, winning, index_entries}
use Rattle.schema.specs.Psch.{schema_of}
use Rattle.layout.specs.State.{Remark, State, empty_state, Env, Out, done, stop, thin}
use Rattle.layout.specs.Write.{root}
use Rattle.layout.specs.Assemble.{file_of}

-- what the layout gives: the state after it, the root's pointer, the definitions that it was made with
pub record Laid : Type 0 where
  pub state : State
  pub pointer : ℕ
  pub defs : Lookup

-- what building gives: the file and the distinct remarks
pub record Built : Type 0 where
  pub file : Bytes
  pub remarks : List Remark

-- refusals "1, 2, 3"
unfoldable pub sheet_ok : Bytes → Result (Unit {0})
sheet_ok T = answer_of (checked T)

-- 12: "work is shorter than 65,536 + 8 × i"
abbrev pub work_need : ℕ → ℕ
work_need i = 65536 + 8 * i

-- "The cap is the smaller of 4,194,304 and the whole quotient (work − 65,536 − 8 × i) / 4."
unfoldable pub cap_of : ℕ → ℕ → ℕ
cap_of work i = min 4194304 ((work - work_need i) / 4)

-- what the steps are given where the schema file holds the definitions K
abbrev pub env_of : Bytes → Schema → ℕ → Env
env_of T K work = record { sheet = T; defs = winning K; charge_cap = cap_of work (index_entries K) }

-- 14: "one more distinct remark than records". It is met before the run's end, so before its answer and before any other refusal
unfoldable pub within : {A : Type 0} → ℕ → List Remark → Result A → Result A
within records es r = cond (ltb records (length (thin es))) (refused 14) r

-- what writing gave
unfoldable pub laid_from : Lookup → ℕ → Out ℕ → Result Laid
laid_from L records (stop n es) = within records es (refused n)
laid_from L records (done p s) = within records s.events (ok (record { state = s; pointer = p; defs = L }))

-- "8, 9, 10, 11, 14 as first met in writing order"
unfoldable pub layout_with : Bool → Env → ℕ → StructDef → Result Laid
layout_with alone E records d = laid_from E.defs records (root E alone d (fields_of E.sheet (row E.sheet 0)) empty_state)

-- 7: "the root type has no definition"; then 12. i index entries
unfoldable pub layout_of : Bool → Bytes → Lookup → ℕ → ℕ → ℕ → Result Laid
layout_of alone T L i work records =
    and_then (needed (L.struct (row T 0).a) 7) λ d.
    cond (ltb work (work_need i)) (refused 12) (layout_with alone (record { sheet = T; defs = L; charge_cap = cap_of work i }) records d)

-- the layout applied to a sheet and a schema file, with the root in a new last block or not: "it meets document 01's layout with this one rule altered"
unfoldable pub layout : Bool → Bytes → Bytes → ℕ → ℕ → Result Laid
layout alone T F work records =
    and_then (sheet_ok T) λ _. and_then (schema_of F) λ S. layout_of alone T (winning S) (index_entries S) work records

-- the file and the remarks
unfoldable pub packed : Laid → Built
packed l = record { file = file_of l.defs l.pointer l.state.core; remarks = thin l.state.events }

-- 13: "the file is longer than the output or than 16,777,216"
unfoldable pub fitted : ℕ → Built → Result Built
fitted out b = cond (ltb out (length b.file) || ltb 16777216 (length b.file)) (refused 13) (ok b)

-- "Order of building: 1, 2, 3; sections in file order (4, 5, 6); 7; 12; then 8, 9, 10, 11, 14 as first met in writing order, 8 before 9; last 13."
unfoldable pub build : Bool → Bytes → Bytes → ℕ → ℕ → ℕ → Result Built
build alone T F work out records = and_then (layout alone T F work records) λ l. fitted out (packed l)

-- "Success gives the file's length and the remark count"; "A refusal gives its number"
pub data Answer : Type 0 where
  success : ℕ → ℕ → Answer
  refusal : ℕ → Answer

-- the answer, and what stands in the output, the remark list and the work area after the call
pub record After : Type 0 where
  pub answer : Answer
  pub output : Bytes
  pub remarks : List Remark
  pub work : Bytes

-- "the rest zero"
abbrev pub zero_remark : Remark
zero_remark = record { kind = 0; structure = 0; member = 0; detail = 0 }

-- xs, and zeros behind them, n in all
unfoldable pub filled : ℕ → List Remark → List Remark
filled n xs = xs ++ replicate (n - length xs) zero_remark

-- "the file stands at the front of the output with the rest untouched, the remarks at the front of their list with the rest zero";
-- a refusal "leaves the output untouched and zeroes all remarks. The work area is zero after every call."
unfoldable pub afterwards : ℕ → Bytes → ℕ → Result Built → After
afterwards work out records (refused n) =
    record { answer = refusal n; output = out; remarks = replicate records zero_remark; work = zeros work }
afterwards work out records (ok b) =
    record {
      answer = success (length b.file) (length b.remarks);
      output = b.file ++ drop (length b.file) out;
      remarks = filled records b.remarks;
      work = zeros work;
    }

-- the call: the way, a sheet, a schema file, a work area of `work` bytes, the output, `records` remark records
unfoldable pub build_pso : Bool → Bytes → Bytes → ℕ → Bytes → ℕ → After
build_pso alone T F work out records = afterwards work out records (build alone T F work (length out) records)

-- for evaluation
unfoldable pub evaluated : ℕ → ℕ
unfolding checked sheet_ok cap_of within laid_from layout_with layout_of layout packed fitted build filled afterwards build_pso
evaluated n = n
