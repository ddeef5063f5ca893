-- A round: what it is run with, and what stands in the work area after it.
use Rattle.std.specs.Prelude.{◌≡◌, ℕ, ◌+◌, ◌*◌, ◌≤◌, List, [], length, Some, Bool}
use Rattle.numbers.specs.Words.{Bytes}
use Rattle.numbers.specs.Result.{Result, ok, and_then}
use Rattle.value.specs.Rows.{row, fields_of}
use Rattle.schema.specs.Defs.{Schema, StructDef, Lookup, winning, index_entries}
use Rattle.schema.specs.Psch.{schema_of}
use Rattle.schema.specs.Index.{last_place}
use Rattle.layout.specs.State.{Remark, State, Out, empty_state, events_of}
use Rattle.layout.specs.Write.{root}
use Rattle.layout.specs.Assemble.{file_of}
use Rattle.layout.specs.Build.{Built, laid_from, packed, fitted, build}
use Rattle.layout.specs.Always.{Tiled}
use Rattle.area.specs.declared.Round.{Round}
use Rattle.area.specs.declared.Progress.{Progress}
use Rattle.area.specs.Area.{items_at, env_of, Rep}
use Rattle.area.specs.Posts.{Safe, Ans, answered, Meets}
use Rattle.rounds.specs.declared.Job.{Job}

-- "The cap is the smaller of 4,194,304 and the whole quotient", so there is room for four times as much
abbrev pub Roomy : Round → ℕ → Type 0
Roomy R n = (R.cap ≤ 4194304) × (items_at R + 4 * R.cap ≤ n)

-- the schema file is whole, and the root's definition stands in it
pub record Rooted (F : Bytes) (R : Round) (place name : ℕ) : Type 0 where
  pub schema : Schema
  pub def : StructDef
  pub whole : schema_of F ≡ ok schema
  pub entries : index_entries schema ≡ R.entries
  pub wins : (winning schema).struct name ≡ Some def
  pub found : last_place F 0 name ≡ Some place

-- the layout
abbrev pub run_of : Bool → Bytes → Schema → StructDef → Round → Out ℕ
run_of alone T S d R = root (env_of T S R) alone d (fields_of T (row T 0)) empty_state

-- a run of the layout, and what it leaves: the root's pointer, or a refusal
pub record Runs (alone : Bool) (T F : Bytes) (R : Round) (n name : ℕ) (r : Ans ℕ) (w : Bytes) : Type 0 where
  pub says : (S : Schema) (d : StructDef) → schema_of F ≡ ok S → index_entries S ≡ R.entries → (winning S).struct name ≡ Some d
      → Meets S R n (λ _. []) (λ a x. a ≡ x) (run_of alone T S d R) r w

-- building, after the layout
abbrev pub made : Lookup → ℕ → ℕ → Out ℕ → Result Built
made L size room o = and_then (laid_from L room o) λ l. fitted size (packed l)

-- the round j has run, and stands in the work area
pub record Standing (alone : Bool) (T F : Bytes) (size room : ℕ) (j : Job) (w : Bytes) : Type 0 where
  pub rooted : Rooted F j.opening.round j.opening.place j.opening.name
  pub safe : Safe j.opening.round (length w) j.progress
  pub builds : build alone T F (length w) size room ≡ made (winning rooted.schema) size room (run_of alone T rooted.schema rooted.def j.opening.round)
  pub meets : Meets rooted.schema j.opening.round (length w) (λ _. []) (λ a x. a ≡ x) (run_of alone T rooted.schema rooted.def j.opening.round) (answered j.outcome j.progress) w
  pub skips : j.opening.round.skip ≤ length (events_of (run_of alone T rooted.schema rooted.def j.opening.round))

-- all remarks that the layout meets
abbrev pub met_in : {alone : Bool} {T F : Bytes} {size room : ℕ} {j : Job} {w : Bytes} → Standing alone T F size room j w → List Remark
met_in {alone} {T} {F} {size} {room} {j} {w} h = events_of (run_of alone T h.rooted.schema h.rooted.def j.opening.round)

-- the pack is built, but for the file of `len` bytes; the root has the pointer
pub record Laid (alone : Bool) (T F : Bytes) (size room : ℕ) (j : Job) (pointer len : ℕ) (w : Bytes) : Type 0 where
  pub schema : Schema
  pub state : State
  pub stack : Bytes
  pub whole : schema_of F ≡ ok schema
  pub safe : Safe j.opening.round (length w) j.progress
  pub tiled : Tiled state.core
  pub rep : Rep schema j.opening.round (length w) state stack j.progress w
  pub long : len ≡ length (file_of (winning schema) pointer state.core)
  pub fits : len ≤ size
  pub small : len ≤ 16777216
  pub builds : build alone T F (length w) size room ≡ ok (packed (record { state = state; pointer = pointer; defs = winning schema }))

-- before the first byte: all is empty
abbrev pub beginning_of : Round → Progress
beginning_of R =
    record { blocks = 0; rows = 0; structs = 0; enums = 0; end = items_at R; top = items_at R + R.cap; charge = 0; seen = 0; next = 0 }
