-- The two ways of packing compared: "such a pack equals the Rust's only where the Rust too opened a block for the root"; elsewhere it has one block more.
use Rattle.std.specs.Prelude.{ℕ, ◌+◌, ◌≡◌, ◌<◌, ◌≤◌, Bool, true, false, ◌⊎◌, ltb, length, Some}
use Rattle.numbers.specs.Words.{Bytes}
use Rattle.numbers.specs.Result.{Result, ok, refused}
use Rattle.value.specs.Rows.{row, fields_of}
use Rattle.schema.specs.Defs.{Schema, StructDef, winning, index_entries}
use Rattle.schema.specs.Psch.{schema_of}
use Rattle.layout.specs.State.{State, Spot, empty_state, done, spot}
use Rattle.layout.specs.Write.{write}
use Rattle.layout.specs.Build.{Built, sheet_ok, work_need, env_of, build}

-- the root is written and not yet laid: its definition, its bytes, what stands then. Up to here both ways do the same
pub record RootWritten (T S : Bytes) (work : ℕ) : Type 0 where
  pub schema : Schema
  pub def : StructDef
  pub bytes : Bytes
  pub state : State
  pub sheet_whole : sheet_ok T ≡ ok tt
  pub whole : schema_of S ≡ ok schema
  pub defined : (winning schema).struct (row T 0).a ≡ Some def
  pub room : ltb work (work_need (index_entries schema)) ≡ false
  pub written : write (env_of T schema work) 96 32 def (fields_of T (row T 0)) empty_state ≡ done bytes state

module _ {T S : Bytes} {work : ℕ} (h : RootWritten T S work) where
  -- how many blocks stand
  abbrev pub blocks : ℕ
  blocks = length h.state.core.blocks

  -- where the root goes in the ordinary way
  abbrev pub place : Spot
  place = spot false h.def.name (length h.bytes) h.state.core.blocks

  -- "opened a block for the root": it goes behind all that stand. Start 0 does not say so, since a block may have length 0
  abbrev pub Opened : Type 0
  Opened = place.before ≡ blocks

  -- or it goes to one of them
  abbrev pub Shares : Type 0
  Shares = place.before < blocks

-- with the root alone, where the ordinary way shares a block and gives the file o: 16 bytes more, which is a row of PMAP, and the same remarks;
-- or 10, since all 4,095 numbers are taken; or 13, since 16 bytes more are too long
abbrev pub OneMore : ℕ → ℕ → Built → Result Built → Type 0
OneMore blocks out o (ok a) = (blocks < 4095) × (length a.file ≡ length o.file + 16) × (a.remarks ≡ o.remarks)
OneMore blocks out o (refused n) = ((n ≡ 10) × (4095 ≤ blocks)) ⊎ ((n ≡ 13) × (blocks < 4095) × ((out < length o.file + 16) ⊎ (16777216 < length o.file + 16)))

-- what the answers have in common where the root shares a block in the ordinary way
pub record OneBlockMore {T S : Bytes} {work : ℕ} (h : RootWritten T S work) (out records : ℕ) : Type 0 where
  pub built : (o : Built) → build false T S work out records ≡ ok o → OneMore (blocks h) out o (build true T S work out records)
  -- a refusal other than 10 and 13 is that of the other way
  pub refused_too : (alone other : Bool) (n : ℕ) → build alone T S work out records ≡ refused n → (n ≡ 10 → ⊥) → (n ≡ 13 → ⊥) → build other T S work out records ≡ refused n
  -- alone, a pack is built that the ordinary way refuses, only where the block that is shared is full: a root without bytes would start at 0x100000
  pub built_alone : (a : Built) (n : ℕ) → build true T S work out records ≡ ok a → build false T S work out records ≡ refused n → (n ≡ 10) × (0xFFFFF < (place h).start)

-- "equals the Rust's only where the Rust too opened a block for the root": there, and where a refusal comes before the root is written, both ways give the same
pub record Compared (T S : Bytes) (work out records : ℕ) : Type 0 where
  -- there is no third case
  pub either : (h : RootWritten T S work) → Opened h ⊎ Shares h
  pub same : ((h : RootWritten T S work) → Opened h) → build true T S work out records ≡ build false T S work out records
  pub one_more : (h : RootWritten T S work) → Shares h → OneBlockMore h out records

-- for all sheets, schema files and lengths
abbrev pub TwoWays : Type 0
TwoWays = (T S : Bytes) (work out records : ℕ) → Compared T S work out records
