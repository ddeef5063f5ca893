-- Where a structure's values come from, and what is chosen before it is written.
use Rattle.std.specs.Prelude.{ℕ, ◌≤◌, ◌<◌, ◌≡◌, cond, [], ◌∷◌, eqb, Option, Some, None}
use Rattle.std.specs.Option.{option_or}
use Rattle.numbers.specs.Words.{Bytes}
use Rattle.numbers.specs.Result.{ok, nth}
use Rattle.value.specs.Rows.{Row, row, Fields, fields_of, Array, Map}
use Rattle.schema.specs.Defs
use Rattle.schema.specs.Defs.{Schema, StructDef, winning}
use Rattle.schema.specs.Psch.{schema_of}
use Rattle.layout.specs.Runs.{own_type}
use Rattle.layout.specs.Write.{ARRAYINFO}
use Rattle.area.specs.declared.Round.{Round}
use Rattle.area.specs.Area.{env_of}
use Rattle.cells.specs.declared.defs.Def.{Def}
use Rattle.members.specs.Names.{looked_is, looked_up}
use Rattle.choices.specs.declared.source.Source.{Source}
use Rattle.choices.specs.declared.source.Source.TheVariants as S

-- the members that a structure is written with
abbrev pub fields_is : Bytes → Source → Fields
fields_is T (S.Row r) = fields_of T (row T r)
fields_is T S.Nothing = []
fields_is T (S.One r a) = (a, r) ∷ []
fields_is T (S.Two r a s b) = (a, r) ∷ (b, s) ∷ []

-- the members from k on, as far as to n, have the name 0x100
abbrev pub AllUnnamed : StructDef → ℕ → ℕ → Type 0
AllUnnamed d k n = (i : ℕ) → k ≤ i → i < n → (m : Defs.Member) → nth d.members i ≡ Some m → m.name ≡ ARRAYINFO

-- r is the first of the `count` members from k on whose name is not 0x100
pub record FirstNamed (d : StructDef) (count k r : ℕ) : Type 0 where
  pub from : k ≤ r
  pub few : r < count
  pub passed : AllUnnamed d k r
  pub here : (m : Defs.Member) → nth d.members r ≡ Some m → m.name ≡ ARRAYINFO → ⊥

-- r is that one, if there is one
abbrev pub NextNamed : StructDef → ℕ → ℕ → Option ℕ → Type 0
NextNamed d count k (Some r) = FirstNamed d count k r
NextNamed d count k None = AllUnnamed d k count

-- the structure that building finds under the row's own type, or else under the reference
abbrev pub own_up : Bytes → Row → ℕ → Option Def
own_up F v reference = option_or (looked_up F v.a) (looked_up F reference)

-- "by pointer the row's own type counts where the schema has a structure of that name, else the reference"
pub record Owned (F : Bytes) (v : Row) (reference : ℕ) (r : Option Def) : Type 0 where
  pub winner : (S : Schema) (T : Bytes) (R : Round) → schema_of F ≡ ok S → (winning S).struct (own_type (env_of T S R) v reference) ≡ looked_is F r
  pub missing : (S : Schema) (T : Bytes) (R : Round) → schema_of F ≡ ok S → r ≡ None → own_type (env_of T S R) v reference ≡ reference
  pub name : (S : Schema) (T : Bytes) (R : Round) (d : Def) → schema_of F ≡ ok S → r ≡ Some d → own_type (env_of T S R) v reference ≡ d.name

-- how many elements a row of the kind has; what is of another kind has none
abbrev pub count_of : Row → ℕ → ℕ
count_of v kind = cond (eqb v.kind kind) v.b 0

-- how many items an array has
abbrev pub item_count : Row → ℕ
item_count v = count_of v Array

-- how many pairs a map has
abbrev pub pair_count : Row → ℕ
pair_count v = count_of v Map
