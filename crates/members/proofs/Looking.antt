-- Look-up of structures. Assumes nothing.
use Rattle.std.specs.Prelude.{Option, Some, None}
use Prim.Native.Nat.{ℕ}
use mathlib.Core.Path.{◌≡◌, ap}
use Rattle.numbers.specs.Words.{Bytes}
use Rattle.numbers.specs.Result.{ok}
use Rattle.schema.specs.Defs.{Schema, winning}
use Rattle.schema.specs.Psch.{schema_of, struct_here}
use Rattle.schema.specs.Index.{last_place}
use Rattle.definitions.specs.Answers.{struct_found}
use Rattle.cells.specs.declared.defs.Def.{Def}
use Rattle.cells.specs.Names.{def_of}
use Rattle.members.specs.Names.{defined_at, looked_at, looked_up, looked_is}

abbrev pub Looks : Bytes → ℕ → Option Def → Type 0
Looks F name d = record { value : d ≡ looked_up F name; name_value : (S : Schema) → schema_of F ≡ ok S → (winning S).struct name ≡ looked_is F d }

module _ (F : Bytes) (name : ℕ) where
  pub looked_missing : (r : Option Def) → r ≡ None → None ≡ last_place F 0 name → ((S : Schema) → schema_of F ≡ ok S → (winning S).struct name ≡ struct_found F name None) → Looks F name r
  unfolding looked_up
  looked_missing r e q g = rw e (record { value = ap (looked_at F name) q; name_value = g })

  pub looked_at_law : (place : ℕ) (d : Def) → Some place ≡ last_place F 0 name → ((S : Schema) → schema_of F ≡ ok S → (winning S).struct name ≡ struct_found F name (Some place))
      → d ≡ defined_at F name place → Looks F name (Some d)
  unfolding looked_up def_of struct_here
  looked_at_law place d q g k = rw k (record { value = ap (looked_at F name) q; name_value = g })
