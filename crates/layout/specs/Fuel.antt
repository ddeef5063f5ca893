-- "the sheet's 64 levels bound the rest": the end of `write`'s recursion is never reached, so refusal 8 is always depth 33.
use Rattle.std.specs.Prelude.{ℕ, zero, suc, ◌≡◌, true}
use Rattle.value.specs.Rows.{row, fields_of}
use Rattle.sheet.specs.Layout.{laid_out}
use Rattle.schema.specs.Defs.{StructDef}
use Rattle.layout.specs.State.{Env, State}
use Rattle.layout.specs.Runs.{Writer}
use Rattle.layout.specs.Write.{body, write}

-- `write`, but for its end: where the fuel is used up, `last` writes with the depths that are left
unfoldable pub write_until : Env → (ℕ → Writer) → ℕ → ℕ → Writer
write_until E last zero left d fs = last left d fs
write_until E last (suc fuel) left d fs = body E (write_until E last fuel) left d fs

-- the root of a sheet that keeps its layout, a structure of any definition, is written alike whatever stands at that end
abbrev pub FuelEnough : Type 0
FuelEnough =
    (E : Env) → laid_out E.sheet ≡ true → (last : ℕ → Writer) (d : StructDef) (s : State)
    → write_until E last 96 32 d (fields_of E.sheet (row E.sheet 0)) s ≡ write E 96 32 d (fields_of E.sheet (row E.sheet 0)) s
