-- A definition that a name stands for has that name.
-- Assumes nothing.
use Rattle.std.specs.Prelude.{Option, Some, None}
use Rattle.std.specs.Option.{option_or}
use Prim.Native.Nat.{ℕ}
use native.Mathlib.Omega.{arith}
use mathlib.Core.Path.{◌≡◌, refl, sym, ◌∙◌, ap}
use mathlib.Core.Bool.{Bool, true, false}
use mathlib.Core.List.{List, [], ◌∷◌}
use lib.Dec.{eqb}
use borrow.Author.Tests.{eqb-true}
use Rattle.numbers.specs.Result.{given}
use Rattle.schema.specs.Defs.{Schema, Lookup, StructDef, EnumDef, struct_name, enum_name, last_named, winning}

pub record Named (L : Lookup) : Type 0 where
  pub structs : (n : ℕ) (d : StructDef) → L.struct n ≡ Some d → d.name ≡ n
  pub enums : (n : ℕ) (d : EnumDef) → L.enum n ≡ Some d → d.name ≡ n

last_named_law : {A : Type 0} (name_of : A → ℕ) (n : ℕ) (ds : List A) (d : A) → last_named name_of n ds ≡ Some d → name_of d ≡ n
unfolding last_named
last_named_law name_of n [] d e = let z : ◌≡◌ {A = ℕ} 0 1 = cc in absurd (omega arith)
last_named_law {A = A} name_of n (x ∷ ds) d e = go (last_named name_of n ds) (last_named_law name_of n ds) (eqb (name_of x) n) refl e
  where
    go : (o : Option A) → ((y : A) → o ≡ Some y → name_of y ≡ n) → (b : Bool) → eqb (name_of x) n ≡ b → option_or o (given b x) ≡ Some d → name_of d ≡ n
    go (Some y) h b q f = h d f
    go None h true q f = let r : x ≡ d = cc in ap name_of (sym r) ∙ eqb-true (name_of x) n q
    go None h false q f = let z : ◌≡◌ {A = ℕ} 0 1 = cc in absurd (omega arith)

pub named_winning : (S : Schema) → Named (winning S)
unfolding winning
named_winning S = record { structs = λ n d e. last_named_law struct_name n S.structs d e; enums = λ n d e. last_named_law enum_name n S.enums d e }
