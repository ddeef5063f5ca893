-- Look-up: from the list of the definitions of a name to the one that counts. Assumes nothing.
use Rattle.std.specs.Prelude.{Option, Some, None, option_map}
use Rattle.std.specs.Option.{option_or}
use mathlib.Core.Path.{◌≡◌, refl, sym, ap, ◌∙◌}
use mathlib.Core.Bool.{Bool, true, false}
use mathlib.Core.List.{List, [], ◌∷◌, ◌++◌, map}
use Prim.Native.Nat.{ℕ}
use lib.Dec.{eqb}
use Rattle.numbers.specs.Words.{Bytes}
use Rattle.numbers.specs.Result.{ok, given}
use Rattle.schema.specs.Sections.{sections}
use Rattle.schema.specs.Defs.{Schema, struct_name, enum_name, last_named, first_named, winning, leading}
use Rattle.schema.specs.Psch.{struct_here, enum_here, schema_of}
use Rattle.schema.specs.Index.{kept, places_of, first_of, last_of, first_place, last_place}
use Rattle.schema.specs.Steps.{kind_number}
use Rattle.schema.specs.declared.kind.Kind.{Kind}
use Rattle.schema.specs.declared.kind.Kind.TheVariants.{Structure, Enum}
use Rattle.definitions.specs.Answers.{struct_found, enum_found}
use Rattle.definitions.proofs.Named.{named, structs_at, enums_at}

pub or_or : {A : Type 0} (a b c : Option A) → option_or (option_or a b) c ≡ option_or a (option_or b c)
or_or (Some x) b c = refl
or_or None b c = refl

pub or_none_law : {A : Type 0} (a : Option A) → option_or a None ≡ a
or_none_law (Some x) = refl
or_none_law None = refl

or_map : {A B : Type 0} (f : A → B) (a b : Option A) → option_or (option_map f a) (option_map f b) ≡ option_map f (option_or a b)
or_map f (Some x) b = refl
or_map f None b = refl

-- ---- the first and the last
pub last_map : {A B : Type 0} (f : A → B) (l : List A) → last_of (map f l) ≡ option_map f (last_of l)
unfolding last_of
last_map f [] = refl
last_map f (a ∷ l) = ap (λ o. option_or o (Some (f a))) (last_map f l) ∙ or_map f (last_of l) (Some a)

pub first_map : {A B : Type 0} (f : A → B) (l : List A) → first_of (map f l) ≡ option_map f (first_of l)
unfolding first_of
first_map f [] = refl
first_map f (a ∷ l) = refl

pub last_append : {A : Type 0} (k l : List A) → last_of (k ++ l) ≡ option_or (last_of l) (last_of k)
unfolding last_of
last_append [] l = sym (or_none_law (last_of l))
last_append (a ∷ k) l = ap (λ o. option_or o (Some a)) (last_append k l) ∙ or_or (last_of l) (last_of k) (Some a)

pub first_append : {A : Type 0} (k l : List A) → first_of (k ++ l) ≡ option_or (first_of k) (first_of l)
unfolding first_of
first_append [] l = refl
first_append (a ∷ k) l = refl

module _ {A : Type 0} (name_of : A → ℕ) (n : ℕ) where
  last_kept : (b : Bool) (d : A) (l : List A) → option_or (last_of l) (given b d) ≡ last_of (kept b d l)
  unfolding last_of
  last_kept true d l = refl
  last_kept false d l = or_none_law (last_of l)

  last_named_law : (l : List A) → last_named name_of n l ≡ last_of (named name_of n l)
  unfolding last_named last_of
  last_named_law [] = refl
  last_named_law (d ∷ l) = ap (λ o. option_or o (given (eqb (name_of d) n) d)) (last_named_law l) ∙ last_kept (eqb (name_of d) n) d (named name_of n l)

  first_kept : (b : Bool) (d : A) (o : Option A) (l : List A) → o ≡ first_of l → elim b [ true ↦ Some d | false ↦ o ] ≡ first_of (kept b d l)
  unfolding first_of
  first_kept true d o l e = refl
  first_kept false d o l e = e

  first_named_law : (l : List A) → first_named name_of n l ≡ first_of (named name_of n l)
  unfolding first_named first_of
  first_named_law [] = refl
  first_named_law (d ∷ l) = first_kept (eqb (name_of d) n) d (first_named name_of n l) (named name_of n l) (first_named_law l)

-- ---- what a name stands for
module _ (F : Bytes) (name : ℕ) (r : Option ℕ) (S : Schema) (e : schema_of F ≡ ok S) where
  pub winning_struct : r ≡ last_place F 0 name → (winning S).struct name ≡ struct_found F name r
  unfolding winning last_place
  winning_struct q =
      last_named_law struct_name name S.structs ∙ ap last_of (structs_at F S name e) ∙ last_map (struct_here F name) (places_of 0 name (sections F) 0)
      ∙ ap (option_map (struct_here F name)) (sym q)

  pub winning_enum : r ≡ last_place F 1 name → (winning S).enum name ≡ enum_found F name r
  unfolding winning last_place
  winning_enum q =
      last_named_law enum_name name S.enums ∙ ap last_of (enums_at F S name e) ∙ last_map (enum_here F name) (places_of 1 name (sections F) 0)
      ∙ ap (option_map (enum_here F name)) (sym q)

  pub leading_struct : r ≡ first_place F 0 name → (leading S).struct name ≡ struct_found F name r
  unfolding leading first_place
  leading_struct q =
      first_named_law struct_name name S.structs ∙ ap first_of (structs_at F S name e) ∙ first_map (struct_here F name) (places_of 0 name (sections F) 0)
      ∙ ap (option_map (struct_here F name)) (sym q)

  pub leading_enum : r ≡ first_place F 1 name → (leading S).enum name ≡ enum_found F name r
  unfolding leading first_place
  leading_enum q =
      first_named_law enum_name name S.enums ∙ ap first_of (enums_at F S name e) ∙ first_map (enum_here F name) (places_of 1 name (sections F) 0)
      ∙ ap (option_map (enum_here F name)) (sym q)

-- what is found is what a name stands for, of either kind
pub finds : (F : Bytes) (kind : Kind) (name : ℕ) (r : Option ℕ) → r ≡ last_place F (kind_number kind) name
    → record {
      result_value : r ≡ last_place F (kind_number kind) name;
      structure_value : kind ≡ Structure → (S : Schema) → schema_of F ≡ ok S → (winning S).struct name ≡ struct_found F name r;
      enum_value : kind ≡ Enum → (S : Schema) → schema_of F ≡ ok S → (winning S).enum name ≡ enum_found F name r;
    }
finds F kind name r q =
    record {
      result_value = q;
      structure_value = λ k S e. winning_struct F name r S e (q ∙ ap (λ (x : Kind). last_place F (kind_number x) name) k);
      enum_value = λ k S e. winning_enum F name r S e (q ∙ ap (λ (x : Kind). last_place F (kind_number x) name) k);
    }
