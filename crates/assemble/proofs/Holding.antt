-- What stands in a work area that holds a state, and the file that is made of it. Assumes nothing.
use Rattle.schema.specs.declared.kind.Kind.{Kind}
use Rattle.schema.specs.declared.kind.Kind.TheVariants.{Structure, Enum}
use Rattle.std.specs.Prelude.{Option, Some, None, is_some, unwrap_or, option_map}
use Prim.Native.Nat.{ℕ}
use native.Mathlib.Omega.{arith}
use mathlib.Core.Path.{◌≡◌, refl, sym, ◌∙◌, ap, ap₂}
use mathlib.Core.Bool.{Bool, true, false, cond}
use mathlib.Core.List.{List, [], ◌∷◌, ◌++◌, map}
use lib.Dec.{eqb}
use borrow.Author.Tests.{eq-eqb}
use Rattle.numbers.specs.Words.{Bytes}
use Rattle.numbers.specs.Result.{ok, Every}
use Rattle.schema.specs.Defs.{Schema, winning}
use Rattle.schema.specs.Psch.{schema_of, struct_here, enum_here}
use Rattle.schema.specs.Index.{last_place}
use Rattle.definitions.proofs.Finds.{winning_struct, winning_enum}
use Rattle.layout.specs.State.{Core, contains}
use Rattle.layout.specs.Assemble.{struct_bytes, enum_bytes, Records, records_of, found, cons_option, used_of}
use Rattle.schema.specs.Steps.{kind_number}
use Rattle.psch.specs.Used.{definition_at, body_of, records_for, Lies, Stored}
use Rattle.psch.proofs.Lying.{found_lies}

-- what the names stand for

-- a law of each name that is there
pub each : (P : ℕ → Type 0) (ns : List ℕ) → ((x : ℕ) → contains x ns ≡ true → P x) → Every P ns
unfolding contains
each P [] h = tt
each P (n ∷ ns) h = (h n (ap (λ b. cond b true (contains n ns)) (eq-eqb n n refl)), each P ns (λ x e. h x (later x (eqb n x) e)))
  where
    later : (x : ℕ) (b : Bool) → contains x ns ≡ true → cond b true (contains x ns) ≡ true
    later x true e = refl
    later x false e = e

-- the definitions of one kind: f gives what a name stands for, which is what stands at the name's place
module _ (F : Bytes) (k : Kind) {A : Type 0} (f : ℕ → Option A) (here : ℕ → ℕ → A) (name_of : A → ℕ) (bytes : A → Bytes)
    (is : (n : ℕ) → f n ≡ option_map (here n) (last_place F (kind_number k) n)) (named : (n at : ℕ) → name_of (here n at) ≡ n) (made : (n at : ℕ) → bytes (here n at) ≡ definition_at F k at)
    (lies : (n at : ℕ) → last_place F (kind_number k) n ≡ Some at → Lies F k at) where
  abbrev Here : ℕ → Type 0
  Here n = is_some (f n) ≡ true

  abbrev record_of_law : A → ℕ × Bytes
  record_of_law d = (name_of d, bytes d)

  one : (n : ℕ) (l : List A) → Here n → map record_of_law (cons_option (f n) l) ≡ (n, body_of F k n) ∷ map record_of_law l
  one n l h = go (last_place F (kind_number k) n) refl
    where
      go : (o : Option ℕ) → last_place F (kind_number k) n ≡ o → map record_of_law (cons_option (f n) l) ≡ (n, body_of F k n) ∷ map record_of_law l
      go None q = absurd (let z : false ≡ true = sym (ap is_some (is n ∙ ap (option_map (here n)) q)) ∙ h in let y : ◌≡◌ {A = ℕ} 0 1 = cc in omega arith)
      go (Some at) q =
          ap (λ (x : Option A). map record_of_law (cons_option x l)) (is n ∙ ap (option_map (here n)) q)
          ∙ ap₂ (λ (x : ℕ) (y : Bytes). (x, y) ∷ map record_of_law l) (named n at) (made n at ∙ sym (ap (λ (x : Option ℕ). unwrap_or (option_map (definition_at F k) x) []) q))

  pub records_are_law : (ns : List ℕ) → Every Here ns → map record_of_law (found f ns) ≡ records_for F k ns
  unfolding found
  records_are_law [] h = refl
  records_are_law (n ∷ ns) h = one n (found f ns) h.0 ∙ ap (λ (l : Records). (n, body_of F k n) ∷ l) (records_are_law ns h.1)

  pub all_stored : (ns : List ℕ) → Every Here ns → Every (Stored F k) ns
  all_stored [] h = tt
  all_stored (n ∷ ns) h = (go (last_place F (kind_number k) n) refl, all_stored ns h.1)
    where
      go : (o : Option ℕ) → last_place F (kind_number k) n ≡ o → Stored F k n
      go None q = absurd (let z : false ≡ true = sym (ap is_some (is n ∙ ap (option_map (here n)) q)) ∙ h.0 in let y : ◌≡◌ {A = ℕ} 0 1 = cc in omega arith)
      go (Some at) q = record { place = at; found = q; lies = lies n at q }

module _ (F : Bytes) (S : Schema) (e : schema_of F ≡ ok S) where
  struct_is : (n : ℕ) → (winning S).struct n ≡ option_map (struct_here F n) (last_place F 0 n)
  struct_is n = winning_struct F n (last_place F 0 n) S e refl

  enum_is : (n : ℕ) → (winning S).enum n ≡ option_map (enum_here F n) (last_place F 1 n)
  enum_is n = winning_enum F n (last_place F 1 n) S e refl

  struct_named : (n at : ℕ) → (struct_here F n at).name ≡ n
  unfolding struct_here
  struct_named n at = refl

  enum_named : (n at : ℕ) → (enum_here F n at).name ≡ n
  unfolding enum_here
  enum_named n at = refl

  struct_made : (n at : ℕ) → struct_bytes (struct_here F n at) ≡ definition_at F Structure at
  unfolding struct_bytes struct_here
  struct_made n at = refl

  enum_made : (n at : ℕ) → enum_bytes (enum_here F n at) ≡ definition_at F Enum at
  unfolding enum_bytes enum_here
  enum_made n at = refl

  struct_lies : (n at : ℕ) → last_place F 0 n ≡ Some at → Lies F Structure at
  struct_lies n at q = found_lies F Structure n S e at q

  enum_lies : (n at : ℕ) → last_place F 1 n ≡ Some at → Lies F Enum at
  enum_lies n at q = found_lies F Enum n S e at q

  pub used_records_law : (c : Core) → Every (λ n. is_some ((winning S).struct n) ≡ true) c.structs → Every (λ n. is_some ((winning S).enum n) ≡ true) c.enums
      → records_of (used_of (winning S) c) ≡ records_for F Structure c.structs ++ records_for F Enum c.enums
  unfolding records_of used_of
  used_records_law c a b =
      ap₂ (λ (x y : Records). x ++ y) (records_are_law F Structure (winning S).struct (λ n at. struct_here F n at) (λ d. d.name) struct_bytes struct_is struct_named struct_made struct_lies c.structs a)
      (records_are_law F Enum (winning S).enum (λ n at. enum_here F n at) (λ d. d.name) enum_bytes enum_is enum_named enum_made enum_lies c.enums b)

  pub structs_stored : (ns : List ℕ) → Every (λ n. is_some ((winning S).struct n) ≡ true) ns → Every (Stored F Structure) ns
  structs_stored = all_stored F Structure (winning S).struct (λ n at. struct_here F n at) (λ d. d.name) struct_bytes struct_is struct_named struct_made struct_lies

  pub enums_stored : (ns : List ℕ) → Every (λ n. is_some ((winning S).enum n) ≡ true) ns → Every (Stored F Enum) ns
  enums_stored = all_stored F Enum (winning S).enum (λ n at. enum_here F n at) (λ d. d.name) enum_bytes enum_is enum_named enum_made enum_lies
