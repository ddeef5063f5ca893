-- What is refused before the layout, and what it runs with. Assumes nothing.
use Rattle.std.specs.Prelude.{Option, Some, None, Err}
use Rattle.std.specs.Option.{ok_or}
use mathlib.Core.Path.{◌≡◌, refl, sym, ap, subst, ◌∙◌}
use mathlib.Core.Bool.{Bool, true, false}
use Prim.Native.Nat.{ℕ, ◌*◌, ◌-◌, ◌/◌, ◌<◌, ◌≤◌, min}
use native.Mathlib.Omega.{arith}
use lib.Dec.{ltb}
use borrow.Author.Tests.{lt-ltb, le-ltb, ltb-false}
use Rattle.numbers.specs.Words.{Bytes}
use Rattle.numbers.specs.Result.{Result, ok, refused, and_then, map_result, needed}
use Rattle.value.specs.Rows.{row}
use Rattle.sheet.specs.Answer.{checked}
use Rattle.std.specs.Prelude as Rust
use Rattle.numbers.specs.declared.refusal.Refusal.{Refusal}
use Rattle.numbers.specs.declared.refusal.Refusal.TheVariants.{NoRootDefinition}
use Rattle.numbers.specs.Refusal as N
use Rattle.definitions.proofs.Finds.{winning_struct}
use Rattle.schema.specs.Defs.{Schema, StructDef, winning, index_entries}
use Rattle.schema.specs.Psch.{schema_of, struct_here}
use Rattle.schema.specs.Index.{last_place}
use Rattle.schema.proofs.Errors.{ok_or_none}
use Rattle.layout.specs.Build.{sheet_ok, work_need, cap_of, layout_with, layout_of, layout, build}
use Rattle.rounds.specs.declared.opening.Opening.{Opening}
use Rattle.rounds.specs.Run.{Roomy}
use Rattle.rounds.specs.Merge.{Opens, roomed_at, rooted_at, schemed_at, opening_of}

-- the check's answer
pub sheet_is : (T : Bytes) (r : Rust.Result (Unit {0}) Refusal) → r ≡ checked T → N.answer_of r ≡ sheet_ok T
unfolding sheet_ok
sheet_is T r e = ap N.answer_of e

-- an answer that is refused, or what follows it
pub stops : {A B : Type 0} (X : Result A) (f : A → Result B) (k : ℕ) → refused k ≡ X → refused k ≡ and_then X f
unfolding and_then
stops X f k e = rw (← e)

pub goes : {A B : Type 0} (X : Result A) (f : A → Result B) (a : A) → ok a ≡ X → f a ≡ and_then X f
unfolding and_then
goes X f a e = rw (← e)

-- the schema's index entries
counted : (r : Result Schema) (k : ℕ) → refused k ≡ map_result index_entries r → refused k ≡ r
unfolding map_result
counted (ok S) k e = let z : ◌≡◌ {A = ℕ} 0 1 = cc in absurd (omega arith)
counted (refused m) k e = cc

pub schema_bad : (T F : Bytes) (n k : ℕ) → refused k ≡ map_result index_entries (schema_of F) → refused k ≡ schemed_at T F n
unfolding schemed_at
schema_bad T F n k e = stops (schema_of F) _ k (counted (schema_of F) k e)

pub schema_good : (T F : Bytes) (n i : ℕ) → ok i ≡ map_result index_entries (schema_of F) → rooted_at T F n i ≡ schemed_at T F n
unfolding schemed_at and_then map_result
schema_good T F n i e = go (schema_of F) e
  where
    go : (r : Result Schema) → ok i ≡ map_result index_entries r → rooted_at T F n i ≡ and_then r (λ S. rooted_at T F n (index_entries S))
    go (ok S) g = let z : i ≡ index_entries S = cc in ap (rooted_at T F n) z
    go (refused m) g = let z : ◌≡◌ {A = ℕ} 0 1 = cc in absurd (omega arith)

-- by what the look-up of the root's name found
module _ (T F : Bytes) (n i name : ℕ) (q : Option ℕ) (named : name ≡ (row T 0).a) (f : q ≡ last_place F 0 name) where
  last_is : q ≡ last_place F 0 (row T 0).a
  last_is = f ∙ ap (last_place F 0) named

  pub root_unknown : (e : Refusal) → Err e ≡ ok_or q NoRootDefinition → refused (N.number_of e) ≡ rooted_at T F n i
  unfolding rooted_at and_then needed
  root_unknown e h =
      let w = ok_or_none q NoRootDefinition e h in
      rw (← last_is, w.0, w.1)

  pub root_found_law : (place : ℕ) → q ≡ Some place → roomed_at n i place name ≡ rooted_at T F n i
  unfolding rooted_at and_then needed
  root_found_law place e = rw (← last_is, e) (ap (roomed_at n i place) named)

-- the rooms
pub roomed_short : (n i place name : ℕ) → n < work_need i → refused 12 ≡ roomed_at n i place name
roomed_short n i place name h = rw (lt-ltb n (work_need i) h) refl

pub roomed_wide : (n i place name cap : ℕ) → work_need i ≤ n → cap ≡ cap_of n i → ok (record { round = record { entries = i; cap = cap; skip = 0 }; place = place; name = name }) ≡ roomed_at n i place name
roomed_wide n i place name cap h e = rw (le-ltb n (work_need i) h, e) refl

pub cap_is : (n i : ℕ) → min ((n - 65536 - 8 * i) / 4) 4194304 ≡ cap_of n i
unfolding cap_of
cap_is n i = omega arith

roomy : (n i : ℕ) → work_need i ≤ n → Roomy (record { entries = i; cap = cap_of n i; skip = 0 }) n
unfolding cap_of
roomy n i h = (omega arith, omega (arith, h))

-- what it says of building
module _ (alone : Bool) (T F : Bytes) (n : ℕ) where
  -- 12, or the layout
  rooms : (S : Schema) (d : StructDef) (place : ℕ) → sheet_ok T ≡ ok tt → schema_of F ≡ ok S → (winning S).struct (row T 0).a ≡ Some d → last_place F 0 (row T 0).a ≡ Some place
      → (b : Bool) → ltb n (work_need (index_entries S)) ≡ b → Opens alone T F n (roomed_at n (index_entries S) place (row T 0).a)
  unfolding build layout layout_of layout_with and_then needed
  rooms S d place sheet whole wins found true e = rw e (λ size room. rw (sheet, whole, wins, e) refl)
  rooms S d place sheet whole wins found false e =
      rw e (
        record { schema = S; def = d; whole = whole; entries = refl; wins = wins; found = found },
        (roomy n (index_entries S) (ltb-false n (work_need (index_entries S)) e), refl, λ size room. rw (sheet, whole, wins, e) refl),
      )

  -- 7
  roots : (S : Schema) → sheet_ok T ≡ ok tt → schema_of F ≡ ok S → (o : Option ℕ) → last_place F 0 (row T 0).a ≡ o → Opens alone T F n (rooted_at T F n (index_entries S))
  unfolding rooted_at build layout layout_of and_then needed
  roots S sheet whole None e =
      let f : (winning S).struct (row T 0).a ≡ None = winning_struct F (row T 0).a None S whole (sym e) in rw e (λ size room. rw (sheet, whole, f) refl)
  roots S sheet whole (Some place) e =
      let f : (winning S).struct (row T 0).a ≡ Some (struct_here F (row T 0).a place) = winning_struct F (row T 0).a (Some place) S whole (sym e) in
      rw e (rooms S (struct_here F (row T 0).a place) place sheet whole f e (ltb n (work_need (index_entries S))) refl)

  schemas : sheet_ok T ≡ ok tt → (r : Result Schema) → schema_of F ≡ r → Opens alone T F n (schemed_at T F n)
  unfolding schemed_at build layout and_then
  schemas sheet (ok S) e = rw e (roots S sheet e (last_place F 0 (row T 0).a) refl)
  schemas sheet (refused k) e = rw e (λ size room. rw (sheet, e) refl)

  sheets : (r : Result (Unit {0})) → sheet_ok T ≡ r → Opens alone T F n (opening_of T F n)
  unfolding opening_of build layout and_then
  sheets (ok tt) e = rw e (schemas e (schema_of F) refl)
  sheets (refused k) e = rw e (λ size room. rw e refl)

  pub opens : (r : Result Opening) → r ≡ opening_of T F n → record { value : r ≡ opening_of T F n; opens : Opens alone T F n r }
  opens r e = record { value = e; opens = subst (Opens alone T F n) (sym e) (sheets (sheet_ok T) refl) }
