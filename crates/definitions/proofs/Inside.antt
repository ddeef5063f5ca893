-- Where a definition is found lies in the file. Assumes nothing.
use Rattle.std.specs.Prelude.{Option, Some, None}
use Rattle.std.specs.Option.{option_or}
use mathlib.Core.Path.{◌≡◌, refl, sym, subst}
use mathlib.Core.Bool.{Bool, true, false, cond, ◌&&◌}
use mathlib.Core.List.{List, [], ◌∷◌, map}
use Prim.Native.Nat.{ℕ, zero, suc, ◌+◌, ◌≤◌, ◌<◌}
use native.Mathlib.Omega.{arith}
use lib.Dec.{ltb, eqb}
use lib.ListN.{length, take, drop}
use borrow.Author.Tests.{ltb-true}
use Rattle.numbers.specs.Words.{Bytes, read_at}
use Rattle.numbers.specs.Result.{Every}
use Rattle.numbers.proofs.Bytes.{every_append}
use Rattle.schema.specs.Sections.{PSCH, sections_from, sections}
use Rattle.schema.specs.Index.{index_count, kept, places_from, places_in, section_places, places_of, last_of, last_place}
use Rattle.schema.proofs.Walk.{by_sections}

module _ {A : Type 0} (Q : A → Type 0) where
  pub last_has : (l : List A) → Every Q l → (a : A) → last_of l ≡ Some a → Q a
  unfolding last_of
  last_has [] h a e = absurd (let z : ◌≡◌ {A = ℕ} 0 1 = cc in omega arith)
  last_has (x ∷ l) h a e = go (last_of l) (last_has l h.1 a) e
    where
      go : (o : Option A) → (o ≡ Some a → Q a) → option_or o (Some x) ≡ Some a → Q a
      go (Some y) g f = g f
      go None g f = let y : x ≡ a = cc in subst Q y h.0

module _ (P : Bytes) (kind name : ℕ) where
  one_inside : (nm q : ℕ) (l : List ℕ) → Every (λ x. x < length P) l
      → Every (λ x. x < length P) (kept (eqb nm name && (ltb q (length P) && eqb (read_at 1 P q) kind)) q l)
  one_inside nm q l h = go (eqb nm name) (ltb q (length P)) (eqb (read_at 1 P q) kind) refl
    where
      go : (a b c : Bool) → ltb q (length P) ≡ b → Every (λ x. x < length P) (kept (a && (b && c)) q l)
      go false b c e = h
      go true false c e = h
      go true true false e = h
      go true true true e = (ltb-true q (length P) e, h)

  from_inside : (n at : ℕ) → Every (λ x. x < length P) (places_from P kind name n at)
  unfolding places_from
  from_inside zero at = tt
  from_inside (suc n) at = one_inside (read_at 4 P at) (read_at 4 P (at + 4)) (places_from P kind name n (at + 8)) (from_inside n (at + 8))

  section_inside : (ident : ℕ) → Every (λ x. x < length P) (section_places ident P kind name)
  unfolding section_places
  section_inside ident = go (eqb ident PSCH)
    where
      go : (b : Bool) → Every (λ x. x < length P) (cond b (places_in P kind name) [])
      go true = from_inside (index_count P) 12
      go false = tt

moved_inside : (at m n : ℕ) (l : List ℕ) → at + m ≤ n → Every (λ x. x < m) l → Every (λ x. x < n) (map (at +◌) l)
moved_inside at m n [] h p = tt
moved_inside at m n (x ∷ l) h p = (omega (arith, p.0), moved_inside at m n l h p.1)

module _ (F : Bytes) (kind name : ℕ) where
  abbrev Inside : List ℕ → Type 0
  Inside l = Every (λ x. x < length F) l

  all_inside : (n at : ℕ) → Inside (places_of kind name (sections_from F n at) at)
  unfolding places_of
  all_inside =
      by_sections F (λ at ss. Inside (places_of kind name ss at)) (λ at. tt) (λ at. tt) λ at len ss l i ih.
      let P = take len (drop at F) in
      let ps = section_places (read_at 4 F at) P kind name in
      every_append (λ x. x < length F) (map (at +◌) ps) (places_of kind name ss (at + length P))
      (moved_inside at (length P) (length F) ps (omega (arith, l, i)) (section_inside P kind name (read_at 4 F at))) (subst (λ x. Inside (places_of kind name ss (at + x))) (sym l) ih)

  pub last_inside : (at : ℕ) → last_place F kind name ≡ Some at → at < length F
  unfolding last_place sections
  last_inside at e = last_has (λ x. x < length F) (places_of kind name (sections F) 0) (all_inside (length F) 0) at e
