-- F as a schema file: what a name stands for in it, how many index entries it has, and that its used definitions make the same file again.
-- Assumes nothing.
use Rattle.std.specs.Prelude.{Option, Some, None}
use Rattle.std.specs.Option.{option_or}
use Prim.Native.Nat.{ℕ, ◌+◌, ◌≤◌}
use native.Mathlib.Omega.{arith}
use mathlib.Core.Path.{◌≡◌, refl, sym, ◌∙◌, ap}
use mathlib.Core.Logic.{◌⊎◌, inl, inr}
use mathlib.Core.Bool.{Bool, true, false, cond}
use mathlib.Core.List.{List, [], ◌∷◌}
use lib.Dec.{eqb}
use lib.ListN.{length}
use borrow.Author.Tests.{eqb-true, eq-eqb, eqb-false, ne_eqb}
use Rattle.numbers.specs.Result.{given}
use Rattle.schema.specs.Defs.{Schema, Lookup, struct_name, enum_name, last_named, winning, index_entries}
use Rattle.layout.specs.State.{Core, contains}
use Rattle.layout.specs.Assemble.{found, cons_option, used_of, file_of}
use Rattle.layout.specs.Demand3.{count, tally}
use Rattle.layout.specs.Always.{Once, Known}
use Rattle.layout.proofs.Named.{Named}
use Rattle.layout.proofs.Fewer.{Agree}

-- look-ups

module _ {A : Type 0} (name_of : A → ℕ) (f : ℕ → Option A) (named : (n : ℕ) (d : A) → f n ≡ Some d → name_of d ≡ n) where
  last_found : (n : ℕ) (ns : List ℕ) → last_named name_of n (found f ns) ≡ cond (contains n ns) (f n) None
  unfolding last_named found contains
  last_found n [] = refl
  last_found n (m ∷ ns) = go (f m) refl (eqb m n) refl (last_found n ns)
    where
      here : (o : Option A) (b : Bool) (d : A) → o ≡ Some d → option_or (cond b o None) (Some d) ≡ o
      here o true d e = rw e
      here o false d e = sym e

      nowhere : (o : Option A) (b : Bool) → o ≡ None → cond b o None ≡ o
      nowhere o true e = refl
      nowhere o false e = sym e

      beside : (o : Option A) → option_or o None ≡ o
      beside None = refl
      beside (Some d) = refl

      go : (o : Option A) → f m ≡ o → (t : Bool) → eqb m n ≡ t → last_named name_of n (found f ns) ≡ cond (contains n ns) (f n) None
          → last_named name_of n (cons_option o (found f ns)) ≡ cond (cond t true (contains n ns)) (f n) None
      go None q true e i = i ∙ nowhere (f n) (contains n ns) (ap f (sym (eqb-true m n e)) ∙ q)
      go None q false e i = i
      go (Some d) q true e i =
          let x : eqb (name_of d) n ≡ true = eq-eqb _ _ (named m d q ∙ eqb-true m n e) in
          rw (x, i) (here (f n) (contains n ns) d (ap f (sym (eqb-true m n e)) ∙ q))
      go (Some d) q false e i =
          let x : eqb (name_of d) n ≡ false = ap (λ k. eqb k n) (named m d q) ∙ e in
          rw (x, i) (beside _)

  -- a name stands in F for what it stands for in S, or for nothing and is not used
  agrees : (ns : List ℕ) → Agree f (λ n. last_named name_of n (found f ns)) ns
  agrees ns n = go (contains n ns) refl
    where
      go : (b : Bool) → contains n ns ≡ b → (last_named name_of n (found f ns) ≡ f n) ⊎ ((last_named name_of n (found f ns) ≡ None) × (contains n ns ≡ false))
      go true e = inl (last_found n ns ∙ (rw e refl))
      go false e = inr (last_found n ns ∙ (rw e refl), e)

  found_same : (g : ℕ → Option A) (ns : List ℕ) → ((n : ℕ) → contains n ns ≡ true → g n ≡ f n) → found g ns ≡ found f ns
  unfolding found contains
  found_same g [] h = refl
  found_same g (m ∷ ns) h =
      let e : g m ≡ f m = h m (rw (eq-eqb m m refl) refl) in
      rw (e, found_same g ns (λ n i. h n (later (eqb m n) (contains n ns) i)))
    where
      later : (b c : Bool) → c ≡ true → cond b true c ≡ true
      later true c e = refl
      later false c e = e

  -- what is found among the definitions found is found again
  found_again : (ns : List ℕ) → found (λ n. last_named name_of n (found f ns)) ns ≡ found f ns
  found_again ns = found_same (λ n. last_named name_of n (found f ns)) ns (λ n i. last_found n ns ∙ (rw i refl))

module _ (L : Lookup) (w : Named L) (c : Core) where
  pub carried_structs : Agree L.struct (winning (used_of L c)).struct c.structs
  unfolding winning used_of
  carried_structs = agrees struct_name L.struct w.structs c.structs

  pub carried_enums : Agree L.enum (winning (used_of L c)).enum c.enums
  unfolding winning used_of
  carried_enums = agrees enum_name L.enum w.enums c.enums

  -- the same names, looked up in F, make the same file
  pub carried_file : (p : ℕ) → file_of (winning (used_of L c)) p c ≡ file_of L p c
  unfolding file_of
  carried_file p = rw again
    where
      again : used_of (winning (used_of L c)) c ≡ used_of L c
      again = unfold winning used_of in (rw (found_again struct_name L.struct w.structs c.structs, found_again enum_name L.enum w.enums c.enums))

-- index entries

module _ {A : Type 0} where
  more_found : (f g : ℕ → Option A) (x : ℕ) (d : A) → ((n : ℕ) → f n ≡ option_or (g n) (given (eqb x n) d)) → (ns : List ℕ) → length (found f ns) ≤ length (found g ns) + count x ns
  unfolding found count
  more_found f g x d h [] = omega arith
  more_found f g x d h (m ∷ ns) = go (f m) (g m) (eqb x m) (h m) (eqb m x) (turned (eqb x m) refl) (more_found f g x d h ns)
    where
      turned : (b : Bool) → eqb x m ≡ b → eqb m x ≡ eqb x m
      turned true e = eq-eqb m x (sym (eqb-true x m e)) ∙ sym e
      turned false e = ne_eqb m x (λ q. eqb-false x m e (sym q)) ∙ sym e

      go : (o p : Option A) (b : Bool) → o ≡ option_or p (given b d) → (t : Bool) → t ≡ b → length (found f ns) ≤ length (found g ns) + count x ns
          → length (cons_option o (found f ns)) ≤ length (cons_option p (found g ns)) + (tally t + count x ns)
      go None p b e t q i = none_less p b e (omega (arith, i))
        where
          none_less : (p : Option A) (b : Bool) → None ≡ option_or p (given b d) → length (found f ns) ≤ length (found g ns) + (tally t + count x ns)
              → length (found f ns) ≤ length (cons_option p (found g ns)) + (tally t + count x ns)
          none_less None b e j = j
          none_less (Some y) b e j = omega (arith, j)
      go (Some y) (Some z) b e t q i = omega (arith, i)
      go (Some y) None true e true q i = omega (arith, i)
      go (Some y) None true e false q i = let z : ◌≡◌ {A = ℕ} 0 1 = cc in absurd (omega arith)
      go (Some y) None false e t q i = let z : ◌≡◌ {A = ℕ} 0 1 = cc in absurd (omega arith)

  none_found : (f : ℕ → Option A) → ((n : ℕ) → f n ≡ None) → (ns : List ℕ) → length (found f ns) ≡ 0
  unfolding found
  none_found f h [] = refl
  none_found f h (n ∷ ns) = rw (h n) (none_found f h ns)

at_most_one : (b : Bool) → tally b ≤ 1
at_most_one true = omega arith
at_most_one false = omega arith

-- names that stand once each stand for no more definitions than there are
few : {A : Type 0} (name_of : A → ℕ) (ds : List A) (ns : List ℕ) → Once ns → length (found (λ n. last_named name_of n ds) ns) ≤ length ds
unfolding last_named
few {A = A} name_of [] ns o = omega (arith, none_found {A = A} (λ n. None) (λ n. refl) ns)
few {A = A} name_of (d ∷ ds) ns o =
    omega (
      arith,
      more_found (λ n. option_or (last_named name_of n ds) (given (eqb (name_of d) n) d)) (λ n. last_named name_of n ds) (name_of d) d (λ n. refl) ns,
      few name_of ds ns o,
      o (name_of d),
      at_most_one (contains (name_of d) ns),
    )

-- F has no more index entries than S
pub carried_entries : (K : Schema) (c : Core) → Known (winning K) c → index_entries (used_of (winning K) c) ≤ index_entries K
unfolding winning used_of
carried_entries K c k = omega (arith, few struct_name K.structs c.structs k.structs_once, few enum_name K.enums c.enums k.enums_once)
