-- The loops that look a name up: over the index entries of a section, and over the sections of a file. Assumes nothing.
use Rattle.std.specs.Prelude.{Option, Some, None, option_map}
use Rattle.std.specs.Option.{option_or}
use mathlib.Core.Path.{◌≡◌, refl, sym, ap, ap₂, ◌∙◌}
use mathlib.Core.Bool.{Bool, true, false}
use mathlib.Core.List.{List, [], ◌∷◌, ◌++◌, map}
use denote.Param.Members.{Mut}
use Rattle.std.specs.Fn.{Called}
use Rattle.std.specs.Iterator.{FindsMapped, Yields}
use Rattle.std.specs.Iterator.Adapters.{rev_source, rev_steps}
use Rattle.std.specs.Iterator.Runs.{Run, SomeRun, YieldsRun, AllItemsGive, IsFirstToGive}
use Rattle.std.specs.Prelude.{slice_get, IfSome, IsTrue}
use Rattle.std.specs.List.{FoldsTo}
use Rattle.std.specs.Option.{MatchOption}
use Rattle.std.specs.Range.{range_steps_back}
use Rattle.std.specs.declared.ops.Range.{Range}
use Rattle.std.specs.declared.iter.Rev.{Rev}
use mathlib.Core.Logic.{◌⊎◌, inl, inr}
use Prim.Native.Nat.{ℕ, zero, suc, ◌+◌, ◌-◌, ◌*◌, ◌≤◌, ◌<◌}
use native.Mathlib.Nat.{zero-add, suc-add}
use native.Mathlib.Omega.{arith}
use lib.Dec.{eqb}
use lib.ListN.{length}
use Rattle.numbers.specs.Words.{Bytes, read_at}
use Rattle.numbers.specs.Result.{given}
use Rattle.schema.specs.Sections.{Sections, section, end, broken, PSCH}
use Rattle.schema.specs.Index.{leads_to, kept, places_from, places_in, section_places, places_of, last_of, last_place}
use Rattle.schema.specs.Steps.{rest}
use Rattle.schema.proofs.Walk.{rest_all}
use Rattle.definitions.proofs.Named.{kept_append}
use Rattle.definitions.proofs.Finds.{or_or, or_none_law, last_map, last_append}

-- ---- what is found, if a test passes
pub given_none : (t : Bool) (q : ℕ) → None ≡ given t q → t ≡ false
given_none true q h = absurd (let z : ◌≡◌ {A = ℕ} 0 1 = cc in omega arith)
given_none false q h = refl

pub given_some : (t : Bool) (p q : ℕ) → Some p ≡ given t q → (t ≡ true) × (p ≡ q)
given_some true p q h = (refl, cc)
given_some false p q h = absurd (let z : ◌≡◌ {A = ℕ} 0 1 = cc in omega arith)

-- ---- the index entries of a section, from the last on
module _ (P : Bytes) (kind name : ℕ) where
  -- i entries, and the n behind them
  split : (i n at : ℕ) → places_from P kind name (i + n) at ≡ places_from P kind name i at ++ places_from P kind name n (at + 8 * i)
  unfolding places_from
  split zero n at =
      let e : at + 8 * 0 ≡ at = omega arith in
      rw (zero-add, e)
  split (suc i) n at =
      let e : at + 8 + 8 * i ≡ at + 8 * suc i = omega arith in
      let q = read_at 4 P (at + 4) in
      ap (λ (x : ℕ). places_from P kind name x at) (suc-add i n) ∙ ap (kept (leads_to P kind name at) q) (split i n (at + 8))
      ∙ sym (kept_append (leads_to P kind name at) q (places_from P kind name i (at + 8)) (places_from P kind name n (at + 8 + 8 * i)))
      ∙ ap (λ (x : ℕ). kept (leads_to P kind name at) q (places_from P kind name i (at + 8)) ++ places_from P kind name n x) e

  pub none_behind : (n : ℕ) → places_from P kind name (n - n) (12 + 8 * n) ≡ []
  unfolding places_from
  none_behind n =
      let e : n - n ≡ 0 = omega arith in
      rw e

  -- the entry before those
  module _ (n i : ℕ) (pos : 0 < i) (le : i ≤ n) (g : places_from P kind name (n - i) (12 + 8 * i) ≡ []) where
    abbrev Finds : Option ℕ → Type 0
    Finds o = o ≡ given (leads_to P kind name (12 + 8 * (i - 1))) (read_at 4 P (12 + 8 * (i - 1) + 4))

    one : places_from P kind name (n - (i - 1)) (12 + 8 * (i - 1)) ≡ kept (leads_to P kind name (12 + 8 * (i - 1))) (read_at 4 P (12 + 8 * (i - 1) + 4)) []
    unfolding places_from
    one =
        let a : n - (i - 1) ≡ suc (n - i) = omega arith in
        let b : 12 + 8 * (i - 1) + 8 ≡ 12 + 8 * i = omega arith in
        let at = 12 + 8 * (i - 1) in
        ap (λ (x : ℕ). places_from P kind name x at) a ∙ ap (kept (leads_to P kind name at) (read_at 4 P (at + 4))) (ap (λ (x : ℕ). places_from P kind name (n - i) x) b ∙ g)

    pub last_miss : Finds None → places_from P kind name (n - (i - 1)) (12 + 8 * (i - 1)) ≡ []
    last_miss e = one ∙ rw (given_none _ _ e)

    pub last_hit : (q : ℕ) → Finds (Some q) → Some q ≡ last_of (places_from P kind name n 12)
    unfolding last_of
    last_hit q e =
        let x = given_some _ q _ e in
        let a : n ≡ i - 1 + (n - (i - 1)) = omega arith in
        let m = n - (i - 1) in
        let z : places_from P kind name m (12 + 8 * (i - 1)) ≡ read_at 4 P (12 + 8 * (i - 1) + 4) ∷ [] = one ∙ rw x.0 in
        sym
        (ap (λ (x : ℕ). last_of (places_from P kind name x 12)) a ∙ ap last_of (split (i - 1) m 12)
        ∙ last_append (places_from P kind name (i - 1) 12) (places_from P kind name m (12 + 8 * (i - 1)))
        ∙ ap (λ l. option_or (last_of l) (last_of (places_from P kind name (i - 1) 12))) z ∙ ap Some (sym x.1))

  pub last_none : (n i : ℕ) → i ≤ 0 → places_from P kind name (n - i) (12 + 8 * i) ≡ [] → None ≡ last_of (places_from P kind name n 12)
  unfolding last_of
  last_none n i h g =
      let a : n - i ≡ n = omega arith in
      let b : 12 + 8 * i ≡ 12 = omega arith in
      sym (ap last_of (ap₂ (places_from P kind name) (sym a) (sym b) ∙ g))

  -- over the range of the n entries from its end: the calls of f on those that are passed over, and the last
  module _ (n : ℕ) {F : Type 0} (g : Mut F (ℕ × Unit {0}) (Option ℕ)) (f : F) (tells : (i : ℕ) (o : Option ℕ) (q : F) → Called g f (i, tt) o q → (q ≡ f) × (o ≡ given (leads_to P kind name (12 + 8 * i)) (read_at 4 P (12 + 8 * i + 4)))) where
    abbrev Steps : Rev (Range ℕ) → Option ℕ → Rev (Range ℕ) → Type 0
    Steps = rev_steps (range_steps_back (λ a b. b - a) (λ a b. b ≡ a + 1))

    abbrev Behind : ℕ → Type 0
    Behind i = (i ≤ n) × (places_from P kind name (n - i) (12 + 8 * i) ≡ [])

    abbrev till : Rev (Range ℕ) → ℕ
    till s = (rev_source s).end

    abbrev since : Rev (Range ℕ) → ℕ
    since s = (rev_source s).start

    last_mapped : (xs : List ℕ) (s t u : Rev (Range ℕ)) (e : F) (o : Option ℕ) (q : ℕ) → since s ≡ 0 → Behind (till s) → Yields Steps s xs t → Steps t o u
        → FoldsTo (λ p x q. Called g p (x, tt) None q) f xs e → MatchOption o (Some q ≡ None) (λ x. (h : F) × Called g e (x, tt) (Some q) h) → Some q ≡ last_of (places_from P kind name n 12)
    last_mapped [] s t u e None q k l y z c m = m ∙ last_none n (till s) (omega (arith, k, z.1.0, ap since y, ap till y)) l.1
    last_mapped [] s t u e (Some x) q k l y z c m =
        let w = tells x (Some q) m.0 (rw c m.1) in
        let b : x ≡ till s - 1 = omega (arith, z.1.1, z.1.2, ap till y) in
        last_hit n (till s) (omega (arith, z.1.2, ap till y)) l.0 l.1 q (rw (← b) w.1)
    last_mapped (x ∷ xs) s t u e o q k l (j, a, y) z (d, v, c) m =
        let w = tells x None d v in
        let b : x ≡ till s - 1 = omega (arith, a.1.1, a.1.2) in
        let b' : till j ≡ till s - 1 = omega (arith, a.1.2) in
        last_mapped xs j t u e o q (a.0 ∙ k) (omega (arith, a.1.2, l.0), rw b' (last_miss n (till s) (omega (arith, a.1.2)) l.0 l.1 (rw (← b) w.1))) y z (rw (← w.0) c) m

    all_miss : (xs : List ℕ) (s t u : Rev (Range ℕ)) → since s ≡ 0 → Behind (till s) → Yields Steps s xs t → Steps t None u
        → ((k : ℕ) → IfSome (slice_get xs k) (λ x. Called g f (x, tt) None f)) → None ≡ last_of (places_from P kind name n 12)
    all_miss [] s t u k l y z h = last_none n (till s) (omega (arith, k, z.1.0, ap since y, ap till y)) l.1
    all_miss (x ∷ xs) s t u k l (j, a, y) z h =
        let w = tells x None f (h 0) in
        let b : x ≡ till s - 1 = omega (arith, a.1.1, a.1.2) in
        let b' : till j ≡ till s - 1 = omega (arith, a.1.2) in
        all_miss xs j t u (a.0 ∙ k) (omega (arith, a.1.2, l.0), rw b' (last_miss n (till s) (omega (arith, a.1.2)) l.0 l.1 (rw (← b) w.1))) y z (λ i. h (suc i))

    run_miss : (p : Run Steps) → since p.from ≡ 0 → Behind (till p.from) → p.whole ≡ true → AllItemsGive p g f None → None ≡ last_of (places_from P kind name n 12)
    unfolding YieldsRun
    run_miss p a b w h =
        let d = p.gave.0.2 w in
        all_miss p.items p.from p.gave.0.0 d.0 a b p.gave.0.1 d.1 (λ k. rw (← p.gave.1 k) (h (λ x r q c. (tells x.0 r q c).0) k))

    pub last_maps : (s u : Rev (Range ℕ)) (r : Option ℕ) → since s ≡ 0 → till s ≡ n → FindsMapped Steps g s f r u
        → SomeRun Steps s (λ p. MatchOption r (IsTrue p.whole × AllItemsGive p g f None) (λ y. (i : ℕ) × (i < p.len) × (p.len ≡ i + 1) × IsFirstToGive p g f (Some y) None i))
        → r ≡ last_of (places_from P kind name n 12)
    last_maps s u None a b h (p, e, w) = run_miss p (ap since e ∙ a) (rw (e, b) (omega arith, none_behind n)) w.0 w.1
    last_maps s u (Some q) a b (xs, o, e, (t, y, z), c, m) w = last_mapped xs s t u e o q a (rw b (omega arith, none_behind n)) y z c m

-- ---- a section
module _ (P : Bytes) (kind name : ℕ) (t : Bool) (e : t ≡ eqb (read_at 4 P 0) PSCH) where
  pub other_section : t ≡ false → [] ≡ section_places (read_at 4 P 0) P kind name
  unfolding section_places
  other_section f = rw (← e, f, section_places)

  pub psch_section : t ≡ true → places_in P kind name ≡ section_places (read_at 4 P 0) P kind name
  unfolding section_places
  psch_section f = rw (← e, f, section_places)

-- ---- the sections of a file
module _ (F : Bytes) (kind name : ℕ) where
  -- the sections that are left, the first of them at `at`, lead to the same end
  pub record Going (ss : Sections) (at : ℕ) (found : Option ℕ) : Type 0 where
    pub same : option_or (last_of (places_of kind name ss at)) found ≡ last_place F kind name

  pub first : (ss : Sections) (at : ℕ) → ss ≡ rest F 0 → at ≡ 0 → Going ss at None
  unfolding last_place
  first ss at e z =
      record { same = or_none_law (last_of (places_of kind name ss at)) ∙ ap₂ (λ (x : Sections) (n : ℕ). last_of (places_of kind name x n)) (e ∙ rest_all F) z }

  pub at_end_law : (ss : Sections) (at : ℕ) (found : Option ℕ) → Going ss at found → (ss ≡ end) ⊎ (ss ≡ broken) → found ≡ last_place F kind name
  unfolding places_of last_of
  at_end_law ss at found g (inl e) = ap (λ (x : Sections). option_or (last_of (places_of kind name x at)) found) (sym e) ∙ g.same
  at_end_law ss at found g (inr e) = ap (λ (x : Sections). option_or (last_of (places_of kind name x at)) found) (sym e) ∙ g.same

  pub turn : (ident : ℕ) (P : Bytes) (ss : Sections) (at place next : ℕ) (found o : Option ℕ) → Going (section ident P ss) at found → place ≡ at → next ≡ at + length P
      → o ≡ option_map (place +◌) (last_of (section_places ident P kind name)) → Going ss next (option_or o found)
  unfolding places_of
  turn ident P ss at place next found o g here n q =
      let ps = section_places ident P kind name in
      let rs = places_of kind name ss next in
      record {
        same =
            ap (λ (z : Option ℕ). option_or (last_of rs) (option_or z found)) (q ∙ sym (last_map (place +◌) ps)) ∙ sym (or_or (last_of rs) (last_of (map (place +◌) ps)) found)
            ∙ ap (λ (z : Option ℕ). option_or z found) (sym (last_append (map (place +◌) ps) rs) ∙ ap₂ (λ a b. last_of (map (a +◌) ps ++ places_of kind name ss b)) here n) ∙ g.same;
      }
