-- A pair's names. Assumes nothing.
use Rattle.std.specs.Prelude.{Option, Some, None, MatchOption}
use mathlib.Core.Path.{◌≡◌, refl, sym, ap, ◌∙◌}
use mathlib.Core.Bool.{Bool, true, false}
use mathlib.Core.List.{List, [], ◌∷◌}
use Prim.Native.Nat.{ℕ, zero, suc, ◌+◌, ◌-◌, ◌*◌, ◌≤◌, ◌<◌}
use native.Mathlib.Omega.{arith}
use borrow.Author.Tests.{eq-eqb, ne_eqb, eqb-true, eqb-false, ltb-true, ltb-false}
use lib.Dec.{eqb, ltb}
use lib.ListN.{length, drop}
use Rattle.numbers.specs.Words.{Bytes}
use Rattle.numbers.specs.Result.{nth}
use Rattle.value.specs.Rows.{Fields}
use Rattle.schema.specs.Defs.{Member, StructDef}
use Rattle.schema.specs.Psch.{member_at}
use Rattle.definitions.specs.Answers.{member_is}
use Rattle.layout.specs.Write.{ARRAYINFO, named, pair_fields}
use Rattle.cells.specs.declared.defs.Def.{Def}
use Rattle.cells.specs.Names.{def_of, member_of}
use Rattle.choices.specs.Sources.{FirstNamed, NextNamed}
use Rattle.choices.proofs.Nths.{nth_none, nth_read}

nth_drop : (ms : List Member) (k j : ℕ) → nth (drop k ms) j ≡ nth ms (k + j)
unfolding nth
nth_drop ms zero j = let e : 0 + j ≡ j = omega arith in ap (nth ms) (sym e)
nth_drop [] (suc k) j = refl
nth_drop (m ∷ ms) (suc k) j = let e : suc k + j ≡ suc (k + j) = omega arith in rw e (nth_drop ms k j)

-- no row, no names
named_nil : (ms : List Member) → named ms [] ≡ []
unfolding named
named_nil [] = refl
named_nil (m ∷ ms) = refl

-- every member is ARRAYINFO
named_none : (ms : List Member) (r : ℕ) (rs : List ℕ) → ((i : ℕ) (m : Member) → nth ms i ≡ Some m → m.name ≡ ARRAYINFO) → named ms (r ∷ rs) ≡ []
unfolding named nth
named_none [] r rs f = refl
named_none (m ∷ ms) r rs f = rw (eq-eqb m.name ARRAYINFO (f 0 m refl), named) (named_none ms r rs (λ i e g. f (suc i) e g))

-- the first that is not takes the row
named_first : (ms : List Member) (i : ℕ) (m : Member) (r : ℕ) (rs : List ℕ) → nth ms i ≡ Some m → (m.name ≡ ARRAYINFO → ⊥)
    → ((j : ℕ) → j < i → (e : Member) → nth ms j ≡ Some e → e.name ≡ ARRAYINFO) → named ms (r ∷ rs) ≡ (m.name, r) ∷ named (drop (i + 1) ms) rs
unfolding named nth
named_first [] i m r rs e f g = absurd (let z : ◌≡◌ {A = ℕ} 0 1 = cc in omega arith)
named_first (a ∷ ms) zero m r rs e f g =
    let q : a ≡ m = cc in
    rw q (rw (ne_eqb m.name ARRAYINFO f, named) refl)
named_first (a ∷ ms) (suc i) m r rs e f g =
    let z : suc i + 1 ≡ suc (i + 1) = omega arith in
    rw (eq-eqb a.name ARRAYINFO (g 0 (omega arith) a refl), named, z) (named_first ms i m r rs e f (λ j h x y. g (suc j) (omega arith) x y))

module _ (d : StructDef) (count : ℕ) (l : length d.members ≡ count) (r s : ℕ) where
  below : (j : ℕ) (m : Member) → nth d.members j ≡ Some m → j < count
  below j m e = go (ltb j count) refl
    where
      go : (b : Bool) → ltb j count ≡ b → j < count
      go true q = ltb-true j count q
      go false q = absurd (let z : nth d.members j ≡ None = nth_none d.members j (omega (arith, l, ltb-false j count q)) in let u : ◌≡◌ {A = ℕ} 0 1 = cc in omega arith)

  -- every member is ARRAYINFO
  pub pair_none : NextNamed d count 0 None → pair_fields d (r, s) ≡ []
  pair_none f = named_none d.members r (s ∷ []) (λ j m e. f j (omega arith) (below j m e) m e)

  module _ (i : ℕ) (a : Member) (f : FirstNamed d count 0 i) (e : nth d.members i ≡ Some a) where
    rest : pair_fields d (r, s) ≡ (a.name, r) ∷ named (drop (i + 1) d.members) (s ∷ [])
    rest = named_first d.members i a r (s ∷ []) e (f.here a e) (λ j h x y. f.passed j (omega arith) h x y)

    -- all behind it are
    pub pair_one : NextNamed d count (i + 1) None → pair_fields d (r, s) ≡ (a.name, r) ∷ []
    pair_one g =
        rest
        ∙ ap (λ (x : Fields). (a.name, r) ∷ x)
        (named_none (drop (i + 1) d.members) s []
        (λ k m y. let z = sym (nth_drop d.members (i + 1) k) ∙ y in g (i + 1 + k) (omega arith) (below (i + 1 + k) m z) m z))

    -- there is a second
    pub pair_two : (j : ℕ) (b : Member) → FirstNamed d count (i + 1) j → nth d.members j ≡ Some b → pair_fields d (r, s) ≡ (a.name, r) ∷ (b.name, s) ∷ []
    pair_two j b g y =
        rest
        ∙ ap (λ (x : Fields). (a.name, r) ∷ x)
        (named_first (drop (i + 1) d.members) (j - (i + 1)) b s [] (nth_drop d.members (i + 1) (j - (i + 1)) ∙ (rw at_j y)) (g.here b y)
        (λ k h x z. g.passed (i + 1 + k) (omega arith) (omega (arith, g.from)) x (sym (nth_drop d.members (i + 1) k) ∙ z))
        ∙ ap (λ (x : Fields). (b.name, s) ∷ x) (named_nil (drop (j - (i + 1) + 1) (drop (i + 1) d.members))))
      where
        at_j : i + 1 + (j - (i + 1)) ≡ j
        at_j = omega (arith, g.from)

-- ---- the members as the code reads them
module _ (F : Bytes) (d : Def) where
  -- whether member i is ARRAYINFO
  abbrev pub is_info : ℕ → Bool
  is_info i = eqb (member_is (member_at F (d.place + 12 + 12 * i))).name ARRAYINFO

  name_read : (i : ℕ) (m : Member) → i < d.count → nth (def_of F d).members i ≡ Some m → m.name ≡ (member_is (member_at F (d.place + 12 + 12 * i))).name
  name_read i m h e =
      let f = nth_read F d i (member_is (member_at F (d.place + 12 + 12 * i))) refl h in
      let u : m ≡ member_of (member_is (member_at F (d.place + 12 + 12 * i))) = cc in
      ap (λ (x : Member). x.name) u

  pub next_found : (k : ℕ) (r : Option ℕ)
      → MatchOption r ((i : ℕ) → k ≤ i → i < d.count → is_info i ≡ true) (λ i. (k ≤ i) × (i < d.count) × (is_info i ≡ false) × ((j : ℕ) → k ≤ j → j < i → is_info j ≡ true))
      → NextNamed (def_of F d) d.count k r
  next_found k None f = λ i a b m e. name_read i m b e ∙ eqb-true _ ARRAYINFO (f i a b)
  next_found k (Some r) f =
      record {
        from = f.0;
        few = f.1;
        passed = λ i a b m e. name_read i m (omega (arith, f.1)) e ∙ eqb-true _ ARRAYINFO (f.3 i a b);
        here = λ m e z. eqb-false _ ARRAYINFO f.2 (sym (name_read r m f.1 e) ∙ z);
      }
