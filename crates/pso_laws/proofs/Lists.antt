-- Lists: what stands at a number, the first of a name, a part of the front. Assumes nothing.
use Rattle.std.specs.Prelude.{Some, None}
use Prim.Native.Nat.{ℕ, zero, suc, ◌+◌, ◌<◌}
use native.Mathlib.Omega.{arith}
use mathlib.Core.Path.{◌≡◌, refl, ap}
use mathlib.Core.Bool.{Bool, true, false}
use mathlib.Core.List.{List, [], ◌∷◌, ◌++◌, map}
use lib.Dec.{eqb}
use lib.ListN.{length, take, drop}
use borrow.Author.Tests.{eqb-true}
use Rattle.numbers.specs.Words.{Bytes}
use Rattle.numbers.specs.Result.{nth, Every}
use Rattle.schema.specs.Defs.{first_named}
use Rattle.pso.specs.Reader as R
use Rattle.layout.specs.Demand3.{tally, count}

-- a part of a front is a part of the whole
pub part : (n p : ℕ) (A B : Bytes) → length (take n (drop p A)) ≡ n → take n (drop p (A ++ B)) ≡ take n (drop p A)
part zero p A B h = refl
part (suc n) zero [] B h = absurd (omega (arith, h))
part (suc n) zero (a ∷ A) B h = ap (a ∷◌) (part n 0 A B (omega (arith, h)))
part (suc n) (suc p) [] B h = absurd (omega (arith, h))
part (suc n) (suc p) (a ∷ A) B h = part (suc n) p A B h

-- by number
pub nth_past : (l : List R.Block) (k : ℕ) → length l < suc k → nth l k ≡ None
unfolding nth
nth_past [] k h = refl
nth_past (b ∷ l) zero h = absurd (omega (arith, h))
nth_past (b ∷ l) (suc k) h = nth_past l k (omega (arith, h))

-- of every element
pub every_map : {A : Type 0} (P Q : A → Type 0) → ((a : A) → P a → Q a) → (l : List A) → Every P l → Every Q l
every_map P Q f [] h = tt
every_map P Q f (a ∷ l) h = (f a h.0, every_map P Q f l h.1)

-- the first of a name, where names are counted
module _ {A : Type 0} (name_of : A → ℕ) (Q : A → Type 0) (x : ℕ) where
  -- what is found: it has the name, and Q holds of it
  pub record First (l : List A) : Type 0 where
    pub value : A
    pub is : first_named name_of x l ≡ Some value
    pub named : name_of value ≡ x
    pub holds : Q value

  passed_over : (d : A) (l : List A) → eqb (name_of d) x ≡ false → First l → First (d ∷ l)
  unfolding first_named
  passed_over d l e r = record { value = r.value; is = rw (e, first_named) r.is; named = r.named; holds = r.holds }

  pub first_some : (l : List A) → Every Q l → count x (map name_of l) ≡ 1 → First l
  unfolding first_named count
  first_some [] h c = absurd (omega (arith, c))
  first_some (d ∷ l) h c = go (first_some l h.1) (eqb (name_of d) x) refl c
    where
      go : (count x (map name_of l) ≡ 1 → First l) → (b : Bool) → eqb (name_of d) x ≡ b → tally b + count x (map name_of l) ≡ 1 → First (d ∷ l)
      go f true e k = record { value = d; is = rw (e, first_named) refl; named = eqb-true (name_of d) x e; holds = h.0 }
      go f false e k = passed_over d l e (f (omega (arith, k)))

  pub first_none : (l : List A) → count x (map name_of l) ≡ 0 → first_named name_of x l ≡ None
  unfolding first_named count
  first_none [] c = refl
  first_none (d ∷ l) c = go (first_none l) (eqb (name_of d) x) refl c
    where
      go : (count x (map name_of l) ≡ 0 → first_named name_of x l ≡ None) → (b : Bool) → eqb (name_of d) x ≡ b → tally b + count x (map name_of l) ≡ 0 → first_named name_of x (d ∷ l) ≡ None
      go f true e k = absurd (omega (arith, k))
      go f false e k = rw (e, first_named) (f (omega (arith, k)))
