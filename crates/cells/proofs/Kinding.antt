-- The kind of a type byte, and its number. Assumes nothing.
use Prim.Native.Nat.{ℕ, suc, ◌≤◌, ◌<◌}
use native.Mathlib.Omega.{arith}
use mathlib.Core.Path.{◌≡◌, refl, sym, ap, ◌∙◌, subst}
use mathlib.Core.Logic.{◌⊎◌, inl, inr}
use mathlib.Core.Bool.{Bool, true, false, cond, ◌||◌}
use lib.Dec.{leb, eqb}
use borrow.Author.Tests.{le-leb, lt-leb, ne_eqb, eqb-true, eqb-false}
use Rattle.layout.specs.Kinds
use Rattle.layout.specs.Kinds.{scalar, integer, vector, other, kind_of, kind_number, type_number}
use Rattle.cells.specs.Names.{kind_is}
use Rattle.cells.specs.declared.kinds.Kind.{Kind}
use Rattle.cells.specs.declared.kinds.Kind.TheVariants as K

pub one_byte : (x : ℕ) → x < 3 → scalar (integer 1) ≡ kind_of x
unfolding kind_of
one_byte x h = rw (le-leb x 2 (omega arith)) refl

pub two_bytes : (x : ℕ) → 3 ≤ x → x < 5 → scalar (integer 2) ≡ kind_of x
unfolding kind_of
two_bytes x l h = rw (lt-leb x 2 (omega arith), le-leb x 4 (omega arith)) refl

pub four_bytes : (x : ℕ) → 5 ≤ x → x < 7 → scalar (integer 4) ≡ kind_of x
unfolding kind_of
four_bytes x l h =
    let e : x ≡ 30 → ⊥ = λ (q : x ≡ 30). omega arith in
    rw (lt-leb x 2 (omega arith), lt-leb x 4 (omega arith), ne_eqb x 30 e, le-leb x 6 (omega arith)) refl

pub threes : (x : ℕ) → (x ≡ 9) ⊎ (x ≡ 20) → scalar (vector 3) ≡ kind_of x
unfolding kind_of
threes x (inl e) = rw e refl
threes x (inr e) = rw e refl

pub fours : (x : ℕ) → (x ≡ 10) ⊎ (x ≡ 21) → scalar (vector 4) ≡ kind_of x
unfolding kind_of
fours x (inl e) = rw e refl
fours x (inr e) = rw e refl

-- a byte from 7 to 13 that is no f32, vector or text
pub left_out : (x : ℕ) → 7 ≤ x → x < 14 → (x ≡ 7 → ⊥) → (x ≡ 8 → ⊥) → ((x ≡ 9) ⊎ (x ≡ 20) → ⊥) → ((x ≡ 10) ⊎ (x ≡ 21) → ⊥) → (x ≡ 11 → ⊥) → (x ≡ 12) ⊎ (x ≡ 13)
left_out x l h a b c d e = go (eqb x 12) refl
  where
    past : (k : ℕ) → k ≤ x → (x ≡ k → ⊥) → suc k ≤ x
    past k p z = omega (arith, p, z)

    go : (t : Bool) → eqb x 12 ≡ t → (x ≡ 12) ⊎ (x ≡ 13)
    go true q = inl (eqb-true x 12 q)
    go false q =
        let n : x ≡ 12 → ⊥ = eqb-false x 12 q in
        let c' : x ≡ 9 → ⊥ = λ z. c (inl z) in
        let d' : x ≡ 10 → ⊥ = λ z. d (inl z) in
        let nine : 9 ≤ x = past 8 (past 7 l a) b in
        let twelve : 12 ≤ x = past 11 (past 10 (past 9 nine c') d') e in
        inr (omega (arith, past 12 twelve n, h))

-- a byte from 7 on that is none of those that are something
pub no_other_law : (x : ℕ) → 7 ≤ x → (x ≡ 30 → ⊥) → (x ≡ 7 → ⊥) → (x ≡ 8 → ⊥) → ((x ≡ 9) ⊎ (x ≡ 20) → ⊥) → ((x ≡ 10) ⊎ (x ≡ 21) → ⊥) → (x ≡ 11 → ⊥) → (x ≡ 12 → ⊥)
    → (x ≡ 13 → ⊥) → (x ≡ 14 → ⊥) → (x ≡ 15 → ⊥) → (x ≡ 16 → ⊥) → (x ≡ 32 → ⊥) → other ≡ kind_of x
unfolding kind_of
no_other_law x l a b c d e f g h i j k m =
    rw (
      lt-leb x 2 (omega arith),
      lt-leb x 4 (omega arith),
      ne_eqb x 30 a,
      lt-leb x 6 (omega arith),
      ne_eqb x 32 m,
      ne_eqb x 7 b,
      ne_eqb x 8 c,
      ne_eqb x 9 (λ q. d (inl q)),
      ne_eqb x 20 (λ q. d (inr q)),
      ne_eqb x 10 (λ q. e (inl q)),
      ne_eqb x 21 (λ q. e (inr q)),
      ne_eqb x 11 f,
      ne_eqb x 12 g,
      ne_eqb x 13 h,
      ne_eqb x 14 i,
      ne_eqb x 15 j,
      ne_eqb x 16 k,
    ) refl

-- an integer has at most eight bytes, a vector two to four numbers
abbrev Few : Kinds.Kind → Type 0
Few (scalar (integer k)) = k ≤ 8
Few (scalar (vector n)) = (2 ≤ n) × (n ≤ 4)
Few (scalar Kinds.single) = Unit {0}
Few Kinds.text = Unit {0}
Few Kinds.structure = Unit {0}
Few Kinds.array = Unit {0}
Few Kinds.enumeration = Unit {0}
Few Kinds.flags = Unit {0}
Few Kinds.map = Unit {0}
Few other = Unit {0}

few_ladder : (a b c d e f g h i j k l m n : Bool) → Few (cond a (scalar (integer 1)) (cond b (scalar (integer 2)) (cond c (scalar (integer 4)) (cond d (scalar (integer 8)) (cond e (scalar Kinds.single) (cond f (scalar (vector 2)) (cond g (scalar (vector 3)) (cond h (scalar (vector 4)) (cond i Kinds.text (cond j Kinds.structure (cond k Kinds.array (cond l Kinds.enumeration (cond m Kinds.flags (cond n Kinds.map other))))))))))))))
few_ladder true b c d e f g h i j k l m n = omega arith
few_ladder false true c d e f g h i j k l m n = omega arith
few_ladder false false true d e f g h i j k l m n = omega arith
few_ladder false false false true e f g h i j k l m n = omega arith
few_ladder false false false false true f g h i j k l m n = tt
few_ladder false false false false false true g h i j k l m n = (omega arith, omega arith)
few_ladder false false false false false false true h i j k l m n = (omega arith, omega arith)
few_ladder false false false false false false false true i j k l m n = (omega arith, omega arith)
few_ladder false false false false false false false false true j k l m n = tt
few_ladder false false false false false false false false false true k l m n = tt
few_ladder false false false false false false false false false false true l m n = tt
few_ladder false false false false false false false false false false false true m n = tt
few_ladder false false false false false false false false false false false false true n = tt
few_ladder false false false false false false false false false false false false false true = tt
few_ladder false false false false false false false false false false false false false false = tt

few : (x : ℕ) → Few (kind_of x)
unfolding kind_of
few x =
    few_ladder (leb x 2) (leb x 4 || eqb x 30) (leb x 6) (eqb x 32) (eqb x 7) (eqb x 8) (eqb x 9 || eqb x 20) (eqb x 10 || eqb x 21) (eqb x 11) (eqb x 12) (eqb x 13) (eqb x 14) (eqb x 15) (eqb x 16)

pub integer_few : (x k : ℕ) (r : Kind) → kind_is r ≡ kind_of x → r ≡ K.Integer k → k ≤ 8
integer_few x k r e q = subst Few (sym e ∙ ap kind_is q) (few x)

pub vector_few : (x n : ℕ) (r : Kind) → kind_is r ≡ kind_of x → r ≡ K.Vector n → (2 ≤ n) × (n ≤ 4)
vector_few x n r e q = subst Few (sym e ∙ ap kind_is q) (few x)

-- the number of a byte that is no boolean
pub number_of : (x : ℕ) (k r : Kind) → (x ≡ 0 → ⊥) → kind_is r ≡ kind_of x → r ≡ k → kind_number (kind_is k) ≡ type_number x
unfolding type_number
number_of x k r h e q = rw (ne_eqb x 0 h, ← e, q) refl

pub number_zero : (x : ℕ) → x ≡ 0 → 1 ≡ type_number x
unfolding type_number
number_zero x e = rw e refl
