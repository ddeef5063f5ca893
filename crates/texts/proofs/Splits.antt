-- A text's parts one by one, and how many. Assumes nothing.
use mathlib.Core.Path.{◌≡◌, refl, subst, ap, ◌∙◌}
use mathlib.Core.Bool.{Bool, true, false, cond}
use mathlib.Core.List.{List, [], ◌∷◌}
use Prim.Native.Nat.{ℕ, suc, ◌+◌, ◌≤◌}
use native.Mathlib.Omega.{arith}
use lib.ListN.{length}
use denote.Ref.{Bor}
use denote.Param.Members.{Mut}
use Rattle.std.specs.Fn.{CalledAt}
use Rattle.std.specs.Slice.Iter as slice
use Rattle.std.proofs.lemmas.Iterator.{YieldsList}
use Rattle.std.proofs.lemmas.Iterator.Splits.{YieldsList-from_slice_split}
use Rattle.std.specs.List.{slice_split, onto_first}
use Rattle.numbers.specs.Words.{Bytes}
use Rattle.texts.specs.Text.{parting, glue, split}

-- ---- all parts, as the library says them

onto_glue : (b : ℕ) (ps : List Bytes) → onto_first b ps ≡ glue b ps
onto_glue b [] = refl
onto_glue b (p ∷ ps) = refl

pub split_is : (l : Bytes) → slice_split parting l ≡ split l
unfolding split
split_is [] = refl
split_is (b ∷ l) = rw (onto_glue b (slice_split parting l), split_is l)

-- the parts that std's `split` gives
parts_come : {F : Type 0} {s : _} (g : Mut F (Bor ℕ × Unit {0}) Bool) {f : F} (t : Bytes) → slice.split_rest s ≡ t → slice.split_done s ≡ false → slice.split_callee s ≡ f
    → ((x : ℕ) (b : Bool) (q : F) → CalledAt g f x b q → (q ≡ f) × (b ≡ parting x)) → YieldsList (slice.split_steps g) (λ x. x.now) s (split t)
parts_come {s = s} g t r d k h = subst (YieldsList (slice.split_steps g) (λ x. x.now) s) (split_is t) (YieldsList-from_slice_split g parting t r d k h)

-- the same of an iterator i made of what `split` gives
pub parts_of : {F : Type 0} {s i : _} (g : Mut F (Bor ℕ × Unit {0}) Bool) {f : F} (t : Bytes) → i ≡ s → slice.split_rest s ≡ t → slice.split_done s ≡ false → slice.split_callee s ≡ f
    → ((x : ℕ) (b : Bool) (q : F) → CalledAt g f x b q → (q ≡ f) × (b ≡ parting x)) → YieldsList (slice.split_steps g) (λ x. x.now) i (split t)
parts_of g t e r d k h = parts_come g t (ap slice.split_rest e ∙ r) (ap slice.split_done e ∙ d) (ap slice.split_callee e ∙ k) h

-- no more parts than bytes, and one
glued : (b : ℕ) (ps : List Bytes) (n : ℕ) → length ps ≤ n + 1 → length (glue b ps) ≤ n + 1
glued b [] n h = omega arith
glued b (p ∷ ps) n h = h

pub length_split : (s : Bytes) → length (split s) ≤ length s + 1
unfolding split
length_split [] = omega arith
length_split (b ∷ s) = by (parting b) (length_split s) where
  by : (t : Bool) → length (split s) ≤ length s + 1 → length (cond t ([] ∷ split s) (glue b (split s))) ≤ suc (length s) + 1
  by true h = omega (arith, h)
  by false h = omega (arith, glued b (split s) (length s) h)
