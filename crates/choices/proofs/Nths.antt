-- Members of a definition by number. Assumes nothing.
use Rattle.std.specs.Prelude.{Some, None}
use mathlib.Core.Path.{◌≡◌, refl, sym, ap, ◌∙◌}
use mathlib.Core.List.{List, [], ◌∷◌}
use Prim.Native.Nat.{ℕ, zero, suc, ◌+◌, ◌*◌, ◌≤◌, ◌<◌}
use native.Mathlib.Omega.{arith}
use lib.ListN.{length}
use Rattle.numbers.specs.Words.{Bytes}
use Rattle.numbers.specs.Result.{nth}
use Rattle.schema.specs.Psch.{member_at}
use Rattle.definitions.specs.Answers.{member_is}
use Rattle.definitions.specs.declared.members.Member as coded
use Rattle.schema.proofs.Places.{members_length}
use Rattle.cells.specs.declared.defs.Def.{Def}
use Rattle.cells.specs.Names.{def_of, member_of}
use Rattle.cells.proofs.References.{members_nth}

-- a list has nothing behind its end
pub nth_none : {A : Type 0} (l : List A) (k : ℕ) → length l ≤ k → nth l k ≡ None
unfolding nth
nth_none [] k h = refl
nth_none (a ∷ l) zero h = absurd (omega arith)
nth_none (a ∷ l) (suc k) h = nth_none l k (omega arith)

-- how many members a definition has
pub count_members : (F : Bytes) (d : Def) → length (def_of F d).members ≡ d.count
unfolding def_of
count_members F d = members_length F d.count (d.place + 12)

-- the member that the code reads is the definition's
pub nth_read : (F : Bytes) (d : Def) (k : ℕ) (m : coded.Member) → m ≡ member_is (member_at F (d.place + 12 + 12 * k)) → k < d.count
    → nth (def_of F d).members k ≡ Some (member_of m)
unfolding def_of
nth_read F d k m e h = members_nth F d.count (d.place + 12) k h ∙ ap (λ (x : coded.Member). Some (member_of x)) (sym e)

-- behind the last there is none
pub nth_past : (F : Bytes) (d : Def) (k : ℕ) → d.count ≤ k → nth (def_of F d).members k ≡ None
nth_past F d k h = nth_none (def_of F d).members k (omega (arith, count_members F d))
