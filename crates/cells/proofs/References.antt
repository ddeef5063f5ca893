-- Members of a definition by number, and their references. Assumes nothing.
use Rattle.std.specs.Prelude.{Some, None}
use Prim.Native.Nat.{ℕ, zero, suc, ◌+◌, ◌*◌, ◌≤◌, ◌<◌}
use native.Mathlib.Omega.{arith}
use mathlib.Core.Path.{◌≡◌, refl, ap, ◌∙◌}
use Rattle.numbers.specs.Words.{Bytes}
use Rattle.numbers.specs.Result.{nth}
use Rattle.schema.specs.Psch.{member_at, members_at}
use Rattle.definitions.specs.Answers.{member_is}
use Rattle.definitions.specs.declared.members.Member as coded
use Rattle.layout.specs.Members.{reference_at}
use Rattle.cells.specs.Names.{def_of}
use Rattle.cells.specs.declared.defs.Def.{Def}

pub members_nth : (F : Bytes) (n at i : ℕ) → i < n → nth (members_at F n at) i ≡ Some (member_at F (at + 12 * i))
unfolding nth members_at
members_nth F zero at i h = let z : ◌≡◌ {A = ℕ} 0 1 = omega arith in cc
members_nth F (suc n) at zero h =
    let e : at ≡ at + 12 * 0 = omega arith in
    ap (λ (p : ℕ). Some (member_at F p)) e
members_nth F (suc n) at (suc i) h =
    let e : at + 12 + 12 * i ≡ at + 12 * suc i = omega arith in
    members_nth F n (at + 12) i (omega arith) ∙ ap (λ (p : ℕ). Some (member_at F p)) e

pub members_end : (F : Bytes) (n at i : ℕ) → n ≤ i → nth (members_at F n at) i ≡ None
unfolding nth members_at
members_end F zero at i h = refl
members_end F (suc n) at zero h = let z : ◌≡◌ {A = ℕ} 0 1 = omega arith in cc
members_end F (suc n) at (suc i) h = members_end F n (at + 12) i (omega arith)

pub no_reference : (F : Bytes) (d : Def) (i : ℕ) → d.count ≤ i → 0 ≡ reference_at (def_of F d) i
unfolding reference_at def_of
no_reference F d i h = rw (members_end F d.count (d.place + 12) i h) refl

pub a_reference : (F : Bytes) (d : Def) (i : ℕ) (m : coded.Member) → i < d.count → m ≡ member_is (member_at F (d.place + 12 + 12 * i)) → m.reference ≡ reference_at (def_of F d) i
unfolding reference_at def_of
a_reference F d i m h e = rw (members_nth F d.count (d.place + 12) i h, e) refl
