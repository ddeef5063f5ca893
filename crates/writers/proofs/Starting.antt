-- A structure is started, and its members follow. Assumes nothing.
use Rattle.std.specs.Prelude.{Some}
use mathlib.Core.Path.{◌≡◌, refl, ap, subst, ◌∙◌}
use mathlib.Core.Bool.{true, false}
use mathlib.Core.List.{List, [], ◌∷◌, ◌++◌}
use mathlib.Core.Logic.{◌⊎◌, inl, inr}
use Prim.Native.Nat.{ℕ, zero, suc, ◌+◌, ◌-◌, ◌≤◌, ◌<◌}
use native.Mathlib.Omega.{arith}
use borrow.Author.Tests.{ne_eqb}
use lib.Dec.{leb, eqb}
use lib.ListN.{length, drop, drop_of_length-le}
use Rattle.numbers.specs.Words.{Bytes, zeros}
use Rattle.numbers.specs.Result.{nth}
use Rattle.value.specs.Rows.{Value, Fields, field_named}
use Rattle.schema.specs.Defs.{Schema, StructDef, Member}
use Rattle.layout.specs.State.{State, Env, Out, done, stop, after, bind, ret, fail, if_m, pay, with_charge, log_start, settle, on_core, use_struct_c, use_struct}
use Rattle.layout.specs.Kinds.{kind_of}
use Rattle.layout.specs.Write.{ARRAYINFO, Writers, writers, member, members, started, body, write}
use Rattle.area.specs.declared.Round.{Round}
use Rattle.area.specs.declared.Progress.{Progress}
use Rattle.area.specs.Area.{Rep, started_in}
use Rattle.area.specs.Posts.{gives, refuses, Meets}

-- from the i-th on
drop_nth : {A : Type 0} (l : List A) (i : ℕ) (x : A) → nth l i ≡ Some x → drop i l ≡ x ∷ drop (i + 1) l
unfolding nth
drop_nth [] i x e = absurd (let z : ◌≡◌ {A = ℕ} 0 1 = cc in omega arith)
drop_nth (a ∷ l) zero x e = let q : a ≡ x = cc in ap (λ y. y ∷ l) q
drop_nth (a ∷ l) (suc i) x e =
    let z : suc (i + 1) ≡ suc i + 1 = omega arith in
    drop_nth l i x e ∙ ap (λ (j : ℕ). x ∷ drop j (a ∷ l)) z

-- k members are written: what is left leads to the same end
pub record Going (S : Schema) (R : Round) (n : ℕ) (E : Env) (w : Writers) (d : StructDef) (fs : Fields) (σ : Bytes) (s : State) (q : Progress) (work : Bytes) (k : ℕ) : Type 0 where
  pub state : State
  pub buf : Bytes
  pub len : length buf ≡ d.size
  pub rep : Rep S R n state (σ ++ buf) q work
  pub rest : members E w d fs (drop k d.members) buf state ≡ members E w d fs d.members (zeros d.size) s

module _ (S : Schema) (R : Round) (n : ℕ) (E : Env) (w : Writers) (d : StructDef) (fs : Fields) (σ : Bytes) (s : State) where
  pub begin : (q : Progress) (work : Bytes) → length (zeros d.size) ≡ d.size → Rep S R n s (σ ++ zeros d.size) q work → Going S R n E w d fs σ s q work 0
  begin q work l r = record { state = s; buf = zeros d.size; len = l; rep = r; rest = refl }

  -- ARRAYINFO is skipped
  pub skip : (q : Progress) (work : Bytes) (k : ℕ) (e : Member) → nth d.members k ≡ Some e → eqb e.name ARRAYINFO ≡ true
      → Going S R n E w d fs σ s q work k → Going S R n E w d fs σ s q work (k + 1)
  unfolding members bind if_m ret after
  skip q work k e h i g =
      record {
        state = g.state;
        buf = g.buf;
        len = g.len;
        rep = g.rep;
        rest = skipped e.name refl ∙ g.rest;
      }
    where
      skipped : (x : ℕ) → e.name ≡ x → members E w d fs (drop (k + 1) d.members) g.buf g.state ≡ members E w d fs (drop k d.members) g.buf g.state
      skipped x y = rw (drop_nth d.members k e h, i) refl

  -- a member is written
  pub turn : (q t : Progress) (work work' : Bytes) (k : ℕ) (e : Member) (v : Value) → nth d.members k ≡ Some e → eqb e.name ARRAYINFO ≡ false → field_named e.name fs ≡ v
      → (g : Going S R n E w d fs σ s q work k)
      → Meets S R n (λ b. σ ++ b) (λ b (x : Unit {0}). length b ≡ d.size) (member E w d e (kind_of e.type) v g.buf g.state) (gives tt t) work'
      → Going S R n E w d fs σ s t work' (k + 1)
  unfolding members bind if_m after
  turn q t work work' k e v h i y g m = go (member E w d e (kind_of e.type) v g.buf g.state) refl m
    where
      go : (o : Out Bytes) → member E w d e (kind_of e.type) v g.buf g.state ≡ o → Meets S R n (λ b. σ ++ b) (λ b (x : Unit {0}). length b ≡ d.size) o (gives tt t) work'
          → Going S R n E w d fs σ s t work' (k + 1)
      go (done b u) f z = record { state = u; buf = b; len = z.1; rep = z.0; rest = written ∙ g.rest }
        where
          written : members E w d fs (drop (k + 1) d.members) b u ≡ members E w d fs (drop k d.members) g.buf g.state
          written = rw (drop_nth d.members k e h, i, y, f) refl
      go (stop a es) f z = absurd z

  -- a member is refused
  pub turn_refused : (q t : Progress) (work work' : Bytes) (k a : ℕ) (e : Member) (v : Value) → nth d.members k ≡ Some e → eqb e.name ARRAYINFO ≡ false → field_named e.name fs ≡ v
      → (g : Going S R n E w d fs σ s q work k)
      → Meets S R n (λ b. σ ++ b) (λ b (x : Unit {0}). length b ≡ d.size) (member E w d e (kind_of e.type) v g.buf g.state) (refuses a t) work'
      → Meets S R n (λ b. σ ++ b) (λ b (x : Unit {0}). length b ≡ d.size) (members E w d fs d.members (zeros d.size) s) (refuses a t) work'
  unfolding members bind if_m after
  turn_refused q t work work' k a e v h i y g m = go (member E w d e (kind_of e.type) v g.buf g.state) refl m
    where
      go : (o : Out Bytes) → member E w d e (kind_of e.type) v g.buf g.state ≡ o → Meets S R n (λ b. σ ++ b) (λ b (x : Unit {0}). length b ≡ d.size) o (refuses a t) work'
          → Meets S R n (λ b. σ ++ b) (λ b (x : Unit {0}). length b ≡ d.size) (members E w d fs d.members (zeros d.size) s) (refuses a t) work'
      go (done b u) f z = absurd z
      go (stop j es) f z = subst (λ o. Meets S R n (λ b. σ ++ b) (λ b (x : Unit {0}). length b ≡ d.size) o (refuses a t) work') (written ∙ g.rest) z
        where
          written : stop j es ≡ members E w d fs (drop k d.members) g.buf g.state
          written = rw (drop_nth d.members k e h, i, y, f) refl

  -- all are written
  pub finish : (q : Progress) (work : Bytes) (k : ℕ) → length d.members ≤ k → Going S R n E w d fs σ s q work k
      → Meets S R n (λ b. σ ++ b) (λ b (x : Unit {0}). length b ≡ d.size) (members E w d fs d.members (zeros d.size) s) (gives tt q) work
  unfolding members ret
  finish q work k h g =
      let e : done g.buf g.state ≡ members E w d fs d.members (zeros d.size) s = ended ∙ g.rest in
      subst (λ o. Meets S R n (λ b. σ ++ b) (λ b (x : Unit {0}). length b ≡ d.size) o (gives tt q) work) e (g.rep, g.len)
    where
      ended : done g.buf g.state ≡ members E w d fs (drop k d.members) g.buf g.state
      ended = rw (drop_of_length-le d.members h) refl

-- the charge is paid, the definition used, and the members follow
pub started_is : (E : Env) (w : Writers) (d : StructDef) (fs : Fields) (s : State) → leb (s.charge + (16 + d.size)) E.charge_cap ≡ true
    → started E w d fs s ≡ members E w d fs d.members (zeros d.size) (started_in d.name (with_charge (s.charge + (16 + d.size)) s))
unfolding started bind after pay use_struct log_start on_core settle use_struct_c
started_is E w d fs s h = rw h refl

-- or it is not paid
pub started_dear : (E : Env) (w : Writers) (d : StructDef) (fs : Fields) (s : State) → leb (s.charge + (16 + d.size)) E.charge_cap ≡ false
    → started E w d fs s ≡ stop 9 s.events
unfolding started bind after pay
started_dear E w d fs s h = rw h refl

-- 8: at depth 33; and where no more structures can start
pub too_deep : (E : Env) (left depths : ℕ) (d : StructDef) (fs : Fields) (s : State) → (left ≡ 0) ⊎ (depths ≡ 0) → write E left depths d fs s ≡ stop 8 s.events
unfolding write body fail if_m
too_deep E zero depths d fs s h = refl
too_deep E (suc k) depths d fs s (inl e) = absurd (omega (arith, e))
too_deep E (suc k) depths d fs s (inr e) = rw e refl

pub one_deeper : (E : Env) (left depths : ℕ) (d : StructDef) (fs : Fields) (s : State) → 0 < left → 0 < depths
    → write E left depths d fs s ≡ started E (writers (write E (left - 1)) (depths - 1)) d fs s
unfolding write body if_m
one_deeper E zero depths d fs s h g = absurd (omega arith)
one_deeper E (suc k) depths d fs s h g =
    let z : suc k - 1 ≡ k = omega arith in
    let q : eqb depths 0 ≡ false = ne_eqb depths 0 (λ e. omega arith) in
    rw (z, q) refl
