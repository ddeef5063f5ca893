-- The run with fewer definitions follows the run with all, where the definitions that it lacks are none that the first run used: the two runs, what
-- relates them, and the steps that change the state. (docs/REBUILD.md has the argument.)
-- Assumes nothing.
use Rattle.std.specs.Prelude.{Option, Some, None}
use Prim.Native.Nat.{ℕ, ◌+◌, ◌≤◌}
use native.Mathlib.Omega.{arith}
use native.Mathlib.Nat.{add-zero}
use mathlib.Core.Path.{◌≡◌, refl, ◌∙◌, subst}
use mathlib.Core.Logic.{◌⊎◌, inl, inr}
use mathlib.Core.Bool.{Bool, true, false, cond, ◌||◌}
use mathlib.Core.List.{List, []}
use lib.Dec.{eqb, leb}
use lib.ListN.{take-append-drop}
use borrow.Author.Tests.{leb-true, le-leb, eq-eqb}
use Rattle.numbers.specs.Words.{Bytes, over}
use Rattle.value.specs.Rows.{Value}
use Rattle.schema.specs.Defs.{StructDef, Member, Lookup}
use Rattle.layout.specs.State.{Core, State, Env, done, stop, M, Remark, after, bind, opt_m, remark, pay, with_charge, contains, insert, log_start, log_enum, use_struct, use_struct_c, use_enum, use_enum_c, lay_item_c, file, settle, on_core, lay_item}
use Rattle.layout.specs.Members.{says, leaves, need, wrong}
use Rattle.layout.specs.Runs.{elements, run}
use Rattle.layout.specs.Write.{laid_run}
use Rattle.layout.proofs.Keep.{Keeps, Refusable, r_keeps, steps}
use Rattle.layout.proofs.Writers.{Prims, k_need, k_says, k_elements, k_run, k_laid_run}
use Rattle.layout.proofs.CoreOnly.{OkC, Any, allows_any, c_core, c_log_start, c_log_enum, c_use_struct, c_use_enum, core_prims}
use Rattle.layout.proofs.Named.{Named}
use Rattle.layout.proofs.Uses.{contains_insert}
use Rattle.layout.proofs.Follow.{Follows, back, Backs, Sim, Tells, s_bind, s_if_left, s_know, alike}

-- where the smaller of two look-ups lacks a name, the name is not in U
abbrev pub Agree : {A : Type 0} → (ℕ → Option A) → (ℕ → Option A) → List ℕ → Type 0
Agree f f' U = (n : ℕ) → (f' n ≡ f n) ⊎ ((f' n ≡ None) × (contains n U ≡ false))

-- the two answers are the same, or only the first is one
pub data Both {A : Type 0} (U : List ℕ) (n : ℕ) : Option A → Option A → Type 0 where
  alike_both : (o : Option A) → Both U n o o
  first_only : (a : A) → contains n U ≡ false → Both U n (Some a) None

pub both : {A : Type 0} (U : List ℕ) (f f' : ℕ → Option A) → Agree f f' U → (n : ℕ) → Both U n (f n) (f' n)
both {A = A} U f f' g n = go (f n) (f' n) (g n)
  where
    go : (o p : Option A) → (p ≡ o) ⊎ ((p ≡ None) × (contains n U ≡ false)) → Both U n o p
    go o p (inl e) = rw e (alike_both o)
    go None p (inr e) = rw e.0 (alike_both None)
    go (Some a) p (inr e) = rw e.0 (first_only a e.1)

pub over_nil : (buf : Bytes) (off : ℕ) → over buf off [] ≡ buf
unfolding over
over_nil buf off = rw add-zero (take-append-drop off buf)

-- what the two runs share: the core; the follower is charged no more
pub record Rel (s t : State) : Type 0 where
  pub same : s.core ≡ t.core
  pub less : t.charge ≤ s.charge

-- the names used so far are among those of U
pub record In (U c : Core) : Type 0 where
  pub structs : (x : ℕ) → contains x c.structs ≡ true → contains x U.structs ≡ true
  pub enums : (x : ℕ) → contains x c.enums ≡ true → contains x U.enums ≡ true

abbrev pub Inside : Core → State → Type 0
Inside U s = In U s.core

or_left : (a b : Bool) → a ≡ true → (a || b) ≡ true
or_left true b e = refl
or_left false b e = let z : ◌≡◌ {A = ℕ} 0 1 = cc in absurd (omega arith)

or_right : (a b : Bool) → b ≡ true → (a || b) ≡ true
or_right true b e = refl
or_right false b e = e

insert_old : (n x : ℕ) (l : List ℕ) → contains x l ≡ true → contains x (insert n l) ≡ true
insert_old n x l e = contains_insert x n l ∙ or_left (contains x l) (eqb n x) e

insert_new : (n : ℕ) (l : List ℕ) → contains n (insert n l) ≡ true
insert_new n l = contains_insert n n l ∙ or_right (contains n l) (eqb n n) (eq-eqb n n refl)

-- two runs on one sheet: the first has the definitions of `first`, the second has `defs`, which lack none of the used names, and no smaller cap
pub record Fewer : Type 0 where
  pub first : Env
  pub named : Named first.defs
  pub defs : Lookup
  pub cap : ℕ
  pub larger : first.charge_cap ≤ cap
  pub used : Core
  pub structs_agree : Agree first.defs.struct defs.struct used.structs
  pub enums_agree : Agree first.defs.enum defs.enum used.enums

-- the same sheet, fewer definitions, no smaller cap
abbrev pub second : Fewer → Env
second R = record { sheet = R.first.sheet; defs = R.defs; charge_cap = R.cap }

module _ (R : Fewer) where
  abbrev E : Env
  E = R.first

  abbrev E' : Env
  E' = second R

  abbrev L' : Lookup
  L' = R.defs

  abbrev U : Core
  U = R.used

  abbrev D : State → Type 0
  D = Inside U

  pub s_lookup : {A : Type 0} (x : ℕ) (z z' : M A) (f f' : StructDef → M A) → Sim Rel D z z'
      → ((d : StructDef) → E.defs.struct x ≡ Some d → L'.struct x ≡ Some d → Sim Rel D (f d) (f' d))
      → ((d : StructDef) → E.defs.struct x ≡ Some d → contains x U.structs ≡ false → Sim Rel D (f d) z')
      → Sim Rel D (opt_m (E.defs.struct x) z f) (opt_m (L'.struct x) z' f')
  unfolding opt_m
  s_lookup {A = A} x z z' f f' hz hf ha =
      go (E.defs.struct x) (L'.struct x) (both U.structs E.defs.struct L'.struct R.structs_agree x) refl refl
    where
      go : (o p : Option StructDef) → Both U.structs x o p → E.defs.struct x ≡ o → L'.struct x ≡ p → Sim Rel D (opt_m o z f) (opt_m p z' f')
      go o p (alike_both None) e e' = hz
      go o p (alike_both (Some d)) e e' = hf d e e'
      go o p (first_only d a) e e' = ha d e a

  -- uses only grow

  in_struct : (s₀ : State) (n : ℕ) (c : Core) → (In U c → D s₀) → OkC (λ c. In U c → D s₀) (use_struct_c n c)
  unfolding use_struct_c
  in_struct s₀ n c q u = q (record { structs = λ x h. u.structs x (insert_old n x c.structs h); enums = u.enums })

  in_enum : (s₀ : State) (n : ℕ) (c : Core) → (In U c → D s₀) → OkC (λ c. In U c → D s₀) (use_enum_c n c)
  unfolding use_enum_c
  in_enum s₀ n c q u = q (record { structs = u.structs; enums = λ x h. u.enums x (insert_old n x c.enums h) })

  pub prims : (s₀ : State) → Prims E (back D s₀)
  unfolding file
  prims s₀ =
      core_prims Any (λ c. In U c → D s₀) E (allows_any E) (λ d c k q. in_struct s₀ d.name c q) (λ n c e q. in_enum s₀ n c q)
      (λ alone n bs c v a b q u. q (record { structs = u.structs; enums = u.enums }))

  -- what held at the end held before

  pub b_refusable : (s₀ : State) → Refusable (back D s₀)
  b_refusable s₀ n s x y p = tt

  pub b_pay : (s₀ : State) (n : ℕ) → Keeps (back D s₀) (pay E n)
  b_pay s₀ n = (prims s₀).pay_keeps n

  pub b_add : (alone : Bool) (s₀ : State) (n : ℕ) (bs : Bytes) → Keeps (back D s₀) (lay_item alone n bs)
  b_add alone s₀ n bs = (prims s₀).add_keeps alone n bs tt

  pub b_says : (s₀ : State) (d : StructDef) (e : Member) (kind detail : ℕ) → Keeps (back D s₀) (says d e kind detail)
  b_says s₀ = k_says E (back D s₀) (prims s₀)

  pub b_need : (s₀ : State) (d : StructDef) (e : Member) (n : ℕ) (buf : Bytes) (m : M Bytes) → Keeps (back D s₀) m → Keeps (back D s₀) (need d e n buf m)
  b_need s₀ = k_need E (back D s₀) (prims s₀)

  pub b_use_struct : (s₀ : State) (n : ℕ) → Keeps (back D s₀) (use_struct n)
  b_use_struct s₀ n = c_use_struct Any (λ c. In U c → D s₀) n (in_struct s₀ n)

  pub b_use_enum : (s₀ : State) (n : ℕ) → Keeps (back D s₀) (use_enum n)
  b_use_enum s₀ n = c_use_enum Any (λ c. In U c → D s₀) n (in_enum s₀ n)

  pub b_elements : (s₀ : State) {X : Type 0} (f : X → M (Option Bytes)) (xs : List X) → ((x : X) → Keeps (back D s₀) (f x)) → Keeps (back D s₀) (elements f xs)
  b_elements s₀ = k_elements E (back D s₀) (prims s₀)

  pub b_run : (s₀ : State) {X : Type 0} (stride block : ℕ) (f : X → M (Option Bytes)) (xs : List X) → ((x : X) → Keeps (back D s₀) (f x)) → Keeps (back D s₀) (run E stride block f xs)
  b_run s₀ stride block f xs h = r_keeps (back D s₀) _ (k_run E (back D s₀) (prims s₀) stride block f xs tt h)

  pub b_laid_run : (s₀ : State) {X : Type 0} (stride block : ℕ) (f : X → M (Option Bytes)) (xs : List X) (n off : ℕ) (buf : Bytes) → ((x : X) → Keeps (back D s₀) (f x))
      → Keeps (back D s₀) (laid_run (run E stride block f xs) n off buf)
  b_laid_run s₀ stride block f xs n off buf h = k_laid_run E (back D s₀) (prims s₀) _ n off buf (k_run E (back D s₀) (prims s₀) stride block f xs tt h)

  -- the primitive actions

  pub s_remark : (q r : Remark) → Sim Rel D (remark q) (remark r)
  unfolding remark
  s_remark q r = record { backs = λ s₀. (prims s₀).remark_keeps q; follows = λ s t h u. (refl, record { same = h.same; less = h.less }) }

  pub s_pay : (n : ℕ) → Sim Rel D (pay E n) (pay E' n)
  unfolding pay
  s_pay n = record { backs = λ s₀. (prims s₀).pay_keeps n; follows = λ s t h. go s t h (leb (s.charge + n) E.charge_cap) refl }
    where
      go : (s t : State) → Rel s t → (b : Bool) → leb (s.charge + n) E.charge_cap ≡ b
          → Follows Rel D (cond b (done (tt {0}) (with_charge (s.charge + n) s)) (stop 9 s.events))
          (cond (leb (t.charge + n) R.cap) (done (tt {0}) (with_charge (t.charge + n) t)) (stop 9 t.events))
      go s t h false e = tt
      go s t h true e =
          rw (le-leb (t.charge + n) R.cap (omega (arith, h.less, R.larger, leb-true (s.charge + n) E.charge_cap e)))
          (λ u. (refl, record { same = h.same; less = omega (arith, h.less) }))

  -- the follower pays nothing
  pub s_pay_remark : (n : ℕ) (r : Remark) → Sim Rel D (pay E n) (remark r)
  unfolding pay remark
  s_pay_remark n r = record { backs = λ s₀. (prims s₀).pay_keeps n; follows = λ s t h. go s t h (leb (s.charge + n) E.charge_cap) }
    where
      go : (s t : State) → Rel s t → (b : Bool)
          → Follows Rel D (cond b (done (tt {0}) (with_charge (s.charge + n) s)) (stop 9 s.events)) (remark r t)
      go s t h false = tt
      go s t h true = λ u. (refl, record { same = h.same; less = omega (arith, h.less) })

  pub s_core : {A : Type 0} (f : Core → Option (A × Core)) (e : ℕ) → Backs D (on_core f e) → Sim Rel D (on_core f e) (on_core f e)
  unfolding on_core settle
  s_core {A = A} f e b =
      record { backs = b; follows = λ s t h. subst (λ c. Follows Rel D (settle s e (f s.core)) (settle t e (f c))) h.same (go s t h (f s.core)) }
    where
      go : (s t : State) → Rel s t → (o : Option (A × Core)) → Follows Rel D (settle s e o) (settle t e o)
      go s t h None = tt
      go s t h (Some r) = λ u. (refl, record { same = refl; less = h.less })

  -- the log of uses is not related
  pub s_log_start : (n : ℕ) → Sim Rel D (log_start n) (log_start n)
  unfolding log_start
  s_log_start n = record { backs = λ s₀. c_log_start Any (λ c. In U c → D s₀) n; follows = λ s t h u. (refl, record { same = h.same; less = h.less }) }

  pub s_log_enum : (n : ℕ) → Sim Rel D (log_enum n) (log_enum n)
  unfolding log_enum
  s_log_enum n = record { backs = λ s₀. c_log_enum Any (λ c. In U c → D s₀) n; follows = λ s t h u. (refl, record { same = h.same; less = h.less }) }

  pub s_use_struct : (n : ℕ) → Sim Rel D (use_struct n) (use_struct n)
  unfolding use_struct
  s_use_struct n = s_bind Rel D _ _ _ _ (s_log_start n) (λ u. s_core (use_struct_c n) 0 (λ s₀. c_core Any (λ c. In U c → D s₀) (use_struct_c n) 0 (in_struct s₀ n)))

  pub s_use_enum : (n : ℕ) → Sim Rel D (use_enum n) (use_enum n)
  unfolding use_enum
  s_use_enum n = s_bind Rel D _ _ _ _ (s_log_enum n) (λ u. s_core (use_enum_c n) 0 (λ s₀. c_core Any (λ c. In U c → D s₀) (use_enum_c n) 0 (in_enum s₀ n)))

  pub s_add : (alone : Bool) (n : ℕ) (bs : Bytes) → Sim Rel D (lay_item alone n bs) (lay_item alone n bs)
  unfolding lay_item
  s_add alone n bs = s_core (lay_item_c alone n bs) 10 (λ s₀. (prims s₀).add_keeps alone n bs tt)

  -- a name outside U is used: then U is not the end's
  pub t_use_struct : (n : ℕ) → contains n U.structs ≡ false → Tells D ⊥ (use_struct n)
  unfolding Tells use_struct bind after log_start on_core settle use_struct_c
  t_use_struct n a s = λ u. let e : contains n U.structs ≡ true = u.structs n (insert_new n s.core.structs) in let z : ◌≡◌ {A = ℕ} 0 1 = cc in omega arith

  pub t_use_enum : (n : ℕ) → contains n U.enums ≡ false → Tells D ⊥ (use_enum n)
  unfolding Tells use_enum bind after log_enum on_core settle use_enum_c
  t_use_enum n a s = λ u. let e : contains n U.enums ≡ true = u.enums n (insert_new n s.core.enums) in let z : ◌≡◌ {A = ℕ} 0 1 = cc in omega arith

  -- remarks

  pub s_says : (d d' : StructDef) (e e' : Member) (kind kind' detail detail' : ℕ) → Sim Rel D (says d e kind detail) (says d' e' kind' detail')
  unfolding says
  s_says d d' e e' kind kind' detail detail' = s_remark _ _

  pub s_leaves : (d d' : StructDef) (e e' : Member) (kind kind' detail detail' : ℕ) (buf : Bytes) → Sim Rel D (leaves d e kind detail buf) (leaves d' e' kind' detail' buf)
  unfolding leaves
  s_leaves d d' e e' kind kind' detail detail' buf = search (alike, s_says)

  pub s_need : (d : StructDef) (e : Member) (n : ℕ) (buf : Bytes) (m m' : M Bytes) → Sim Rel D m m' → Sim Rel D (need d e n buf m) (need d e n buf m')
  unfolding need
  s_need d e n buf m m' h = search (alike, s_leaves)

  pub s_wrong : (d : StructDef) (e : Member) (v : Value) (buf : Bytes) → Sim Rel D (wrong d e v buf) (wrong d e v buf)
  unfolding wrong
  s_wrong d e v buf = search (alike, s_leaves)

  -- where the first run uses a name outside U there is nothing to follow
  pub s_lost : {A : Type 0} (m n : M A) → Backs D m → Tells D ⊥ m → Sim Rel D m n
  s_lost m n b t = s_know Rel D ⊥ m n b t (λ k. absurd k)

  pub s_need_lost : (d d' : StructDef) (e e' : Member) (n kind detail : ℕ) (buf : Bytes) (m : M Bytes) → Backs D m → Tells D ⊥ m → Sim Rel D (need d e n buf m) (leaves d' e' kind detail buf)
  unfolding need
  s_need_lost d d' e e' n kind detail buf m b t = s_if_left Rel D _ _ _ _ (s_lost m _ b t) (s_leaves d d' e e' 1 kind d.size detail buf)

-- steps that both runs take
pub ruleset more = (alike, s_pay, s_says, s_leaves, s_need, s_wrong, s_add, s_use_struct, s_use_enum)

-- steps that only add to what is used
pub ruleset held = (steps, b_refusable, b_pay, b_add, b_says, b_need, b_use_struct, b_use_enum)
