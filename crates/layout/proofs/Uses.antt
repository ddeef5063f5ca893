-- The file carries each used definition exactly once, as the schema's winning one, and no other.
-- Assumes nothing.
use Rattle.std.specs.Prelude.{Option, Some, None, is_some}
use Prim.Native.Nat.{ℕ, suc, ◌+◌}
use native.Mathlib.Omega.{arith}
use mathlib.Core.Path.{◌≡◌, refl, sym, ◌∙◌, ap}
use mathlib.Core.Bool.{Bool, true, false, cond, ◌&&◌, ◌||◌, false≢true}
use mathlib.Core.List.{List, [], ◌∷◌, ◌++◌, map}
use lib.Dec.{eqb, leb}
use lib.ListN.{length}
use borrow.Author.Tests.{eqb-true, eq-eqb}
use Rattle.numbers.specs.Result.{given, Every}
use Rattle.numbers.specs.Words.{Bytes}
use Rattle.schema.specs.Defs.{struct_name, enum_name, winning}
use Rattle.layout.specs.State.{State, Env, Spot, spot, pointer_at, done, stop, bind, after, remark, pay, with_charge, contains, insert, log_start, log_enum, use_struct, use_struct_c, use_enum, use_enum_c, lay_item_c, file, settle, lay_item}
use Rattle.layout.specs.State.{on_core as changes}
use Rattle.layout.specs.Assemble.{found, cons_option, used_of}
use Rattle.layout.specs.Build.{Laid}
use Rattle.layout.specs.Demand3.{count, tally, CarriesUsed}
use Rattle.layout.specs.Always.{Once, Known}
use Rattle.layout.proofs.Keep.{always, Okay, Keeps}
use Rattle.layout.proofs.Writers.{Defined, Prims}
use Rattle.layout.proofs.CoreOnly.{Any, allows_any, on_core, core_prims}
use Rattle.layout.proofs.Named.{Named, named_winning}
use Rattle.layout.proofs.Made.{Made, env_of, reached}

count_snoc : (x y : ℕ) (l : List ℕ) → count x (l ++ (y ∷ [])) ≡ count x l + tally (eqb y x)
unfolding count
count_snoc x y [] = omega arith
count_snoc x y (z ∷ l) = omega (arith, count_snoc x y l)

contains_snoc : (x y : ℕ) (l : List ℕ) → contains x (l ++ (y ∷ [])) ≡ (contains x l || eqb y x)
unfolding contains
contains_snoc x y [] = go (eqb y x)
  where
    go : (b : Bool) → cond b true false ≡ b
    go true = refl
    go false = refl
contains_snoc x y (z ∷ l) = go (eqb z x) (contains_snoc x y l)
  where
    go : (b : Bool) → contains x (l ++ (y ∷ [])) ≡ (contains x l || eqb y x) → cond b true (contains x (l ++ (y ∷ []))) ≡ (cond b true (contains x l) || eqb y x)
    go true e = refl
    go false e = e

count_none : (x : ℕ) (l : List ℕ) → contains x l ≡ false → count x l ≡ 0
unfolding contains count
count_none x [] e = refl
count_none x (y ∷ l) e = go (eqb y x) e (count_none x l)
  where
    go : (b : Bool) → cond b true (contains x l) ≡ false → (contains x l ≡ false → count x l ≡ 0) → tally b + count x l ≡ 0
    go true e' ih = let z : ◌≡◌ {A = ℕ} 0 1 = cc in omega arith
    go false e' ih = omega (arith, ih e')

or_no : (a : Bool) → (a || false) ≡ a
or_no true = refl
or_no false = refl

or_case : {P : Type 0} (a b : Bool) → (a || b) ≡ true → (a ≡ true → P) → (b ≡ true → P) → P
or_case true b e f g = f refl
or_case false b e f g = g e

pub contains_insert : (x n : ℕ) (l : List ℕ) → contains x (insert n l) ≡ (contains x l || eqb n x)
unfolding insert
contains_insert x n l = go (contains n l) refl (eqb n x) refl
  where
    go : (a : Bool) → contains n l ≡ a → (b : Bool) → eqb n x ≡ b → contains x (cond a l (l ++ (n ∷ []))) ≡ (contains x l || b)
    go true ea true eb = rw (sym (ap (λ k. contains k l) (eqb-true n x eb)) ∙ ea)
    go true ea false eb = sym (or_no (contains x l))
    go false ea b eb = contains_snoc x n l ∙ ap (λ k. contains x l || k) eb

pub once_insert : (n : ℕ) (l : List ℕ) → Once l → Once (insert n l)
unfolding insert
once_insert n l h x = go (contains n l) refl
  where
    new : contains n l ≡ false → (b : Bool) → eqb n x ≡ b → count x (l ++ (n ∷ [])) ≡ tally (contains x l || b)
    new ea true eb =
        let f : contains x l ≡ false = sym (ap (λ k. contains k l) (eqb-true n x eb)) ∙ ea in
        rw f (omega (arith, count_snoc x n l, ap tally eb, count_none x l f))
    new ea false eb = rw (or_no (contains x l)) (omega (arith, h x, count_snoc x n l, ap tally eb))

    go : (a : Bool) → contains n l ≡ a → count x (cond a l (l ++ (n ∷ []))) ≡ tally (contains x (cond a l (l ++ (n ∷ []))))
    go true ea = h x
    go false ea = rw (contains_snoc x n l) (new ea (eqb n x) refl)

pub known_insert : {A : Type 0} (f : ℕ → Option A) (n : ℕ) (l : List ℕ) → is_some (f n) ≡ true → ((x : ℕ) → contains x l ≡ true → is_some (f x) ≡ true)
    → (x : ℕ) → contains x (insert n l) ≡ true → is_some (f x) ≡ true
known_insert f n l k h x u = or_case (contains x l) (eqb n x) (sym (contains_insert x n l) ∙ u) (h x) (λ v. rw (← (eqb-true n x v)) k)

pub known_prims : (E : Env) → Named E.defs → Prims E (on_core Any (Known E.defs))
unfolding use_struct_c use_enum_c file
known_prims E w =
    core_prims Any (Known E.defs) E (allows_any E)
    (λ d c k q.
    record {
      structs_once = once_insert d.name c.structs q.structs_once;
      enums_once = q.enums_once;
      structs_known = known_insert E.defs.struct d.name c.structs (rw (w.structs k.0 d k.1, k.1)) q.structs_known;
      enums_known = q.enums_known;
    })
    (λ n c e q.
    record {
      structs_once = q.structs_once;
      enums_once = once_insert n c.enums q.enums_once;
      structs_known = q.structs_known;
      enums_known = known_insert E.defs.enum n c.enums e q.enums_known;
    })
    (λ alone n bs c u a b q. record { structs_once = q.structs_once; enums_once = q.enums_once; structs_known = q.structs_known; enums_known = q.enums_known })

-- the names that the file is made from are those that the log has

pub record Logged (s : State) : Type 0 where
  pub structs : (x : ℕ) → contains x s.core.structs ≡ contains x s.uses.started
  pub enums : (x : ℕ) → contains x s.core.enums ≡ contains x s.uses.enums

-- a name entered in a list once, and logged each time
entered : (n : ℕ) (l log : List ℕ) → ((x : ℕ) → contains x l ≡ contains x log) → (x : ℕ) → contains x (insert n l) ≡ contains x (log ++ (n ∷ []))
entered n l log h x = contains_insert x n l ∙ ap (λ b. b || eqb n x) (h x) ∙ sym (contains_snoc x n log)

paid : (s : State) (n : ℕ) (b : Bool) → Logged s → Okay (always Logged) (cond b (done (tt {0}) (with_charge (s.charge + n) s)) (stop 9 s.events))
paid s n true q = record { structs = q.structs; enums = q.enums }
paid s n false q = tt

filed : (alone : Bool) (n : ℕ) (bs : Bytes) (s : State) → Logged s → Okay (always Logged) (lay_item alone n bs s)
unfolding lay_item changes lay_item_c settle file
filed alone n bs s q = go (leb (suc at.before) 4095 && leb at.start 0xFFFFF)
  where
    at : Spot
    at = spot alone n (length bs) s.core.blocks

    go : (b : Bool) → Okay (always Logged) (settle s 10 (given b (pointer_at at, file bs (pointer_at at) s.core at)))
    go true = record { structs = q.structs; enums = q.enums }
    go false = tt

pub logged_prims : (E : Env) → Prims E (always Logged)
unfolding Keeps remark pay use_struct use_enum bind after log_start log_enum changes settle use_struct_c use_enum_c
logged_prims E =
    record {
      starts = Defined E;
      refusable = λ n s x y q. tt;
      remark_keeps = λ r s q. record { structs = q.structs; enums = q.enums };
      pay_keeps = λ n s q. paid s n (leb (s.charge + n) E.charge_cap) q;
      struct_keeps = λ d k s q. record { structs = entered d.name s.core.structs s.uses.started q.structs; enums = q.enums };
      enum_keeps = λ n e s q. record { structs = q.structs; enums = entered n s.core.enums s.uses.enums q.enums };
      add_keeps = λ alone n bs u s q. filed alone n bs s q;
      found = λ n d e. ((n, e), tt);
      named = λ d k. tt;
      small = λ n h. tt;
    }

-- what names stand for

module _ {A : Type 0} (name_of : A → ℕ) (f : ℕ → Option A) (named : (n : ℕ) (d : A) → f n ≡ Some d → name_of d ≡ n) where
  pub names_found : (ns : List ℕ) → ((x : ℕ) → contains x ns ≡ true → is_some (f x) ≡ true) → map name_of (found f ns) ≡ ns
  unfolding found contains
  names_found [] h = refl
  names_found (n ∷ ns) h = go (f n) refl (h n (rw (eq-eqb n n refl))) (names_found ns (λ x e. h x (later (eqb n x) (contains x ns) e)))
    where
      later : (b c : Bool) → c ≡ true → cond b true c ≡ true
      later true c e = refl
      later false c e = e

      go : (o : Option A) → f n ≡ o → is_some o ≡ true → map name_of (found f ns) ≡ ns → map name_of (cons_option o (found f ns)) ≡ n ∷ ns
      go None q i e = let z : ◌≡◌ {A = ℕ} 0 1 = cc in absurd (omega arith)
      go (Some d) q i e = rw (named n d q, e)

  pub defs_found : (ns : List ℕ) → Every (λ d. f (name_of d) ≡ Some d) (found f ns)
  unfolding found
  defs_found [] = tt
  defs_found (n ∷ ns) = go (f n) refl (defs_found ns)
    where
      go : (o : Option A) → f n ≡ o → Every (λ d. f (name_of d) ≡ Some d) (found f ns) → Every (λ d. f (name_of d) ≡ Some d) (cons_option o (found f ns))
      go None q e = e
      go (Some d) q e = (ap f (named n d q) ∙ q, e)

-- of every layout

module _ {alone : Bool} (T S : Bytes) (work : ℕ) (l : Laid) (m : Made alone T S work l) where
  pub known : Known (winning m.schema) l.state.core
  unfolding count contains
  known =
      reached T S work l m (on_core Any (Known (winning m.schema))) (known_prims (env_of T m.schema work) (named_winning m.schema))
      (record { structs_once = λ x. refl; enums_once = λ x. refl; structs_known = λ x u. absurd (false≢true u); enums_known = λ x u. absurd (false≢true u) })

  logged : Logged l.state
  unfolding contains
  logged = reached T S work l m (always Logged) (logged_prims (env_of T m.schema work)) (record { structs = λ x. refl; enums = λ x. refl })

  -- "PSCH has each used definition once, with the members or entries of S's winning one; a structure and an enum of one name are two."
  pub carries_used_law : CarriesUsed (winning m.schema) l.state.uses (used_of (winning m.schema) l.state.core)
  unfolding used_of
  carries_used_law =
      let L = winning m.schema in
      let c = l.state.core in
      let w = named_winning m.schema in
      record {
        structs = λ x. ap (count x) (names_found struct_name L.struct w.structs c.structs known.structs_known) ∙ known.structs_once x ∙ ap tally (logged.structs x);
        enums = λ x. ap (count x) (names_found enum_name L.enum w.enums c.enums known.enums_known) ∙ known.enums_once x ∙ ap tally (logged.enums x);
        struct_defs = defs_found struct_name L.struct w.structs c.structs;
        enum_defs = defs_found enum_name L.enum w.enums c.enums;
      }
