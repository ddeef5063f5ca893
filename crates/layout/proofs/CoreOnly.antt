-- A property of the core alone is kept by all actions, if the three that change the core keep it.
-- Assumes nothing.
use Rattle.std.specs.Prelude.{Option, Some, None, is_some}
use Prim.Native.Nat.{ℕ, suc, ◌+◌, ◌≤◌}
use mathlib.Core.Path.{◌≡◌, refl}
use mathlib.Core.Bool.{Bool, true, false, cond, ◌&&◌, false≢true}
use lib.Dec.{leb}
use lib.ListN.{length}
use Rattle.numbers.specs.Words.{Bytes}
use Rattle.numbers.specs.Result.{given}
use Rattle.schema.specs.Defs.{StructDef}
use Rattle.layout.specs.State
use Rattle.layout.specs.State.{Core, State, Env, Out, done, stop, Remark, spot, pointer_at, file}
use Rattle.layout.proofs.Keep.{Claim, Okay, Keeps, k_bind}
use Rattle.layout.proofs.Writers.{Defined, Prims}

-- a claim on the core and on the names of blocks
abbrev pub on_core : (ℕ → Type 0) → (Core → Type 0) → Claim
on_core N Q = record { holds = λ s. Q s.core; refused = λ n es. Unit {0}; files = N }

-- items are filed under names that N allows
pub record Allows (E : Env) (N : ℕ → Type 0) : Type 0 where
  pub found : (n : ℕ) (d : StructDef) → E.defs.struct n ≡ Some d → N n
  pub named : (d : StructDef) → Defined E d → N d.name
  pub small : (n : ℕ) → n ≤ 200 → N n

-- any name
abbrev pub Any : ℕ → Type 0
Any n = Unit {0}

pub allows_any : (E : Env) → Allows E Any
allows_any E = record { found = λ n d e. tt; named = λ d k. tt; small = λ n h. tt }

abbrev pub OkC : {A : Type 0} → (Core → Type 0) → Option (A × Core) → Type 0
OkC Q None = Unit {0}
OkC Q (Some r) = Q r.1

given_ok : {A : Type 0} (Q : Core → Type 0) (b : Bool) (r : A × Core) → (b ≡ true → Q r.1) → OkC Q (given b r)
given_ok Q true r q = q refl
given_ok Q false r q = tt

pub both : (a b : Bool) → (a && b) ≡ true → (a ≡ true) × (b ≡ true)
both true b e = (refl, e)
both false b e = absurd (false≢true e)

module _ (N : ℕ → Type 0) (Q : Core → Type 0) where
  settle_ok : {A : Type 0} (s : State) (e : ℕ) (o : Option (A × Core)) → OkC Q o → Okay (on_core N Q) (State.settle s e o)
  unfolding State.settle
  settle_ok s e None q = tt
  settle_ok s e (Some r) q = q

  cond_ok : (b : Bool) (o p : Out (Unit {0})) → Okay (on_core N Q) o → Okay (on_core N Q) p → Okay (on_core N Q) (cond b o p)
  cond_ok true o p ho hp = ho
  cond_ok false o p ho hp = hp

  pub c_remark : (r : Remark) → Keeps (on_core N Q) (State.remark r)
  unfolding Keeps State.remark
  c_remark r s q = q

  pub c_pay : (E : Env) (n : ℕ) → Keeps (on_core N Q) (State.pay E n)
  unfolding Keeps State.pay
  c_pay E n s q = cond_ok (leb (s.charge + n) E.charge_cap) (done tt (State.with_charge (s.charge + n) s)) (stop 9 s.events) q tt

  pub c_core : {A : Type 0} (f : Core → Option (A × Core)) (e : ℕ) → ((c : Core) → Q c → OkC Q (f c)) → Keeps (on_core N Q) (State.on_core f e)
  unfolding Keeps State.on_core
  c_core f e h s q = settle_ok s e (f s.core) (h s.core q)

  pub c_log_start : (n : ℕ) → Keeps (on_core N Q) (State.log_start n)
  unfolding Keeps State.log_start
  c_log_start n s q = q

  pub c_log_enum : (n : ℕ) → Keeps (on_core N Q) (State.log_enum n)
  unfolding Keeps State.log_enum
  c_log_enum n s q = q

  pub c_use_struct : (n : ℕ) → ((c : Core) → Q c → OkC Q (State.use_struct_c n c)) → Keeps (on_core N Q) (State.use_struct n)
  unfolding State.use_struct
  c_use_struct n h = k_bind (on_core N Q) _ _ (c_log_start n) (λ u. c_core (State.use_struct_c n) 0 h)

  pub c_use_enum : (n : ℕ) → ((c : Core) → Q c → OkC Q (State.use_enum_c n c)) → Keeps (on_core N Q) (State.use_enum n)
  unfolding State.use_enum
  c_use_enum n h = k_bind (on_core N Q) _ _ (c_log_enum n) (λ u. c_core (State.use_enum_c n) 0 h)

  -- the item goes to a block that has a number, at a start that has a place in a pointer
  pub lay_item_c_ok : (alone : Bool) (n : ℕ) (bs : Bytes) (c : Core)
      → (leb (suc (spot alone n (length bs) c.blocks).before) 4095 ≡ true → leb (spot alone n (length bs) c.blocks).start 0xFFFFF ≡ true
      → Q (file bs (pointer_at (spot alone n (length bs) c.blocks)) c (spot alone n (length bs) c.blocks)))
      → OkC Q (State.lay_item_c alone n bs c)
  unfolding State.lay_item_c
  lay_item_c_ok alone n bs c q =
      let p = spot alone n (length bs) c.blocks in
      given_ok {A = ℕ} Q (leb (suc p.before) 4095 && leb p.start 0xFFFFF) (pointer_at p, file bs (pointer_at p) c p)
      (λ e. let t : (leb (suc p.before) 4095 ≡ true) × (leb p.start 0xFFFFF ≡ true) = both _ _ e in q t.0 t.1)

  pub core_prims : (E : Env) → Allows E N → ((d : StructDef) (c : Core) → Defined E d → Q c → OkC Q (State.use_struct_c d.name c))
      → ((n : ℕ) (c : Core) → is_some (E.defs.enum n) ≡ true → Q c → OkC Q (State.use_enum_c n c))
      → ((alone : Bool) (n : ℕ) (bs : Bytes) (c : Core) → N n
      → leb (suc (spot alone n (length bs) c.blocks).before) 4095 ≡ true → leb (spot alone n (length bs) c.blocks).start 0xFFFFF ≡ true
      → Q c → Q (file bs (pointer_at (spot alone n (length bs) c.blocks)) c (spot alone n (length bs) c.blocks)))
      → Prims E (on_core N Q)
  unfolding State.lay_item
  core_prims E al hs hu ha =
      record {
        starts = Defined E;
        refusable = λ n s x y q. tt;
        remark_keeps = c_remark;
        pay_keeps = c_pay E;
        struct_keeps = λ d k. c_use_struct d.name (λ c q. hs d c k q);
        enum_keeps = λ n e. c_use_enum n (λ c q. hu n c e q);
        add_keeps = λ alone n bs u. c_core (State.lay_item_c alone n bs) 10 (λ c q. lay_item_c_ok alone n bs c (λ a b. ha alone n bs c u a b q));
        found = λ n d e. ((n, e), al.found n d e);
        named = al.named;
        small = al.small;
      }
