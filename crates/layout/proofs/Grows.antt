-- Events only grow: what an action ends with, be it an answer or a refusal, has the events that it began with and maybe more.
-- So too many remarks at one point of a run are too many at its end, and 14 may be refused on the spot.
-- Assumes nothing.
use Rattle.std.specs.Prelude.{Option, Some, None}
use Prim.Native.Nat.{ℕ, ◌+◌, ◌≤◌, ◌<◌}
use native.Mathlib.Omega.{arith}
use mathlib.Core.Bool.{Bool, true, false, cond}
use mathlib.Core.Path.{◌≡◌, refl, sym, ◌∙◌, ap, subst}
use mathlib.Core.List.{List, [], ◌∷◌, ◌++◌, append-nil, append_assoc}
use lib.Dec.{leb}
use lib.ListN.{length}
use Rattle.value.specs.Rows.{Fields}
use Rattle.schema.specs.Defs.{StructDef}
use Rattle.layout.specs.State.{State, Core, Env, Out, done, stop, M, Remark, after, bind, remarked, noted, thinned, thin, remark, pay, settle, on_core, log_start, log_enum, use_struct, use_struct_c, use_enum, use_enum_c, lay_item_c, with_charge, events_of, lay_item}
use Rattle.layout.specs.Write.{write, root}
use Rattle.layout.proofs.Keep.{Claim, Okay, Keeps}
use Rattle.layout.proofs.Writers.{Prims, k_write, k_root}

-- the events es, then more
pub record Extends (es fs : List Remark) : Type 0 where
  pub further : List Remark
  pub split : es ++ further ≡ fs

unfoldable pub Grows : {A : Type 0} → M A → Type 0
Grows m = (s : State) → Extends s.events (events_of (m s))

pub extends_same : (es : List Remark) → Extends es es
extends_same es = record { further = []; split = append-nil es }

pub extends_then : (es fs gs : List Remark) → Extends es fs → Extends fs gs → Extends es gs
extends_then es fs gs a b =
    record {
      further = a.further ++ b.further;
      split = sym (append_assoc es a.further b.further) ∙ ap (λ l. l ++ b.further) a.split ∙ b.split;
    }

-- the claim that the events are es and more, at an answer and at a refusal
abbrev pub growing : List Remark → Claim
growing es = record { holds = λ s. Extends es s.events; refused = λ n. Extends es; files = λ n. Unit {0} }

paid : (es : List Remark) (s : State) (n : ℕ) (b : Bool) → Extends es s.events → Okay (growing es) (cond b (done (tt {0}) (with_charge (s.charge + n) s)) (stop 9 s.events))
paid es s n true x = x
paid es s n false x = x

settled : {A : Type 0} (es : List Remark) (s : State) (e : ℕ) (o : Option (A × Core)) → Extends es s.events → Okay (growing es) (settle s e o)
unfolding settle
settled es s e None x = x
settled es s e (Some r) x = x

-- every action keeps it
pub grow_prims : (E : Env) (es : List Remark) → Prims E (growing es)
unfolding Keeps remark pay use_struct use_enum lay_item bind after log_start log_enum on_core settle use_struct_c use_enum_c
grow_prims E es =
    record {
      starts = λ d. Unit {0};
      refusable = λ n s a b x. x;
      remark_keeps = λ r s x. extends_then es s.events (s.events ++ (r ∷ [])) x (record { further = r ∷ []; split = refl });
      pay_keeps = λ n s x. paid es s n (leb (s.charge + n) E.charge_cap) x;
      struct_keeps = λ d k s x. x;
      enum_keeps = λ n e s x. x;
      add_keeps = λ alone n bs u s x. settled es s 10 (lay_item_c alone n bs s.core) x;
      found = λ n d e. (tt, tt);
      named = λ d k. tt;
      small = λ n h. tt;
    }

-- a structure of any definition may be started
pub started : (E : Env) (es : List Remark) (d : StructDef) → (grow_prims E es).starts d
unfolding grow_prims
started E es d = tt

-- what keeps that claim grows; with `grow_prims` and the laws of `Writers` this serves every writer
pub grows : {A : Type 0} (m : M A) → ((es : List Remark) → Keeps (growing es) m) → Grows m
unfolding Grows Keeps
grows {A = A} m h s = go (m s) (h s.events s (extends_same s.events))
  where
    go : (o : Out A) → Okay (growing s.events) o → Extends s.events (events_of o)
    go (done a t) x = x
    go (stop n es) x = x

pub g_write : (E : Env) (fuel left : ℕ) (d : StructDef) (fs : Fields) → Grows (write E fuel left d fs)
g_write E fuel left d fs = grows _ (λ es. k_write E (growing es) (grow_prims E es) fuel left d fs (started E es d))

pub g_root : (E : Env) (alone : Bool) (d : StructDef) (fs : Fields) → Grows (root E alone d fs)
g_root E alone d fs = grows _ (λ es. k_root E (growing es) (grow_prims E es) alone d fs (started E es d))

-- thinning

noted_more : (r : Remark) (l : List Remark) → length l ≤ length (noted r l)
unfolding noted
noted_more r l = go (remarked r l)
  where
    snoc : (l : List Remark) → length l ≤ length (l ++ (r ∷ []))
    snoc [] = omega arith
    snoc (q ∷ l) = omega (arith, snoc l)

    go : (b : Bool) → length l ≤ length (cond b l (l ++ (r ∷ [])))
    go true = omega arith
    go false = snoc l

thinned_more : (l fs : List Remark) → length l ≤ length (thinned l fs)
unfolding thinned
thinned_more l [] = omega arith
thinned_more l (r ∷ rs) = omega (arith, noted_more r l, thinned_more (noted r l) rs)

thinned_append : (l es fs : List Remark) → thinned l (es ++ fs) ≡ thinned (thinned l es) fs
unfolding thinned
thinned_append l [] fs = refl
thinned_append l (e ∷ es) fs = thinned_append (noted e l) es fs

-- one remark further
pub thin_snoc : (es : List Remark) (r : Remark) → thin (es ++ (r ∷ [])) ≡ noted r (thin es)
unfolding thin thinned
thin_snoc es r = thinned_append [] es (r ∷ [])

-- more events, no fewer distinct remarks
pub thin_more : (es fs : List Remark) → Extends es fs → length (thin es) ≤ length (thin fs)
unfolding thin
thin_more es fs x =
    let a : length (thinned [] es) ≤ length (thinned (thinned [] es) x.further) = thinned_more (thinned [] es) x.further in
    let e : thinned [] fs ≡ thinned (thinned [] es) x.further = ap (thinned []) (sym x.split) ∙ thinned_append [] es x.further in
    subst (λ l. length (thinned [] es) ≤ length l) (sym e) a

-- too many remarks after m are too many after what follows m
pub too_many : {A B : Type 0} (m : M A) (k : A → M B) → ((a : A) → Grows (k a)) → (records : ℕ) (s : State)
    → records < length (thin (events_of (m s))) → records < length (thin (events_of (bind m k s)))
unfolding bind after Grows
too_many {A = A} m k h records s x =
    let y : length (thin (events_of (m s))) ≤ length (thin (events_of (after (m s) k))) = thin_more (events_of (m s)) (events_of (after (m s) k)) (further (m s)) in
    omega (arith, x, y)
  where
    further : (o : Out A) → Extends (events_of o) (events_of (after o k))
    further (done a t) = h a t
    further (stop n es) = extends_same es
