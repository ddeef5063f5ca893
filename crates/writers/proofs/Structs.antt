-- A structure from its start to its end: what `write_struct` has at each of its places. Assumes nothing.
use Rattle.std.specs.Prelude.{Some, is_some}
use mathlib.Core.Path.{◌≡◌, refl, sym, ap}
use mathlib.Core.Bool.{true}
use mathlib.Core.List.{◌++◌}
use mathlib.Core.Logic.{◌⊎◌}
use Prim.Native.Nat.{ℕ, ◌+◌, ◌-◌, ◌*◌, ◌≤◌, ◌<◌}
use native.Mathlib.Omega.{arith}
use borrow.Author.Tests.{leb-true, eq-eqb, ne_eqb}
use lib.Dec.{leb}
use lib.ListN.{length-replicate}
use Rattle.numbers.specs.Words.{Bytes, zeros}
use Rattle.numbers.specs.Result.{nth}
use Rattle.value.specs.Rows.{Value, Fields, field_named}
use Rattle.schema.specs.Defs.{Schema, winning}
use Rattle.definitions.specs.declared.members.Member as coded
use Rattle.layout.specs.State.{State, with_charge}
use Rattle.layout.specs.Kinds.{kind_of}
use Rattle.layout.specs.Write.{ARRAYINFO, member}
use Rattle.area.specs.declared.Round.{Round}
use Rattle.area.specs.declared.Progress.{Progress}
use Rattle.area.specs.Area.{Rep, stack_at, with_paid, with_top, started_in, env_of}
use Rattle.area.specs.Posts.{paid_is, Safe, Grown, Marks, gives, refuses}
use Rattle.area.proofs.Reps.{rep_push}
use Rattle.cells.specs.declared.defs.Def.{Def}
use Rattle.cells.specs.Names.{def_of, member_of}
use Rattle.members.specs.Posts.{Fills}
use Rattle.members.proofs.Slotting.{paid_yes, paid_no, rep_paid}
use Rattle.choices.proofs.Nths.{count_members}
use Rattle.writers.specs.Posts.{Of, Named, inner, below, Pushes}
use Rattle.writers.proofs.Starting.{Going, begin, skip, turn, turn_refused, finish, started_is, started_dear, too_deep, one_deeper}

-- from before a structure to before its first member
pub record Entered (F : Bytes) (R : Round) (n : ℕ) (p : Progress) (w : Bytes) (d : Def) (q : Progress) (w' : Bytes) : Type 0 where
  pub paid : leb (p.charge + (16 + d.size)) R.cap ≡ true
  pub end : q.end ≡ p.end
  pub top : q.top ≡ p.top + d.size
  pub charge : q.charge ≡ p.charge + (16 + d.size)
  pub seen : q.seen ≡ p.seen
  pub safe : Safe R n q
  pub says : (S : Schema) → Named F d S → (s : State) (σ : Bytes) → Rep S R n s σ p w
      → Rep S R n (started_in d.name (with_charge (s.charge + (16 + d.size)) s)) (σ ++ zeros d.size) q w'

pub entered : (F : Bytes) (R : Round) (n : ℕ) (p : Progress) (w : Bytes) (d : Def) (s q : Progress) (w' : Bytes) → Safe R n p → paid_is R p (16 + d.size) ≡ gives (tt {0}) s
    → Marks R n s w (λ S. is_some ((winning S).struct d.name)) (started_in d.name) q w' → Entered F R n p w d (with_top q (q.top + d.size)) w'
entered F R n p w d s q w' safe e m =
    let (f, g) = paid_yes R p (16 + d.size) (gives (tt {0}) s) s (sym e) refl in
    go s g f m
  where
    go : (s : Progress) → s ≡ with_paid p (p.charge + (16 + d.size)) → leb (p.charge + (16 + d.size)) R.cap ≡ true
        → Marks R n s w (λ S. is_some ((winning S).struct d.name)) (started_in d.name) q w' → Entered F R n p w d (with_top q (q.top + d.size)) w'
    go s g f m =
        let h : p.charge + (16 + d.size) ≤ R.cap = leb-true _ _ f in
        let m : Marks R n (with_paid p (p.charge + (16 + d.size))) w (λ S. is_some ((winning S).struct d.name)) (started_in d.name) q w' = rw (← g) m in
        record {
          paid = f;
          end = m.end;
          top = ap (λ (x : ℕ). x + d.size) m.top;
          charge = m.charge;
          seen = m.seen;
          safe =
              record {
                small = safe.small;
                room = safe.room;
                from = omega (arith, m.end, safe.from);
                items = omega (arith, m.end, m.charge, safe.items);
                low = omega (arith, m.top, safe.low);
                stack = omega (arith, m.top, m.charge, safe.stack);
                within = omega (arith, m.charge);
                blocks = omega (arith, m.blocks, safe.blocks);
                rows = omega (arith, m.rows, safe.rows);
                structs = m.structs;
                enums = m.enums;
                next = omega (arith, m.next, m.seen, safe.next);
                seen = omega (arith, m.seen, m.charge, safe.seen);
              };
          says = λ S k s σ r.
              rep_push S R n d.size (m.says S (with_charge (s.charge + (16 + d.size)) s) σ (there S k) (rep_paid S R n s σ p w (16 + d.size) r)) (omega (arith, m.top, safe.stack, safe.room, safe.within));
        }
      where
        there : (S : Schema) → Named F d S → is_some ((winning S).struct d.name) ≡ true
        there S k = rw k.winner refl

-- k members are written of a structure that starts with `left` and `depths` left: its members have one less of each
pub record Writing (F T : Bytes) (R : Round) (n left depths : ℕ) (d : Def) (fs : Fields) (q₀ : Progress) (w₀ : Bytes) (q : Progress) (w : Bytes) (k : ℕ) : Type 0 where
  pub few : k ≤ d.count
  pub safe : Safe R n q
  pub grown : Grown q₀ 0 0 k q
  pub spare : q₀.seen + 65536 * 16 ≤ 65536 * q₀.charge
  pub low : stack_at R + d.size ≤ q₀.top
  pub says : (S : Schema) → Named F d S → (s : State) (σ : Bytes) → Rep S R n s (σ ++ zeros d.size) q₀ w₀
      → Going S R n (env_of T S R) (below T R (left - 1) (depths - 1) S) (def_of F d) fs σ s q w k

-- before the first
pub writing_begin : (F T : Bytes) (R : Round) (n left depths : ℕ) (d : Def) (fs : Fields) (p : Progress) (w : Bytes) (q : Progress) (w' : Bytes) → Safe R n p → Entered F R n p w d q w'
    → Writing F T R n left depths d fs q w' q w' 0
unfolding def_of
writing_begin F T R n left depths d fs p w q w' safe e =
    record {
      few = omega arith;
      safe = e.safe;
      grown = record { more = omega arith; paid = omega arith; top = omega arith; met = omega arith };
      spare = omega (arith, e.seen, e.charge, safe.seen);
      low = omega (arith, e.top, safe.low);
      says = λ S k s σ r. begin S R n (env_of T S R) (below T R (left - 1) (depths - 1) S) (def_of F d) fs σ s q w' (length-replicate d.size 0) r;
    }

module _ (F T : Bytes) (R : Round) (n left depths : ℕ) (d : Def) (fs : Fields) (q₀ : Progress) (w₀ : Bytes) (q : Progress) (w : Bytes) (k : ℕ) (on : Writing F T R n left depths d fs q₀ w₀ q w k) where
  -- the next is ARRAYINFO
  pub writing_skip : (m : coded.Member) → k < d.count → nth (def_of F d).members k ≡ Some (member_of m) → m.name ≡ 0x100 → Writing F T R n left depths d fs q₀ w₀ q w (k + 1)
  writing_skip m h e f =
      record {
        few = omega arith;
        safe = on.safe;
        grown = record { more = on.grown.more; paid = on.grown.paid; top = on.grown.top; met = omega (arith, on.grown.met) };
        spare = on.spare;
        low = on.low;
        says = λ S a s σ r. skip S R n (env_of T S R) (below T R (left - 1) (depths - 1) S) (def_of F d) fs σ s q w k (member_of m) e (eq-eqb m.name ARRAYINFO f) (on.says S a s σ r);
      }

  module _ (m : coded.Member) (v : Value) (h : k < d.count) (e : nth (def_of F d).members k ≡ Some (member_of m)) (f : m.name ≡ 0x100 → ⊥) (g : v ≡ field_named m.name fs) where
    found : field_named m.name fs ≡ v
    found = sym g

    -- the next is written
    pub writing_turn : (t : Progress) (w' : Bytes)
        → Fills (Of F) R n q w d.size (λ S buf. member (env_of T S R) (below T R (left - 1) (depths - 1) S) (def_of F d) (member_of m) (kind_of m.kind) v buf) (gives (tt {0}) t) w'
        → Writing F T R n left depths d fs q₀ w₀ t w' (k + 1)
    unfolding def_of
    writing_turn t w' x =
        let y = x.grew.1 in
        record {
          few = omega arith;
          safe = x.grew.0;
          grown =
              record {
                more = omega (arith, on.grown.more, y.more);
                paid = omega (arith, on.grown.paid, y.paid);
                top = omega (arith, on.grown.top, y.top);
                met = omega (arith, on.grown.met, y.met);
              };
          spare = on.spare;
          low = on.low;
          says = λ S a s σ r.
              let o = on.says S a s σ r in
              turn S R n (env_of T S R) (below T R (left - 1) (depths - 1) S) (def_of F d) fs σ s q t w w' k (member_of m) v e (ne_eqb m.name ARRAYINFO f) found o
              (x.says S a.of o.state σ o.buf o.len o.rep);
        }

    module _ (p : Progress) (w₁ : Bytes) (safe : Safe R n p) (some_left : 0 < left) (shallow : 0 < depths) (into : Entered F R n p w₁ d q₀ w₀) where
      -- the next is refused
      pub writing_refused : (a : ℕ) (t : Progress) (w' : Bytes)
          → Fills (Of F) R n q w d.size (λ S buf. member (env_of T S R) (below T R (left - 1) (depths - 1) S) (def_of F d) (member_of m) (kind_of m.kind) v buf) (refuses a t) w'
          → Pushes (Named F d) R n p w₁ d.size (λ S. inner T R left depths S (def_of F d) fs) (refuses a t) w'
      unfolding def_of
      writing_refused a t w' x =
          record {
            grew = x.grew;
            says = λ S b s σ r.
                let o = on.says S b (started_in d.name (with_charge (s.charge + (16 + d.size)) s)) σ (into.says S b s σ r) in
                rw (one_deeper (env_of T S R) left depths (def_of F d) fs s some_left shallow, started_is (env_of T S R) (below T R (left - 1) (depths - 1) S) (def_of F d) fs s (rw (← r.charge) into.paid))
                (turn_refused S R n (env_of T S R) (below T R (left - 1) (depths - 1) S) (def_of F d) fs σ (started_in d.name (with_charge (s.charge + (16 + d.size)) s)) q t w w' k a (member_of m) v e
                (ne_eqb m.name ARRAYINFO f) found o (x.says S b.of o.state σ o.buf o.len o.rep));
          }

  -- all are written
  pub writing_done : (p : Progress) (w₁ : Bytes) → Safe R n p → 0 < left → 0 < depths → Entered F R n p w₁ d q₀ w₀ → d.count ≤ k → d.count < 65536
      → Pushes (Named F d) R n p w₁ d.size (λ S. inner T R left depths S (def_of F d) fs) (gives (tt {0}) q) w
  unfolding def_of
  writing_done p w₁ safe some_left shallow into h small =
      record {
        grew = (
          on.safe,
          record {
            grown =
                record {
                  more = omega (arith, into.end, on.grown.more);
                  paid = omega (arith, into.end, into.charge, on.grown.paid);
                  top = omega (arith, into.top, on.grown.top);
                  met = omega (arith, into.seen, into.charge, on.grown.met, on.few);
                };
            spare = omega (arith, into.seen, into.charge, on.grown.met, on.few);
          },
        );
        says = λ S b s σ r.
            let o = on.says S b (started_in d.name (with_charge (s.charge + (16 + d.size)) s)) σ (into.says S b s σ r) in
            rw (one_deeper (env_of T S R) left depths (def_of F d) fs s some_left shallow, started_is (env_of T S R) (below T R (left - 1) (depths - 1) S) (def_of F d) fs s (rw (← r.charge) into.paid))
            (finish S R n (env_of T S R) (below T R (left - 1) (depths - 1) S) (def_of F d) fs σ (started_in d.name (with_charge (s.charge + (16 + d.size)) s)) q w k (rw (count_members F d) h) o);
      }

-- 8
pub struct_deep : (F T : Bytes) (R : Round) (n : ℕ) (d : Def) (fs : Fields) (p : Progress) (w : Bytes) (left depths : ℕ) → Safe R n p → (left ≡ 0) ⊎ (depths ≡ 0)
    → Pushes (Named F d) R n p w d.size (λ S. inner T R left depths S (def_of F d) fs) (refuses 8 p) w
struct_deep F T R n d fs p w left depths safe e =
    record {
      grew = safe;
      says = λ S b s σ r. rw (too_deep (env_of T S R) left depths (def_of F d) fs s e) (refl, record { state = s; stack = σ; rep = r; met = refl });
    }

-- 9
pub struct_dear : (F T : Bytes) (R : Round) (n : ℕ) (d : Def) (fs : Fields) (p : Progress) (w : Bytes) (left depths k : ℕ) (t : Progress) → Safe R n p → 0 < left → 0 < depths → paid_is R p (16 + d.size) ≡ refuses k t
    → Pushes (Named F d) R n p w d.size (λ S. inner T R left depths S (def_of F d) fs) (refuses k t) w
unfolding def_of
struct_dear F T R n d fs p w left depths k t safe some_left shallow e =
    let (f, g, h) = paid_no R p (16 + d.size) (refuses k t) k t (sym e) refl in
    rw (g, h)
    (record {
      grew = safe;
      says = λ S b s σ r.
          rw (one_deeper (env_of T S R) left depths (def_of F d) fs s some_left shallow, started_dear (env_of T S R) (below T R (left - 1) (depths - 1) S) (def_of F d) fs s (rw (← r.charge) f))
          (refl, record { state = s; stack = σ; rep = r; met = refl });
    })
