-- Runs, element by element, whatever the elements are. No line here names a place of the code. Assumes nothing.
use Rattle.std.specs.Prelude.{Option, Some, None, option_map}
use mathlib.Core.Path.{◌≡◌, refl, sym, ap, subst, ◌∙◌}
use mathlib.Core.Bool.{Bool, true, false}
use mathlib.Core.List.{List, [], ◌∷◌, ◌++◌, append_assoc, append-nil}
use Prim.Native.Nat.{ℕ, zero, suc, ◌+◌, ◌-◌, ◌*◌, ◌≤◌, ◌<◌}
use native.Mathlib.Omega.{arith}
use borrow.Author.Tests.{leb-true}
use native.Mathlib.Nat.{mul-le-mul_left, mul-le-mul_right, mul_assoc}
use lib.Dec.{leb}
use lib.ListN.{length, drop, length-append, drop_of_length-le}
use Rattle.numbers.specs.Words.{Bytes}
use Rattle.value.specs.Rows.{rows_from}
use Rattle.schema.specs.Defs.{Schema}
use Rattle.layout.specs.State.{Remark, State, Env, Out, done, stop, M, after, bind, ret, opt_m, pay, with_charge}
use Rattle.layout.specs.Runs.{Run, elements, run}
use Rattle.area.specs.declared.Round.{Round}
use Rattle.area.specs.declared.Progress.{Progress}
use Rattle.area.specs.Area.{stack_at, Rep, with_top, with_paid, env_of}
use Rattle.area.specs.Posts.{Fell, Safe, Grown, Stopped, Ans, gives, refuses, paid_is}
use Rattle.area.proofs.Reps.{rep_pop}
use Rattle.members.proofs.Slotting.{paid_yes, paid_no, rep_paid, safe_paid}
use Rattle.runs.specs.Posts.{Yields}

-- what the elements so far give stands before what the others give
abbrev pub join_out : Bytes → Out (Option Bytes) → Out (Option Bytes)
join_out b (done o t) = done (option_map (λ (x : Bytes). b ++ x) o) t
join_out b (stop k es) = stop k es

join_nil : (o : Out (Option Bytes)) → o ≡ join_out [] o
join_nil (done None t) = refl
join_nil (done (Some b) t) = refl
join_nil (stop k es) = refl

join_join : (a b : Bytes) (o : Out (Option Bytes)) → join_out a (join_out b o) ≡ join_out (a ++ b) o
join_join a b (done None t) = refl
join_join a b (done (Some x) t) = ap (λ (y : Bytes). done (Some y) t) (sym (append_assoc a b x))
join_join a b (stop k es) = refl

-- x is the i-th of a list, from 0
abbrev pub Ith : {X : Type 0} → X → ℕ → List X → Type 0
Ith x i xs = drop i xs ≡ x ∷ drop (i + 1) xs

module _ {X : Type 0} (f : X → M (Option Bytes)) where
  joined : (b : Bytes) (o : Out (Option Bytes)) → after o (λ p. opt_m p (ret None) λ bs. ret (Some (b ++ bs))) ≡ join_out b o
  unfolding after opt_m ret
  joined b (done None t) = refl
  joined b (done (Some x) t) = refl
  joined b (stop k es) = refl

  elements_some : (x : X) (xs : List X) (b : Bytes) (s t : State) → f x s ≡ done (Some b) t → elements f (x ∷ xs) s ≡ join_out b (elements f xs t)
  unfolding elements bind after opt_m
  elements_some x xs b s t e = rw e (joined b (elements f xs t))

  elements_none : (x : X) (xs : List X) (s t : State) → f x s ≡ done None t → elements f (x ∷ xs) s ≡ done None t
  unfolding elements bind after opt_m ret
  elements_none x xs s t e = rw e refl

  elements_stop : (x : X) (xs : List X) (s : State) (k : ℕ) (es : List Remark) → f x s ≡ stop k es → elements f (x ∷ xs) s ≡ stop k es
  unfolding elements bind after
  elements_stop x xs s k es e = rw e refl

-- i of the elements stand on the stack σ
pub record Along (S : Schema) (R : Round) (n : ℕ) (σ : Bytes) {X : Type 0} (f : X → M (Option Bytes)) (xs : List X) (s : State) (p : Progress) (w : Bytes) (i : ℕ) : Type 0 where
  pub state : State
  pub bytes : Bytes
  pub rep : Rep S R n state (σ ++ bytes) p w
  pub rest : elements f xs s ≡ join_out bytes (elements f (drop i xs) state)

module _ {S : Schema} {R : Round} {n : ℕ} {σ : Bytes} {X : Type 0} {f : X → M (Option Bytes)} {xs : List X} {s : State} {p : Progress} {w : Bytes} where
  pub along_begin : Rep S R n s σ p w → Along S R n σ f xs s p w 0
  along_begin r = record { state = s; bytes = []; rep = rw (append-nil σ) r; rest = join_nil (elements f xs s) }

  pub along_turn : {i : ℕ} {x : X} {b : Bytes} {t : State} {q : Progress} {v : Bytes} (a : Along S R n σ f xs s p w i) → Ith x i xs → f x a.state ≡ done (Some b) t
      → Rep S R n t (σ ++ (a.bytes ++ b)) q v → Along S R n σ f xs s q v (i + 1)
  along_turn {i} {x} {b} {t} a e g r =
      record {
        state = t;
        bytes = a.bytes ++ b;
        rep = r;
        rest =
            a.rest ∙ ap (λ (l : List X). join_out a.bytes (elements f l a.state)) e
            ∙ ap (join_out a.bytes) (elements_some f x (drop (i + 1) xs) b a.state t g) ∙ join_join a.bytes b (elements f (drop (i + 1) xs) t);
      }

  pub along_end : {i : ℕ} (a : Along S R n σ f xs s p w i) → length xs ≤ i → elements f xs s ≡ done (Some a.bytes) a.state
  unfolding elements ret
  along_end {i} a h =
      a.rest ∙ ap (λ (l : List X). join_out a.bytes (elements f l a.state)) (drop_of_length-le xs h)
      ∙ ap (λ (b : Bytes). done (Some b) a.state) (append-nil a.bytes)

  pub along_drop : {i : ℕ} {x : X} {t : State} (a : Along S R n σ f xs s p w i) → Ith x i xs → f x a.state ≡ done None t → elements f xs s ≡ done None t
  along_drop {i} {x} {t} a e g =
      a.rest ∙ ap (λ (l : List X). join_out a.bytes (elements f l a.state)) e
      ∙ ap (join_out a.bytes) (elements_none f x (drop (i + 1) xs) a.state t g)

  pub along_stop : {i : ℕ} {x : X} {k : ℕ} {es : List Remark} (a : Along S R n σ f xs s p w i) → Ith x i xs → f x a.state ≡ stop k es → elements f xs s ≡ stop k es
  along_stop {i} {x} {k} {es} a e g =
      a.rest ∙ ap (λ (l : List X). join_out a.bytes (elements f l a.state)) e
      ∙ ap (join_out a.bytes) (elements_stop f x (drop (i + 1) xs) a.state k es g)

-- the rows of a run

pub length_rows_from : (r n : ℕ) → length (rows_from r n) ≡ n
unfolding rows_from
length_rows_from r zero = refl
length_rows_from r (suc n) = ap suc (length_rows_from (suc r) n)

pub row_ith : (r n i : ℕ) → i < n → Ith (r + i) i (rows_from r n)
unfolding rows_from
row_ith r zero i h = absurd (omega (arith, h))
row_ith r (suc n) zero h = let e : r ≡ r + 0 = omega arith in ap (λ (x : ℕ). x ∷ rows_from (suc r) n) e
row_ith r (suc n) (suc i) h =
    let e : suc r + i ≡ r + suc i = omega arith in
    let g : suc (i + 1) ≡ suc i + 1 = omega arith in
    row_ith (suc r) n i (omega (arith, h)) ∙ ap (λ (x : ℕ). x ∷ drop (i + 1) (rows_from (suc r) n)) e
    ∙ ap (λ (j : ℕ). (r + suc i) ∷ drop j (r ∷ rows_from (suc r) n)) g

-- the charge is paid

-- the charge was enough, and is s's then
pub record Paid (R : Round) (p : Progress) (c : ℕ) (s : Progress) : Type 0 where
  pub enough : leb (p.charge + c) R.cap ≡ true
  pub is : with_paid p (p.charge + c) ≡ s

pub paid_done : (R : Round) (p : Progress) (c d : ℕ) (r : Ans (Unit {0})) (s : Progress) → d ≡ c → r ≡ paid_is R p d → r ≡ gives (tt {0}) s → Paid R p c s
paid_done R p c d r s e g h = let (a, b) = paid_yes R p c r s (g ∙ ap (paid_is R p) e) h in record { enough = a; is = sym b }

pub paid_not : (R : Round) (p : Progress) (c d k : ℕ) (r : Ans (Unit {0})) (q : Progress) → d ≡ c → r ≡ paid_is R p d → r ≡ refuses k q → (leb (p.charge + c) R.cap ≡ false) × (9 ≡ k) × (p ≡ q)
paid_not R p c d k r q e g h = let (a, b, z) = paid_no R p c r k q (g ∙ ap (paid_is R p) e) h in (a, sym b, sym z)

-- there is room for m elements of `stride` bytes
pub record Ready (R : Round) (n stride m : ℕ) (s : Progress) : Type 0 where
  pub safe : Safe R n s
  pub room : s.top + stride * m ≤ stack_at R + s.charge

-- what m elements of `stride` bytes cost
abbrev pub run_cost : ℕ → ℕ → ℕ
run_cost stride m = 16 + stride * m

pub ready : {R : Round} {n : ℕ} {p s : Progress} (stride m : ℕ) → Safe R n p → Paid R p (run_cost stride m) s → Ready R n stride m s
ready {R} {n} {p} stride m h d =
    subst (Ready R n stride m) d.is
    (record { safe = safe_paid R n p (run_cost stride m) h (leb-true (p.charge + run_cost stride m) R.cap d.enough); room = omega (arith, h.stack) })

-- an element is there: its bytes stand on the stack τ
pub record Made (S : Schema) (R : Round) (n : ℕ) (τ : Bytes) (o : Out (Option Bytes)) (q : Progress) (v : Bytes) : Type 0 where
  pub state : State
  pub bytes : Bytes
  pub is : o ≡ done (Some bytes) state
  pub rep : Rep S R n state (τ ++ bytes) q v

-- an element fails: the run is dropped
pub record Fails (S : Schema) (R : Round) (n : ℕ) (τ : Bytes) (o : Out (Option Bytes)) (q : Progress) (v : Bytes) : Type 0 where
  pub state : State
  pub is : o ≡ done None state
  pub rep : Rep S R n state τ q v

-- an element is refused
pub record Halts (S : Schema) (R : Round) (n : ℕ) (k : ℕ) (o : Out (Option Bytes)) (q : Progress) (v : Bytes) : Type 0 where
  pub events : List Remark
  pub is : o ≡ stop k events
  pub stopped : Stopped S R n events q v

-- the elements xs are written from s and w on: i of them are, each with at most `each` remarks that it has not paid for, and the numbers and the area are q and v
pub record Running (known : Schema → Type 0) (R : Round) (n : ℕ) (s : Progress) (w : Bytes) (stride each : ℕ) {X : Type 0} (f : Schema → X → M (Option Bytes)) (xs : List X) (q : Progress) (v : Bytes) (i : ℕ) : Type 0 where
  pub safe : Safe R n q
  pub grown : Grown s 0 (stride * i) (each * i) q
  pub along : (S : Schema) → known S → (t : State) (σ : Bytes) → Rep S R n t σ s w → Along S R n σ (f S) xs t q v i

module _ {X : Type 0} (E : Env) (stride block : ℕ) (f : X → M (Option Bytes)) (xs : List X) where
  abbrev named : Out (Option Bytes) → Out (Option Run)
  named (done o t) = done (option_map (λ (bs : Bytes). record { bytes = bs; block = block }) o) t
  named (stop k es) = stop k es

  named_is : (o : Out (Option Bytes)) → after o (λ o. ret (option_map (λ bs. record { bytes = bs; block = block }) o)) ≡ named o
  unfolding after ret
  named_is (done o t) = refl
  named_is (stop k es) = refl

  -- a run is its elements, where the charge is enough
  run_enough : (m : ℕ) (s : State) → length xs ≡ m → leb (s.charge + run_cost stride m) E.charge_cap ≡ true
      → run E stride block f xs s ≡ named (elements f xs (with_charge (s.charge + run_cost stride m) s))
  unfolding run bind after pay
  run_enough m s l e = rw (l, e) (named_is (elements f xs (with_charge (s.charge + run_cost stride m) s)))

  run_dear : (m : ℕ) (s : State) → length xs ≡ m → leb (s.charge + run_cost stride m) E.charge_cap ≡ false → run E stride block f xs s ≡ stop 9 s.events
  unfolding run bind after pay
  run_dear m s l e = rw (l, e) refl

module _ (known : Schema → Type 0) (R : Round) (n : ℕ) (s : Progress) (w : Bytes) (stride each : ℕ) {X : Type 0} (f : Schema → X → M (Option Bytes)) (xs : List X) where
  -- before the first element
  pub run_begin : Safe R n s → Running known R n s w stride each f xs s w 0
  run_begin h = record {
    safe = h;
    grown = record { more = omega arith; paid = omega arith; top = omega arith; met = omega arith };
    along = λ S k t σ r. along_begin r;
  }

  -- there is room for the next
  pub run_room : {q : Progress} {v : Bytes} {i m : ℕ} → Ready R n stride m s → Running known R n s w stride each f xs q v i → i < m → Safe R n (with_top q (q.top + stride))
  run_room {q} {v} {i} {m} d a l =
      let h = a.safe in
      let b = a.grown in
      let j : stride * (i + 1) ≤ stride * m = mul-le-mul_left stride (omega (arith, l)) in
      record {
        small = h.small;
        room = h.room;
        from = h.from;
        items = h.items;
        low = omega (arith, h.low);
        stack = omega (arith, d.room, b.more, b.paid, b.top, j);
        within = h.within;
        blocks = h.blocks;
        rows = h.rows;
        structs = h.structs;
        enums = h.enums;
        next = h.next;
        seen = h.seen;
      }

  -- one element more
  pub run_turn : {q q' : Progress} {v v' : Bytes} {i : ℕ} (x : X) → Running known R n s w stride each f xs q v i → Ith x i xs → Safe R n q' → Grown q 0 stride each q'
      → ((S : Schema) → known S → (t : State) (τ : Bytes) → Rep S R n t τ q v → Made S R n τ (f S x t) q' v') → Running known R n s w stride each f xs q' v' (i + 1)
  run_turn {q} {q'} {v} {v'} {i} x a e h g d =
      let b = a.grown in
      record {
        safe = h;
        grown = record { more = omega (arith, b.more, g.more); paid = omega (arith, b.paid, g.paid); top = omega (arith, b.top, g.top); met = omega (arith, b.met, g.met) };
        along =
            λ S k t σ r.
            let y = a.along S k t σ r in
            let z = d S k y.state (σ ++ y.bytes) y.rep in
            along_turn y e z.is (rw (← append_assoc) z.rep);
      }

module _ (known : Schema → Type 0) (R : Round) (n : ℕ) (p : Progress) (w : Bytes) (stride each m : ℕ) {X : Type 0} (f : Schema → X → M (Option Bytes)) (xs : List X) (T : Bytes) (block notes : ℕ) (many : length xs ≡ m) (cheap : each ≤ 65536 * stride) where
  abbrev Post : Ans (Option ℕ) → Bytes → Type 0
  Post r v = Yields known R n p w notes (λ S. run (env_of T S R) stride block (f S) xs) r v

  test : {b : Bool} (S : Schema) (t : State) (σ : Bytes) → Rep S R n t σ p w → leb (p.charge + run_cost stride m) R.cap ≡ b → leb (t.charge + run_cost stride m) R.cap ≡ b
  test S t σ r e = ap (λ (c : ℕ). leb (c + run_cost stride m) R.cap) (sym r.charge) ∙ e

  rep_then : {s : Progress} {t : State} {σ : Bytes} (S : Schema) → Paid R p (run_cost stride m) s → Rep S R n t σ p w → Rep S R n (with_charge (t.charge + run_cost stride m) t) σ s w
  rep_then {s} {t} {σ} S d r = subst (λ (q : Progress). Rep S R n (with_charge (t.charge + run_cost stride m) t) σ q w) d.is (rep_paid S R n t σ p w (run_cost stride m) r)

  grown_then : {s q : Progress} {k j : ℕ} → Paid R p (run_cost stride m) s → Grown s 0 k j q → Grown (with_paid p (p.charge + run_cost stride m)) 0 k j q
  grown_then {s} {q} {k} {j} d g = subst (λ (z : Progress). Grown z 0 k j q) (sym d.is) g

  -- the remarks are paid for
  afforded : (i : ℕ) → i ≤ m → each * i ≤ 65536 * (stride * m)
  afforded i h =
      let a : each * i ≤ 65536 * stride * i = mul-le-mul_right i cheap in
      let b : stride * i ≤ stride * m = mul-le-mul_left stride h in
      let c : 65536 * stride * i ≡ 65536 * (stride * i) = mul_assoc 65536 stride i in
      omega (arith, a, b, c)

  -- all are written
  pub run_kept : {s q : Progress} {v : Bytes} {i : ℕ} → Paid R p (run_cost stride m) s → Running known R n s w stride each f xs q v i → i ≡ m → Post (gives (Some block) q) v
  run_kept {s} {q} {v} {i} d a e =
      let b = grown_then d a.grown in
      record {
        grew = (a.safe, omega (arith, b.top), record { more = b.more; paid = omega (arith, b.paid, b.top, ap (λ (j : ℕ). stride * j) e); top = omega (arith, b.top); met = omega (arith, b.met, afforded i (omega (arith, e))) });
        says =
            λ S k t σ r.
            let y = a.along S k (with_charge (t.charge + run_cost stride m) t) σ (rep_then S d r) in
            rw (run_enough (env_of T S R) stride block (f S) xs m t many (test S t σ r d.enough), along_end y (omega (arith, many, e))) (y.rep, refl);
      }

  -- an element fails, and those before it are taken off the stack
  pub run_dropped : {s q q' u : Progress} {v v' v'' : Bytes} {i : ℕ} (x : X) → Safe R n p → Paid R p (run_cost stride m) s → Running known R n s w stride each f xs q v i → i < m → Ith x i xs → Safe R n q'
      → Grown q 0 0 0 q' → ((S : Schema) → known S → (t : State) (τ : Bytes) → Rep S R n t τ q v → Fails S R n τ (f S x t) q' v') → Fell q' p.top v' u v'' → Post (gives None u) v''
  run_dropped {s} {q} {q'} {u} {v} {v'} {v''} {i} x o d a few e h g l y =
      let b = grown_then d a.grown in
      rw (y.number, y.area)
      (record {
        grew = (
          record {
            small = h.small;
            room = h.room;
            from = h.from;
            items = h.items;
            low = o.low;
            stack = omega (arith, o.stack, b.more, b.paid, g.more, g.paid);
            within = h.within;
            blocks = h.blocks;
            rows = h.rows;
            structs = h.structs;
            enums = h.enums;
            next = h.next;
            seen = h.seen;
          },
          record { more = omega (arith, b.more, g.more); paid = omega (arith, b.paid, g.paid); top = omega arith; met = omega (arith, b.met, g.met, afforded i (omega (arith, few))) },
        );
        says =
            λ S k t σ r.
            let y = a.along S k (with_charge (t.charge + run_cost stride m) t) σ (rep_then S d r) in
            let z = l S k y.state (σ ++ y.bytes) y.rep in
            let j : length (σ ++ y.bytes) ≡ length σ + length y.bytes = length-append σ y.bytes in
            rw (run_enough (env_of T S R) stride block (f S) xs m t many (test S t σ r d.enough), along_drop y e z.is)
            (rw (append-nil σ) (rep_pop S R n σ y.bytes (q'.top - p.top) p.top z.rep (omega (arith, h.stack, h.within, h.room)) (omega (arith, r.top, z.rep.top)) (omega (arith, r.top, z.rep.top))), refl);
      })

  -- an element is refused
  pub run_stopped : {s q q' : Progress} {v v' : Bytes} {i k : ℕ} (x : X) → Paid R p (run_cost stride m) s → Running known R n s w stride each f xs q v i → Ith x i xs → Safe R n q'
      → ((S : Schema) → known S → (t : State) (τ : Bytes) → Rep S R n t τ q v → Halts S R n k (f S x t) q' v') → Post (refuses k q') v'
  run_stopped {s} {q} {q'} {v} {v'} {i} {k} x d a e h l = record {
    grew = h;
    says =
        λ S g t σ r.
        let y = a.along S g (with_charge (t.charge + run_cost stride m) t) σ (rep_then S d r) in
        let z = l S g y.state (σ ++ y.bytes) y.rep in
        rw (run_enough (env_of T S R) stride block (f S) xs m t many (test S t σ r d.enough), along_stop y e z.is) (refl, z.stopped);
  }

  -- the charge is not enough
  pub run_too_dear : (c : ℕ) (r : Ans (Unit {0})) (k : ℕ) (q : Progress) → Safe R n p → c ≡ run_cost stride m → r ≡ paid_is R p c → r ≡ refuses k q → Post (refuses k q) w
  run_too_dear c r k q h e g d =
      let z = paid_not R p (run_cost stride m) c k r q e g d in
      rw (← z.1, ← z.2)
      (record {
        grew = h;
        says =
            λ S k t σ r.
            rw (run_dear (env_of T S R) stride block (f S) xs m t many (test S t σ r z.0)) (refl, record { state = t; stack = σ; rep = r; met = refl });
      })
