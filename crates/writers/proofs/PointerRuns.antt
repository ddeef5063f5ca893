-- A run of structures by pointer, element by element: 8 bytes each. Assumes nothing.
use Rattle.std.specs.Prelude.{Option, Some, None, unwrap_or}
use mathlib.Core.Path.{◌≡◌, refl, sym, ap}
use mathlib.Core.Bool.{true, false}
use mathlib.Core.List.{◌++◌}
use Prim.Native.Nat.{ℕ, ◌+◌, ◌*◌, ◌≤◌, ◌<◌}
use native.Mathlib.Omega.{arith}
use borrow.Author.Tests.{eq-eqb, ne_eqb}
use lib.Dec.{eqb}
use lib.ListN.{length-replicate}
use Rattle.numbers.specs.Words.{Bytes, bytes_of, over, zeros}
use Rattle.numbers.proofs.Bytes.{length_bytes}
use Rattle.value.specs.Rows.{row, rows_from, Struct}
use Rattle.schema.specs.Defs.{Schema}
use Rattle.definitions.specs.declared.members.Member as coded
use Rattle.layout.specs.State.{State, M, Out, done, stop, after, bind, ret, if_m}
use Rattle.layout.specs.Members.{put_pointer}
use Rattle.layout.specs.Runs.{run, pointed, pointer_element}
use Rattle.area.specs.declared.Round.{Round}
use Rattle.area.specs.declared.Progress.{Progress}
use Rattle.area.specs.Area.{Rep, with_top, env_of}
use Rattle.area.specs.Posts.{paid_is, Safe, Open, Grown, gives, refuses, Meets, Ans}
use Rattle.area.proofs.Reps.{rep_push, rep_put}
use Rattle.cells.specs.declared.defs.Def.{Def}
use Rattle.cells.specs.Names.{def_of, member_of}
use Rattle.runs.specs.Posts.{Yields}
use Rattle.runs.proofs.Loops.{length_rows_from, row_ith, Paid, Ready, Made, Halts, Running, run_cost, run_begin, run_room, run_turn, run_kept, run_stopped, run_too_dear}
use Rattle.writers.specs.Posts.{Of, deeper, Points}

module _ (F T : Bytes) (R : Round) (n left : ℕ) (d : Def) (m : coded.Member) (reference : ℕ) where
  abbrev pub pointer_of : Schema → ℕ → M (Option Bytes)
  pointer_of S = pointer_element (env_of T S R) (deeper T R left S) (def_of F d) (member_of m) reference

  abbrev aims : ℕ → Schema → M (Option ℕ)
  aims r S = pointed (env_of T S R) (deeper T R left S) (def_of F d) (member_of m) reference (row T r)

  -- what is no Struct leaves its 8 bytes zero
  slot_none : (S : Schema) (r : ℕ) (u : State) → eqb (row T r).kind Struct ≡ false → pointer_of S r u ≡ done (Some (zeros 8)) u
  unfolding pointer_element if_m ret
  slot_none S r u e = rw e refl

  slot_some : (S : Schema) (r : ℕ) (u : State) → eqb (row T r).kind Struct ≡ true
      → pointer_of S r u ≡ after (aims r S u) (λ o. ret (Some (put_pointer (zeros 8) 0 (unwrap_or o 0))))
  unfolding pointer_element if_m bind
  slot_some S r u e = rw e refl

  no_pointer : put_pointer (zeros 8) 0 0 ≡ zeros 8
  unfolding put_pointer over bytes_of
  no_pointer = refl

  module _ (q : Progress) (v : Bytes) (r : ℕ) (room : q.top + 8 ≤ n) where
    slot_empty : ((row T r).kind ≡ 21 → ⊥) → (S : Schema) → Of F S → (u : State) (τ : Bytes) → Rep S R n u τ q v → Made S R n τ (pointer_of S r u) (with_top q (q.top + 8)) v
    slot_empty e S k u τ h = record { state = u; bytes = zeros 8; is = slot_none S r u (ne_eqb (row T r).kind Struct e); rep = rep_push S R n 8 h room }

    slot_nothing : (t : Progress) (v' : Bytes) → (row T r).kind ≡ 21 → Points (Of F) R n (with_top q (q.top + 8)) v (aims r) (gives None t) v'
        → (S : Schema) → Of F S → (u : State) (τ : Bytes) → Rep S R n u τ q v → Made S R n τ (pointer_of S r u) t v'
    unfolding after ret
    slot_nothing t v' e x S k u τ h = rw (slot_some S r u (eq-eqb (row T r).kind Struct e)) (go (aims r S u) (x.says S k u (τ ++ zeros 8) (rep_push S R n 8 h room)))
      where
        go : (o : Out (Option ℕ)) → Meets S R n (λ (y : Option ℕ). τ ++ zeros 8) (λ o x. o ≡ x) o (gives None t) v'
            → Made S R n τ (after o (λ o. ret (Some (put_pointer (zeros 8) 0 (unwrap_or o 0))))) t v'
        go (done o z) y = rw y.1 (record { state = z; bytes = zeros 8; is = ap (λ (b : Bytes). done (Some b) z) no_pointer; rep = y.0 })
        go (stop j es) y = absurd y

    slot_at : (t : Progress) (v' : Bytes) (a : ℕ) → (row T r).kind ≡ 21 → t.top ≡ q.top + 8 → Points (Of F) R n (with_top q (q.top + 8)) v (aims r) (gives (Some a) t) v'
        → (S : Schema) → Of F S → (u : State) (τ : Bytes) → Rep S R n u τ q v → Made S R n τ (pointer_of S r u) t (put_pointer v' q.top a)
    unfolding after ret put_pointer
    slot_at t v' a e top x S k u τ h = rw (slot_some S r u (eq-eqb (row T r).kind Struct e)) (go (aims r S u) (x.says S k u (τ ++ zeros 8) (rep_push S R n 8 h room)))
      where
        go : (o : Out (Option ℕ)) → Meets S R n (λ (y : Option ℕ). τ ++ zeros 8) (λ o x. o ≡ x) o (gives (Some a) t) v'
            → Made S R n τ (after o (λ o. ret (Some (put_pointer (zeros 8) 0 (unwrap_or o 0))))) t (over v' q.top (bytes_of 4 a))
        go (done o z) y =
            rw y.1
            (record {
              state = z;
              bytes = over (zeros 8) 0 (bytes_of 4 a);
              is = refl;
              rep = rep_put S R n τ (zeros 8) (bytes_of 4 a) 0 q.top y.0 (omega (arith, top)) (omega (arith, length_bytes 4 a, length-replicate {A = ℕ} 8 0)) (omega (arith, h.top));
            })
        go (stop j es) y = absurd y

    slot_refused : (t : Progress) (v' : Bytes) (a : ℕ) → (row T r).kind ≡ 21 → Points (Of F) R n (with_top q (q.top + 8)) v (aims r) (refuses a t) v'
        → (S : Schema) → Of F S → (u : State) (τ : Bytes) → Rep S R n u τ q v → Halts S R n a (pointer_of S r u) t v'
    unfolding after ret
    slot_refused t v' a e x S k u τ h = rw (slot_some S r u (eq-eqb (row T r).kind Struct e)) (go (aims r S u) (x.says S k u (τ ++ zeros 8) (rep_push S R n 8 h room)))
      where
        go : (o : Out (Option ℕ)) → Meets S R n (λ (y : Option ℕ). τ ++ zeros 8) (λ o (x : Option ℕ). o ≡ x) o (refuses a t) v'
            → Halts S R n a (after o (λ o. ret (Some (put_pointer (zeros 8) 0 (unwrap_or o 0))))) t v'
        go (done o z) y = absurd y
        go (stop j es) y = record { events = es; is = ap (λ (b : ℕ). stop b es) (sym y.0); stopped = y.1 }

  module _ (first count : ℕ) (s : Progress) (w : Bytes) where
    -- k of the pointers are written
    abbrev pub Pointing : Progress → Bytes → ℕ → Type 0
    Pointing q v k = Running (Of F) R n s w 8 1 pointer_of (rows_from first count) q v k

    pub pointing_begin : Ready R n 8 count s → Pointing s w 0
    pointing_begin h = run_begin (Of F) R n s w 8 1 pointer_of (rows_from first count) h.safe

    module _ (q : Progress) (v : Bytes) (k : ℕ) (h : Ready R n 8 count s) (a : Pointing q v k) (l : k < count) where
      pub pointing_safe : Safe R n (with_top q (q.top + 8))
      pointing_safe = run_room (Of F) R n s w 8 1 pointer_of (rows_from first count) h a l

      room : q.top + 8 ≤ n
      room = omega (arith, pointing_safe.stack, pointing_safe.within, pointing_safe.room)

      pub pointing_open : s.seen + 65536 * (17 + 8 * count) ≤ 65536 * s.charge → Open (with_top q (q.top + 8))
      pointing_open b = omega (arith, a.grown.met, b, l)

      pushed : (t : Progress) (j : ℕ) → j ≤ 1 → Grown (with_top q (q.top + 8)) 0 0 j t → Grown q 0 8 1 t
      pushed t j y g = record { more = g.more; paid = g.paid; top = omega (arith, g.top); met = omega (arith, g.met, y) }

      pub pointing_skip : ((row T (first + k)).kind ≡ 21 → ⊥) → Pointing (with_top q (q.top + 8)) v (k + 1)
      pointing_skip e =
          run_turn (Of F) R n s w 8 1 pointer_of (rows_from first count) (first + k) a (row_ith first count k l) pointing_safe
          (record { more = omega arith; paid = omega arith; top = refl; met = omega arith }) (slot_empty q v (first + k) room e)

      pub pointing_nothing : (t : Progress) (v' : Bytes) → (row T (first + k)).kind ≡ 21 → Points (Of F) R n (with_top q (q.top + 8)) v (aims (first + k)) (gives None t) v' → Pointing t v' (k + 1)
      pointing_nothing t v' e x =
          run_turn (Of F) R n s w 8 1 pointer_of (rows_from first count) (first + k) a (row_ith first count k l) x.grew.0 (pushed t 1 (omega arith) x.grew.1) (slot_nothing q v (first + k) room t v' e x)

      pub pointing_at : (t : Progress) (v' : Bytes) (b : ℕ) → (row T (first + k)).kind ≡ 21 → Points (Of F) R n (with_top q (q.top + 8)) v (aims (first + k)) (gives (Some b) t) v'
          → Pointing t (put_pointer v' q.top b) (k + 1)
      pointing_at t v' b e x =
          run_turn (Of F) R n s w 8 1 pointer_of (rows_from first count) (first + k) a (row_ith first count k l) x.grew.0 (pushed t 0 (omega arith) x.grew.1)
          (slot_at q v (first + k) room t v' b e (omega (arith, x.grew.1.top)) x)

      pub pointing_stopped : (p : Progress) → Paid R p (run_cost 8 count) s → (t : Progress) (v' : Bytes) (b : ℕ) → (row T (first + k)).kind ≡ 21
          → Points (Of F) R n (with_top q (q.top + 8)) v (aims (first + k)) (refuses b t) v' → Yields (Of F) R n p w 0 (λ S. run (env_of T S R) 8 12 (pointer_of S) (rows_from first count)) (refuses b t) v'
      pointing_stopped p d t v' b e x =
          run_stopped (Of F) R n p w 8 1 count pointer_of (rows_from first count) T 12 0 (length_rows_from first count) (omega arith) (first + k) d a (row_ith first count k l) x.grew
          (slot_refused q v (first + k) room t v' b e x)

    pub pointing_kept : (q : Progress) (v : Bytes) (k : ℕ) (p : Progress) → Paid R p (run_cost 8 count) s → Pointing q v k → k ≡ count
        → Yields (Of F) R n p w 0 (λ S. run (env_of T S R) 8 12 (pointer_of S) (rows_from first count)) (gives (Some 12) q) v
    pointing_kept q v k p d a e = run_kept (Of F) R n p w 8 1 count pointer_of (rows_from first count) T 12 0 (length_rows_from first count) (omega arith) d a e

  pub pointing_dear : (first count : ℕ) (p : Progress) (w : Bytes) (cost : ℕ) (r : Ans (Unit {0})) (k : ℕ) (q : Progress) → Safe R n p → cost ≡ run_cost 8 count → r ≡ paid_is R p cost → r ≡ refuses k q
      → Yields (Of F) R n p w 0 (λ S. run (env_of T S R) 8 12 (pointer_of S) (rows_from first count)) (refuses k q) w
  pointing_dear first count p w cost r k q h e f g =
      run_too_dear (Of F) R n p w 8 1 count pointer_of (rows_from first count) T 12 0 (length_rows_from first count) (omega arith) cost r k q h e f g
