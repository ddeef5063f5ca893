-- A run of structures, or a map's pairs, element by element. Assumes nothing.
use Rattle.std.specs.Prelude.{Option, Some}
use mathlib.Core.Path.{◌≡◌, refl, sym, ap}
use mathlib.Core.Bool.{Bool, true, false, not, ◌||◌}
use mathlib.Core.List.{◌++◌}
use Prim.Native.Nat.{ℕ, zero, suc, ◌+◌, ◌*◌, ◌≤◌, ◌<◌}
use native.Mathlib.Omega.{arith}
use lib.Dec.{eqb}
use lib.ListN.{length}
use Rattle.numbers.specs.Words.{Bytes}
use Rattle.value.specs.Rows.{row, rows_from, Fields, fields_of, Struct, Null}
use Rattle.schema.specs.Defs.{Schema}
use Rattle.definitions.specs.declared.members.Member as coded
use Rattle.layout.specs.State.{State, M, Out, done, stop, after, bind, ret, if_m, remark, with_remark}
use Rattle.layout.specs.Members.{says}
use Rattle.layout.specs.Runs.{struct_element}
use Rattle.layout.specs.Write.{pairs_of, pair_fields, pair_element}
use Rattle.area.specs.declared.Round.{Round}
use Rattle.area.specs.declared.Progress.{Progress}
use Rattle.area.specs.Area.{Rep, env_of}
use Rattle.area.specs.Posts.{paid_is, Safe, Open, Grown, gives, refuses, Meets, Ans}
use Rattle.cells.specs.declared.defs.Def.{Def}
use Rattle.cells.specs.Names.{def_of, member_of}
use Rattle.members.specs.Posts.{remark_on}
use Rattle.members.proofs.Filling.{went_noted}
use Rattle.runs.specs.Posts.{Yields}
use Rattle.runs.proofs.Loops.{Ith, length_rows_from, row_ith, Paid, Made, Halts, Running, run_cost, run_begin, run_turn, run_kept, run_stopped, run_too_dear}
use Rattle.choices.specs.Posts.{element_row, element_fields, needs_note, Noted}
use Rattle.writers.specs.Posts.{Named, deeper, Started, Pushes, struct_run}
use Rattle.writers.proofs.Children.{length_pairs}

-- the pairs of a map, by number
pair_ith : (r n i : ℕ) → i < n → Ith (r + 2 * i, r + 2 * i + 1) i (pairs_of (rows_from r (2 * n)))
unfolding pairs_of rows_from
pair_ith r zero i h = absurd (omega arith)
pair_ith r (suc n) zero h =
    let e : 2 * suc n ≡ suc (suc (2 * n)) = omega arith in
    let a : r ≡ r + 2 * 0 = omega arith in
    let b : suc r ≡ r + 1 = omega arith in
    rw (e, ← a, ← b) refl
pair_ith r (suc n) (suc i) h =
    let e : 2 * suc n ≡ suc (suc (2 * n)) = omega arith in
    let a : suc (suc r) + 2 * i ≡ r + 2 * suc i = omega arith in
    let b : suc i + 1 ≡ suc (i + 1) = omega arith in
    rw (e, ← a, b) (pair_ith (suc (suc r)) n i (omega arith))

-- a structure that was pushed is an element
pushed_made : (S : Schema) (R : Round) (n size : ℕ) (τ : Bytes) (o : Out Bytes) (x : Progress) (v : Bytes)
    → Meets S R n (λ b. τ ++ b) (λ b (y : Unit {0}). length b ≡ size) o (gives tt x) v → Made S R n τ (after o (λ bs. ret (Some bs))) x v
unfolding after ret
pushed_made S R n size τ (done b t) x v m = record { state = t; bytes = b; is = refl; rep = m.0 }
pushed_made S R n size τ (stop k es) x v m = absurd m

-- one that was refused ends the run
pushed_halts : (S : Schema) (R : Round) (n size k : ℕ) (τ : Bytes) (o : Out Bytes) (x : Progress) (v : Bytes)
    → Meets S R n (λ b. τ ++ b) (λ b (y : Unit {0}). length b ≡ size) o (refuses k x) v → Halts S R n k (after o (λ (bs : Bytes). ret (Some bs))) x v
unfolding after ret
pushed_halts S R n size k τ (done b t) x v m = absurd m
pushed_halts S R n size k τ (stop j es) x v m = record { events = es; is = ap (λ (a : ℕ). stop a es) (sym m.0); stopped = m.1 }

-- what paying changes
pub paid_numbers : (R : Round) (p : Progress) (c : ℕ) (s : Progress) → Paid R p c s → (s.seen ≡ p.seen) × (s.charge ≡ p.charge + c)
paid_numbers R p c s d = (ap (λ (x : Progress). x.seen) (sym d.is), ap (λ (x : Progress). x.charge) (sym d.is))

-- what remark 9 does to the numbers
pub record Quiet (R : Round) (n : ℕ) (q t : Progress) : Type 0 where
  pub end : t.end ≡ q.end
  pub top : t.top ≡ q.top
  pub charge : t.charge ≡ q.charge
  pub seen : t.seen ≤ q.seen + 1
  pub safe : Safe R n t

pub quiet : (R : Round) (n : ℕ) (q : Progress) (v : Bytes) (d : Def) (m : coded.Member) (kind : ℕ) (pairs : Bool) (t : Progress) (v' : Bytes) → Safe R n q → Open q
    → Noted R n q v d m kind pairs t v' → Quiet R n q t
quiet R n q v d m kind pairs t v' h o x = go (needs_note kind pairs) refl
  where
    go : (b : Bool) → needs_note kind pairs ≡ b → Quiet R n q t
    go true e =
        let y = x.met e in
        record {
          end = y.end;
          top = y.top;
          charge = y.charge;
          seen = omega (arith, y.seen);
          safe = (went_noted R n q v (remark_on d m 9 0) t v' h o y).0;
        }
    go false e =
        let (f, g) = x.none e in
        rw f (record { end = refl; top = refl; charge = refl; seen = omega arith; safe = h })

-- pushed after it, a structure of `size` bytes is paid for
quiet_grown : (R : Round) (n : ℕ) (q t x : Progress) (size : ℕ) → Quiet R n q t → Started t size x → Grown q 0 size 0 x
quiet_grown R n q t x size a b =
    record {
      more = omega (arith, a.end, b.grown.more);
      paid = omega (arith, a.end, a.charge, b.grown.paid);
      top = omega (arith, a.top, b.grown.top);
      met = omega (arith, a.seen, a.charge, b.spare);
    }

module _ (F T : Bytes) (R : Round) (n left : ℕ) (d : Def) (m : coded.Member) (i : Def) where
  abbrev pub row_element : Schema → ℕ → M (Option Bytes)
  row_element S = struct_element (env_of T S R) (deeper T R left S) (def_of F d) (member_of m) (def_of F i)

  abbrev pub pair_of : Schema → ℕ × ℕ → M (Option Bytes)
  pair_of S = pair_element (env_of T S R) (deeper T R left S) (def_of F i)

  -- the state in which an element is pushed
  abbrev at_row : Bool → State → State
  at_row true u = u
  at_row false u = with_remark (remark_on d m 9 0) u

  row_is_law : (S : Schema) (r : ℕ) (u : State) (b : Bool) → (eqb (row T r).kind Struct || eqb (row T r).kind Null) ≡ b
      → row_element S r u ≡ after (deeper T R left S (def_of F i) (fields_of T (row T r)) (at_row b u)) (λ bs. ret (Some bs))
  unfolding struct_element bind if_m ret after says remark def_of
  row_is_law S r u true e = rw e refl
  row_is_law S r u false e = rw e refl

  -- the remark, if any, leaves that state
  row_rep : (S : Schema) (r : ℕ) (q t : Progress) (v v' : Bytes) → Noted R n q v d m (row T r).kind false t v' → (u : State) (τ : Bytes) → Rep S R n u τ q v → (b : Bool)
      → (eqb (row T r).kind Struct || eqb (row T r).kind Null) ≡ b → Rep S R n (at_row b u) τ t v'
  row_rep S r q t v v' x u τ h true e = let (f, g) = x.none (ap not e) in rw (f, g) h
  row_rep S r q t v v' x u τ h false e = (x.met (ap not e)).says S u τ h

  module _ (q t x : Progress) (v v' v'' : Bytes) (r : ℕ) (k : ℕ) where
    row_made : Noted R n q v d m (row T r).kind false t v' → Pushes (Named F i) R n t v' i.size (λ S. deeper T R left S (def_of F i) (fields_of T (row T r))) (gives (tt {0}) x) v''
        → (S : Schema) → Named F i S → (u : State) (τ : Bytes) → Rep S R n u τ q v → Made S R n τ (row_element S r u) x v''
    row_made a b S c u τ h = go (eqb (row T r).kind Struct || eqb (row T r).kind Null) refl
      where
        go : (z : Bool) → (eqb (row T r).kind Struct || eqb (row T r).kind Null) ≡ z → Made S R n τ (row_element S r u) x v''
        go z e = rw (row_is_law S r u z e) (pushed_made S R n i.size τ _ x v'' (b.says S c (at_row z u) τ (row_rep S r q t v v' a u τ h z e)))

    row_halts : Noted R n q v d m (row T r).kind false t v' → Pushes (Named F i) R n t v' i.size (λ S. deeper T R left S (def_of F i) (fields_of T (row T r))) (refuses k x) v''
        → (S : Schema) → Named F i S → (u : State) (τ : Bytes) → Rep S R n u τ q v → Halts S R n k (row_element S r u) x v''
    row_halts a b S c u τ h = go (eqb (row T r).kind Struct || eqb (row T r).kind Null) refl
      where
        go : (z : Bool) → (eqb (row T r).kind Struct || eqb (row T r).kind Null) ≡ z → Halts S R n k (row_element S r u) x v''
        go z e = rw (row_is_law S r u z e) (pushed_halts S R n i.size k τ _ x v'' (b.says S c (at_row z u) τ (row_rep S r q t v v' a u τ h z e)))

    pair_made : Noted R n q v d m (row T r).kind true t v' → Pushes (Named F i) R n t v' i.size (λ S. deeper T R left S (def_of F i) (pair_fields (def_of F i) (r, r + 1))) (gives (tt {0}) x) v''
        → (S : Schema) → Named F i S → (u : State) (τ : Bytes) → Rep S R n u τ q v → Made S R n τ (pair_of S (r, r + 1) u) x v''
    unfolding pair_element bind
    pair_made a b S c u τ h = let (f, g) = a.none refl in pushed_made S R n i.size τ (deeper T R left S (def_of F i) (pair_fields (def_of F i) (r, r + 1)) u) x v'' (b.says S c u τ (rw (f, g) h))

    pair_halts : Noted R n q v d m (row T r).kind true t v' → Pushes (Named F i) R n t v' i.size (λ S. deeper T R left S (def_of F i) (pair_fields (def_of F i) (r, r + 1))) (refuses k x) v''
        → (S : Schema) → Named F i S → (u : State) (τ : Bytes) → Rep S R n u τ q v → Halts S R n k (pair_of S (r, r + 1) u) x v''
    unfolding pair_element bind
    pair_halts a b S c u τ h = let (f, g) = a.none refl in pushed_halts S R n i.size k τ (deeper T R left S (def_of F i) (pair_fields (def_of F i) (r, r + 1)) u) x v'' (b.says S c u τ (rw (f, g) h))

  -- k of the elements, or pairs, are written
  abbrev pub StructRunning : Bool → ℕ → ℕ → Progress → Bytes → Progress → Bytes → ℕ → Type 0
  StructRunning true first count s w q v k = Running (Named F i) R n s w i.size 0 pair_of (pairs_of (rows_from first (2 * count))) q v k
  StructRunning false first count s w q v k = Running (Named F i) R n s w i.size 0 row_element (rows_from first count) q v k

  pub struct_begin : (pairs : Bool) (first count : ℕ) (s : Progress) (w : Bytes) → Safe R n s → StructRunning pairs first count s w s w 0
  struct_begin true first count s w h = run_begin (Named F i) R n s w i.size 0 pair_of (pairs_of (rows_from first (2 * count))) h
  struct_begin false first count s w h = run_begin (Named F i) R n s w i.size 0 row_element (rows_from first count) h

  -- the numbers, whatever the elements are
  pub struct_numbers : (pairs : Bool) (first count : ℕ) (s : Progress) (w : Bytes) (q : Progress) (v : Bytes) (k : ℕ) → StructRunning pairs first count s w q v k
      → Safe R n q × Grown s 0 (i.size * k) (0 * k) q
  struct_numbers true first count s w q v k a = (a.safe, a.grown)
  struct_numbers false first count s w q v k a = (a.safe, a.grown)

  pub struct_turn : (pairs : Bool) (first count : ℕ) (s : Progress) (w : Bytes) (q t x : Progress) (v v' v'' : Bytes) (k r : ℕ) (fs : Fields) → StructRunning pairs first count s w q v k → k < count
      → r ≡ element_row first k pairs → fs ≡ element_fields T (def_of F i) r pairs → Open q → Noted R n q v d m (row T r).kind pairs t v'
      → Pushes (Named F i) R n t v' i.size (λ S. deeper T R left S (def_of F i) fs) (gives (tt {0}) x) v'' → StructRunning pairs first count s w x v'' (k + 1)
  struct_turn true first count s w q t x v v' v'' k r fs a h e f o b c =
      run_turn (Named F i) R n s w i.size 0 pair_of (pairs_of (rows_from first (2 * count))) (first + 2 * k, first + 2 * k + 1) a (pair_ith first count k h) c.grew.0
      (quiet_grown R n q t x i.size (quiet R n q v d m (row T r).kind true t v' a.safe o b) c.grew.1) (rw (← e) (pair_made q t x v v' v'' r k b (rw (← f) c)))
  struct_turn false first count s w q t x v v' v'' k r fs a h e f o b c =
      run_turn (Named F i) R n s w i.size 0 row_element (rows_from first count) (first + k) a (row_ith first count k h) c.grew.0
      (quiet_grown R n q t x i.size (quiet R n q v d m (row T r).kind false t v' a.safe o b) c.grew.1) (rw (← e) (row_made q t x v v' v'' r k b (rw (← f) c)))

  module _ (p : Progress) (w : Bytes) (first count : ℕ) where
    abbrev Post : Bool → Ans (Option ℕ) → Bytes → Type 0
    Post pairs a v = Yields (Named F i) R n p w 0 (λ S. struct_run (env_of T S R) (deeper T R left S) (def_of F d) (member_of m) (def_of F i) i.name first count pairs) a v

    pub struct_kept : (pairs : Bool) (s q : Progress) (v : Bytes) (k : ℕ) → Paid R p (run_cost i.size count) s → StructRunning pairs first count s w q v k → k ≡ count → Post pairs (gives (Some i.name) q) v
    unfolding def_of
    struct_kept true s q v k a b e =
        run_kept (Named F i) R n p w i.size 0 count pair_of (pairs_of (rows_from first (2 * count))) T i.name 0 (length_pairs first count) (omega arith) a b e
    struct_kept false s q v k a b e =
        run_kept (Named F i) R n p w i.size 0 count row_element (rows_from first count) T i.name 0 (length_rows_from first count) (omega arith) a b e

    pub struct_stopped : (pairs : Bool) (s q t x : Progress) (v v' v'' : Bytes) (k r a : ℕ) (fs : Fields) → Paid R p (run_cost i.size count) s → StructRunning pairs first count s w q v k → k < count
        → r ≡ element_row first k pairs → fs ≡ element_fields T (def_of F i) r pairs → Noted R n q v d m (row T r).kind pairs t v'
        → Pushes (Named F i) R n t v' i.size (λ S. deeper T R left S (def_of F i) fs) (refuses a x) v'' → Post pairs (refuses a x) v''
    unfolding def_of
    struct_stopped true s q t x v v' v'' k r a fs g b h e f y c =
        run_stopped (Named F i) R n p w i.size 0 count pair_of (pairs_of (rows_from first (2 * count))) T i.name 0 (length_pairs first count) (omega arith) (first + 2 * k, first + 2 * k + 1) g b
        (pair_ith first count k h) c.grew (rw (← e) (pair_halts q t x v v' v'' r a y (rw (← f) c)))
    struct_stopped false s q t x v v' v'' k r a fs g b h e f y c =
        run_stopped (Named F i) R n p w i.size 0 count row_element (rows_from first count) T i.name 0 (length_rows_from first count) (omega arith) (first + k) g b
        (row_ith first count k h) c.grew (rw (← e) (row_halts q t x v v' v'' r a y (rw (← f) c)))

    pub struct_dear : (pairs : Bool) (cost : ℕ) (r : Ans (Unit {0})) (k : ℕ) (q : Progress) → Safe R n p → cost ≡ run_cost i.size count → r ≡ paid_is R p cost → r ≡ refuses k q → Post pairs (refuses k q) w
    unfolding def_of
    struct_dear true cost r k q h e f g =
        run_too_dear (Named F i) R n p w i.size 0 count pair_of (pairs_of (rows_from first (2 * count))) T i.name 0 (length_pairs first count) (omega arith) cost r k q h e f g
    struct_dear false cost r k q h e f g =
        run_too_dear (Named F i) R n p w i.size 0 count row_element (rows_from first count) T i.name 0 (length_rows_from first count) (omega arith) cost r k q h e f g
