-- Runs of cells and of texts by pointer, element by element. No line here names a place of the code. Assumes nothing.
use Rattle.std.specs.Prelude.{Option, Some, None, unwrap_or, Ok, Err}
use mathlib.Core.Path.{◌≡◌, refl, sym, ap, ◌∙◌}
use mathlib.Core.List.{[], ◌++◌}
use Prim.Native.Nat.{ℕ, ◌+◌, ◌-◌, ◌≤◌, ◌<◌}
use native.Mathlib.Omega.{arith}
use borrow.Rule.Slice.PartMut.{put_mid, put_same, mid_len}
use lib.ListN.{length, take, drop, length-append, length-drop, replicate-append-replicate}
use lib.Seq.{drop_at}
use Rattle.numbers.specs.Words.{Bytes, over, zeros, padded}
use Rattle.value.specs.Rows.{Row, row, rows_from}
use Rattle.coerce.specs.Numbers.{Fit, str_of}
use Rattle.coerce.specs.declared.misfit.Misfit.TheVariants.{Unfit, FloatText}
use Rattle.schema.specs.Defs.{Schema}
use Rattle.layout.specs.State.{State, Out, done, stop, M, after, bind, ret, fail, fit_m}
use Rattle.layout.specs.Members.{slot_size, text_slot}
use Rattle.layout.specs.Runs.{run, text_element}
use Rattle.area.specs.declared.Round.{Round}
use Rattle.area.specs.declared.Progress.{Progress}
use Rattle.area.specs.Area.{Rep, with_top, env_of}
use Rattle.area.specs.Posts.{Fell, Safe, Meets, Ans, gives, refuses}
use Rattle.area.proofs.Flat.{length_zeros, padded_is}
use Rattle.area.proofs.Reps.{rep_push}
use Rattle.area.proofs.Lending.{buffer, lent}
use Rattle.cells.specs.declared.Cell.{Cell}
use Rattle.cells.specs.Cells.{cell_bytes, Puts, cell_element}
use Rattle.members.specs.Posts.{any_schema, Slots}
use Rattle.runs.specs.Posts.{Yields}
use Rattle.runs.proofs.Loops.{Made, Fails, Halts, Ready, Running, Paid, run_cost, row_ith, length_rows_from, run_room, run_turn, run_dropped, run_stopped}

-- bytes over as many zeros are filled up
filled : (k : ℕ) (b : Bytes) → length b ≤ k → over (zeros k) 0 b ≡ padded k b
unfolding over
filled k b h = ap (λ (x : Bytes). b ++ x) (cut (length b) h) ∙ sym (padded_is k b h)
  where
    cut : (j : ℕ) → j ≤ k → drop (0 + j) (zeros k) ≡ zeros (k - j)
    cut j h =
        let e : j + (k - j) ≡ k = omega arith in
        let l : length (zeros j) ≡ 0 + j = length_zeros j ∙ (omega arith) in
        ap (λ (x : ℕ). drop (0 + j) (zeros x)) (sym e) ∙ ap (drop (0 + j)) (sym (replicate-append-replicate j (k - j) 0)) ∙ drop_at (zeros j) (zeros (k - j)) (0 + j) l

-- what a buffer holds is no longer than it
held : (k : ℕ) (c b : Bytes) → length c ≡ k → length (over c 0 b) ≡ k → length b ≤ k
unfolding over
held k c b e f = omega (arith, f, length-append b (drop (0 + length b) c), length-drop (0 + length b) c)

module _ (S : Schema) (R : Round) (n : ℕ) (T : Bytes) (cell : Cell) (stride len r : ℕ) (y : Row) (is : y ≡ row T r) (wide : len ≡ stride)
    (q : Progress) (v c : Bytes) (t : State) (τ : Bytes) where
  cell_is : (x : Fit Bytes) → cell_bytes T cell y ≡ x → cell_element T cell stride r t ≡ fit_m x (ret None) (λ bs. ret (Some (padded stride bs))) t
  unfolding cell_element
  cell_is x e = rw (← is, e) refl

  -- a cell is stored above the stack
  cell_made : Puts (cell_bytes T cell y) (take len (drop q.top v)) 0 (Ok tt) c → length c ≡ len → q.top + stride ≤ n → Rep S R n t τ q v
      → Made S R n τ (cell_element T cell stride r t) (with_top q (q.top + stride)) (put_mid q.top len v c)
  unfolding fit_m ret
  cell_made u l h z = go (cell_bytes T cell y) refl u
    where
      go : (x : Fit Bytes) → cell_bytes T cell y ≡ x → Puts x (take len (drop q.top v)) 0 (Ok tt) c
          → Made S R n τ (cell_element T cell stride r t) (with_top q (q.top + stride)) (put_mid q.top len v c)
      go (Ok b) e d =
          let p : Rep S R n t (τ ++ zeros stride) (with_top q (q.top + stride)) v = rep_push S R n stride z h in
          let k : length (zeros stride) ≡ len = length_zeros stride ∙ sym wide in
          let m : take len (drop q.top v) ≡ zeros stride = buffer S R n τ (zeros stride) q.top len p h (omega (arith, wide)) k in
          let o : length (over (zeros stride) 0 b) ≡ len = ap (λ (x : Bytes). length (over x 0 b)) (sym m) ∙ ap length (sym d) ∙ l in
          let g : length b ≤ stride = held stride (zeros stride) b (length_zeros stride) (o ∙ wide) in
          record {
            state = t;
            bytes = padded stride b;
            is = cell_is (Ok b) e;
            rep = rw (d, ← filled stride b g) (lent S R n τ (zeros stride) q.top len (λ x. over x 0 b) p h (omega (arith, wide)) k o);
          }
      go (Err f) e d = absurd d

  -- .. does not fit
  cell_fails : Puts (cell_bytes T cell y) (take len (drop q.top v)) 0 (Err Unfit) c → Rep S R n t τ q v → Fails S R n τ (cell_element T cell stride r t) q (put_mid q.top len v c)
  unfolding fit_m ret
  cell_fails u z = go (cell_bytes T cell y) refl u
    where
      go : (x : Fit Bytes) → cell_bytes T cell y ≡ x → Puts x (take len (drop q.top v)) 0 (Err Unfit) c → Fails S R n τ (cell_element T cell stride r t) q (put_mid q.top len v c)
      go (Err Unfit) e d = record { state = t; is = cell_is (Err Unfit) e; rep = rw (ap (put_mid q.top len v) d.1 ∙ put_same q.top len v) z }
      go (Ok b) e d = absurd d
      go (Err FloatText) e d = cc

  -- .. is a float's text
  cell_halts : Puts (cell_bytes T cell y) (take len (drop q.top v)) 0 (Err FloatText) c → Rep S R n t τ q v → Halts S R n 11 (cell_element T cell stride r t) q (put_mid q.top len v c)
  unfolding fit_m fail
  cell_halts u z = go (cell_bytes T cell y) refl u
    where
      go : (x : Fit Bytes) → cell_bytes T cell y ≡ x → Puts x (take len (drop q.top v)) 0 (Err FloatText) c → Halts S R n 11 (cell_element T cell stride r t) q (put_mid q.top len v c)
      go (Err FloatText) e d = record { events = t.events; is = cell_is (Err FloatText) e; stopped = record { state = t; stack = τ; rep = rw (ap (put_mid q.top len v) d.1 ∙ put_same q.top len v) z; met = refl } }
      go (Ok b) e d = absurd d
      go (Err Unfit) e d = cc

-- a run of cells
module _ (R : Round) (n : ℕ) (s : Progress) (w T : Bytes) (cell : Cell) (stride first m : ℕ) where
  abbrev pub Cells : Progress → Bytes → ℕ → Type 0
  Cells q v i = Running any_schema R n s w stride 0 (λ S r. cell_element T cell stride r) (rows_from first m) q v i

  module _ (q : Progress) (v : Bytes) (i : ℕ) (d : Ready R n stride m s) (a : Cells q v i) (less : i < m) where
    pub cells_room : q.top + stride ≤ n
    cells_room =
        let h = run_room any_schema R n s w stride 0 (λ S r. cell_element T cell stride r) (rows_from first m) d a less in
        omega (arith, h.stack, h.within, h.room)

    abbrev len : ℕ
    len = q.top + stride - q.top

    wide : len ≡ stride
    wide = omega arith

    -- the next cell's bytes are lent
    module _ (y : Row) (is : y ≡ row T (first + i)) (c : Bytes) where
      pub cells_turn : Puts (cell_bytes T cell y) (take len (drop q.top v)) 0 (Ok tt) c → length v ≡ n → length c ≡ length (take len (drop q.top v))
          → Cells (with_top q (q.top + stride)) (put_mid q.top len v c) (i + 1)
      cells_turn u e l =
          run_turn any_schema R n s w stride 0 (λ S r. cell_element T cell stride r) (rows_from first m) (first + i) a (row_ith first m i less)
          (run_room any_schema R n s w stride 0 (λ S r. cell_element T cell stride r) (rows_from first m) d a less)
          (record { more = omega arith; paid = omega arith; top = refl; met = omega arith })
          (λ S k t τ r. cell_made S R n T cell stride len (first + i) y is wide q v c t τ u (l ∙ mid_len q.top (q.top + stride) v (rw e cells_room)) cells_room r)

      module _ (p : Progress) (block : ℕ) (o : Safe R n p) (paid : Paid R p (run_cost stride m) s) where
        abbrev Cells-post : Ans (Option ℕ) → Bytes → Type 0
        Cells-post x z = Yields any_schema R n p w 0 (λ S. run (env_of T S R) stride block (cell_element T cell stride) (rows_from first m)) x z

        pub cells_dropped : (u : Progress) (z : Bytes) → Puts (cell_bytes T cell y) (take len (drop q.top v)) 0 (Err Unfit) c → Fell q p.top (put_mid q.top len v c) u z → Cells-post (gives None u) z
        cells_dropped u z e f =
            run_dropped any_schema R n p w stride 0 m (λ S r. cell_element T cell stride r) (rows_from first m) T block 0 (length_rows_from first m) (omega arith) (first + i) o paid a less (row_ith first m i less) a.safe
            (record { more = omega arith; paid = omega arith; top = omega arith; met = omega arith })
            (λ S k t τ r. cell_fails S R n T cell stride len (first + i) y is wide q v c t τ e r) f

        pub cells_stopped : Puts (cell_bytes T cell y) (take len (drop q.top v)) 0 (Err FloatText) c → Cells-post (refuses 11 q) (put_mid q.top len v c)
        cells_stopped e =
            run_stopped any_schema R n p w stride 0 m (λ S r. cell_element T cell stride r) (rows_from first m) T block 0 (length_rows_from first m) (omega arith) (first + i) paid a (row_ith first m i less) a.safe
            (λ S k t τ r. cell_halts S R n T cell stride len (first + i) y is wide q v c t τ e r)

-- texts by pointer
module _ (S : Schema) (R : Round) (n : ℕ) (T : Bytes) (sub r : ℕ) (x : Bytes) (is : x ≡ unwrap_or (str_of T (row T r)) []) (q : Progress) (v : Bytes) (u : Progress) (z : Bytes) (t : State) (τ : Bytes) where
  abbrev slot : Out Bytes
  slot = text_slot (env_of T S R) sub x (zeros (slot_size sub)) 0 t

  text_is : (o : Out Bytes) → slot ≡ o → text_element (env_of T S R) sub r t ≡ after o (λ bs. ret (Some bs))
  unfolding text_element bind
  text_is o e = rw (← is, e) refl

  text_slot_law : {a : Ans (Unit {0})} → Slots R n (with_top q (q.top + slot_size sub)) v sub x q.top a z → q.top + slot_size sub ≤ n → Rep S R n t τ q v
      → Meets S R n (λ b. τ ++ b) (λ b x. length b ≡ length (zeros (slot_size sub))) slot a z
  text_slot_law d h e =
      d.says S T t τ (zeros (slot_size sub)) 0 (omega (arith, e.top)) (omega (arith, length_zeros (slot_size sub))) (rep_push S R n (slot_size sub) e h)

  -- a text's slot is filled
  text_made : Slots R n (with_top q (q.top + slot_size sub)) v sub x q.top (gives (tt {0}) u) z → q.top + slot_size sub ≤ n → Rep S R n t τ q v → Made S R n τ (text_element (env_of T S R) sub r t) u z
  unfolding after ret
  text_made d h e = go slot refl (text_slot_law d h e)
    where
      go : (o : Out Bytes) → slot ≡ o → Meets S R n (λ b. τ ++ b) (λ b x. length b ≡ length (zeros (slot_size sub))) o (gives (tt {0}) u) z → Made S R n τ (text_element (env_of T S R) sub r t) u z
      go (done b t') g l = record { state = t'; bytes = b; is = text_is (done b t') g; rep = l.0 }
      go (stop k es) g l = absurd l

  -- .. is refused
  text_halts : (k : ℕ) → Slots R n (with_top q (q.top + slot_size sub)) v sub x q.top (refuses k u) z → q.top + slot_size sub ≤ n → Rep S R n t τ q v → Halts S R n k (text_element (env_of T S R) sub r t) u z
  unfolding after ret
  text_halts k d h e = go slot refl (text_slot_law d h e)
    where
      go : (o : Out Bytes) → slot ≡ o → Meets {A = Bytes} {X = Unit {0}} S R n (λ b. τ ++ b) (λ b x. length b ≡ length (zeros (slot_size sub))) o (refuses k u) z → Halts S R n k (text_element (env_of T S R) sub r t) u z
      go (done b t') g l = absurd l
      go (stop j es) g l = record { events = es; is = text_is (stop j es) g ∙ ap (λ (i : ℕ). stop i es) (sym l.0); stopped = l.1 }

-- a run of texts by pointer
module _ (R : Round) (n : ℕ) (s : Progress) (w T : Bytes) (sub first m : ℕ) where
  abbrev texts : Schema → ℕ → M (Option Bytes)
  texts S r = text_element (env_of T S R) sub r

  abbrev pub Texts : Progress → Bytes → ℕ → Type 0
  Texts q v i = Running any_schema R n s w (slot_size sub) 0 texts (rows_from first m) q v i

  module _ (q : Progress) (v : Bytes) (i : ℕ) (d : Ready R n (slot_size sub) m s) (a : Texts q v i) (less : i < m) (stride : ℕ) (slot : stride ≡ slot_size sub) where
    room : Safe R n (with_top q (q.top + slot_size sub))
    room = run_room any_schema R n s w (slot_size sub) 0 texts (rows_from first m) d a less

    inside : q.top + slot_size sub ≤ n
    inside = omega (arith, room.stack, room.within, room.room)

    -- the next text's slot
    module _ (y : Row) (row_is : y ≡ row T (first + i)) (x : Bytes) (text_is : x ≡ unwrap_or (str_of T y) []) (k : ℕ) (same : k ≡ n) where
      is : x ≡ unwrap_or (str_of T (row T (first + i))) []
      is = rw (← row_is) text_is

      slots : (o r : Ans (Unit {0})) (z : Bytes) → r ≡ o → Slots R k (with_top q (q.top + stride)) v sub x q.top r z → Slots R n (with_top q (q.top + slot_size sub)) v sub x q.top o z
      slots o r z e g = rw (← same, ← slot, ← e) g

      pub texts_turn : (u : Progress) (r : Ans (Unit {0})) (z : Bytes) → r ≡ gives (tt {0}) u → Slots R k (with_top q (q.top + stride)) v sub x q.top r z → Texts u z (i + 1)
      texts_turn u r z f g =
          let e = slots (gives (tt {0}) u) r z f g in
          let b = e.grew.1 in
          run_turn any_schema R n s w (slot_size sub) 0 texts (rows_from first m) (first + i) a (row_ith first m i less) e.grew.0
          (record { more = b.more; paid = omega (arith, b.paid); top = omega (arith, b.top); met = omega (arith, b.met) })
          (λ S k t τ r. text_made S R n T sub (first + i) x is q v u z t τ e inside r)

      pub texts_stopped : (p : Progress) (block j : ℕ) (u : Progress) (r : Ans (Unit {0})) (z : Bytes) → Paid R p (run_cost (slot_size sub) m) s → r ≡ refuses j u → Slots R k (with_top q (q.top + stride)) v sub x q.top r z
          → Yields any_schema R n p w 0 (λ S. run (env_of T S R) (slot_size sub) block (text_element (env_of T S R) sub) (rows_from first m)) (refuses j u) z
      texts_stopped p block j u r z paid f g =
          let e = slots (refuses j u) r z f g in
          run_stopped any_schema R n p w (slot_size sub) 0 m texts (rows_from first m) T block 0 (length_rows_from first m) (omega arith) (first + i) paid a (row_ith first m i less) e.grew
          (λ S k t τ r. text_halts S R n T sub (first + i) x is q v u z t τ j e inside r)
