-- Texts by pointer. No line here names a place of the code. Assumes nothing.
use mathlib.Core.Path.{◌≡◌, refl, sym, ap, ◌∙◌}
use mathlib.Core.Bool.{Bool, true, false, cond, false≢true}
use mathlib.Core.List.{[], ◌∷◌, ◌++◌}
use Prim.Native.Nat.{ℕ, ◌+◌, ◌≤◌}
use native.Mathlib.Omega.{arith}
use lib.Dec.{leb, eqb}
use borrow.Author.Tests.{leb-true}
use lib.ListN.{length, length-append}
use Rattle.numbers.specs.Words.{Bytes, bytes_of, over}
use Rattle.numbers.proofs.Bytes.{length_bytes}
use Rattle.schema.specs.Defs.{Schema}
use Rattle.layout.specs.State.{State, Out, done, stop, after, bind, ret, if_m, pay, add_item, with_charge}
use Rattle.layout.specs.Members.{put_pointer, put_counted, slot_size, add_string, text_slot}
use Rattle.area.specs.declared.Round.{Round}
use Rattle.area.specs.declared.Progress.{Progress}
use Rattle.area.specs.Area.{stack_at, Rep, with_paid, env_of}
use Rattle.area.specs.Posts.{Safe, gives, refuses, Meets, Larger, LaysText, Ans, paid_is}
use Rattle.area.proofs.Over.{over_seq, length_over}
use Rattle.area.proofs.Reps.{rep_put}
use Rattle.members.specs.Posts.{Went, Slots}

-- a pointer with a count, in three steps
pub counted : (w a b c : Bytes) (at x n : ℕ) → at + 12 ≤ length w → a ≡ put_pointer w at x → b ≡ over a (at + 8) (bytes_of 2 n) → c ≡ over b (at + 10) (bytes_of 2 n) → c ≡ put_counted w at x n
unfolding put_counted put_pointer
counted w a b c at x n h e f g =
    let l : length a ≡ length w = ap length e ∙ length_over w at (bytes_of 4 x) (omega (arith, length_bytes 4 x)) in
    let k : length (bytes_of 2 n) ≡ 2 = length_bytes 2 n in
    let t : at + 10 ≡ (at + 8) + length (bytes_of 2 n) = omega arith in
    g ∙ ap (λ (y : Bytes). over y (at + 10) (bytes_of 2 n)) f ∙ ap (λ (i : ℕ). over (over a (at + 8) (bytes_of 2 n)) i (bytes_of 2 n)) t
    ∙ over_seq a (at + 8) (bytes_of 2 n) (bytes_of 2 n) (omega arith) ∙ ap (λ (y : Bytes). over y (at + 8) (bytes_of 2 n ++ bytes_of 2 n)) e

-- the count, twice in two bytes
length_count : (n : ℕ) → length (bytes_of 2 n ++ bytes_of 2 n) ≡ 4
length_count n = length-append (bytes_of 2 n) (bytes_of 2 n) ∙ omega (arith, length_bytes 2 n)

-- a pointer with its count has 12 bytes
pub length_counted : (buf : Bytes) (off x n : ℕ) → off + 12 ≤ length buf → length (put_counted buf off x n) ≡ length buf
unfolding put_counted put_pointer
length_counted buf off x n h =
    let l : length (over buf off (bytes_of 4 x)) ≡ length buf = length_over buf off (bytes_of 4 x) (omega (arith, length_bytes 4 x)) in
    length_over (over buf off (bytes_of 4 x)) (off + 8) (bytes_of 2 n ++ bytes_of 2 n) (omega (arith, length_count n)) ∙ l

-- .. put into the buffer that is the stack's top
pub rep_counted : (S : Schema) (R : Round) (n : ℕ) {s : State} {p : Progress} {w : Bytes} (σ buf : Bytes) (off at x count : ℕ) → Rep S R n s (σ ++ buf) p w → p.top ≤ n
    → off + 12 ≤ length buf → stack_at R + length σ + off ≡ at → Rep S R n s (σ ++ put_counted buf off x count) p (put_counted w at x count)
unfolding put_counted put_pointer
rep_counted S R n σ buf off at x count r h l e =
    let a = bytes_of 4 x in
    let k : length (over buf off a) ≡ length buf = length_over buf off a (omega (arith, length_bytes 4 x)) in
    rep_put S R n σ (over buf off a) (bytes_of 2 count ++ bytes_of 2 count) (off + 8) (at + 8)
    (rep_put S R n σ buf a off at r h (omega (arith, length_bytes 4 x)) e) h (omega (arith, length_count count)) (omega arith)

abbrev is_done : Ans (Unit {0}) → Bool
is_done (gives u q) = true
is_done (refuses k q) = false

abbrev progress_in : Ans (Unit {0}) → Progress
progress_in (gives u q) = q
progress_in (refuses k q) = q

abbrev number_in : Ans (Unit {0}) → ℕ
number_in (gives u q) = 0
number_in (refuses k q) = k

-- what the charge's answer says
pub paid_yes : (R : Round) (p : Progress) (k : ℕ) (r : Ans (Unit {0})) (q : Progress) → r ≡ paid_is R p k → r ≡ gives (tt {0}) q → (leb (p.charge + k) R.cap ≡ true) × (q ≡ with_paid p (p.charge + k))
paid_yes R p k r q e f = go (leb (p.charge + k) R.cap) refl
  where
    go : (t : Bool) → leb (p.charge + k) R.cap ≡ t → (leb (p.charge + k) R.cap ≡ true) × (q ≡ with_paid p (p.charge + k))
    go true g = (g, ap progress_in (sym f ∙ e) ∙ rw g refl)
    go false g = absurd (false≢true (sym (ap is_done (sym f ∙ e) ∙ rw g refl)))

pub paid_no : (R : Round) (p : Progress) (k : ℕ) (r : Ans (Unit {0})) (j : ℕ) (q : Progress) → r ≡ paid_is R p k → r ≡ refuses j q → (leb (p.charge + k) R.cap ≡ false) × (j ≡ 9) × (q ≡ p)
paid_no R p k r j q e f = go (leb (p.charge + k) R.cap) refl
  where
    go : (t : Bool) → leb (p.charge + k) R.cap ≡ t → (leb (p.charge + k) R.cap ≡ false) × (j ≡ 9) × (q ≡ p)
    go false g = (g, ap number_in (sym f ∙ e) ∙ rw g refl, ap progress_in (sym f ∙ e) ∙ rw g refl)
    go true g = absurd (false≢true (ap is_done (sym f ∙ e) ∙ rw g refl))

-- the charge paid
pub rep_paid : (S : Schema) (R : Round) (n : ℕ) (s : State) (σ : Bytes) (p : Progress) (w : Bytes) (k : ℕ) → Rep S R n s σ p w → Rep S R n (with_charge (s.charge + k) s) σ (with_paid p (p.charge + k)) w
rep_paid S R n s σ p w k r = record {
  work = r.work;
  blocks = r.blocks;
  rows = r.rows;
  structs = r.structs;
  enums = r.enums;
  end = r.end;
  top = r.top;
  charge = ap (λ (x : ℕ). x + k) r.charge;
  seen = r.seen;
  next = r.next;
  tiny = r.tiny;
  small = r.small;
  struct_names = r.struct_names;
  enum_names = r.enum_names;
  known = r.known;
  entries = r.entries;
}

module _ (R : Round) (n : ℕ) (p : Progress) where
  -- the numbers with the charge paid are in order
  pub safe_paid : (k : ℕ) → Safe R n p → p.charge + k ≤ R.cap → Safe R n (with_paid p (p.charge + k))
  safe_paid k h l = record {
    small = h.small;
    room = h.room;
    from = h.from;
    items = omega (arith, h.items);
    low = h.low;
    stack = omega (arith, h.stack);
    within = l;
    blocks = h.blocks;
    rows = h.rows;
    structs = h.structs;
    enums = h.enums;
    next = h.next;
    seen = omega (arith, h.seen);
  }

  -- .. and with a text laid, whose charge is paid
  pub laid_went : (len : ℕ) (q : Progress) → Safe R n p → p.charge + (16 + len) ≤ R.cap → Larger (with_paid p (p.charge + (16 + len))) len p.top q → Went R n p 0 (gives (tt {0}) q)
  laid_went len q h l g = (
    record {
      small = h.small;
      room = h.room;
      from = omega (arith, h.from, g.end);
      items = omega (arith, h.items, g.end, g.charge);
      low = omega (arith, h.low, g.top);
      stack = omega (arith, h.stack, g.top, g.charge);
      within = omega (arith, g.charge);
      blocks = g.blocks;
      rows = omega (arith, h.rows, g.rows);
      structs = omega (arith, h.structs, g.structs);
      enums = omega (arith, h.enums, g.enums);
      next = omega (arith, h.next, g.next, g.seen);
      seen = omega (arith, h.seen, g.seen, g.charge);
    },
    record { more = omega (arith, g.end); paid = omega (arith, g.end, g.charge); top = omega (arith, g.top); met = omega (arith, g.seen, g.charge) },
  )

module _ (R : Round) (n : ℕ) (p : Progress) (w : Bytes) (sub : ℕ) (t : Bytes) (at : ℕ) (safe : Safe R n p) where
  abbrev price : ℕ
  price = 16 + (length t + 1)

  slot_empty : (S : Schema) (T buf : Bytes) (off : ℕ) → length t ≡ 0 → text_slot (env_of T S R) sub t buf off ≡ ret buf
  unfolding text_slot if_m
  slot_empty S T buf off e = go t e
    where
      go : (x : Bytes) → length x ≡ 0 → text_slot (env_of T S R) sub x buf off ≡ ret buf
      go [] f = refl
      go (b ∷ x) f = absurd (omega (arith, f))

  -- an empty text is not laid
  pub text_none : length t ≡ 0 → Slots R n p w sub t at (gives (tt {0}) p) w
  unfolding ret
  text_none e =
      record {
        grew = (safe, record { more = omega arith; paid = omega arith; top = omega arith; met = omega arith });
        says = λ S T s σ buf off a l r. rw (slot_empty S T buf off e) (r, refl);
      }

  -- a text that is not empty: its charge, its item, its pointer
  after_item : (buf : Bytes) (off : ℕ) → Out ℕ → Out Bytes
  after_item buf off o = after o λ x. ret (cond (eqb sub 3) (put_counted buf off x (length t)) (put_pointer buf off x))

  slot_is : (S : Schema) (T buf : Bytes) (off : ℕ) (s : State) → (length t ≡ 0 → ⊥) → text_slot (env_of T S R) sub t buf off s ≡ after_item buf off (add_string (env_of T S R) t s)
  unfolding text_slot if_m bind after_item
  slot_is S T buf off s e = go t e
    where
      go : (x : Bytes) → (length x ≡ 0 → ⊥)
          → text_slot (env_of T S R) sub x buf off s ≡ after (add_string (env_of T S R) x s) λ y. ret (cond (eqb sub 3) (put_counted buf off y (length x)) (put_pointer buf off y))
      go [] f = absurd (f refl)
      go (b ∷ x) f = refl

  string_poor : (S : Schema) (T : Bytes) (s : State) → leb (s.charge + price) R.cap ≡ false → add_string (env_of T S R) t s ≡ stop 9 s.events
  unfolding add_string bind after pay
  string_poor S T s e = rw e refl

  string_paid : (S : Schema) (T : Bytes) (s : State) → leb (s.charge + price) R.cap ≡ true
      → add_string (env_of T S R) t s ≡ add_item 1 (t ++ (0 ∷ [])) (with_charge (s.charge + price) s)
  unfolding add_string bind after pay
  string_paid S T s e = rw e refl

  module _ (some : length t ≡ 0 → ⊥) where
    -- the charge would pass its cap
    pub text_poor : leb (p.charge + price) R.cap ≡ false → Slots R n p w sub t at (refuses 9 p) w
    unfolding after_item after
    text_poor e =
        record {
          grew = safe;
          says = λ S T s σ buf off a l r.
              rw (slot_is S T buf off s some, string_poor S T s (rw (← r.charge) e)) (refl, record { state = s; stack = σ ++ buf; rep = r; met = refl });
        }

    module _ (rich : leb (p.charge + price) R.cap ≡ true) where
      -- there is no place for it
      pub text_full : (k : ℕ) (q : Progress) (w' : Bytes) → LaysText R n (with_paid p (p.charge + price)) w t (refuses k q) w' → Slots R n p w sub t at (refuses k q) w'
      unfolding after_item after
      text_full k q w' a =
          record {
            grew = rw a.grew.1 (safe_paid R n p price safe (leb-true (p.charge + price) R.cap rich));
            says = λ S T s σ buf off e l r.
                rw (slot_is S T buf off s some, string_paid S T s (rw (← r.charge) rich))
                (go S s σ buf off (add_item 1 (t ++ (0 ∷ [])) (with_charge (s.charge + price) s)) (a.says S (with_charge (s.charge + price) s) (σ ++ buf) (rep_paid S R n s (σ ++ buf) p w price r)));
          }
        where
          go : (S : Schema) (s : State) (σ buf : Bytes) (off : ℕ) (o : Out ℕ) → Meets {A = ℕ} {X = ℕ} S R n (λ _. σ ++ buf) (λ a x. a ≡ x) o (refuses k q) w'
              → Meets {A = Bytes} {X = Unit {0}} S R n (λ b. σ ++ b) (λ b x. length b ≡ length buf) (after_item buf off o) (refuses k q) w'
          go S s σ buf off (done x s') h = absurd h
          go S s σ buf off (stop m es) h = h

      -- it is laid: f puts its pointer in the slot
      laid : (f : Bytes → ℕ → ℕ → Bytes) (x : ℕ) (q : Progress) (w' : Bytes) → LaysText R n (with_paid p (p.charge + price)) w t (gives x q) w'
          → ((buf : Bytes) (off : ℕ) → cond (eqb sub 3) (put_counted buf off x (length t)) (put_pointer buf off x) ≡ f buf off x)
          → ((S : Schema) (s : State) (σ buf : Bytes) (off : ℕ) → stack_at R + length σ + off ≡ at → off + slot_size sub ≤ length buf → Rep S R n s (σ ++ buf) q w'
          → Rep S R n s (σ ++ f buf off x) q (f w' at x) × (length (f buf off x) ≡ length buf)) → Slots R n p w sub t at (gives (tt {0}) q) (f w' at x)
      unfolding after_item after ret
      laid f x q w' a e put =
          record {
            grew = laid_went R n p (length t + 1) q safe (leb-true (p.charge + price) R.cap rich) a.grew;
            says = λ S T s σ buf off i l r.
                rw (slot_is S T buf off s some, string_paid S T s (rw (← r.charge) rich))
                (go S s σ buf off i l (add_item 1 (t ++ (0 ∷ [])) (with_charge (s.charge + price) s)) (a.says S (with_charge (s.charge + price) s) (σ ++ buf) (rep_paid S R n s (σ ++ buf) p w price r)));
          }
        where
          go : (S : Schema) (s : State) (σ buf : Bytes) (off : ℕ) → stack_at R + length σ + off ≡ at → off + slot_size sub ≤ length buf → (o : Out ℕ)
              → Meets {A = ℕ} {X = ℕ} S R n (λ _. σ ++ buf) (λ a x. a ≡ x) o (gives x q) w'
              → Meets {A = Bytes} {X = Unit {0}} S R n (λ b. σ ++ b) (λ b x. length b ≡ length buf) (after_item buf off o) (gives tt q) (f w' at x)
          go S s σ buf off i l (done y s') h = rw (h.1, e buf off) (put S s' σ buf off i l h.0)
          go S s σ buf off i l (stop m es) h = absurd h

      top_inside : (x : ℕ) (q : Progress) (w' : Bytes) → LaysText R n (with_paid p (p.charge + price)) w t (gives x q) w' → q.top ≤ n
      top_inside x q w' a = omega (arith, safe, a.grew.top)

      pub text_pointer : (x : ℕ) (q : Progress) (w' : Bytes) → eqb sub 3 ≡ false → LaysText R n (with_paid p (p.charge + price)) w t (gives x q) w' → Slots R n p w sub t at (gives (tt {0}) q) (put_pointer w' at x)
      unfolding put_pointer
      text_pointer x q w' e a = laid put_pointer x q w' a (λ buf off. rw e refl) put
        where
          put : (S : Schema) (s : State) (σ buf : Bytes) (off : ℕ) → stack_at R + length σ + off ≡ at → off + slot_size sub ≤ length buf → Rep S R n s (σ ++ buf) q w'
              → Rep S R n s (σ ++ put_pointer buf off x) q (put_pointer w' at x) × (length (put_pointer buf off x) ≡ length buf)
          put S s σ buf off i l r =
              let k : length (bytes_of 4 x) ≡ 4 = length_bytes 4 x in
              let m : slot_size sub ≡ 8 = rw e refl in
              (rep_put S R n σ buf (bytes_of 4 x) off at r (top_inside x q w' a) (omega arith) i, length_over buf off (bytes_of 4 x) (omega arith))

      pub text_counted : (x : ℕ) (q : Progress) (w' : Bytes) → eqb sub 3 ≡ true → LaysText R n (with_paid p (p.charge + price)) w t (gives x q) w' → Slots R n p w sub t at (gives (tt {0}) q) (put_counted w' at x (length t))
      text_counted x q w' e a = laid (λ b o y. put_counted b o y (length t)) x q w' a (λ buf off. rw e refl) put
        where
          put : (S : Schema) (s : State) (σ buf : Bytes) (off : ℕ) → stack_at R + length σ + off ≡ at → off + slot_size sub ≤ length buf → Rep S R n s (σ ++ buf) q w'
              → Rep S R n s (σ ++ put_counted buf off x (length t)) q (put_counted w' at x (length t)) × (length (put_counted buf off x (length t)) ≡ length buf)
          put S s σ buf off i l r =
              let m : slot_size sub ≡ 16 = rw e refl in
              (rep_counted S R n σ buf off at x (length t) r (top_inside x q w' a) (omega arith) i, length_counted buf off x (length t) (omega arith))
