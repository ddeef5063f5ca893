-- A run on top of the stack is filed, and its pointer stands in the structure below it. Assumes nothing.
use mathlib.Core.Path.{◌≡◌, sym, subst}
use mathlib.Core.List.{◌++◌}
use Prim.Native.Nat.{ℕ, ◌+◌, ◌-◌, ◌≤◌}
use native.Mathlib.Omega.{arith}
use lib.ListN.{length}
use Rattle.numbers.specs.Words.{Bytes}
use Rattle.schema.specs.Defs.{Schema}
use Rattle.layout.specs.State.{State, ret, add_item}
use Rattle.layout.specs.Members.{put_counted}
use Rattle.area.specs.declared.Round.{Round}
use Rattle.area.specs.declared.Progress.{Progress}
use Rattle.area.specs.Area.{items_at, stack_at, Rep}
use Rattle.area.specs.Posts.{Safe, Larger, Lays, gives, refuses, Meets, Ans}
use Rattle.members.proofs.Slotting.{length_counted, rep_counted}
use Rattle.choices.specs.Posts.{Lodges}
use Rattle.choices.proofs.Meeting.{meets_refused, meets_given}

-- the stack's top lies in the area
pub top_within : (R : Round) (n : ℕ) (p : Progress) → Safe R n p → p.top ≤ n
top_within R n p safe = omega (arith, safe.stack, safe.within, safe.room)

-- the numbers stay in order when an item is laid
safe_larger : (R : Round) (n : ℕ) (p q : Progress) (len : ℕ) → Safe R n p → p.end + (16 + len) ≤ items_at R + p.charge → stack_at R + len ≤ p.top → Larger p len (p.top - len) q → Safe R n q
safe_larger R n p q len safe room low g = record {
  small = safe.small;
  room = safe.room;
  from = omega (arith, g.end, safe.from);
  items = omega (arith, g.end, g.charge);
  low = omega (arith, g.top);
  stack = omega (arith, g.top, g.charge, safe.stack);
  within = omega (arith, g.charge, safe.within);
  blocks = g.blocks;
  rows = omega (arith, g.rows, safe.rows);
  structs = omega (arith, g.structs, safe.structs);
  enums = omega (arith, g.enums, safe.enums);
  next = omega (arith, g.next, g.seen, safe.next);
  seen = omega (arith, g.seen, g.charge, safe.seen);
}

module _ (R : Round) (n : ℕ) (q : Progress) (w : Bytes) (block len at count : ℕ) (safe : Safe R n q) where
  -- the item was refused
  pub lodged_refused : (r : Ans ℕ) (k : ℕ) (t : Progress) (w' : Bytes) → Lays R n q w block len r w' → r ≡ refuses k t → Lodges R n q w block len at count (refuses k t) w'
  lodged_refused r k t w' h e = record {
    grew = subst (Safe R n) (sym laid.grew.1) safe;
    says = λ S s σ buf b off l f g rep.
        meets_refused S R n (λ _. σ ++ buf) (λ a x. a ≡ x) (λ c. σ ++ c) (λ c x. length c ≡ length buf) (add_item block b) (λ p. ret (put_counted buf off p count)) s k t w' (laid.says S s (σ ++ buf) b l rep);
  }
    where
      laid : Lays R n q w block len (refuses k t) w'
      laid = subst (λ (x : Ans ℕ). Lays R n q w block len x w') e h

  -- it was laid
  pub lodged_done : (r : Ans ℕ) (x : ℕ) (t : Progress) (w' w'' : Bytes) → q.end + (16 + len) ≤ items_at R + q.charge → stack_at R ≤ at → at + 12 + len ≤ q.top
      → Lays R n q w block len r w' → r ≡ gives x t → w'' ≡ put_counted w' at x count → Lodges R n q w block len at count (gives (tt {0}) t) w''
  unfolding ret
  lodged_done r x t w' w'' room low high h e f = record {
    grew = (safe_t, laid.grew);
    says = λ S s σ buf b off l g k rep.
        meets_given S R n (λ _. σ ++ buf) (λ a x. a ≡ x) (λ c. σ ++ c) (λ c x. length c ≡ length buf) (add_item block b) (λ p. ret (put_counted buf off p count)) s x t w' (gives (tt {0}) t) w'' (laid.says S s (σ ++ buf) b l rep)
        (λ a s' rep' i. put S s' σ buf off g k a rep' i);
  }
    where
      laid : Lays R n q w block len (gives x t) w'
      laid = subst (λ (y : Ans ℕ). Lays R n q w block len y w') e h

      safe_t : Safe R n t
      safe_t = safe_larger R n q t len safe room (omega arith) laid.grew

      put : (S : Schema) (s : State) (σ buf : Bytes) (off : ℕ) → stack_at R + length σ + off ≡ at → off + 12 ≤ length buf → (a : ℕ) → Rep S R n s (σ ++ buf) t w' → a ≡ x
          → Meets S R n (λ c. σ ++ c) (λ c x. length c ≡ length buf) (ret (put_counted buf off a count) s) (gives (tt {0}) t) w''
      put S s σ buf off g k a rep i =
          rw (i, f) (rep_counted S R n σ buf off at x count rep (top_within R n t safe_t) k g, length_counted buf off x count k)
