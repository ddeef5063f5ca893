-- The run on top of the stack is moved into the structure below it, or dropped with remark 1. Assumes nothing.
use mathlib.Core.Path.{◌≡◌, refl, sym, ap, subst, ◌∙◌}
use mathlib.Core.Bool.{Bool, true, false, not}
use mathlib.Core.List.{◌++◌}
use Prim.Native.Nat.{ℕ, ◌+◌, ◌-◌, ◌≤◌}
use native.Mathlib.Omega.{arith}
use borrow.Author.Tests.{leb-true, not-true, not-false}
use lib.Dec.{leb}
use lib.ListN.{length, take, drop, length-append}
use Rattle.numbers.specs.Words.{Bytes, over, zeros}
use Rattle.schema.specs.Defs.{Schema}
use Rattle.definitions.specs.declared.members.Member as coded
use Rattle.layout.specs.State.{State, M, done, ret, with_remark}
use Rattle.layout.specs.Members.{need, leaves}
use Rattle.area.specs.declared.Round.{Round}
use Rattle.area.specs.declared.Progress.{Progress}
use Rattle.area.specs.Area.{stack_at, Rep, with_top}
use Rattle.area.specs.Posts.{Safe, Open, Notes, Fell, Meets, gives}
use Rattle.area.proofs.Over.{length_over}
use Rattle.area.proofs.Reps.{rep_pop, rep_shift}
use Rattle.cells.specs.declared.defs.Def.{Def}
use Rattle.cells.specs.Names.{def_of, member_of}
use Rattle.members.specs.Posts.{remark_on}
use Rattle.members.proofs.Filling.{def_size, leaves_is, need_no, need_yes, went_noted}
use Rattle.choices.specs.Posts.{Embeds}
use Rattle.choices.proofs.Lodging.{top_within}

-- ---- a member's test
-- what it tells
pub fit_within : (fit : Bool) (a b : ℕ) → fit ≡ leb a b → not fit ≡ false → a ≤ b
fit_within fit a b e f = leb-true a b (sym e ∙ not-false fit f)

-- it fits
pub need_fits : (F : Bytes) (d : Def) (m : coded.Member) (k : ℕ) (buf : Bytes) (f : M Bytes) (s : State) → leb (m.offset + k) d.size ≡ true
    → need (def_of F d) (member_of m) k buf f s ≡ f s
need_fits F d m k buf f s e = ap (λ (a : M Bytes). a s) (need_yes (def_of F d) (member_of m) k buf f (rw (def_size F d) e))

-- it does not: remark 1
pub need_leaves : (F : Bytes) (d : Def) (m : coded.Member) (k : ℕ) (buf : Bytes) (f : M Bytes) (s : State) → leb (m.offset + k) d.size ≡ false
    → need (def_of F d) (member_of m) k buf f s ≡ leaves (def_of F d) (member_of m) 1 d.size buf s
need_leaves F d m k buf f s e =
    ap (λ (a : M Bytes). a s) (need_no (def_of F d) (member_of m) k buf f (rw (def_size F d) e)) ∙ ap (λ (x : ℕ). leaves (def_of F d) (member_of m) 1 x buf s) (def_size F d)

need_wide : (F : Bytes) (d : Def) (m : coded.Member) (k : ℕ) (buf : Bytes) (f : M Bytes) (s : State) → leb (m.offset + k) d.size ≡ false
    → need (def_of F d) (member_of m) k buf f s ≡ done buf (with_remark (remark_on d m 1 d.size) s)
need_wide F d m k buf f s e = need_leaves F d m k buf f s e ∙ leaves_is F d m 1 d.size buf s

-- ---- the numbers
-- they stay in order when the stack's top goes
safe_pop : (R : Round) (n : ℕ) (p : Progress) (base : ℕ) → Safe R n p → stack_at R ≤ base → base ≤ p.top → Safe R n (with_top p base)
safe_pop R n p base safe low high = record {
  small = safe.small;
  room = safe.room;
  from = safe.from;
  items = safe.items;
  low = low;
  stack = omega (arith, safe.stack);
  within = safe.within;
  blocks = safe.blocks;
  rows = safe.rows;
  structs = safe.structs;
  enums = safe.enums;
  next = safe.next;
  seen = safe.seen;
}

module _ (R : Round) (n base : ℕ) (q : Progress) (w : Bytes) (d : Def) (m : coded.Member) (safe : Safe R n q) (more : Open q) (low : stack_at R + d.size ≤ base) (high : base ≤ q.top) where
  -- the run is too long
  pub embeds_wide : (fit : Bool) (k : ℕ) (q' : Progress) (w' : Bytes) (t : Progress) (w'' : Bytes) → fit ≡ leb (m.offset + (q.top - base)) d.size → not fit ≡ true → Fell q base w q' w' → k ≡ n
      → Notes R k q' w' (remark_on d m 1 d.size) t w'' → Embeds R n base q w d m (gives (tt {0}) t) w''
  embeds_wide fit k q' w' t w'' e f fell i h = record {
    grew = (
      (went_noted R n (with_top q base) w' (remark_on d m 1 d.size) t w'' (safe_pop R n q base safe (omega arith) high) more noted).0,
      record { end = noted.end; top = noted.top; charge = noted.charge; seen = omega (arith, noted.seen) },
    );
    says = λ F S s σ buf b l g rep. wide F S s σ buf b l g rep;
  }
    where
      noted : Notes R n (with_top q base) w' (remark_on d m 1 d.size) t w''
      noted = subst (λ (x : Progress). Notes R n x w' (remark_on d m 1 d.size) t w'') fell.number (subst (λ (x : ℕ). Notes R x q' w' (remark_on d m 1 d.size) t w'') i h)

      wide : (F : Bytes) (S : Schema) (s : State) (σ buf b : Bytes) → length buf ≡ d.size → base + length b ≡ q.top → Rep S R n s ((σ ++ buf) ++ b) q w
          → Meets S R n (λ c. σ ++ c) (λ c x. length c ≡ d.size) (need (def_of F d) (member_of m) (length b) buf (ret (over buf m.offset b)) s) (gives (tt {0}) t) w''
      wide F S s σ buf b l g rep =
          let k : length b ≡ q.top - base = omega arith in
          let v : leb (m.offset + length b) d.size ≡ false = ap (λ (x : ℕ). leb (m.offset + x) d.size) k ∙ sym e ∙ not-true fit f in
          let p : Rep S R n s (σ ++ buf) (with_top q base) (over w base (zeros (q.top - base))) =
          rep_pop S R n (σ ++ buf) b (q.top - base) base rep (top_within R n q safe) (omega arith) k in
          rw (need_wide F d m (length b) buf (ret (over buf m.offset b)) s v)
          (noted.says S s (σ ++ buf) (subst (Rep S R n s (σ ++ buf) (with_top q base)) (sym fell.area) p), l)

  -- there is room for the move
  pub shift_room : (fit : Bool) (k : ℕ) → fit ≡ leb (m.offset + (q.top - base)) d.size → not fit ≡ false → k ≡ n
      → (base - d.size + m.offset + (q.top - base) ≤ base) × (base + (q.top - base) ≤ k)
  shift_room fit k e f g =
      let i : m.offset + (q.top - base) ≤ d.size = fit_within fit (m.offset + (q.top - base)) d.size e f in
      (omega arith, omega (arith, top_within R n q safe))

  -- it fits
  pub embeds_fits : (fit : Bool) (w' : Bytes) → fit ≡ leb (m.offset + (q.top - base)) d.size → not fit ≡ false
      → w' ≡ over (over w (base - d.size + m.offset) (take (q.top - base) (drop base w))) base (zeros (q.top - base)) → Embeds R n base q w d m (gives (tt {0}) (with_top q base)) w'
  unfolding ret
  embeds_fits fit w' e f g = record {
    grew = (safe_pop R n q base safe (omega arith) high, record { end = refl; top = refl; charge = refl; seen = omega arith });
    says = λ F S s σ buf b l k rep. moved F S s σ buf b l k rep;
  }
    where
      moved : (F : Bytes) (S : Schema) (s : State) (σ buf b : Bytes) → length buf ≡ d.size → base + length b ≡ q.top → Rep S R n s ((σ ++ buf) ++ b) q w
          → Meets S R n (λ c. σ ++ c) (λ c x. length c ≡ d.size) (need (def_of F d) (member_of m) (length b) buf (ret (over buf m.offset b)) s) (gives (tt {0}) (with_top q base)) w'
      moved F S s σ buf b l k rep =
          let j : length b ≡ q.top - base = omega arith in
          let v : leb (m.offset + length b) d.size ≡ true = ap (λ (x : ℕ). leb (m.offset + x) d.size) j ∙ sym e ∙ not-false fit f in
          let i : m.offset + length b ≤ d.size = leb-true (m.offset + length b) d.size v in
          let z : length ((σ ++ buf) ++ b) ≡ length (σ ++ buf) + length b = length-append (σ ++ buf) b in
          let y : length (σ ++ buf) ≡ length σ + length buf = length-append σ buf in
          rw (need_fits F d m (length b) buf (ret (over buf m.offset b)) s v, g) (
            rep_shift S R n σ buf b m.offset base (base - d.size + m.offset) (q.top - base) rep (top_within R n q safe) (omega arith) j (omega arith) (omega (arith, rep.top)),
            length_over buf m.offset b (omega arith) ∙ l,
          )
