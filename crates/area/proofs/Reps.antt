-- What each step does to the representation. No line here names a place of the code. Assumes nothing.
use mathlib.Core.Path.{◌≡◌, refl, ap, ◌∙◌}
use mathlib.Core.List.{List, [], ◌∷◌, ◌++◌, append_assoc}
use Prim.Native.Nat.{ℕ, ◌+◌, ◌-◌, ◌*◌, ◌≤◌}
use native.Mathlib.Omega.{arith}
use lib.ListN.{length, take, drop, length-append}
use Rattle.numbers.specs.Words.{Bytes, words, over, zeros, Stands}
use Rattle.numbers.proofs.Bytes.{cut_at, next}
use Rattle.schema.specs.Defs.{Schema}
use Rattle.layout.specs.State.{Core, Remark, State}
use Rattle.area.specs.declared.Round.{Round}
use Rattle.area.specs.declared.Progress.{Progress}
use Rattle.area.specs.Segments.{Segment, flat}
use Rattle.area.specs.Kept.{kept, rows_bytes}
use Rattle.area.specs.Area.{rows_of, encode, stack_at, segments, Rep, with_top}
use Rattle.area.proofs.Over.{over_right, over_left, length_over}
use Rattle.area.proofs.Flat as flat

module _ (S : Schema) (R : Round) (n : ℕ) where
  -- the segments below the stack
  abbrev below : Core → List Remark → List Segment
  below c rows =
      (32768, rows_of c.blocks) ∷ (16384, rows_bytes rows) ∷ (16384, []) ∷ (4 * R.entries, words c.structs) ∷ (4 * R.entries, words c.enums)
      ∷ (R.cap, encode c.items) ∷ []

  -- the stack replaced
  rep_stack : {s : State} {σ τ : Bytes} {p : Progress} {w w' : Bytes} (t : ℕ) → Rep S R n s σ p w → t ≡ stack_at R + length τ
      → w' ≡ flat (segments R n s.core (kept R.skip s.events).rows τ) → Rep S R n s τ (with_top p t) w'
  rep_stack t r e f = record {
    work = f;
    blocks = r.blocks;
    rows = r.rows;
    structs = r.structs;
    enums = r.enums;
    end = r.end;
    top = e;
    charge = r.charge;
    seen = r.seen;
    next = r.next;
    tiny = r.tiny;
    small = r.small;
    struct_names = r.struct_names;
    enum_names = r.enum_names;
    known = r.known;
    entries = r.entries;
  }

  -- room above the stack is zeros already
  pub rep_push : {s : State} {σ : Bytes} {p : Progress} {w : Bytes} (k : ℕ) → Rep S R n s σ p w → p.top + k ≤ n
      → Rep S R n s (σ ++ zeros k) (with_top p (p.top + k)) w
  rep_push {s} {σ} {p} {w} k r h =
      rep_stack (p.top + k) r (omega (arith, r.top, length-append σ (zeros k), flat.length_zeros k))
      (r.work ∙ flat.push (below s.core (kept R.skip s.events).rows) [] (n - stack_at R) σ k (omega (arith, r.top)))

  -- bytes stored in the buffer that is the stack's top
  pub rep_put : {s : State} {p : Progress} {w : Bytes} (σ buf b : Bytes) (off at : ℕ) → Rep S R n s (σ ++ buf) p w → p.top ≤ n → off + length b ≤ length buf
      → stack_at R + length σ + off ≡ at → Rep S R n s (σ ++ over buf off b) p (over w at b)
  rep_put {s} {p} {w} σ buf b off at r h l e =
      let rows = (kept R.skip s.events).rows in
      let m : length (σ ++ buf) ≡ length σ + length buf = length-append σ buf in
      let k : length (σ ++ over buf off b) ≡ length (σ ++ buf) = length-append σ (over buf off b) ∙ omega (arith, length_over buf off b l) in
      rep_stack p.top r (omega (arith, r.top))
      (ap (λ (x : Bytes). over x at b) r.work
      ∙ flat.replace (below s.core rows) [] (n - stack_at R) (σ ++ buf) b (length σ + off) at (omega arith) (omega (arith, r.top)) (omega arith)
      ∙ ap (λ (x : Bytes). flat (segments R n s.core rows x)) (over_right σ buf off b))

  -- the stack's top taken off
  pub rep_pop : {s : State} {p : Progress} {w : Bytes} (σ b : Bytes) (k from : ℕ) → Rep S R n s (σ ++ b) p w → p.top ≤ n → from + k ≡ p.top → length b ≡ k
      → Rep S R n s σ (with_top p from) (over w from (zeros k))
  rep_pop {s} {p} {w} σ b k from r h e q =
      let rows = (kept R.skip s.events).rows in
      let m : length (σ ++ b) ≡ length σ + length b = length-append σ b in
      rep_stack from r (omega (arith, r.top))
      (ap (λ (x : Bytes). over x from (zeros k)) r.work
      ∙ flat.pop (below s.core rows) [] (n - stack_at R) σ b k from q (omega (arith, r.top)) (omega (arith, r.top)))

  -- the stack's top moved into the buffer below it
  pub rep_shift : {s : State} {p : Progress} {w : Bytes} (σ buf b : Bytes) (off from to k : ℕ) → Rep S R n s ((σ ++ buf) ++ b) p w → p.top ≤ n → from + k ≡ p.top
      → length b ≡ k → off + k ≤ length buf → stack_at R + length σ + off ≡ to
      → Rep S R n s (σ ++ over buf off b) (with_top p from) (over (over w to (take k (drop from w))) from (zeros k))
  rep_shift {s} {p} {w} σ buf b off from to k r h e q l f =
      let rows = (kept R.skip s.events).rows in
      let m : length ((σ ++ buf) ++ b) ≡ length (σ ++ buf) + length b = length-append (σ ++ buf) b in
      let u : length (σ ++ buf) ≡ length σ + length buf = length-append σ buf in
      let st : Stands w (stack_at R) ((σ ++ buf) ++ b) = rw r.work (flat.holds (below s.core rows) [] (n - stack_at R) ((σ ++ buf) ++ b) (stack_at R) (omega (arith, r.top)) (omega arith)) in
      let c : take k (drop from w) ≡ b = rw (← q) (cut_at w b from (next w (σ ++ buf) b (stack_at R) from (length (σ ++ buf)) refl (omega (arith, r.top)) st)) in
      let v : length (over buf off b ++ b) ≡ length (buf ++ b) = length-append (over buf off b) b ∙ omega (arith, length_over buf off b (omega arith), length-append buf b) in
      let g : Rep S R n s (σ ++ (buf ++ b)) p w = rw (← append_assoc) r in
      let d : Rep S R n s (σ ++ (over buf off b ++ b)) p (over w to b) =
      rw (← (over_left buf b off b (omega arith))) (rep_put σ (buf ++ b) b off to g h (omega (arith, length-append buf b)) f) in
      rw c (rep_pop (σ ++ over buf off b) b k from (rw append_assoc d) h e q)
