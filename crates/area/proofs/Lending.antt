-- The buffer that is the stack's top, lent to a function and back. Assumes nothing.
use mathlib.Core.Path.{◌≡◌, refl, sym, ap, subst, ◌∙◌}
use mathlib.Core.List.{[], ◌∷◌, ◌++◌, append-nil}
use Prim.Native.Nat.{ℕ, ◌+◌, ◌-◌, ◌*◌, ◌≤◌}
use native.Mathlib.Omega.{arith}
use borrow.Rule.Slice.PartMut.{put_mid}
use lib.ListN.{length, take, drop, length-append, drop_of_length-le}
use lib.Seq.{drop-drop}
use Rattle.numbers.specs.Words.{Bytes, words, over, Stands}
use Rattle.numbers.proofs.Bytes.{cut_at, next}
use Rattle.schema.specs.Defs.{Schema}
use Rattle.layout.specs.State.{State}
use Rattle.area.specs.declared.Round.{Round}
use Rattle.area.specs.declared.Progress.{Progress}
use Rattle.area.specs.Kept.{kept, rows_bytes}
use Rattle.area.specs.Area.{rows_of, encode, stack_at, Rep}
use Rattle.area.proofs.Flat as flat
use Rattle.area.proofs.Reps.{rep_put}

-- a part put back is a paste
pub mid_over : (at k : ℕ) (w b : Bytes) → length b ≡ k → put_mid at k w b ≡ over w at b
unfolding over
mid_over at k w b e = ap (λ (x : Bytes). take at w ++ (b ++ x)) (drop-drop k at w ∙ ap (λ (j : ℕ). drop (at + j) w) (sym e))

over_whole : (b c : Bytes) → length b ≡ length c → over b 0 c ≡ c
unfolding over
over_whole b c e = let y : length b ≤ 0 + length c = omega arith in ap (λ (x : Bytes). c ++ x) (drop_of_length-le b y) ∙ append-nil c

module _ (S : Schema) (R : Round) (n : ℕ) where
  -- its bytes
  pub buffer : {s : State} {p : Progress} {w : Bytes} (σ buf : Bytes) (at k : ℕ) → Rep S R n s (σ ++ buf) p w → p.top ≤ n → at + k ≡ p.top → length buf ≡ k → take k (drop at w) ≡ buf
  buffer {s} {p} {w} σ buf at k r h e l =
      let m : length (σ ++ buf) ≡ length σ + length buf = length-append σ buf in
      let st : Stands w (stack_at R) (σ ++ buf) =
      rw r.work
      (flat.holds
      ((32768, rows_of s.core.blocks) ∷ (16384, rows_bytes (kept R.skip s.events).rows) ∷ (16384, []) ∷ (4 * R.entries, words s.core.structs) ∷ (4 * R.entries, words s.core.enums) ∷ (R.cap, encode s.core.items) ∷ [])
      [] (n - stack_at R) (σ ++ buf) (stack_at R) (omega (arith, r.top)) (omega arith)) in
      rw (← l) (cut_at w buf at (next w σ buf (stack_at R) at (length σ) refl (omega (arith, r.top)) st))

  -- it was lent to a function that makes g of it, and came back
  pub lent : {s : State} {p : Progress} {w : Bytes} (σ buf : Bytes) (at k : ℕ) (g : Bytes → Bytes) → Rep S R n s (σ ++ buf) p w → p.top ≤ n → at + k ≡ p.top → length buf ≡ k
      → length (g buf) ≡ k → Rep S R n s (σ ++ g buf) p (put_mid at k w (g (take k (drop at w))))
  lent {s} {p} {w} σ buf at k g r h e l m =
      let z : length (σ ++ buf) ≡ length σ + length buf = length-append σ buf in
      let c : take k (drop at w) ≡ buf = buffer σ buf at k r h e l in
      rw (c, mid_over at k w (g buf) m)
      (subst (λ (x : Bytes). Rep S R n s (σ ++ x) p (over w at (g buf))) (over_whole buf (g buf) (omega arith)) (rep_put S R n σ buf (g buf) 0 at r h (omega arith) (omega (arith, r.top))))
