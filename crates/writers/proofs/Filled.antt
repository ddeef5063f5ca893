-- What a member's writer has done: it wrote a run and did something with it. Assumes nothing.
use Rattle.std.specs.Prelude.{Option, Some, None, option_map}
use mathlib.Core.Path.{◌≡◌, subst, ◌∙◌}
use mathlib.Core.List.{◌++◌, append-nil}
use Prim.Native.Nat.{ℕ, ◌+◌, ◌-◌, ◌≤◌}
use native.Mathlib.Omega.{arith}
use lib.ListN.{length, length-append}
use Rattle.numbers.specs.Words.{Bytes, over}
use Rattle.schema.specs.Defs.{Schema}
use Rattle.definitions.specs.declared.members.Member as coded
use Rattle.layout.specs.State.{State, M, ret, bind, opt_m, add_item}
use Rattle.layout.specs.Members.{need, put_counted}
use Rattle.layout.specs.Runs.{Run}
use Rattle.area.specs.declared.Round.{Round}
use Rattle.area.specs.declared.Progress.{Progress}
use Rattle.area.specs.Area.{stack_at, Rep}
use Rattle.area.specs.Posts.{Meets, Ans, gives, refuses}
use Rattle.cells.specs.declared.defs.Def.{Def}
use Rattle.cells.specs.Names.{def_of, member_of}
use Rattle.members.specs.Posts.{Fills, Went}
use Rattle.members.proofs.Filling.{fills_as}
use Rattle.runs.specs.Posts.{Yields, run_bytes}
use Rattle.choices.specs.Posts.{Lodges, Lodged, Embeds, Lowered}
use Rattle.choices.proofs.Meeting.{meets_refused, meets_given}

-- the same under another name
pub fills_same : {known known' : Schema → Type 0} {R : Round} {n : ℕ} {p : Progress} {w : Bytes} {size : ℕ} {f g : Schema → Bytes → M Bytes} {r : Ans (Unit {0})} {w' : Bytes}
    → ((S : Schema) → known' S → known S) → ((S : Schema) → known' S → (buf : Bytes) (s : State) → g S buf s ≡ f S buf s) → Fills known R n p w size f r w' → Fills known' R n p w size g r w'
fills_same {known} {known'} {R} {n} {p} {w} {size} {f} {g} {r} {w'} k e h = fills_as R n p w known' known size g f r w' (λ S i. (k S i, e S i)) h

-- what is done with a run
abbrev pub with_run : M (Option Run) → Bytes → (Run → M Bytes) → M Bytes
with_run f buf k = bind f λ o. opt_m o (ret buf) k

module _ (known : Schema → Type 0) (R : Round) (n : ℕ) (p : Progress) (w : Bytes) (notes size : ℕ) (f : Schema → M (Option Run)) (k : Schema → Bytes → Run → M Bytes) (r : Ans (Option ℕ)) (w' : Bytes)
    (yields : Yields known R n p w notes f r w') where
  -- it was refused
  pub run_refused : (e : ℕ) (t : Progress) → r ≡ refuses e t → Fills known R n p w size (λ S buf. with_run (f S) buf (k S buf)) (refuses e t) w'
  run_refused e t i = record {
    grew = yielded.grew;
    says = λ S j s σ buf l rep.
        meets_refused S R n (λ o. (σ ++ buf) ++ run_bytes o) (λ o x. option_map (λ z. z.block) o ≡ x) (λ b. σ ++ b) (λ b x. length b ≡ size) (f S) (λ o. opt_m o (ret buf) (k S buf)) s e t w'
        (yielded.says S j s (σ ++ buf) rep);
  }
    where
      yielded : Yields known R n p w notes f (refuses e t) w'
      yielded = subst (λ (x : Ans (Option ℕ)). Yields known R n p w notes f x w') i yields

  -- it was dropped
  pub run_dropped : (t : Progress) → r ≡ gives None t → notes ≤ 1 → Fills known R n p w size (λ S buf. with_run (f S) buf (k S buf)) (gives (tt {0}) t) w'
  unfolding ret opt_m
  run_dropped t i few = record {
    grew = (yielded.grew.0, record { more = yielded.grew.1.more; paid = yielded.grew.1.paid; top = yielded.grew.1.top; met = omega (arith, yielded.grew.1.met) });
    says = λ S j s σ buf l rep.
        meets_given S R n (λ o. (σ ++ buf) ++ run_bytes o) (λ o x. option_map (λ z. z.block) o ≡ x) (λ b. σ ++ b) (λ b x. length b ≡ size) (f S) (λ o. opt_m o (ret buf) (k S buf)) s None t w' (gives (tt {0}) t) w'
        (yielded.says S j s (σ ++ buf) rep) (λ o s' rep' g. left S σ buf l o s' rep' g);
  }
    where
      yielded : Yields known R n p w notes f (gives None t) w'
      yielded = subst (λ (x : Ans (Option ℕ)). Yields known R n p w notes f x w') i yields

      left : (S : Schema) (σ buf : Bytes) → length buf ≡ size → (o : Option Run) (s : State) → Rep S R n s ((σ ++ buf) ++ run_bytes o) t w' → option_map (λ z. z.block) o ≡ None
          → Meets S R n (λ b. σ ++ b) (λ b x. length b ≡ size) (opt_m o (ret buf) (k S buf) s) (gives (tt {0}) t) w'
      left S σ buf l None s rep g = (rw (← (append-nil (σ ++ buf))) rep, l)
      left S σ buf l (Some z) s rep g = let y : ◌≡◌ {A = ℕ} 0 1 = cc in absurd (omega arith)

  -- it is there, and u does with it what k does
  pub run_kept : (block : ℕ) (t : Progress) (u : Ans (Unit {0})) (w'' : Bytes) → r ≡ gives (Some block) t → Went R n p 1 u
      → ((S : Schema) → known S → (s : State) (σ buf : Bytes) (z : Run) → length buf ≡ size → z.block ≡ block → p.top ≡ stack_at R + (length σ + size) → p.top + length z.bytes ≡ t.top
      → Rep S R n s ((σ ++ buf) ++ z.bytes) t w' → Meets S R n (λ b. σ ++ b) (λ b x. length b ≡ size) (k S buf z s) u w'')
      → Fills known R n p w size (λ S buf. with_run (f S) buf (k S buf)) u w''
  unfolding opt_m
  run_kept block t u w'' i went go = record {
    grew = went;
    says = λ S j s σ buf l rep.
        meets_given S R n (λ o. (σ ++ buf) ++ run_bytes o) (λ o x. option_map (λ z. z.block) o ≡ x) (λ b. σ ++ b) (λ b x. length b ≡ size) (f S) (λ o. opt_m o (ret buf) (k S buf)) s (Some block) t w' u w''
        (yielded.says S j s (σ ++ buf) rep) (λ o s' rep' g. kept S j σ buf l rep.top o s' rep' g);
  }
    where
      yielded : Yields known R n p w notes f (gives (Some block) t) w'
      yielded = subst (λ (x : Ans (Option ℕ)). Yields known R n p w notes f x w') i yields

      kept : (S : Schema) → known S → (σ buf : Bytes) → length buf ≡ size → p.top ≡ stack_at R + length (σ ++ buf) → (o : Option Run) (s : State) → Rep S R n s ((σ ++ buf) ++ run_bytes o) t w'
          → option_map (λ z. z.block) o ≡ Some block → Meets S R n (λ b. σ ++ b) (λ b x. length b ≡ size) (opt_m o (ret buf) (k S buf) s) u w''
      kept S j σ buf l top None s rep g = let y : ◌≡◌ {A = ℕ} 0 1 = cc in absurd (omega arith)
      kept S j σ buf l top (Some z) s rep g =
          let b : z.block ≡ block = cc in
          let x : length (σ ++ buf) ≡ length σ + length buf = length-append σ buf in
          let y : length ((σ ++ buf) ++ z.bytes) ≡ length (σ ++ buf) + length z.bytes = length-append (σ ++ buf) z.bytes in
          go S j s σ buf z l b (omega arith) (omega (arith, rep.top)) rep

  -- it is filed
  pub run_lodged : (block count off : ℕ) (t : Progress) (u : Ans (Unit {0})) (w'' : Bytes) → r ≡ gives (Some block) t → off + 12 ≤ size → length w' ≡ n
      → ((S : Schema) (buf : Bytes) (z : Run) (s : State) → k S buf z s ≡ bind (add_item z.block z.bytes) (λ x. ret (put_counted buf off x count)) s)
      → stack_at R + size ≤ p.top → Lodges R (length w') t w' block (t.top - p.top) (p.top - size + off) count u w''
      → Fills known R n p w size (λ S buf. with_run (f S) buf (k S buf)) u w''
  run_lodged block count off t u w'' i fit e same low h =
      run_kept block t u w'' i (went u lodges.grew)
      (λ S j s σ buf z l b top up rep.
      rw (same S buf z s, b, ← l) (lodges.says S s σ buf z.bytes off (omega arith) (omega arith) (omega arith) rep))
    where
      yielded : Yields known R n p w notes f (gives (Some block) t) w'
      yielded = subst (λ (x : Ans (Option ℕ)). Yields known R n p w notes f x w') i yields

      lodges : Lodges R n t w' block (t.top - p.top) (p.top - size + off) count u w''
      lodges = subst (λ (x : ℕ). Lodges R x t w' block (t.top - p.top) (p.top - size + off) count u w'') e h

      went : (v : Ans (Unit {0})) → Lodged R n t (t.top - p.top) v → Went R n p 1 v
      went (refuses a b) g = g
      went (gives u b) g =
          let y = yielded.grew.2 in
          (g.0, record { more = omega (arith, y.more, g.1.end); paid = omega (arith, y.paid, g.1.end, g.1.charge); top = omega (arith, yielded.grew.1, g.1.top); met = omega (arith, y.met, g.1.seen, g.1.charge) })

  -- it is moved into the structure
  pub run_embedded : (F : Bytes) (d : Def) (m : coded.Member) (block : ℕ) (t : Progress) (u : Ans (Unit {0})) (w'' : Bytes) → r ≡ gives (Some block) t → length w' ≡ n → size ≡ d.size
      → ((S : Schema) (buf : Bytes) (z : Run) (s : State) → k S buf z s ≡ need (def_of F d) (member_of m) (length z.bytes) buf (ret (over buf m.offset z.bytes)) s)
      → Embeds R (length w') p.top t w' d m u w'' → Fills known R n p w size (λ S buf. with_run (f S) buf (k S buf)) u w''
  run_embedded F d m block t u w'' i e q same h =
      run_kept block t u w'' i (went u embeds.grew)
      (λ S j s σ buf z l b top up rep.
      rw (same S buf z s, q) (embeds.says F S s σ buf z.bytes (l ∙ q) up rep))
    where
      yielded : Yields known R n p w notes f (gives (Some block) t) w'
      yielded = subst (λ (x : Ans (Option ℕ)). Yields known R n p w notes f x w') i yields

      embeds : Embeds R n p.top t w' d m u w''
      embeds = subst (λ (x : ℕ). Embeds R x p.top t w' d m u w'') e h

      went : (v : Ans (Unit {0})) → Lowered R n t p.top v → Went R n p 1 v
      went (refuses a b) g = absurd g
      went (gives u b) g =
          let y = yielded.grew.2 in
          (g.0, record { more = omega (arith, y.more, g.1.end); paid = omega (arith, y.paid, g.1.end, g.1.charge); top = omega (arith, g.1.top); met = omega (arith, y.met, g.1.seen, g.1.charge) })
