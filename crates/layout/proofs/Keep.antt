-- What an action keeps: rules for a claim on states, one for each way to put actions together, and the claims that are made.
-- Assumes nothing.
use Rattle.std.specs.Prelude.{Option, Some, None, option_map, Ok, Err}
use Prim.Native.Nat.{ℕ, ◌≤◌}
use native.Mathlib.Omega.{arith}
use mathlib.Core.Bool.{Bool, true, false}
use mathlib.Core.Path.{◌≡◌, refl}
use mathlib.Core.List.{List}
use Rattle.numbers.specs.Words.{Bytes}
use Rattle.coerce.specs.Numbers.{Fit}
use Rattle.coerce.specs.declared.misfit.Misfit.TheVariants.{Unfit, FloatText}
use Rattle.layout.specs.State.{State, Out, done, stop, M, Remark, after, bind, ret, fail, if_m, opt_m, fit_m}
use Rattle.layout.specs.Runs.{Run}

-- what is claimed of a state, of a refusal's number and the events before it, of the names of the blocks that items are filed in
pub record Claim : Type 1 where
  pub holds : State → Type 0
  pub refused : ℕ → List Remark → Type 0
  pub files : ℕ → Type 0

-- a claim on states alone
abbrev pub always : (State → Type 0) → Claim
always P = record { holds = P; refused = λ n es. Unit {0}; files = λ n. Unit {0} }

abbrev pub Okay : {A : Type 0} → Claim → Out A → Type 0
Okay C (done a s) = C.holds s
Okay C (stop n es) = C.refused n es

-- where the claim holds before the action it holds after it
unfoldable pub Keeps : {A : Type 0} → Claim → M A → Type 0
Keeps C m = (s : State) → C.holds s → Okay C (m s)

-- an answer that is a run goes to a block with an allowed name
abbrev pub OkayRun : Claim → Out (Option Run) → Type 0
OkayRun C (done None s) = C.holds s
OkayRun C (done (Some r) s) = C.files r.block × C.holds s
OkayRun C (stop n es) = C.refused n es

unfoldable pub KeepsRun : Claim → M (Option Run) → Type 0
KeepsRun C m = (s : State) → C.holds s → OkayRun C (m s)

-- what holds of a state may be said of its events at a refusal; writing refuses with 8 to 11
abbrev pub Refusable : Claim → Type 0
Refusable C = (n : ℕ) (s : State) → 8 ≤ n → n ≤ 11 → C.holds s → C.refused n s.events

module _ (C : Claim) where
  pub k_ret : {A : Type 0} (a : A) → Keeps C (ret a)
  unfolding Keeps ret
  k_ret a s p = p

  pub k_fail : (A : Type 0) (n : ℕ) → ((s : State) → C.holds s → C.refused n s.events) → Keeps {A = A} C (fail n)
  unfolding Keeps fail
  k_fail A n z s p = z s p

  pub k_deep : (A : Type 0) → Refusable C → Keeps {A = A} C (fail 8)
  k_deep A z = k_fail A 8 (λ s p. z 8 s (omega arith) (omega arith) p)

  k_after : {A B : Type 0} (k : A → M B) → ((a : A) → Keeps C (k a)) → (o : Out A) → Okay C o → Okay C (after o k)
  unfolding Keeps after
  k_after k h (done a s) p = h a s p
  k_after k h (stop n es) p = p

  pub k_bind : {A B : Type 0} (m : M A) (k : A → M B) → Keeps C m → ((a : A) → Keeps C (k a)) → Keeps C (bind m k)
  unfolding Keeps bind
  k_bind m k hm hk s p = k_after k hk (m s) (hm s p)

  pub k_if : {A : Type 0} (b : Bool) (m n : M A) → Keeps C m → Keeps C n → Keeps C (if_m b m n)
  unfolding if_m
  k_if true m n hm hn = hm
  k_if false m n hm hn = hn

  pub k_when : {A : Type 0} (b : Bool) (m n : M A) → (b ≡ true → Keeps C m) → Keeps C n → Keeps C (if_m b m n)
  unfolding if_m
  k_when true m n hm hn = hm refl
  k_when false m n hm hn = hn

  pub k_opt : {X A : Type 0} (o : Option X) (m : M A) (f : X → M A) → Keeps C m → ((x : X) → o ≡ Some x → Keeps C (f x)) → Keeps C (opt_m o m f)
  unfolding opt_m
  k_opt None m f hm hf = hm
  k_opt (Some x) m f hm hf = hf x refl

  pub k_fit : {X A : Type 0} (o : Fit X) (m : M A) (f : X → M A) → Refusable C → Keeps C m → ((x : X) → Keeps C (f x)) → Keeps C (fit_m o m f)
  unfolding fit_m
  k_fit {A = A} (Ok x) m f z hm hf = hf x
  k_fit {A = A} (Err Unfit) m f z hm hf = hm
  k_fit {A = A} (Err FloatText) m f z hm hf = k_fail A 11 (λ s p. z 11 s (omega arith) (omega arith) p)

  -- the same for runs

  pub r_none : KeepsRun C (ret None)
  unfolding KeepsRun ret
  r_none s p = p

  pub r_map : (block : ℕ) → C.files block → (o : Option Bytes) → KeepsRun C (ret (option_map (λ bs. record { bytes = bs; block = block }) o))
  unfolding KeepsRun ret
  r_map block n None s p = p
  r_map block n (Some bs) s p = (n, p)

  r_after : {A : Type 0} (k : A → M (Option Run)) → ((a : A) → KeepsRun C (k a)) → (o : Out A) → Okay C o → OkayRun C (after o k)
  unfolding KeepsRun after
  r_after k h (done a s) p = h a s p
  r_after k h (stop n es) p = p

  pub r_bind : {A : Type 0} (m : M A) (k : A → M (Option Run)) → Keeps C m → ((a : A) → KeepsRun C (k a)) → KeepsRun C (bind m k)
  unfolding Keeps KeepsRun bind
  r_bind m k hm hk s p = r_after k hk (m s) (hm s p)

  pub r_if : (b : Bool) (m n : M (Option Run)) → KeepsRun C m → KeepsRun C n → KeepsRun C (if_m b m n)
  unfolding if_m
  r_if true m n hm hn = hm
  r_if false m n hm hn = hn

  pub r_opt : {X : Type 0} (o : Option X) (m : M (Option Run)) (f : X → M (Option Run)) → KeepsRun C m → ((x : X) → o ≡ Some x → KeepsRun C (f x)) → KeepsRun C (opt_m o m f)
  unfolding opt_m
  r_opt None m f hm hf = hm
  r_opt (Some x) m f hm hf = hf x refl

  -- the run's name may be forgotten
  pub r_keeps : (m : M (Option Run)) → KeepsRun C m → Keeps C m
  unfolding Keeps KeepsRun
  r_keeps m h s p = go (m s) (h s p)
    where
      go : (o : Out (Option Run)) → OkayRun C o → Okay C o
      go (done None t) q = q
      go (done (Some r) t) q = q.1
      go (stop n es) q = q

  l_after : {A : Type 0} (m : M A) (k : Run → M A) → Keeps C m → ((r : Run) → C.files r.block → Keeps C (k r)) → (o : Out (Option Run)) → OkayRun C o → Okay C (after o (λ q. opt_m q m k))
  unfolding Keeps after opt_m
  l_after m k hm hk (done None s) p = hm s p
  l_after m k hm hk (done (Some r) s) p = hk r p.0 s p.1
  l_after m k hm hk (stop n es) p = p

  -- what follows a run knows that its block's name is allowed
  pub l_bind : {A : Type 0} (m : M (Option Run)) (n : M A) (k : Run → M A) → KeepsRun C m → Keeps C n → ((r : Run) → C.files r.block → Keeps C (k r)) → Keeps C (bind m (λ q. opt_m q n k))
  unfolding Keeps KeepsRun bind
  l_bind m n k h hn hk s p = l_after n k hn hk (m s) (h s p)

pub ruleset steps = (k_ret, k_deep, k_bind, k_if, k_opt, k_fit)
