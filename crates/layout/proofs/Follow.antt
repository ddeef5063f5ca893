-- One run follows another: the rules that hold for every relation R of states and every condition D on the end of the first run.
-- Assumes nothing.
use Rattle.std.specs.Prelude.{Option, Some, None, Ok, Err}
use Prim.Native.Nat.{ℕ}
use mathlib.Core.Path.{◌≡◌, refl, subst}
use mathlib.Core.Bool.{Bool, true, false}
use Rattle.coerce.specs.Numbers.{Fit}
use Rattle.coerce.specs.declared.misfit.Misfit.TheVariants.{Unfit, FloatText}
use Rattle.layout.specs.State.{State, Out, done, stop, M, after, bind, ret, fail, if_m, opt_m, fit_m}
use Rattle.layout.proofs.Keep.{Claim, always, Okay, Keeps, k_ret, k_fail, k_bind}

abbrev pub Ends : {A : Type 0} → (State → State → Type 0) → A → State → Out A → Type 0
Ends R a s (done b t) = (a ≡ b) × R s t
Ends R a s (stop n es) = ⊥

-- where the first run ends in D, the second ends alike
abbrev pub Follows : {A : Type 0} → (State → State → Type 0) → (State → Type 0) → Out A → Out A → Type 0
Follows R D (stop n es) p = Unit {0}
Follows R D (done a s) p = D s → Ends R a s p

-- what held at the end held before
abbrev pub back : (State → Type 0) → State → Claim
back D s₀ = always (λ s. D s → D s₀)

abbrev pub Backs : {A : Type 0} → (State → Type 0) → M A → Type 0
Backs D m = (s₀ : State) → Keeps (back D s₀) m

pub record Sim {A : Type 0} (R : State → State → Type 0) (D : State → Type 0) (m n : M A) : Type 0 where
  pub backs : Backs D m
  pub follows : (s t : State) → R s t → Follows R D (m s) (n t)

-- an action whose end in D tells K
unfoldable pub Tells : {A : Type 0} → (State → Type 0) → Type 0 → M A → Type 0
Tells D K m = (s : State) → Okay (always (λ t. D t → K)) (m s)

module _ (R : State → State → Type 0) (D : State → Type 0) where
  pub s_ret : {A : Type 0} (a : A) → Sim R D (ret a) (ret a)
  unfolding ret
  s_ret a = record { backs = λ s₀. k_ret _ a; follows = λ s t h u. (refl, h) }

  pub s_fail : (A : Type 0) (e : ℕ) (n : M A) → Sim R D (fail e) n
  unfolding fail
  s_fail A e n = record { backs = λ s₀. k_fail _ A e (λ s p. tt); follows = λ s t h. tt }

  s_after : {A B : Type 0} (k k' : A → M B) → ((a : A) → Sim R D (k a) (k' a)) → (o p : Out A) → Follows R D o p → Follows R D (after o k) (after p k')
  unfolding after Keeps
  s_after k k' h (stop n es) p f = tt
  s_after {A = A} {B = B} k k' h (done a s) p f = go (k a s) refl
    where
      last : (b : B) (r : State) → k a s ≡ done b r → D r → (q : Out A) → Ends R a s q → Ends R b r (after q k')
      last b r e u (stop x es) w = absurd w
      last b r e u (done c t) w = subst (λ z. Ends R b r (k' z t)) w.0 (subst (λ z. Follows R D z (k' a t)) e ((h a).follows s t w.1) u)

      go : (o : Out B) → k a s ≡ o → Follows R D o (after p k')
      go (stop x es) e = tt
      go (done b r) e = λ u. last b r e u p (f (subst (Okay (back D s)) e ((h a).backs s s (λ i. i)) u))

  pub s_bind : {A B : Type 0} (m m' : M A) (k k' : A → M B) → Sim R D m m' → ((a : A) → Sim R D (k a) (k' a)) → Sim R D (bind m k) (bind m' k')
  unfolding bind
  s_bind m m' k k' hm hk =
      record { backs = λ s₀. k_bind _ m k (hm.backs s₀) (λ a. (hk a).backs s₀); follows = λ s t h. s_after k k' hk (m s) (m' t) (hm.follows s t h) }

  pub s_if : {A : Type 0} (b : Bool) (m m' n n' : M A) → Sim R D m m' → Sim R D n n' → Sim R D (if_m b m n) (if_m b m' n')
  unfolding if_m
  s_if true m m' n n' hm hn = hm
  s_if false m m' n n' hm hn = hn

  -- only the first run tests
  pub s_if_left : {A : Type 0} (b : Bool) (m n p : M A) → Sim R D m p → Sim R D n p → Sim R D (if_m b m n) p
  unfolding if_m
  s_if_left true m n p hm hn = hm
  s_if_left false m n p hm hn = hn

  pub s_opt : {X A : Type 0} (o : Option X) (m m' : M A) (f f' : X → M A) → Sim R D m m' → ((x : X) → o ≡ Some x → Sim R D (f x) (f' x)) → Sim R D (opt_m o m f) (opt_m o m' f')
  unfolding opt_m
  s_opt None m m' f f' hm hf = hm
  s_opt (Some x) m m' f f' hm hf = hf x refl

  pub s_fit : {X A : Type 0} (o : Fit X) (m m' : M A) (f f' : X → M A) → Sim R D m m' → ((x : X) → Sim R D (f x) (f' x)) → Sim R D (fit_m o m f) (fit_m o m' f')
  unfolding fit_m
  s_fit {A = A} (Ok x) m m' f f' hm hf = hf x
  s_fit {A = A} (Err Unfit) m m' f f' hm hf = hm
  s_fit {A = A} (Err FloatText) m m' f f' hm hf = s_fail A 11 _

  -- what the end of the first run tells may be used to follow it; where it tells what is false, there is nothing to follow
  pub s_know : {A : Type 0} (K : Type 0) (m n : M A) → Backs D m → Tells D K m → (K → Sim R D m n) → Sim R D m n
  unfolding Tells
  s_know {A = A} K m n b h f = record { backs = b; follows = λ s t r. go (m s) (n t) (h s) (λ k. (f k).follows s t r) }
    where
      go : (o p : Out A) → Okay (always (λ t. D t → K)) o → (K → Follows R D o p) → Follows R D o p
      go (stop e es) p w g = tt
      go (done a s) p w g = λ u. g (w u) u

  -- the first run, and the second, as other actions that do the same
  pub s_as : {A : Type 0} (m m' n n' : M A) → ((s : State) → m s ≡ m' s) → ((s : State) → n s ≡ n' s) → Sim R D m n → Sim R D m' n'
  unfolding Keeps
  s_as m m' n n' e f h =
      record {
        backs = λ s₀ s p. subst (Okay (back D s₀)) (e s) (h.backs s₀ s p);
        follows = λ s t r. subst (λ o. Follows R D o (n' t)) (e s) (subst (λ o. Follows R D (m s) o) (f t) (h.follows s t r));
      }

pub ruleset alike = (s_ret, s_fail, s_bind, s_if, s_opt, s_fit)

module _ (D : State → Type 0) where
  pub t_left : {A B : Type 0} (K : Type 0) (m : M A) (k : A → M B) → Tells D K m → ((a : A) → Backs D (k a)) → Tells D K (bind m k)
  unfolding Tells bind after Keeps
  t_left {A = A} {B = B} K m k hm hk s = go (m s) (hm s)
    where
      end : (o : Out B) (t : State) → Okay (back D t) o → (D t → K) → Okay (always (λ t. D t → K)) o
      end (stop e es) t w f = tt
      end (done b r) t w f = λ u. f (w u)

      go : (o : Out A) → Okay (always (λ t. D t → K)) o → Okay (always (λ t. D t → K)) (after o k)
      go (stop e es) w = tt
      go (done a t) w = end (k a t) t (hk a t t (λ i. i)) w

  pub t_right : {A B : Type 0} (K : Type 0) (m : M A) (k : A → M B) → ((a : A) → Tells D K (k a)) → Tells D K (bind m k)
  unfolding Tells bind after
  t_right {A = A} K m k hk s = go (m s)
    where
      go : (o : Out A) → Okay (always (λ t. D t → K)) (after o k)
      go (stop e es) = tt
      go (done a t) = hk a t

  pub t_fail : (A : Type 0) (K : Type 0) (e : ℕ) → Tells {A = A} D K (fail e)
  unfolding Tells fail
  t_fail A K e s = tt

  pub t_if : {A : Type 0} (K : Type 0) (b : Bool) (m n : M A) → Tells D K m → Tells D K n → Tells D K (if_m b m n)
  unfolding if_m
  t_if K true m n hm hn = hm
  t_if K false m n hm hn = hn
