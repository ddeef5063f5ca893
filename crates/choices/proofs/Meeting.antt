-- Actions by their tests, and answers that meet the definition's, one action after another. Assumes nothing.
use Rattle.std.specs.Prelude.{Option, Some, None}
use mathlib.Core.Path.{◌≡◌, refl}
use mathlib.Core.Bool.{Bool, true, false}
use Prim.Native.Nat.{ℕ}
use Rattle.numbers.specs.Words.{Bytes}
use Rattle.schema.specs.Defs.{Schema}
use Rattle.layout.specs.State.{State, Out, done, stop, M, after, bind, if_m, opt_m}
use Rattle.area.specs.declared.Round.{Round}
use Rattle.area.specs.declared.Progress.{Progress}
use Rattle.area.specs.Area.{Rep}
use Rattle.area.specs.Posts.{Ans, gives, refuses, Meets}

-- the answer that a test chooses
pub if_true : {A : Type 0} (b : Bool) (f g : M A) (s : State) → b ≡ true → if_m b f g s ≡ f s
unfolding if_m
if_true b f g s e = rw e refl

pub if_false : {A : Type 0} (b : Bool) (f g : M A) (s : State) → b ≡ false → if_m b f g s ≡ g s
unfolding if_m
if_false b f g s e = rw e refl

pub opt_none : {X A : Type 0} (o : Option X) (f : M A) (g : X → M A) (s : State) → o ≡ None → opt_m o f g s ≡ f s
unfolding opt_m
opt_none o f g s e = rw e refl

pub opt_some : {X A : Type 0} (o : Option X) (f : M A) (g : X → M A) (x : X) (s : State) → o ≡ Some x → opt_m o f g s ≡ g x s
unfolding opt_m
opt_some o f g x s e = rw e refl

module _ (S : Schema) (R : Round) (n : ℕ) {A B X Y : Type 0} (stack : A → Bytes) (fits : A → X → Type 0) (stack' : B → Bytes) (fits' : B → Y → Type 0) where
  -- what follows a refusal is not done
  pub refused_on : (o : Out A) (k : A → M B) (e : ℕ) (t : Progress) (w : Bytes) → Meets S R n stack fits o (refuses e t) w → Meets S R n stack' fits' (after o k) (refuses e t) w
  unfolding after
  refused_on (done a s) k e t w h = absurd h
  refused_on (stop m es) k e t w h = h

  given_out : (k : A → M B) (o : Out A) (x : X) (t : Progress) (w : Bytes) (r : Ans Y) (w' : Bytes) → Meets S R n stack fits o (gives x t) w
      → ((a : A) (s : State) → Rep S R n s (stack a) t w → fits a x → Meets S R n stack' fits' (k a s) r w') → Meets S R n stack' fits' (after o k) r w'
  unfolding after
  given_out k (done a s) x t w r w' h f = f a s h.0 h.1
  given_out k (stop m es) x t w r w' h f = absurd h

  -- a refusal stays
  pub meets_refused : (m : M A) (k : A → M B) (s : State) (e : ℕ) (t : Progress) (w : Bytes) → Meets S R n stack fits (m s) (refuses e t) w
      → Meets S R n stack' fits' (bind m k s) (refuses e t) w
  unfolding bind
  meets_refused m k s e t w h = refused_on (m s) k e t w h

  -- what follows an answer
  pub meets_given : (m : M A) (k : A → M B) (s : State) (x : X) (t : Progress) (w : Bytes) (r : Ans Y) (w' : Bytes) → Meets S R n stack fits (m s) (gives x t) w
      → ((a : A) (s' : State) → Rep S R n s' (stack a) t w → fits a x → Meets S R n stack' fits' (k a s') r w') → Meets S R n stack' fits' (bind m k s) r w'
  unfolding bind
  meets_given m k s x t w r w' h f = given_out k (m s) x t w r w' h f
