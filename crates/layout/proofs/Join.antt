-- A structure's bytes are what its members' steps leave, one after the other; a run's are its elements' in order: `parts_join_law`.
-- Assumes nothing.
use Rattle.std.specs.Prelude.{Option, Some, None, option_map}
use Prim.Native.Nat.{ℕ, suc, ◌+◌, ◌-◌, ◌*◌}
use native.Mathlib.Omega.{arith}
use mathlib.Core.Path.{◌≡◌, refl, sym, ◌∙◌, ap, subst}
use mathlib.Core.Bool.{Bool, true, false, ◌||◌}
use mathlib.Core.List.{List, [], ◌∷◌, ◌++◌, append_assoc}
use lib.Dec.{eqb}
use lib.ListN.{length}
use Rattle.numbers.specs.Words.{Bytes, zeros}
use Rattle.value.specs.Rows.{Fields, row, fields_of, field_named, Struct, Null}
use Rattle.schema.specs.Defs.{StructDef, Member}
use Rattle.layout.specs.State.{State, Env, Out, done, stop, M, after, bind, ret, fail, if_m, opt_m, pay, use_struct}
use Rattle.layout.specs.Kinds
use Rattle.layout.specs.Members.{says, need}
use Rattle.layout.specs.Runs.{Writer, Run, run, elements, struct_element, struct_run, text_run, element_run}
use Rattle.layout.specs.Write.{ARRAYINFO, Writers, writers, pair_fields, inline_member, struct_member, embedded_array, array_of, array_member, pair_element, member, members, started, body, write}
use Rattle.layout.specs.Slots.{step}
use Rattle.layout.specs.Parts.{Passes, Contains, Inline, Embedded, RunParts, Joined}
use Rattle.layout.proofs.Puts.{not_fixed}

-- an answer comes from an answer before it
pub record Came {A B : Type 0} (o : Out A) (k : A → M B) (b : B) (u : State) : Type 0 where
  pub value : A
  pub state : State
  pub first : o ≡ done value state
  pub then' : k value state ≡ done b u

came : {A B : Type 0} (o : Out A) (k : A → M B) (b : B) (u : State) → after o k ≡ done b u → Came o k b u
unfolding after
came (done a s) k b u e = record { value = a; state = s; first = refl; then' = e }
came (stop n es) k b u e = let z : ◌≡◌ {A = ℕ} 0 1 = cc in absurd (omega arith)

came_bind : {A B : Type 0} (m : M A) (k : A → M B) (s : State) (b : B) (u : State) → bind m k s ≡ done b u → Came (m s) k b u
unfolding bind
came_bind m k s b u e = came (m s) k b u e

-- equal answers with equal states
same_done : {A : Type 0} (a b : A) (s t : State) → ◌≡◌ {A = Out (Option A)} (done (Some a) s) (done (Some b) t) → (a ≡ b) × (s ≡ t)
same_done a b s t e = (cc, cc)

-- what w wrote is answered
answered : (m : M Bytes) (s : State) (bs : Bytes) (u : State) → bind m (λ b. ret (Some b)) s ≡ done (Some bs) u → m s ≡ done bs u
unfolding ret
answered m s bs u e =
    let c = came_bind m (λ b. ret (Some b)) s (Some bs) u e in
    let (p, q) = same_done c.value bs c.state u c.then' in
    c.first ∙ ap (λ b. done b c.state) p ∙ ap (done bs) q

-- members

module _ (E : Env) (w : Writers) (d : StructDef) (fs : Fields) where
  -- a member is written, or skipped
  one : Member → Bytes → M Bytes
  one e buf = if_m (eqb e.name ARRAYINFO) (ret buf) (member E w d e (Kinds.kind_of e.type) (field_named e.name fs) buf)

  not_skipped : (e : Member) (buf : Bytes) (s : State) → eqb e.name ARRAYINFO ≡ false → one e buf s ≡ step E w d e (field_named e.name fs) buf s
  unfolding one if_m
  not_skipped e buf s named = rw named refl

  first_one : (e : Member) (es : List Member) (buf : Bytes) (s : State) (bs : Bytes) (u : State) → members E w d fs (e ∷ es) buf s ≡ done bs u
      → Came (one e buf s) (members E w d fs es) bs u
  unfolding members one
  first_one e es buf s bs u r = came_bind (one e buf) (members E w d fs es) s bs u r

  with_one : (e : Member) (es : List Member) (buf : Bytes) (s : State) (b : Bytes) (t : State) → one e buf s ≡ done b t
      → members E w d fs (e ∷ es) buf s ≡ members E w d fs es b t
  unfolding members one bind after
  with_one e es buf s b t r = rw r refl

  -- the members in front end somewhere, and those behind go on from there
  front_first : (front es : List Member) (buf : Bytes) (s : State) (bs : Bytes) (u : State) → members E w d fs (front ++ es) buf s ≡ done bs u
      → Came (members E w d fs front buf s) (members E w d fs es) bs u
  front_first [] es buf s bs u e = record { value = buf; state = s; first = none_first buf s; then' = e }
    where
      none_first : (buf : Bytes) (s : State) → members E w d fs [] buf s ≡ done buf s
      none_first buf s = unfold members ret in refl
  front_first (f ∷ front) es buf s bs u e =
      let c = first_one f (front ++ es) buf s bs u e in
      let t = front_first front es c.value c.state bs u c.then' in
      record { value = t.value; state = t.state; first = with_one f front buf s c.value c.state c.first ∙ t.first; then' = t.then' }

  passes : (front : List Member) (e : Member) (behind : List Member) (s : State) (bs : Bytes) (u : State) → d.members ≡ front ++ (e ∷ behind)
      → eqb e.name ARRAYINFO ≡ false → members E w d fs d.members (zeros d.size) s ≡ done bs u → Passes E w d fs front e behind bs u
  passes front e behind s bs u split named ran =
      let c = front_first front (e ∷ behind) (zeros d.size) s bs u (subst (λ es. members E w d fs es (zeros d.size) s ≡ done bs u) split ran) in
      let t = first_one e behind c.value c.state bs u c.then' in
      record {
        buf = c.value;
        state = c.state;
        turn = record { split = split; begun = s; written = c.first };
        next = t.value;
        after = t.state;
        stepped = sym (not_skipped e c.value c.state named) ∙ t.first;
        rest = t.then';
      }

structure_parts : (E : Env) (fuel left : ℕ) (d : StructDef) (fs : Fields) (s : State) (bs : Bytes) (u : State) → write E (suc fuel) left d fs s ≡ done bs u
    → (front : List Member) (e : Member) (behind : List Member) → d.members ≡ front ++ (e ∷ behind) → eqb e.name ARRAYINFO ≡ false
    → Passes E (writers (write E fuel) (left - 1)) d fs front e behind bs u
unfolding write body if_m fail started
structure_parts E fuel left d fs s bs u ran front e behind split named = go (eqb left 0) ran
  where
    w : Writers
    w = writers (write E fuel) (left - 1)

    inside : Unit {0} → M Bytes
    inside u = bind (use_struct d.name) (λ _. members E w d fs d.members (zeros d.size))

    refused : fail 8 s ≡ done bs u → ⊥
    refused r = let z : ◌≡◌ {A = ℕ} 0 1 = cc in absurd (omega arith)

    go : (b : Bool) → if_m b (fail 8) (started E w d fs) s ≡ done bs u → Passes E w d fs front e behind bs u
    go true r = absurd (refused r)
    go false r =
        let c = came_bind (pay E (16 + d.size)) inside s bs u r in
        let t = came_bind (use_struct d.name) (λ _. members E w d fs d.members (zeros d.size)) c.state bs u c.then' in
        passes E w d fs front e behind t.state bs u split named t.then'

-- elements

module _ {X : Type 0} (f : X → M (Option Bytes)) where
  -- the first element, and those behind it
  record Front (x : X) (xs : List X) (s : State) (bs : Bytes) (u : State) : Type 0 where
    own : Bytes
    after' : State
    stepped : f x s ≡ done (Some own) after'
    last : Bytes
    rest : elements f xs after' ≡ done (Some last) u
    joined : bs ≡ own ++ last

  -- what follows those behind an element, and what follows the element itself
  joining : Bytes → Option Bytes → M (Option Bytes)
  joining b p = opt_m p (ret None) (λ bs. ret (Some (b ++ bs)))

  behind_one : List X → Option Bytes → M (Option Bytes)
  behind_one xs o = opt_m o (ret None) (λ b. bind (elements f xs) (joining b))

  front : (x : X) (xs : List X) (s : State) (bs : Bytes) (u : State) → elements f (x ∷ xs) s ≡ done (Some bs) u → Front x xs s bs u
  unfolding elements behind_one joining opt_m ret
  front x xs s bs u e = let c = came_bind (f x) (behind_one xs) s (Some bs) u e in own_there c.value c.state c.first c.then'
    where
      last_there : (b : Bytes) (t : State) → f x s ≡ done (Some b) t → (o : Option Bytes) (v : State) → elements f xs t ≡ done o v → joining b o v ≡ done (Some bs) u → Front x xs s bs u
      last_there b t g None v h r = let z : ◌≡◌ {A = ℕ} 0 1 = cc in absurd (omega arith)
      last_there b t g (Some l) v h r =
          let (p, q) = same_done (b ++ l) bs v u r in
          record { own = b; after' = t; stepped = g; last = l; rest = h ∙ ap (done (Some l)) q; joined = sym p }

      own_there : (o : Option Bytes) (t : State) → f x s ≡ done o t → behind_one xs o t ≡ done (Some bs) u → Front x xs s bs u
      own_there None t g r = let z : ◌≡◌ {A = ℕ} 0 1 = cc in absurd (omega arith)
      own_there (Some b) t g r =
          let c = came_bind (elements f xs) (joining b) t (Some bs) u r in
          last_there b t g c.value c.state c.first c.then'

  with_front : (x : X) (xs : List X) (s : State) (b : Bytes) (t : State) (l : Bytes) (u : State) → f x s ≡ done (Some b) t → elements f xs t ≡ done (Some l) u
      → elements f (x ∷ xs) s ≡ done (Some (b ++ l)) u
  unfolding elements bind after opt_m ret
  with_front x xs s b t l u g h = rw (g, h) refl

  run_parts : (front : List X) (x : X) (behind : List X) (s : State) (bs : Bytes) (u : State) → elements f (front ++ (x ∷ behind)) s ≡ done (Some bs) u
      → Contains f front x behind s bs u
  run_parts [] x behind s bs u e =
      let c = front x behind s bs u e in
      record {
        first = [];
        state = s;
        begun = (unfold elements ret in refl);
        own = c.own;
        after = c.after';
        stepped = c.stepped;
        last = c.last;
        rest = c.rest;
        joined = c.joined;
      }
  run_parts (y ∷ ys) x behind s bs u e =
      let c = front y (ys ++ (x ∷ behind)) s bs u e in
      let t = run_parts ys x behind c.after' c.last u c.rest in
      record {
        first = c.own ++ t.first;
        state = t.state;
        begun = with_front y ys s c.own c.after' t.first t.state c.stepped t.begun;
        own = t.own;
        after = t.after;
        stepped = t.stepped;
        last = t.last;
        rest = t.rest;
        joined = c.joined ∙ ap (λ l. c.own ++ l) t.joined ∙ sym (append_assoc c.own t.first (t.own ++ t.last));
      }

-- members that hold structures or runs in their own bytes, and what a run is made of

module _ (E : Env) (w : Writers) where
  inline_is : Inline E w
  unfolding member struct_member inline_member need if_m opt_m bind after ret
  inline_is d e v buf s i bs t k z a f h g = rw (k, z, a, f, h, g) refl

  embedded_is : Embedded E w
  unfolding member array_member array_of embedded_array need if_m opt_m bind after ret
  embedded_is d e v buf s x r t k i a p g h = rw (k, i, a, p, g, h) refl

module _ (E : Env) (w : Writer) where
  kept_run : {X : Type 0} (stride block : ℕ) (f : X → M (Option Bytes)) (xs : List X) (s : State) (r : Run) (u : State) → run E stride block f xs s ≡ done (Some r) u
      → (r.block ≡ block) × ((t : State) × (elements f xs t ≡ done (Some r.bytes) u))
  unfolding run ret
  kept_run {X} stride block f xs s r u e =
      let c = came_bind (pay E (16 + stride * length xs)) (λ _. bind (elements f xs) ended) s (Some r) u e in
      let t = came_bind (elements f xs) ended c.state (Some r) u c.then' in
      go c.state t.value t.state t.first t.then'
    where
      ended : Option Bytes → M (Option Run)
      ended o = ret (option_map (λ bs. record { bytes = bs; block = block }) o)

      go : (t : State) (o : Option Bytes) (v : State) → elements f xs t ≡ done o v → ended o v ≡ done (Some r) u
          → (r.block ≡ block) × ((t : State) × (elements f xs t ≡ done (Some r.bytes) u))
      go t None v g h = let z : ◌≡◌ {A = ℕ} 0 1 = cc in absurd (omega arith)
      go t (Some bs) v g h =
          let (p, q) = same_done {A = Run} (record { bytes = bs; block = block }) r v u h in
          (ap (λ (x : Run). x.block) (sym p), (t, g ∙ ap (λ (x : Run). done (Some x.bytes) v) p ∙ ap (done (Some r.bytes)) q))

  element_is : (d : StructDef) (e : Member) (i : StructDef) (r : ℕ) (s : State) (bs : Bytes) (u : State) → struct_element E w d e i r s ≡ done (Some bs) u
      → (t : State) × (w i (fields_of E.sheet (row E.sheet r)) t ≡ done bs u)
  unfolding struct_element
  element_is d e i r s bs u x =
      let v = row E.sheet r in
      let m : M Bytes = w i (fields_of E.sheet v) in
      let c = came_bind (if_m (eqb v.kind Struct || eqb v.kind Null) (ret tt) (says d e 9 0)) (λ _. bind m (λ b. ret (Some b))) s (Some bs) u x in
      (c.state, answered m c.state bs u c.then')

  pair_is : (i : StructDef) (p : ℕ × ℕ) (s : State) (bs : Bytes) (u : State) → pair_element E w i p s ≡ done (Some bs) u → w i (pair_fields i p) s ≡ done bs u
  unfolding pair_element
  pair_is i p s bs u x = answered (w i (pair_fields i p)) s bs u x

  run_is : RunParts E w
  unfolding element_run text_run struct_run if_m opt_m
  run_is =
      record {
        kept = kept_run;
        kept_pairs = kept_run;
        texts = λ d e x rs s p. rw (not_fixed x.subtype p, p) refl;
        pointers = λ d e x rs s p. rw p refl;
        structures = λ d e x rs s i p f. rw (p, f) refl;
        element = element_is;
        pair = pair_is;
      }

pub parts_join_law : (E : Env) → Joined E
parts_join_law E =
    record {
      structures = structure_parts E;
      elements_in = run_parts;
      pairs_in = run_parts;
      inline = λ fuel left. inline_is E (writers (write E fuel) left);
      embedded = λ fuel left. embedded_is E (writers (write E fuel) left);
      runs = λ fuel left. run_is E (write E fuel left);
    }
