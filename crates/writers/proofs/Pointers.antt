-- Structures by pointer. No line here names a place of the code. Assumes nothing.
use Rattle.std.specs.Prelude.{Option, Some, None}
use mathlib.Core.Path.{◌≡◌, refl, sym, ap, subst, ◌∙◌}
use mathlib.Core.Bool.{Bool, true, false}
use mathlib.Core.List.{◌++◌}
use Prim.Native.Nat.{ℕ, ◌+◌, ◌-◌, ◌≤◌}
use native.Mathlib.Omega.{arith}
use lib.Dec.{leb, eqb}
use lib.ListN.{length, length-append}
use borrow.Author.Tests.{leb-true, eq-eqb, ne_eqb}
use Rattle.numbers.specs.Words.{Bytes, bytes_of}
use Rattle.numbers.proofs.Bytes.{length_bytes}
use Rattle.value.specs.Rows.{Row, Fields, fields_of, Struct, row, value_row, Value}
use Rattle.schema.specs.Defs
use Rattle.schema.specs.Defs.{Schema, StructDef, winning}
use Rattle.definitions.specs.declared.members.Member as coded
use Rattle.layout.specs.State.{State, Env, M, Out, done, stop, after, bind, ret, if_m, opt_m, remark, with_remark, add_item}
use Rattle.layout.specs.Members.{says, need, put_pointer}
use Rattle.layout.specs.Runs.{Writer, own_type, pointed}
use Rattle.layout.specs.Write.{pointed_member}
use Rattle.area.specs.declared.Round.{Round}
use Rattle.area.specs.declared.Progress.{Progress}
use Rattle.area.specs.Area.{stack_at, env_of}
use Rattle.area.specs.Posts.{Safe, Open, Grown, Notes, gives, refuses, Meets, Larger, Lays, Ans}
use Rattle.area.proofs.Over.{length_over}
use Rattle.area.proofs.Reps.{rep_put}
use Rattle.cells.specs.declared.defs.Def.{Def}
use Rattle.cells.specs.Names.{def_of, member_of}
use Rattle.members.specs.Names.{looked_is}
use Rattle.members.specs.Posts.{remark_on, Buffer, Fills}
use Rattle.members.proofs.Filling.{def_size, went_noted, fills_as, stays, too_long}
use Rattle.choices.specs.Sources.{Owned}
use Rattle.choices.proofs.Meeting.{refused_on}
use Rattle.writers.specs.Posts.{Of, Named, deeper, Started, Pushes, Points}

-- a structure by pointer without its definition, and with it
pointed_none : (E : Env) (w : Writer) (d : StructDef) (e : Defs.Member) (ref : ℕ) (v : Row) (s : State) → E.defs.struct (own_type E v ref) ≡ None → own_type E v ref ≡ ref
    → pointed E w d e ref v s ≡ done None (with_remark (record { kind = 4; structure = d.name; member = e.name; detail = ref }) s)
unfolding pointed opt_m bind after ret says remark
pointed_none E w d e ref v s h k = rw (h, k) refl

pointed_some : (E : Env) (w : Writer) (d : StructDef) (e : Defs.Member) (ref : ℕ) (v : Row) (s : State) (i : StructDef) → E.defs.struct (own_type E v ref) ≡ Some i
    → pointed E w d e ref v s ≡ after (w i (fields_of E.sheet v) s) (λ bs. bind (add_item i.name bs) λ x. ret (Some x))
unfolding pointed opt_m bind
pointed_some E w d e ref v s i h = rw h refl

module _ (R : Round) (n : ℕ) (p : Progress) (w : Bytes) (T F : Bytes) (left : ℕ) (d : Def) (m : coded.Member) (ref : ℕ) (v : Row) where
  abbrev aimed : Schema → M (Option ℕ)
  aimed S = pointed (env_of T S R) (deeper T R left S) (def_of F d) (member_of m) ref v

  -- there is no definition
  pub point_missing : (u : Row) (r : Option Def) (q : Progress) (w' : Bytes) → Safe R n p → Open p → u ≡ v → Owned F u ref r → r ≡ None
      → Notes R n p w (remark_on d m 4 ref) q w' → Points (Of F) R n p w aimed (gives None q) w'
  unfolding def_of
  point_missing u r q w' h o z a e t =
      let b : Owned F v ref r = rw (← z) a in
      record {
        grew = went_noted R n p w (remark_on d m 4 ref) q w' h o t;
        says = λ S k s σ y. rw (pointed_none (env_of T S R) (deeper T R left S) (def_of F d) (member_of m) ref v s (b.winner S T R k ∙ ap (looked_is F) e) (b.missing S T R k e)) (t.says S s σ y, refl);
      }

  -- the definition is i
  owned_named : (r : Option Def) (i : Def) → Owned F v ref r → r ≡ Some i → (S : Schema) → Of F S → Named F i S
  owned_named r i a e S k =
      record { of = k; winner = subst (λ (x : ℕ). (winning S).struct x ≡ Some (def_of F i)) (a.name S T R i k e) (a.winner S T R k ∙ ap (looked_is F) e) }

  writes : (r : Option Def) (i : Def) → Owned F v ref r → r ≡ Some i → (S : Schema) → Of F S → (s : State)
      → aimed S s ≡ after (deeper T R left S (def_of F i) (fields_of T v) s) (λ bs. bind (add_item i.name bs) λ x. ret (Some x))
  unfolding def_of
  writes r i a e S k s = pointed_some (env_of T S R) (deeper T R left S) (def_of F d) (member_of m) ref v s (def_of F i) (a.winner S T R k ∙ ap (looked_is F) e)

  -- the structure is refused
  pub point_refused : (u : Row) (r : Option Def) (i : Def) (fs : Fields) (x : Ans (Unit {0})) (k : ℕ) (t : Progress) (w' : Bytes) → u ≡ v → Owned F u ref r → r ≡ Some i
      → fs ≡ fields_of T v → Pushes (Named F i) R n p w i.size (λ S. deeper T R left S (def_of F i) fs) x w' → x ≡ refuses k t
      → Points (Of F) R n p w aimed (refuses k t) w'
  point_refused u r i fs x k t w' z a e j b f =
      let o : Owned F v ref r = rw (← z) a in
      let c : Pushes (Named F i) R n p w i.size (λ S. deeper T R left S (def_of F i) (fields_of T v)) (refuses k t) w' = rw (← f, ← j) b in
      record {
        grew = c.grew;
        says = λ S g s σ y. rw (writes r i o e S g s)
            (refused_on S R n (λ bs. σ ++ bs) (λ bs q. length bs ≡ i.size) (λ q. σ) (λ q s. q ≡ s)
            (deeper T R left S (def_of F i) (fields_of T v) s) (λ bs. bind (add_item i.name bs) λ x. ret (Some x)) k t w' (c.says S (owned_named r i o e S g) s σ y));
      }

  -- there is no room for it: refusal 10
  unlaid : (i : Def) (t : Progress) (w1 : Bytes) (k : ℕ) (q : Progress) (w2 : Bytes) → Lays R n t w1 i.name i.size (refuses k q) w2 → (S : Schema) (σ : Bytes)
      → (o : Out Bytes) → Meets S R n (λ b. σ ++ b) (λ b x. length b ≡ i.size) o (gives (tt {0}) t) w1
      → Meets S R n (λ x. σ) (λ x y. x ≡ y) (after o (λ bs. bind (add_item i.name bs) λ x. ret (Some x))) (refuses k q) w2
  unfolding after bind
  unlaid i t w1 k q w2 l S σ (done b s) h =
      refused_on S R n (λ x. σ) (λ x y. x ≡ y) (λ x. σ) (λ x y. x ≡ y) (add_item i.name b s) (λ x. ret (Some x)) k q w2 (l.says S s σ b h.1 h.0)
  unlaid i t w1 k q w2 l S σ (stop e es) h = absurd h

  pub point_unlaid : (u : Row) (r : Option Def) (i : Def) (fs : Fields) (x : Ans (Unit {0})) (t : Progress) (w1 : Bytes) (N : ℕ) (y : Ans ℕ) (k : ℕ) (q : Progress) (w2 : Bytes) → u ≡ v → Owned F u ref r → r ≡ Some i
      → fs ≡ fields_of T v → Pushes (Named F i) R n p w i.size (λ S. deeper T R left S (def_of F i) fs) x w1 → x ≡ gives (tt {0}) t
      → N ≡ n → Lays R N t w1 i.name i.size y w2 → y ≡ refuses k q → Points (Of F) R n p w aimed (refuses k q) w2
  point_unlaid u r i fs x t w1 N y k q w2 z a e j b f eq l g =
      let o : Owned F v ref r = rw (← z) a in
      let c : Pushes (Named F i) R n p w i.size (λ S. deeper T R left S (def_of F i) (fields_of T v)) (gives (tt {0}) t) w1 = rw (← f, ← j) b in
      let la : Lays R n t w1 i.name i.size (refuses k q) w2 = subst (λ (a : Ans ℕ). Lays R n t w1 i.name i.size a w2) g (subst (λ (a : ℕ). Lays R a t w1 i.name i.size y w2) eq l) in
      record {
        grew = rw la.grew.1 c.grew.0;
        says = λ S g s σ y. rw (writes r i o e S g s) (unlaid i t w1 k q w2 la S σ (deeper T R left S (def_of F i) (fields_of T v) s) (c.says S (owned_named r i o e S g) s σ y));
      }

  -- the numbers after it was filed
  filed_numbers : (size : ℕ) (t q : Progress) → Safe R n p → Safe R n t → Started p size t → Larger t size (t.top - size) q → Safe R n q × Grown p 0 0 0 q
  filed_numbers size t q h g s l = (
    record {
      small = g.small;
      room = g.room;
      from = omega (arith, g.from, l.end);
      items = omega (arith, h.items, s.grown.paid, l.end, l.charge);
      low = omega (arith, h.low, s.grown.top, l.top);
      stack = omega (arith, g.stack, s.grown.top, l.top, l.charge);
      within = omega (arith, g.within, l.charge);
      blocks = l.blocks;
      rows = omega (arith, g.rows, l.rows);
      structs = omega (arith, g.structs, l.structs);
      enums = omega (arith, g.enums, l.enums);
      next = omega (arith, g.next, l.next, l.seen);
      seen = omega (arith, g.seen, l.seen, l.charge);
    },
    record {
      more = omega (arith, s.grown.more, l.end);
      paid = omega (arith, s.grown.paid, l.end, l.charge);
      top = omega (arith, s.grown.top, l.top);
      met = omega (arith, s.grown.met, l.seen, l.charge);
    },
  )

  -- it is filed
  answered : (S : Schema) (σ : Bytes) (a : ℕ) (q : Progress) (w2 : Bytes) (o : Out ℕ) → Meets S R n (λ x. σ) (λ x y. x ≡ y) o (gives a q) w2
      → Meets S R n (λ x. σ) (λ x y. x ≡ y) (after o (λ x. ret (Some x))) (gives (Some a) q) w2
  unfolding after ret
  answered S σ a q w2 (done b s) h = (h.0, ap Some h.1)
  answered S σ a q w2 (stop e es) h = absurd h

  laid : (i : Def) (t : Progress) (w1 : Bytes) (a : ℕ) (q : Progress) (w2 : Bytes) → Lays R n t w1 i.name i.size (gives a q) w2 → (S : Schema) (σ : Bytes)
      → (o : Out Bytes) → Meets S R n (λ b. σ ++ b) (λ b x. length b ≡ i.size) o (gives (tt {0}) t) w1
      → Meets S R n (λ x. σ) (λ x y. x ≡ y) (after o (λ bs. bind (add_item i.name bs) λ x. ret (Some x))) (gives (Some a) q) w2
  unfolding after bind
  laid i t w1 a q w2 l S σ (done b s) h = answered S σ a q w2 (add_item i.name b s) (l.says S s σ b h.1 h.0)
  laid i t w1 a q w2 l S σ (stop e es) h = absurd h

  pub point_laid : (u : Row) (r : Option Def) (i : Def) (fs : Fields) (x : Ans (Unit {0})) (t : Progress) (w1 : Bytes) (N : ℕ) (y : Ans ℕ) (a : ℕ) (q : Progress) (w2 : Bytes) → Safe R n p → u ≡ v → Owned F u ref r → r ≡ Some i
      → fs ≡ fields_of T v → Pushes (Named F i) R n p w i.size (λ S. deeper T R left S (def_of F i) fs) x w1 → x ≡ gives (tt {0}) t
      → N ≡ n → Lays R N t w1 i.name i.size y w2 → y ≡ gives a q → Points (Of F) R n p w aimed (gives (Some a) q) w2
  point_laid u r i fs x t w1 N y a q w2 h z ow e j b f eq l g =
      let o : Owned F v ref r = rw (← z) ow in
      let c : Pushes (Named F i) R n p w i.size (λ S. deeper T R left S (def_of F i) (fields_of T v)) (gives (tt {0}) t) w1 = rw (← f, ← j) b in
      let la : Lays R n t w1 i.name i.size (gives a q) w2 = subst (λ (a : Ans ℕ). Lays R n t w1 i.name i.size a w2) g (subst (λ (a : ℕ). Lays R a t w1 i.name i.size y w2) eq l) in
      record {
        grew = filed_numbers i.size t q h c.grew.0 c.grew.1 la.grew;
        says = λ S g s σ y. rw (writes r i o e S g s) (laid i t w1 a q w2 la S σ (deeper T R left S (def_of F i) (fields_of T v) s) (c.says S (owned_named r i o e S g) s σ y));
      }

-- a member by pointer that is no Struct, and one that is
pointed_not : (E : Env) (w : Writer) (d : StructDef) (e : Defs.Member) (v : Row) (buf : Bytes) → leb (e.offset + 8) d.size ≡ true → eqb v.kind Struct ≡ false
    → pointed_member E w d e v buf ≡ ret buf
unfolding pointed_member need if_m
pointed_not E w d e v buf f h = rw (f, h) refl

pointed_is_law : (E : Env) (w : Writer) (d : StructDef) (e : Defs.Member) (v : Row) (buf : Bytes) (s : State) → leb (e.offset + 8) d.size ≡ true → eqb v.kind Struct ≡ true
    → pointed_member E w d e v buf s ≡ after (pointed E w d e e.reference v s) (λ o. opt_m o (ret buf) λ x. ret (put_pointer buf e.offset x))
unfolding pointed_member need if_m bind
pointed_is_law E w d e v buf s f h = rw (f, h) refl

module _ (R : Round) (n : ℕ) (p : Progress) (w : Bytes) (T F : Bytes) (left : ℕ) (d : Def) (m : coded.Member) (f : Value) where
  abbrev pointing : Schema → Bytes → M Bytes
  pointing S buf = pointed_member (env_of T S R) (deeper T R left S) (def_of F d) (member_of m) (value_row T f) buf

  -- it does not fit
  pub pointed_long : (b : Bool) (q : Progress) (w' : Bytes) → Safe R n p → Open p → b ≡ leb (m.offset + 8) d.size → b ≡ false → Notes R n p w (remark_on d m 1 d.size) q w'
      → Fills (Of F) R n p w d.size pointing (gives (tt {0}) q) w'
  unfolding pointed_member
  pointed_long b q w' h o e g t =
      too_long R n p w (Of F) F d m 8
      (λ S buf. if_m (eqb (value_row T f).kind Struct)
      (bind (pointed (env_of T S R) (deeper T R left S) (def_of F d) (member_of m) m.reference (value_row T f)) λ o. opt_m o (ret buf) λ x. ret (put_pointer buf m.offset x))
      (ret buf)) q w' h o (sym e ∙ g) t

  fitted : (b : Bool) → b ≡ leb (m.offset + 8) d.size → b ≡ true → leb (m.offset + 8) (def_of F d).size ≡ true
  fitted b e g = rw (def_size F d) (sym e ∙ g)

  -- no Struct
  idle : (b : Bool) → Safe R n p → b ≡ leb (m.offset + 8) d.size → b ≡ true → eqb (value_row T f).kind Struct ≡ false
      → Fills (Of F) R n p w d.size pointing (gives (tt {0}) p) w
  idle b h e g k =
      fills_as R n p w (Of F) (Of F) d.size pointing (λ S buf. ret buf) (gives (tt {0}) p) w
      (λ S u. (u, λ buf s. ap (λ (a : M Bytes). a s) (pointed_not (env_of T S R) (deeper T R left S) (def_of F d) (member_of m) (value_row T f) buf (fitted b e g) k)))
      (stays R n p w (Of F) d.size h)

  pub pointed_absent : (b : Bool) → Safe R n p → b ≡ leb (m.offset + 8) d.size → b ≡ true → f ≡ None → Fills (Of F) R n p w d.size pointing (gives (tt {0}) p) w
  pointed_absent b h e g k = idle b h e g (ap (λ (x : Value). eqb (value_row T x).kind Struct) k)

  pub pointed_other : (b : Bool) (r : ℕ) (v : Row) → Safe R n p → b ≡ leb (m.offset + 8) d.size → b ≡ true → f ≡ Some r → v ≡ row T r → (v.kind ≡ 21 → ⊥)
      → Fills (Of F) R n p w d.size pointing (gives (tt {0}) p) w
  pointed_other b r v h e g k j z = idle b h e g (ap (λ (x : Value). eqb (value_row T x).kind Struct) k ∙ ap (λ (x : Row). eqb x.kind 21) (sym j) ∙ ne_eqb v.kind 21 z)

  -- a Struct
  abbrev aims : ℕ → Schema → M (Option ℕ)
  aims r S = pointed (env_of T S R) (deeper T R left S) (def_of F d) (member_of m) m.reference (row T r)

  busy : (b : Bool) (r : ℕ) (v : Row) → b ≡ leb (m.offset + 8) d.size → b ≡ true → f ≡ Some r → v ≡ row T r → v.kind ≡ 21 → (S : Schema) (buf : Bytes) (s : State)
      → pointing S buf s ≡ after (aims r S s) (λ o. opt_m o (ret buf) λ x. ret (put_pointer buf m.offset x))
  busy b r v e g k j z S buf s =
      ap (λ (x : Value). pointed_member (env_of T S R) (deeper T R left S) (def_of F d) (member_of m) (value_row T x) buf s) k
      ∙ pointed_is_law (env_of T S R) (deeper T R left S) (def_of F d) (member_of m) (row T r) buf s (fitted b e g) (ap (λ (x : Row). eqb x.kind 21) (sym j) ∙ eq-eqb v.kind 21 z)

  pub pointed_refused : (b : Bool) (r : ℕ) (v : Row) (x : Ans (Option ℕ)) (k : ℕ) (t : Progress) (w' : Bytes) → b ≡ leb (m.offset + 8) d.size → b ≡ true → f ≡ Some r → v ≡ row T r
      → v.kind ≡ 21 → Points (Of F) R n p w (aims r) x w' → x ≡ refuses k t → Fills (Of F) R n p w d.size pointing (refuses k t) w'
  pointed_refused b r v x k t w' e g i j z a q =
      let c : Points (Of F) R n p w (aims r) (refuses k t) w' = rw (← q) a in
      record {
        grew = c.grew;
        says = λ S u s σ buf l y. rw (busy b r v e g i j z S buf s)
            (refused_on S R n (λ o. σ ++ buf) (λ o y. o ≡ y) (λ bs. σ ++ bs) (λ bs o. length bs ≡ d.size) (aims r S s)
            (λ o. opt_m o (ret buf) λ x. ret (put_pointer buf m.offset x)) k t w' (c.says S u s (σ ++ buf) y));
      }

  -- there was no definition
  unaimed : (t : Progress) (w' : Bytes) (S : Schema) (σ buf : Bytes) → length buf ≡ d.size → (o : Out (Option ℕ))
      → Meets S R n (λ x. σ ++ buf) (λ x y. x ≡ y) o (gives None t) w'
      → Meets S R n (λ b. σ ++ b) (λ b x. length b ≡ d.size) (after o (λ o. opt_m o (ret buf) λ x. ret (put_pointer buf m.offset x))) (gives (tt {0}) t) w'
  unfolding after opt_m ret
  unaimed t w' S σ buf l (done None s) h = (h.0, l)
  unaimed t w' S σ buf l (done (Some x) s) h = let z : ◌≡◌ {A = ℕ} 0 1 = cc in absurd (omega arith)
  unaimed t w' S σ buf l (stop k es) h = absurd h

  pub pointed_nothing : (b : Bool) (r : ℕ) (v : Row) (x : Ans (Option ℕ)) (t : Progress) (w' : Bytes) → b ≡ leb (m.offset + 8) d.size → b ≡ true → f ≡ Some r → v ≡ row T r
      → v.kind ≡ 21 → Points (Of F) R n p w (aims r) x w' → x ≡ gives None t → Fills (Of F) R n p w d.size pointing (gives (tt {0}) t) w'
  pointed_nothing b r v x t w' e g i j z a q =
      let c : Points (Of F) R n p w (aims r) (gives None t) w' = rw (← q) a in
      record {
        grew = c.grew;
        says = λ S u s σ buf l y. rw (busy b r v e g i j z S buf s) (unaimed t w' S σ buf l (aims r S s) (c.says S u s (σ ++ buf) y));
      }

  -- the pointer is put in
  put_in : (a : ℕ) (t : Progress) (w1 : Bytes) (at : ℕ) → Safe R n t → m.offset + 8 ≤ d.size → d.size ≤ p.top → at ≡ p.top - d.size + m.offset
      → (S : Schema) (σ buf : Bytes) → length buf ≡ d.size → p.top ≡ stack_at R + length (σ ++ buf) → (o : Out (Option ℕ))
      → Meets S R n (λ x. σ ++ buf) (λ x y. x ≡ y) o (gives (Some a) t) w1
      → Meets S R n (λ b. σ ++ b) (λ b x. length b ≡ d.size) (after o (λ o. opt_m o (ret buf) λ x. ret (put_pointer buf m.offset x))) (gives (tt {0}) t) (put_pointer w1 at a)
  unfolding after opt_m ret put_pointer
  put_in a t w1 at g fi lo e S σ buf l z (done None s) h = let y : ◌≡◌ {A = ℕ} 0 1 = cc in absurd (omega arith)
  put_in a t w1 at g fi lo e S σ buf l z (done (Some x) s) h =
      let same : x ≡ a = cc in
      let la : length (σ ++ buf) ≡ length σ + length buf = length-append σ buf in
      let lb : length (bytes_of 4 a) ≡ 4 = length_bytes 4 a in
      rw same
      (rep_put S R n σ buf (bytes_of 4 a) m.offset at h.0 (omega (arith, g)) (omega arith) (omega arith), length_over buf m.offset (bytes_of 4 a) (omega arith) ∙ l)
  put_in a t w1 at g fi lo e S σ buf l z (stop k es) h = absurd h

  pub pointed_at : (b : Bool) (r : ℕ) (v : Row) (x : Ans (Option ℕ)) (a : ℕ) (t : Progress) (w1 w2 : Bytes) → Buffer R p d.size → b ≡ leb (m.offset + 8) d.size → b ≡ true
      → f ≡ Some r → v ≡ row T r → v.kind ≡ 21 → Points (Of F) R n p w (aims r) x w1 → x ≡ gives (Some a) t → w2 ≡ put_pointer w1 (p.top - d.size + m.offset) a
      → Fills (Of F) R n p w d.size pointing (gives (tt {0}) t) w2
  pointed_at b r v x a t w1 w2 bu e g i j z o q y =
      let c : Points (Of F) R n p w (aims r) (gives (Some a) t) w1 = rw (← q) o in
      record {
        grew = (c.grew.0, record { more = c.grew.1.more; paid = c.grew.1.paid; top = c.grew.1.top; met = omega (arith, c.grew.1.met) });
        says = λ S u s σ buf l k. rw (busy b r v e g i j z S buf s, y)
            (put_in a t w1 (p.top - d.size + m.offset) c.grew.0 (leb-true (m.offset + 8) d.size (sym e ∙ g)) (omega (arith, bu.low)) refl S σ buf l k.top
            (aims r S s) (c.says S u s (σ ++ buf) k));
      }
