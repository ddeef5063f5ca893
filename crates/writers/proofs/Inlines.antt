-- Structures inline. No line here names a place of the code. Assumes nothing.
use Rattle.std.specs.Prelude.{Option, Some, None}
use mathlib.Core.Path.{◌≡◌, refl, sym, ap, subst, ◌∙◌}
use mathlib.Core.Bool.{Bool, true, false}
use mathlib.Core.List.{◌++◌}
use Prim.Native.Nat.{ℕ, ◌+◌, ◌-◌, ◌≤◌}
use native.Mathlib.Omega.{arith}
use lib.Dec.{leb}
use lib.ListN.{length, take, drop, length-append}
use borrow.Author.Tests.{leb-true}
use Rattle.numbers.specs.Words.{Bytes, over, zeros}
use Rattle.numbers.specs.Result.{ok}
use Rattle.value.specs.Rows.{Row, Fields, fields_of}
use Rattle.schema.specs.Defs
use Rattle.schema.specs.Defs.{Schema, StructDef, winning}
use Rattle.schema.specs.Psch.{schema_of}
use Rattle.definitions.specs.declared.members.Member as coded
use Rattle.layout.specs.State.{State, Env, M, Out, done, stop, after, bind, ret, opt_m}
use Rattle.layout.specs.Members.{leaves, need}
use Rattle.layout.specs.Runs.{Writer}
use Rattle.layout.specs.Write.{inline_member}
use Rattle.area.specs.declared.Round.{Round}
use Rattle.area.specs.declared.Progress.{Progress}
use Rattle.area.specs.Area.{stack_at, env_of, with_top}
use Rattle.area.specs.Posts.{Safe, Open, Notes, Meets, Ans, gives, refuses}
use Rattle.area.proofs.Over.{length_over}
use Rattle.area.proofs.Reps.{rep_shift}
use Rattle.cells.specs.declared.defs.Def.{Def}
use Rattle.cells.specs.Names.{def_of, member_of}
use Rattle.members.specs.Names.{looked_is}
use Rattle.members.specs.Posts.{remark_on, Buffer, Went, Fills}
use Rattle.members.proofs.Filling.{def_size, need_yes, fills_as, said, too_long}
use Rattle.choices.proofs.Meeting.{refused_on}
use Rattle.choices.proofs.Choosing.{looked_name}
use Rattle.writers.specs.Posts.{Of, Named, inner, Started, Pushes}

-- the name of a definition that was looked up stands for it
pub looked_named : (F : Bytes) (S : Schema) (ref : ℕ) (i : Def) → schema_of F ≡ ok S → (winning S).struct ref ≡ Some (def_of F i) → Named F i S
looked_named F S ref i k e = record { of = k; winner = subst (λ (x : ℕ). (winning S).struct x ≡ Some (def_of F i)) (sym (looked_name F S ref i e)) e }

-- what was looked up, by the answer
pub looked_at_law : (F : Bytes) (ref : ℕ) (r : Option Def) (i : Def) → ((S : Schema) → schema_of F ≡ ok S → (winning S).struct ref ≡ looked_is F r) → r ≡ Some i
    → (S : Schema) → schema_of F ≡ ok S → (winning S).struct ref ≡ Some (def_of F i)
looked_at_law F ref r i h e S k = h S k ∙ ap (looked_is F) e

pub looked_none : (F : Bytes) (ref : ℕ) (r : Option Def) → ((S : Schema) → schema_of F ≡ ok S → (winning S).struct ref ≡ looked_is F r) → r ≡ None
    → (S : Schema) → schema_of F ≡ ok S → (winning S).struct ref ≡ None
looked_none F ref r h e S k = h S k ∙ ap (looked_is F) e

-- a member inline without its definition, and with it
inline_none : (E : Env) (w : Writer) (d : StructDef) (e : Defs.Member) (v : Row) (buf : Bytes) → E.defs.struct e.reference ≡ None
    → inline_member E w d e v buf ≡ leaves d e 4 e.reference buf
unfolding inline_member opt_m
inline_none E w d e v buf h = rw h refl

inline_some : (E : Env) (w : Writer) (d : StructDef) (e : Defs.Member) (v : Row) (buf : Bytes) (i : StructDef) → E.defs.struct e.reference ≡ Some i
    → inline_member E w d e v buf ≡ need d e i.size buf (bind (w i (fields_of E.sheet v)) λ bs. ret (over buf e.offset bs))
unfolding inline_member opt_m
inline_some E w d e v buf i h = rw h refl

module _ (R : Round) (n : ℕ) (p : Progress) (w : Bytes) (T F : Bytes) (left depths : ℕ) (d : Def) (m : coded.Member) (v : Row) where
  abbrev inlined : Schema → Bytes → M Bytes
  inlined S buf = inline_member (env_of T S R) (inner T R left depths S) (def_of F d) (member_of m) v buf

  -- the structure's bytes put in
  abbrev put : Def → Schema → Bytes → M Bytes
  put i S buf = bind (inner T R left depths S (def_of F i) (fields_of T v)) λ bs. ret (over buf m.offset bs)

  -- there is no definition
  pub inline_missing : (r : Option Def) (q : Progress) (w' : Bytes) → Safe R n p → Open p
      → ((S : Schema) → schema_of F ≡ ok S → (winning S).struct m.reference ≡ looked_is F r) → r ≡ None
      → Notes R n p w (remark_on d m 4 m.reference) q w' → Fills (Of F) R n p w d.size inlined (gives (tt {0}) q) w'
  inline_missing r q w' h o k e t =
      fills_as R n p w (Of F) (Of F) d.size inlined (λ S buf. leaves (def_of F d) (member_of m) 4 m.reference buf) (gives (tt {0}) q) w'
      (λ S u. (u, λ buf s. ap (λ (a : M Bytes). a s) (inline_none (env_of T S R) (inner T R left depths S) (def_of F d) (member_of m) v buf (looked_none F m.reference r k e S u))))
      (said R n p w (Of F) d.size F d m 4 m.reference q w' h o t)

  -- the definition is i
  known_as : (i : Def) → ((S : Schema) → schema_of F ≡ ok S → (winning S).struct m.reference ≡ Some (def_of F i)) → (S : Schema) → Of F S → (buf : Bytes) (s : State)
      → inlined S buf s ≡ need (def_of F d) (member_of m) i.size buf (put i S buf) s
  known_as i k S u buf s =
      ap (λ (a : M Bytes). a s) (inline_some (env_of T S R) (inner T R left depths S) (def_of F d) (member_of m) v buf (def_of F i) (k S u)
      ∙ ap (λ (x : ℕ). need (def_of F d) (member_of m) x buf (put i S buf)) (def_size F i))

  -- it does not fit
  pub inline_long : (r : Option Def) (i : Def) (b : Bool) (q : Progress) (w' : Bytes) → Safe R n p → Open p
      → ((S : Schema) → schema_of F ≡ ok S → (winning S).struct m.reference ≡ looked_is F r) → r ≡ Some i → b ≡ leb (m.offset + i.size) d.size → b ≡ false
      → Notes R n p w (remark_on d m 1 d.size) q w' → Fills (Of F) R n p w d.size inlined (gives (tt {0}) q) w'
  inline_long r i b q w' h o k e f g t =
      fills_as R n p w (Of F) (Of F) d.size inlined (λ S buf. need (def_of F d) (member_of m) i.size buf (put i S buf)) (gives (tt {0}) q) w'
      (λ S u. (u, known_as i (looked_at_law F m.reference r i k e) S u))
      (too_long R n p w (Of F) F d m i.size (put i) q w' h o (sym f ∙ g) t)

  -- it fits
  fitting : (i : Def) (fs : Fields) → ((S : Schema) → schema_of F ≡ ok S → (winning S).struct m.reference ≡ Some (def_of F i)) → leb (m.offset + i.size) d.size ≡ true
      → fs ≡ fields_of T v → (S : Schema) → Of F S → (buf : Bytes) (s : State)
      → inlined S buf s ≡ after (inner T R left depths S (def_of F i) fs s) (λ bs. ret (over buf m.offset bs))
  unfolding bind
  fitting i fs k f g S u buf s =
      rw g (known_as i k S u buf s ∙ ap (λ (a : M Bytes). a s) (need_yes (def_of F d) (member_of m) i.size buf (put i S buf) (rw (def_size F d) f)))

  -- a refusal
  pub inline_refused : (r : Option Def) (i : Def) (b : Bool) (fs : Fields) (x : Ans (Unit {0})) (k : ℕ) (t : Progress) (w' : Bytes)
      → ((S : Schema) → schema_of F ≡ ok S → (winning S).struct m.reference ≡ looked_is F r) → r ≡ Some i → b ≡ leb (m.offset + i.size) d.size → b ≡ true
      → fs ≡ fields_of T v → Pushes (Named F i) R n p w i.size (λ S. inner T R left depths S (def_of F i) fs) x w' → x ≡ refuses k t
      → Fills (Of F) R n p w d.size inlined (refuses k t) w'
  inline_refused r i b fs x k t w' l e f g j a z =
      let c : Pushes (Named F i) R n p w i.size (λ S. inner T R left depths S (def_of F i) fs) (refuses k t) w' = rw (← z) a in
      let win : (S : Schema) → schema_of F ≡ ok S → (winning S).struct m.reference ≡ Some (def_of F i) = looked_at_law F m.reference r i l e in
      record {
        grew = c.grew;
        says = λ S u s σ buf q y. rw (fitting i fs win (sym f ∙ g) j S u buf s)
            (refused_on S R n (λ bs. (σ ++ buf) ++ bs) (λ bs o. length bs ≡ i.size) (λ bs. σ ++ bs) (λ bs o. length bs ≡ d.size)
            (inner T R left depths S (def_of F i) fs s) (λ bs. ret (over buf m.offset bs)) k t w' (c.says S (looked_named F S m.reference i u (win S u)) s (σ ++ buf) y));
      }

  -- the numbers after the structure went into its parent
  inline_went : (size : ℕ) (t : Progress) → Safe R n p → Safe R n t → Started p size t → Went R n p 1 (gives (tt {0}) (with_top t p.top))
  inline_went size t h g s = (
    record {
      small = g.small;
      room = g.room;
      from = g.from;
      items = g.items;
      low = h.low;
      stack = omega (arith, g.stack, s.grown.top);
      within = g.within;
      blocks = g.blocks;
      rows = g.rows;
      structs = g.structs;
      enums = g.enums;
      next = g.next;
      seen = g.seen;
    },
    record { more = s.grown.more; paid = omega (arith, s.grown.paid); top = omega arith; met = omega (arith, s.grown.met) },
  )

  -- the bytes on top of the stack moved into the parent below them
  moved : (i : Def) (t : Progress) (w1 : Bytes) (to : ℕ) → Safe R n t → p.top + i.size ≡ t.top → m.offset + i.size ≤ d.size → d.size ≤ p.top
      → to ≡ p.top - d.size + m.offset → (S : Schema) (σ buf : Bytes) → length buf ≡ d.size → p.top ≡ stack_at R + length (σ ++ buf)
      → (o : Out Bytes) → Meets S R n (λ b. (σ ++ buf) ++ b) (λ b x. length b ≡ i.size) o (gives (tt {0}) t) w1
      → Meets S R n (λ b. σ ++ b) (λ b x. length b ≡ d.size) (after o (λ bs. ret (over buf m.offset bs))) (gives (tt {0}) (with_top t p.top))
      (over (over w1 to (take i.size (drop p.top w1))) p.top (zeros i.size))
  unfolding after ret
  moved i t w1 to g e f dn te S σ buf l a (done b s) h =
      let la : length (σ ++ buf) ≡ length σ + length buf = length-append σ buf in (
        rep_shift S R n σ buf b m.offset p.top to i.size h.0 (omega (arith, g)) e h.1 (omega arith) (omega arith),
        length_over buf m.offset b (omega (arith, h.1)) ∙ l,
      )
  moved i t w1 to g e f dn te S σ buf l a (stop k es) h = absurd h

  -- its bytes are in the parent
  pub inline_done : (r : Option Def) (i : Def) (b : Bool) (fs : Fields) (x : Ans (Unit {0})) (t : Progress) (w1 w2 : Bytes) → Safe R n p → Buffer R p d.size
      → ((S : Schema) → schema_of F ≡ ok S → (winning S).struct m.reference ≡ looked_is F r) → r ≡ Some i → b ≡ leb (m.offset + i.size) d.size → b ≡ true
      → fs ≡ fields_of T v → Pushes (Named F i) R n p w i.size (λ S. inner T R left depths S (def_of F i) fs) x w1 → x ≡ gives (tt {0}) t
      → w2 ≡ over (over w1 (p.top - d.size + m.offset) (take i.size (drop p.top w1))) p.top (zeros i.size)
      → Fills (Of F) R n p w d.size inlined (gives (tt {0}) (with_top t p.top)) w2
  inline_done r i b fs x t w1 w2 h bu l e f g j a z q =
      let c : Pushes (Named F i) R n p w i.size (λ S. inner T R left depths S (def_of F i) fs) (gives (tt {0}) t) w1 = rw (← z) a in
      let win : (S : Schema) → schema_of F ≡ ok S → (winning S).struct m.reference ≡ Some (def_of F i) = looked_at_law F m.reference r i l e in
      let fit : m.offset + i.size ≤ d.size = leb-true (m.offset + i.size) d.size (sym f ∙ g) in
      record {
        grew = inline_went i.size t h c.grew.0 c.grew.1;
        says = λ S u s σ buf y k. rw (fitting i fs win (sym f ∙ g) j S u buf s, q)
            (moved i t w1 (p.top - d.size + m.offset) c.grew.0 (sym c.grew.1.grown.top) fit (omega (arith, bu.low)) refl S σ buf y k.top
            (inner T R left depths S (def_of F i) fs s) (c.says S (looked_named F S m.reference i u (win S u)) s (σ ++ buf) k));
      }
