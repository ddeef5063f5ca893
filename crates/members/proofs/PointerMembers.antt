-- Members that are texts by pointer. No line here names a place of the code. Assumes nothing.
use Rattle.std.specs.Prelude.{Option, Some, None, is_some, unwrap_or}
use mathlib.Core.Path.{◌≡◌, refl, sym, ap, subst, ◌∙◌}
use mathlib.Core.Bool.{Bool, true, false, cond, ◌||◌, ◌&&◌, false≢true}
use mathlib.Core.List.{[], ◌++◌}
use Prim.Native.Nat.{ℕ, ◌+◌, ◌-◌, ◌^◌, ◌≤◌, ◌<◌}
use native.Mathlib.Omega.{arith}
use lib.Dec.{leb, eqb}
use lib.ListN.{length, drop, length-append}
use borrow.Author.Tests.{leb-true}
use Rattle.numbers.specs.Words.{Bytes}
use Rattle.value.specs.Rows.{Value, Row, value_row, text_area, text_of}
use Rattle.coerce.specs.Numbers.{str_of}
use Rattle.coerce.specs.Answer.{nothing}
use Rattle.schema.specs.Defs
use Rattle.schema.specs.Defs.{Schema, StructDef}
use Rattle.definitions.specs.declared.members.Member as coded
use Rattle.layout.specs.State.{State, M, opt_m}
use Rattle.layout.specs.Members.{wrong, slot_size, text_slot, pointer_member}
use Rattle.area.specs.declared.Round.{Round}
use Rattle.area.specs.declared.Progress.{Progress}
use Rattle.area.specs.Area.{Rep, env_of}
use Rattle.area.specs.Posts.{Safe, Open, Notes, Meets, Ans, gives, refuses}
use Rattle.cells.specs.declared.defs.Def.{Def}
use Rattle.cells.specs.Names.{def_of, member_of}
use Rattle.cells.proofs.Celling.{take_fits}
use Rattle.members.specs.Posts.{remark_on, Buffer, Went, Fills, Slots, any_schema}
use Rattle.members.proofs.Filling.{def_size, need_yes, fills_as, too_long}

-- what is there or not
is_none : {A : Type 0} (o : Option A) → is_some o ≡ false → o ≡ None
is_none None e = refl
is_none (Some a) e = absurd (false≢true (sym e))

is_some_law : {A : Type 0} (o : Option A) (d : A) → is_some o ≡ true → o ≡ Some (unwrap_or o d)
is_some_law (Some a) d e = refl
is_some_law None d e = absurd (false≢true e)

-- a row's text is no longer than its number says
pub text_short : (T : Bytes) (v : Row) (t : Bytes) → v.b < 2 ^ 32 → t ≡ unwrap_or (str_of T v) nothing → length t < 2 ^ 40
unfolding str_of text_of
text_short T v t h e = rw e (go (eqb v.kind 15) (eqb v.kind 0 || (eqb v.kind 14 && eqb v.a 0)))
  where
    go : (a b : Bool) → length (unwrap_or (cond a (Some (text_of T v)) (cond b (Some []) None)) nothing) < 2 ^ 40
    go true b = omega (arith, take_fits v.b (drop v.a (text_area T)))
    go false true = omega arith
    go false false = omega arith

module _ (R : Round) (n : ℕ) (p : Progress) (w T F : Bytes) (d : Def) (m : coded.Member) (v : Value) where
  abbrev D : StructDef
  D = def_of F d

  abbrev e : Defs.Member
  e = member_of m

  -- a text by pointer that does not fit
  pub pointer_long : (q : Progress) (w' : Bytes) → Safe R n p → Open p → leb (m.offset + slot_size m.subtype) d.size ≡ false → Notes R n p w (remark_on d m 1 d.size) q w'
      → Fills any_schema R n p w d.size (λ S buf. pointer_member (env_of T S R) D e v buf) (gives (tt {0}) q) w'
  unfolding pointer_member
  pointer_long q w' h o l t =
      too_long R n p w any_schema F d m (slot_size m.subtype) (λ S buf. opt_m (str_of T (value_row T v)) (wrong D e v buf) λ x. text_slot (env_of T S R) m.subtype x buf m.offset) q w' h o l t

  module _ (row : Row) (is : row ≡ value_row T v) (yes : leb (m.offset + slot_size m.subtype) d.size ≡ true) where
    pointer_is : (x : Option Bytes) → str_of T row ≡ x → (S : Schema) (buf : Bytes) (s : State)
        → pointer_member (env_of T S R) D e v buf s ≡ opt_m x (wrong D e v buf) (λ y. text_slot (env_of T S R) m.subtype y buf m.offset) s
    unfolding pointer_member
    pointer_is x g S buf s =
        ap (λ (a : M Bytes). a s)
        (need_yes D e (slot_size m.subtype) buf (opt_m (str_of T (value_row T v)) (wrong D e v buf) λ y. text_slot (env_of T S R) m.subtype y buf m.offset) (rw (def_size F d) yes)
        ∙ ap (λ (o : Option Bytes). opt_m o (wrong D e v buf) λ y. text_slot (env_of T S R) m.subtype y buf m.offset) (ap (str_of T) (sym is) ∙ g))

    -- .. that is no text
    pub pointer_wrong : (r : Ans (Unit {0})) (w' : Bytes) → is_some (str_of T row) ≡ false → Fills any_schema R n p w d.size (λ S buf. wrong D e v buf) r w'
        → Fills any_schema R n p w d.size (λ S buf. pointer_member (env_of T S R) D e v buf) r w'
    unfolding opt_m
    pointer_wrong r w' g a =
        fills_as R n p w any_schema any_schema d.size (λ S buf. pointer_member (env_of T S R) D e v buf) (λ S buf. wrong D e v buf) r w'
        (λ S z. (z, λ buf s. pointer_is None (is_none (str_of T row) g) S buf s)) a

    -- .. whose slot is filled
    pub pointer_slot : (t : Bytes) (r : Ans (Unit {0})) (w' : Bytes) → is_some (str_of T row) ≡ true → t ≡ unwrap_or (str_of T row) nothing → Buffer R p d.size
        → Slots R n p w m.subtype t (p.top - d.size + m.offset) r w' → Fills any_schema R n p w d.size (λ S buf. pointer_member (env_of T S R) D e v buf) r w'
    unfolding opt_m
    pointer_slot t r w' g f b a = record { grew = grew r a.grew; says = says }
      where
        grew : (r : Ans (Unit {0})) → Went R n p 0 r → Went R n p 1 r
        grew (gives u q) h = (h.0, record { more = h.1.more; paid = h.1.paid; top = h.1.top; met = omega (arith, h.1.met) })
        grew (refuses k q) h = h

        says : (S : Schema) → any_schema S → (s : State) (σ buf : Bytes) → length buf ≡ d.size → Rep S R n s (σ ++ buf) p w
            → Meets S R n (λ b. σ ++ b) (λ b x. length b ≡ d.size) (pointer_member (env_of T S R) D e v buf s) r w'
        says S z s σ buf l q =
            let u : length (σ ++ buf) ≡ length σ + length buf = length-append σ buf in
            let y : m.offset + slot_size m.subtype ≤ d.size = leb-true (m.offset + slot_size m.subtype) d.size yes in
            let i : str_of T row ≡ Some t = is_some_law (str_of T row) nothing g ∙ ap Some (sym f) in
            rw (pointer_is (Some t) i S buf s)
            (subst (λ (k : ℕ). Meets S R n (λ b. σ ++ b) (λ b x. length b ≡ k) (text_slot (env_of T S R) m.subtype t buf m.offset s) r w') l
            (a.says S T s σ buf m.offset (omega (arith, q.top, b)) (omega arith) q))
