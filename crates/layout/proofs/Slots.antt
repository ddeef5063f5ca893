-- The four bytes of a slot are the pointer of the item that was laid for it: `slots`.
-- Assumes nothing.
use Rattle.std.specs.Prelude.{Some}
use Prim.Native.Nat.{ℕ, ◌+◌, ◌≤◌}
use native.Mathlib.Omega.{arith}
use mathlib.Core.Path.{◌≡◌, refl, ◌∙◌}
use mathlib.Core.Bool.{Bool, true, false, ◌||◌}
use mathlib.Core.List.{[], ◌∷◌, ◌++◌}
use mathlib.Core.Logic.{◌⊎◌, inl, inr}
use lib.Dec.{eqb, leb}
use lib.ListN.{length, length-replicate}
use borrow.Author.Tests.{leb-true}
use Rattle.numbers.specs.Words.{Bytes, bytes_of, words, over, zeros}
use Rattle.numbers.proofs.Bytes.{length_words}
use Rattle.numbers.proofs.Laws.{length_over}
use Rattle.value.specs.Rows.{Value, Fields, row, field_named, children_of, Map, Null}
use Rattle.coerce.specs.Numbers.{str_of}
use Rattle.schema.specs.Defs.{StructDef, Member}
use Rattle.layout.specs.State.{State, Env, Out, done, stop, M, after, bind, ret, if_m, opt_m, remark, add_item, lay_item}
use Rattle.layout.specs.Kinds
use Rattle.layout.specs.Members.{row_of, reference_at, low16, says, leaves, need, wrong, is_pointer_text, slot_size, put_pointer, text_slot, pointer_member, text_member}
use Rattle.layout.specs.Runs.{pointed, pointer_element, text_element}
use Rattle.layout.specs.Write.{Writers, writers, array_info, by_pointer, pairs_of, is_struct_value, is_array_value, pointed_member, struct_member, pointed_array, array_of, array_member, map_of, map_member, member, write, root}
use Rattle.layout.specs.Slots.{Points, PointsFirst, PointsRoot, PutsOnly, step, TextSlot, ArraySlot, MapSlot, StructSlot, MemberSlot, TextElements, EmptyTexts, StructElements, EmptyElements, Slots}
use Rattle.layout.proofs.Sizes.{sizes}
use Rattle.layout.proofs.Laying.{Adds, adds, put_read, points, points_first, text_slot_law, run_slot, there, pointed_is_law}
use Rattle.layout.proofs.Puts.{o_opt, o_leaves, o_wrong, o_need, o_text, o_pointed_array, o_pointed_member, o_map_of, not_fixed}

-- members whose turn has come: the structure has its full length, so a slot that fits lies inside it

module _ (E : Env) (fuel left : ℕ) (d : StructDef) (e : Member) (v : Value) (buf : Bytes) (s : State) (l : length buf ≡ d.size) where
  -- the structures that members lead to are written by
  abbrev w : Writers
  w = writers (write E fuel) left

  text_member_law : TextSlot E w d e v buf s
  unfolding member text_member pointer_member need if_m opt_m
  text_member_law t k p h q z =
      rw (k, not_fixed e.subtype p, p, h, q) (text_slot_law E e.subtype t buf e.offset s (omega (arith, leb-true (e.offset + slot_size e.subtype) d.size h, l)) z)

  array_member_law : ArraySlot E w d e v buf s
  unfolding member array_member array_of pointed_array need if_m opt_m
  array_member_law x r t k i a p h z q =
      rw (k, i, a, p, h, z) (run_slot _ _ e.offset buf s r t (omega (arith, leb-true (e.offset + 16) d.size h, l)) q)

  map_member_law : MapSlot E w d e v buf s
  unfolding member map_member map_of need if_m opt_m
  map_member_law i r t k b h m z f q =
      let j : e.offset + 24 ≤ d.size = leb-true (e.offset + 24) d.size h in
      let n : length (words (0x01000000 ∷ [])) ≡ 4 = length_words (0x01000000 ∷ []) in
      let o : length (over buf e.offset (words (0x01000000 ∷ []))) ≡ length buf = length_over buf e.offset (words (0x01000000 ∷ [])) (omega (arith, n, j, l)) in
      rw (k, b, h, m, z, f) (run_slot _ _ (e.offset + 8) _ s r t (omega (arith, o, j, l)) q)

  struct_member_law : StructSlot E w d e v buf s
  unfolding member struct_member pointed_member need if_m bind opt_m
  struct_member_law i bs t k b h m f g =
      rw (k, b, h, m, pointed_is_law E w.afresh d e e.reference (row_of E v) s i bs t f g, there)
      (points i.name bs t.core e.offset _ (λ p q. put_read buf e.offset p (omega (arith, leb-true (e.offset + 8) d.size h, l)) q) (add_item i.name bs t) (adds false i.name bs t))

  text_only_law : Kinds.kind_of e.type ≡ Kinds.text → is_pointer_text e.subtype ≡ true → PutsOnly s.core buf e.offset (step E w d e v buf s)
  unfolding member text_member pointer_member if_m
  text_only_law k p =
      rw (k, not_fixed e.subtype p, p)
      (o_need E d e buf e.offset (slot_size e.subtype) _ (λ h. o_opt buf e.offset (str_of E.sheet (row_of E v)) _ _ (o_wrong E d e v buf e.offset) (λ t. o_text E e.subtype t buf e.offset (omega (arith, h, l)))) s)

  array_only_law : (x : Member) → Kinds.kind_of e.type ≡ Kinds.array → array_info d e ≡ Some x → by_pointer e.subtype x.subtype ≡ true → PutsOnly s.core buf e.offset (step E w d e v buf s)
  unfolding member array_member array_of opt_m if_m
  array_only_law x k i p = rw (k, i, p) (go (is_array_value E (row_of E v)))
    where
      go : (b : Bool) → PutsOnly s.core buf e.offset (if_m b (pointed_array E w.afresh d e x (children_of (row_of E v)) buf) (wrong d e v buf) s)
      go true = o_pointed_array d e E fuel 32 x (children_of (row_of E v)) buf l s
      go false = o_wrong E d e v buf e.offset s

  struct_only : Kinds.kind_of e.type ≡ Kinds.structure → eqb e.subtype 0 ≡ false → PutsOnly s.core buf e.offset (step E w d e v buf s)
  unfolding member struct_member if_m
  struct_only k z = rw (k, z) (go (is_struct_value E (row_of E v)))
    where
      go : (b : Bool) → PutsOnly s.core buf e.offset (if_m b (pointed_member E w.afresh d e (row_of E v) buf) (wrong d e v buf) s)
      go true = o_pointed_member d e E fuel 32 (row_of E v) buf l s
      go false = o_wrong E d e v buf e.offset s

  map_only_law : Kinds.kind_of e.type ≡ Kinds.map
      → PutsOnly s.core buf (e.offset + 8) (step E w d e v buf s) ⊎ PutsOnly s.core (over buf e.offset (words (0x01000000 ∷ []))) (e.offset + 8) (step E w d e v buf s)
  unfolding member map_member need if_m
  map_only_law k = rw k (supported (eqb e.subtype 1))
    where
      marked : Bytes
      marked = over buf e.offset (words (0x01000000 ∷ []))

      Either : M Bytes → Type 0
      Either m = PutsOnly s.core buf (e.offset + 8) (m s) ⊎ PutsOnly s.core marked (e.offset + 8) (m s)

      pairs : M Bytes
      pairs = map_of E w.afresh d e (reference_at d (low16 e.reference)) (pairs_of (children_of (row_of E v))) marked

      held : (b : Bool) → e.offset + 24 ≤ d.size → Either (if_m b pairs (wrong d e v buf))
      held true h =
          let n : length (words (0x01000000 ∷ [])) ≡ 4 = length_words (0x01000000 ∷ []) in
          let o : length marked ≡ length buf = length_over buf e.offset (words (0x01000000 ∷ [])) (omega (arith, n, h, l)) in
          inr (o_map_of d e E fuel 32 (reference_at d (low16 e.reference)) (pairs_of (children_of (row_of E v))) marked (o ∙ l) h s)
      held false h = inl (o_wrong E d e v buf (e.offset + 8) s)

      fitting : (b : Bool) → leb (e.offset + 24) d.size ≡ b
          → Either (if_m b (if_m (eqb (row_of E v).kind Map || eqb (row_of E v).kind Null) pairs (wrong d e v buf)) (leaves d e 1 d.size buf))
      fitting true q = held (eqb (row_of E v).kind Map || eqb (row_of E v).kind Null) (leb-true (e.offset + 24) d.size q)
      fitting false q = inl (o_leaves E d e buf (e.offset + 8) 1 d.size s)

      supported : (b : Bool)
          → Either (if_m b (need d e 24 buf (if_m (eqb (row_of E v).kind Map || eqb (row_of E v).kind Null) pairs (wrong d e v buf))) (leaves d e 6 e.subtype buf))
      supported true = fitting (leb (e.offset + 24) d.size) refl
      supported false = inl (o_leaves E d e buf (e.offset + 8) 6 e.subtype s)

  member_slot : MemberSlot E w d e v buf s
  member_slot =
      record {
        text = text_member_law;
        array = array_member_law;
        map = map_member_law;
        structure = struct_member_law;
        text_only = text_only_law;
        array_only = array_only_law;
        map_only = map_only_law;
        structure_only = struct_only;
      }

-- elements of a run

module _ (E : Env) where
  text_elements_law : TextElements E
  unfolding text_element bind after ret
  text_elements_law sub r s t q z =
      rw q (first (text_slot E sub t (zeros (slot_size sub)) 0 s) (text_slot_law E sub t (zeros (slot_size sub)) 0 s (omega (arith, length-replicate {A = ℕ} (slot_size sub) 0)) z))
    where
      first : (o : Out Bytes) → Points 1 (t ++ (0 ∷ [])) 0 s.core o → PointsFirst 1 (t ++ (0 ∷ [])) s.core (after o (λ bs. ret (Some bs)))
      first (done b u) x = x
      first (stop n es) x = tt

  struct_elements_law : StructElements E
  unfolding pointer_element if_m bind
  struct_elements_law w d e ref r s i bs t k f g =
      rw (k, pointed_is_law E w d e ref (row E.sheet r) s i bs t f g, there)
      (points_first i.name bs t.core _ (λ p q. put_read (zeros 8) 0 p (omega arith) q) (add_item i.name bs t) (adds false i.name bs t))

  empty_elements_law : EmptyElements E
  unfolding pointer_element if_m bind after ret pointed opt_m says remark put_pointer over bytes_of
  empty_elements_law w d e ref r s = (λ k. rw k refl, λ k f. rw (k, f) refl)

  empty_texts_law : EmptyTexts E
  unfolding text_element text_slot if_m bind after ret
  empty_texts_law sub r s z = rw z refl

  root_laid : (alone : Bool) (d : StructDef) (fs : Fields) (s : State) (bs : Bytes) (t : State) → write E 96 32 d fs s ≡ done bs t
      → PointsRoot d.name bs t.core (root E alone d fs s)
  unfolding root bind after
  root_laid alone d fs s bs t e = rw e (go (lay_item alone d.name bs t) (adds alone d.name bs t))
    where
      go : (o : Out ℕ) → Adds d.name bs t.core o → PointsRoot d.name bs t.core o
      go (done p u) a = a.lays
      go (stop n es) a = tt

  pub slots : Slots E
  slots =
      record {
        members = λ fuel left d fs front e behind buf s x. member_slot E fuel left d e (field_named e.name fs) buf s ((sizes E).turns fuel left d fs front e behind buf s x);
        text_elements = text_elements_law;
        empty_texts = empty_texts_law;
        struct_elements = struct_elements_law;
        empty_elements = empty_elements_law;
        root = root_laid;
      }
