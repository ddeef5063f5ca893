-- A step puts no pointer but that of the item that it laid last: rules, one for each way to put steps together, and the members that put one.
-- Assumes nothing.
use Rattle.std.specs.Prelude.{Option, Some, None}
use Prim.Native.Nat.{ℕ, ◌+◌, ◌^◌, ◌≤◌, ◌<◌}
use native.Mathlib.Omega.{arith}
use mathlib.Core.Path.{◌≡◌, refl}
use mathlib.Core.Bool.{Bool, true, false, ◌&&◌, false≢true}
use mathlib.Core.List.{List, [], ◌∷◌, ◌++◌}
use mathlib.Core.Logic.{inl, inr}
use lib.Dec.{eqb, leb}
use lib.ListN.{length}
use borrow.Author.Tests.{leb-true, ne_eqb}
use Rattle.numbers.specs.Words.{Bytes, read_at, is_empty}
use Rattle.value.specs.Rows.{Value, Fields, Row, fields_of}
use Rattle.schema.specs.Defs.{StructDef, Member}
use Rattle.layout.specs.State.{Core, State, Env, Out, done, stop, M, after, bind, ret, if_m, opt_m, add_item}
use Rattle.layout.specs.Kinds
use Rattle.layout.specs.Members.{says, leaves, need, wrong, is_pointer_text, slot_size, put_pointer, text_slot}
use Rattle.layout.specs.Runs.{Writer, Run, own_type, pointed}
use Rattle.layout.specs.Write.{pointed_member, laid_run, pointed_array, map_of, write}
use Rattle.layout.specs.Slots.{Further, Points, PutsOnly}
use Rattle.layout.specs.Parts.{Stays, OnlyAdds}
use Rattle.layout.proofs.Writers.{k_says}
use Rattle.layout.proofs.Laying.{further_same, further_then, adds, put_read, counted_read, points, text_slot_law, there}
use Rattle.layout.proofs.Stay.{standing, stay_prims, only_adds, run_adds, pairs_add, laid_stays_law}

module _ (buf : Bytes) (off : ℕ) where
  abbrev pub Only : M Bytes → Type 0
  Only m = (s : State) → PutsOnly s.core buf off (m s)

  o_same : Only (ret buf)
  unfolding ret
  o_same s = inl refl

  -- what stood before stood earlier too
  o_since : (a b : Core) → Further a b → (o : Out Bytes) → PutsOnly b buf off o → PutsOnly a buf off o
  o_since a b f (done c s) (inl e) = inl e
  o_since a b f (done c s) (inr (n, bs, d, g, x)) = inr (n, bs, d, further_then a b d f g, x)
  o_since a b f (stop n es) x = tt

  -- the first part only adds
  o_bind : {A : Type 0} (m : M A) (k : A → M Bytes) → OnlyAdds m → ((a : A) → Only (k a)) → Only (bind m k)
  unfolding bind after
  o_bind {A} m k g h s = go (m s) (g s)
    where
      go : (o : Out A) → Stays s.core o → PutsOnly s.core buf off (after o k)
      go (done a t) f = o_since s.core t.core f (k a t) (h a t)
      go (stop n es) f = tt

  o_if : (b : Bool) (m n : M Bytes) → (b ≡ true → Only m) → (b ≡ false → Only n) → Only (if_m b m n)
  unfolding if_m
  o_if true m n hm hn = hm refl
  o_if false m n hm hn = hn refl

  pub o_opt : {X : Type 0} (o : Option X) (m : M Bytes) (f : X → M Bytes) → Only m → ((x : X) → Only (f x)) → Only (opt_m o m f)
  unfolding opt_m
  o_opt None m f hm hf = hm
  o_opt (Some x) m f hm hf = hf x

  -- an item was laid
  o_points : (n : ℕ) (bs : Bytes) (c : Core) (o : Out Bytes) → Points n bs off c o → PutsOnly c buf off o
  o_points n bs c (done b s) x = inr (n, bs, c, further_same c, x)
  o_points n bs c (stop k es) x = tt

  o_lay : (n : ℕ) (bs : Bytes) (f : ℕ → Bytes) → ((p : ℕ) → p < 256 ^ 4 → read_at 4 (f p) off ≡ p) → Only (bind (add_item n bs) (λ p. ret (f p)))
  unfolding bind
  o_lay n bs f h s = o_points n bs s.core (after (add_item n bs s) (λ p. ret (f p))) (points n bs s.core off f h (add_item n bs s) (adds false n bs s))

module _ (E : Env) (d : StructDef) (e : Member) where
  says_adds : (kind detail : ℕ) → OnlyAdds (says d e kind detail)
  says_adds kind detail = only_adds _ (λ a. k_says E (standing a) (stay_prims E a) d e kind detail)

  pub o_leaves : (buf : Bytes) (off kind detail : ℕ) → Only buf off (leaves d e kind detail buf)
  unfolding leaves
  o_leaves buf off kind detail = o_bind buf off _ _ (says_adds kind detail) (λ u. o_same buf off)

  pub o_wrong : (v : Value) (buf : Bytes) (off : ℕ) → Only buf off (wrong d e v buf)
  unfolding wrong
  o_wrong v buf off = o_opt buf off v _ _ (o_same buf off) (λ r. o_leaves buf off 2 _)

  pub o_need : (buf : Bytes) (off n : ℕ) (m : M Bytes) → (e.offset + n ≤ d.size → Only buf off m) → Only buf off (need d e n buf m)
  unfolding need
  o_need buf off n m h = o_if buf off _ m _ (λ q. h (leb-true (e.offset + n) d.size q)) (λ q. o_leaves buf off 1 d.size)

pub o_text : (E : Env) (sub : ℕ) (t buf : Bytes) (off : ℕ) → off + slot_size sub ≤ length buf → Only buf off (text_slot E sub t buf off)
o_text E sub t buf off h s = go (is_empty t) refl
  where
    go : (b : Bool) → is_empty t ≡ b → PutsOnly s.core buf off (text_slot E sub t buf off s)
    go true z = unfold text_slot if_m ret in rw z (inl refl)
    go false z = o_points buf off 1 (t ++ (0 ∷ [])) s.core (text_slot E sub t buf off s) (text_slot_law E sub t buf off s h z)

o_run : (m : M (Option Run)) → OnlyAdds m → (n : ℕ) (buf : Bytes) (off : ℕ) → off + 12 ≤ length buf → Only buf off (laid_run m n off buf)
unfolding laid_run
o_run m g n buf off h = o_bind buf off m _ g (λ o. o_opt buf off o _ _ (o_same buf off) (λ r. o_lay buf off r.block r.bytes _ (λ p g. counted_read buf off p n h g)))

-- a structure by pointer: it is laid and its pointer put by f, or there is none
module _ (buf : Bytes) (off : ℕ) (f : ℕ → Bytes) (h : (p : ℕ) → p < 256 ^ 4 → read_at 4 (f p) off ≡ p) where
  put : Option ℕ → M Bytes
  put o = opt_m o (ret buf) (λ p. ret (f p))

  o_none : (m : M (Unit {0})) → Only buf off (bind (bind m (λ _. ret None)) put)
  unfolding put bind after ret opt_m
  o_none m s = go (m s)
    where
      go : (o : Out (Unit {0})) → PutsOnly s.core buf off (after (after o (λ _. ret None)) put)
      go (done a t) = inl refl
      go (stop n es) = tt

  o_some : (m : M Bytes) → OnlyAdds m → (n : ℕ) → Only buf off (bind (bind m (λ bs. bind (add_item n bs) (λ p. ret (Some p)))) put)
  unfolding put bind after opt_m
  o_some m g n s = go (m s) (g s)
    where
      go : (o : Out Bytes) → Stays s.core o → PutsOnly s.core buf off (after (after o (λ bs. bind (add_item n bs) (λ p. ret (Some p)))) put)
      go (done bs t) x =
          rw there
          (o_since buf off s.core t.core x (after (add_item n bs t) (λ p. ret (f p)))
          (o_points buf off n bs t.core (after (add_item n bs t) (λ p. ret (f p))) (points n bs t.core off f h (add_item n bs t) (adds false n bs t))))
      go (stop k es) x = tt

  o_pointed : (E : Env) (w : Writer) → ((i : StructDef) (fs : Fields) → OnlyAdds (w i fs)) → (d : StructDef) (e : Member) (ref : ℕ) (v : Row)
      → Only buf off (bind (pointed E w d e ref v) put)
  unfolding pointed
  o_pointed E w g d e ref v = go (E.defs.struct (own_type E v ref))
    where
      go : (o : Option StructDef)
          → Only buf off
          (bind (opt_m o (bind (says d e 4 (own_type E v ref)) (λ _. ret None)) (λ i. bind (w i (fields_of E.sheet v)) (λ bs. bind (add_item i.name bs) (λ p. ret (Some p))))) put)
      go None = unfold opt_m in o_none (says d e 4 (own_type E v ref))
      go (Some i) = unfold opt_m in o_some (w i (fields_of E.sheet v)) (g i (fields_of E.sheet v)) i.name

-- the members that put a pointer, in a structure of full length
module _ (d : StructDef) (e : Member) (E : Env) (fuel left : ℕ) where
  pub o_pointed_array : (x : Member) (rs : List ℕ) (buf : Bytes) → length buf ≡ d.size → Only buf e.offset (pointed_array E (write E fuel left) d e x rs buf)
  unfolding pointed_array
  o_pointed_array x rs buf l =
      o_need E d e buf e.offset 16 _
      (λ h. let j : e.offset + 12 ≤ length buf = omega (arith, h, l) in
      o_if buf e.offset _ _ _ (λ z. o_same buf e.offset) (λ z. o_run _ (run_adds E fuel left d e x (Kinds.kind_of x.type) rs) _ buf e.offset j))

  pub o_pointed_member : (v : Row) (buf : Bytes) → length buf ≡ d.size → Only buf e.offset (pointed_member E (write E fuel left) d e v buf)
  unfolding pointed_member put
  o_pointed_member v buf l =
      o_need E d e buf e.offset 8 _
      (λ h. let j : e.offset + 4 ≤ length buf = omega (arith, h, l) in
      o_if buf e.offset _ _ _
      (λ y. o_pointed buf e.offset (λ p. put_pointer buf e.offset p) (λ p g. put_read buf e.offset p j g) E (write E fuel left) ((laid_stays_law E).whole fuel left) d e e.reference v)
      (λ y. o_same buf e.offset))

  pub o_map_of : (n : ℕ) (ps : List (ℕ × ℕ)) (buf : Bytes) → length buf ≡ d.size → e.offset + 24 ≤ d.size → Only buf (e.offset + 8) (map_of E (write E fuel left) d e n ps buf)
  unfolding map_of
  o_map_of n ps buf l h =
      let j : e.offset + 8 + 12 ≤ length buf = omega (arith, h, l) in
      o_if buf (e.offset + 8) _ _ _ (λ z. o_same buf (e.offset + 8))
      (λ z. o_opt buf (e.offset + 8) (E.defs.struct n) _ _ (o_leaves E d e buf (e.offset + 8) 7 n) (λ i. o_run _ (pairs_add E fuel left n i ps) _ buf (e.offset + 8) j))

-- a text by pointer is none in place
pub not_fixed : (sub : ℕ) → is_pointer_text sub ≡ true → eqb sub 0 ≡ false
not_fixed sub p = go (leb 1 sub) refl p
  where
    go : (b : Bool) → leb 1 sub ≡ b → (b && leb sub 3) ≡ true → eqb sub 0 ≡ false
    go true y x = ne_eqb sub 0 (λ z. let y : 1 ≤ sub = leb-true 1 sub y in absurd (omega (arith, z)))
    go false y x = absurd (false≢true x)
