-- Actions that are alike: rules, one for each way to put actions together, and every writer over two pairs of writers that are alike on the fields at hand.
-- Assumes nothing.
use Rattle.std.specs.Prelude.{Option, Some, None}
use Prim.Native.Nat.{ℕ, zero, suc, ◌-◌, ◌≤◌, ◌<◌}
use native.Mathlib.Omega.{arith}
use mathlib.Core.Path.{◌≡◌, refl, ◌∙◌, ap}
use mathlib.Core.Bool.{Bool, true, false, cond}
use mathlib.Core.List.{List, [], ◌∷◌, map}
use lib.Dec.{eqb}
use lib.ListN.{take}
use Rattle.numbers.specs.Words.{Bytes}
use Rattle.numbers.specs.Result.{Every}
use Rattle.value.specs.Rows.{Row, Value, value_row, row, child_count, rows_from, children_of, Fields, fields_of, field_named, Struct}
use Rattle.schema.specs.Defs.{StructDef, Member}
use Rattle.layout.specs.State.{State, Env, Out, done, stop, M, after, bind, if_m, opt_m}
use Rattle.layout.specs.Kinds
use Rattle.layout.specs.Members.{need, high16}
use Rattle.layout.specs.Runs.{Run, elements, run, pointed, pointer_element, struct_element, struct_run, element_run}
use Rattle.layout.specs.Write.{ARRAYINFO, Writers, pairs_of, named, laid_run, inline_member, pointed_member, struct_member, pointed_array, embedded_array, array_of, array_member, pair_element, map_of, map_member, member, members, started}
use Rattle.layout.proofs.Levels.{Deep}

-- rules

-- the same outcome from every state
unfoldable pub Alike : {A : Type 0} → M A → M A → Type 0
Alike m m' = (s : State) → m s ≡ m' s

pub a_same : {A : Type 0} (m : M A) → Alike m m
unfolding Alike
a_same m s = refl

a_after : {A B : Type 0} (k k' : A → M B) → ((a : A) → Alike (k a) (k' a)) → (o : Out A) → after o k ≡ after o k'
unfolding Alike after
a_after k k' h (done a s) = h a s
a_after k k' h (stop n es) = refl

pub a_bind : {A B : Type 0} (m m' : M A) (k k' : A → M B) → Alike m m' → ((a : A) → Alike (k a) (k' a)) → Alike (bind m k) (bind m' k')
unfolding Alike bind
a_bind m m' k k' hm hk s = ap (λ o. after o k) (hm s) ∙ a_after k k' hk (m' s)

pub a_if : {A : Type 0} (b : Bool) (m m' n n' : M A) → Alike m m' → Alike n n' → Alike (if_m b m n) (if_m b m' n')
unfolding if_m
a_if true m m' n n' hm hn = hm
a_if false m m' n n' hm hn = hn

pub a_opt : {X A : Type 0} (o : Option X) (m m' : M A) (f f' : X → M A) → Alike m m' → ((x : X) → o ≡ Some x → Alike (f x) (f' x)) → Alike (opt_m o m f) (opt_m o m' f')
unfolding opt_m
a_opt None m m' f f' hm hf = hm
a_opt (Some x) m m' f f' hm hf = hf x refl

pub a_need : (d : StructDef) (e : Member) (n : ℕ) (buf : Bytes) (m m' : M Bytes) → Alike m m' → Alike (need d e n buf m) (need d e n buf m')
unfolding need
a_need d e n buf m m' h = a_if _ _ _ _ _ h (a_same _)

-- elements of which Q holds
pub a_elements : {X : Type 0} (Q : X → Type 0) (f f' : X → M (Option Bytes)) (xs : List X) → ((x : X) → Q x → Alike (f x) (f' x)) → Every Q xs
    → Alike (elements f xs) (elements f' xs)
unfolding elements
a_elements Q f f' [] h q = a_same _
a_elements Q f f' (x ∷ xs) h q =
    a_bind _ _ _ _ (h x q.0) (λ o. a_opt o _ _ _ _ (a_same _) (λ b e. a_bind _ _ _ _ (a_elements Q f f' xs h q.1) (λ p. a_same _)))

pub a_run : {X : Type 0} (E : Env) (stride block : ℕ) (Q : X → Type 0) (f f' : X → M (Option Bytes)) (xs : List X) → ((x : X) → Q x → Alike (f x) (f' x)) → Every Q xs
    → Alike (run E stride block f xs) (run E stride block f' xs)
unfolding run
a_run E stride block Q f f' xs h q = a_bind _ _ _ _ (a_same _) (λ u. a_bind _ _ _ _ (a_elements Q f f' xs h q) (λ o. a_same _))

pub a_laid_run : (m m' : M (Option Run)) (n off : ℕ) (buf : Bytes) → Alike m m' → Alike (laid_run m n off buf) (laid_run m' n off buf)
unfolding laid_run
a_laid_run m m' n off buf h = a_bind _ _ _ _ h (λ o. a_same _)

-- lists

every_map : {X Y : Type 0} (Q : Y → Type 0) (f : X → Y) (l : List X) → Every (λ x. Q (f x)) l → Every Q (map f l)
every_map Q f [] h = tt
every_map Q f (x ∷ l) h = (h.0, every_map Q f l h.1)

every_so : {X : Type 0} (P Q : X → Type 0) → ((x : X) → P x → Q x) → (l : List X) → Every P l → Every Q l
every_so P Q h [] p = tt
every_so P Q h (x ∷ l) p = (h x p.0, every_so P Q h l p.1)

every_take : {X : Type 0} (Q : X → Type 0) (k : ℕ) (l : List X) → Every Q l → Every Q (take k l)
every_take Q zero l h = tt
every_take Q (suc k) [] h = tt
every_take Q (suc k) (x ∷ l) h = (h.0, every_take Q k l h.1)

-- fields with at most n levels each

abbrev pub FieldsDeep : Bytes → ℕ → Fields → Type 0
FieldsDeep T n = Every (λ f. Deep T n f.1)

abbrev ValueDeep : Bytes → ℕ → Value → Type 0
ValueDeep T n None = Unit {0}
ValueDeep T n (Some r) = Deep T n r

module _ (T : Bytes) where
  value_deep : (n name : ℕ) (fs : Fields) → FieldsDeep T n fs → ValueDeep T n (field_named name fs)
  unfolding field_named
  value_deep n name [] h = tt
  value_deep n name (f ∷ fs) h = go (eqb f.0 name) (value_deep n name fs h.1)
    where
      go : (b : Bool) → ValueDeep T n (field_named name fs) → ValueDeep T n (cond b (Some f.1) (field_named name fs))
      go true k = h.0
      go false k = k

  -- a row's children have one level fewer
  children_deep : (n r : ℕ) → Deep T n r → (k : ℕ) × (n ≡ suc k) × Every (Deep T k) (children_of (row T r))
  children_deep zero r h = absurd h
  children_deep (suc k) r h = (k, refl, h)

  pub fields_deep : (k : ℕ) (v : Row) → Every (Deep T k) (children_of v) → FieldsDeep T k (fields_of T v)
  unfolding fields_of
  fields_deep k v h = go (eqb v.kind Struct)
    where
      go : (b : Bool) → FieldsDeep T k (cond b (map (λ r. ((row T r).name, r)) (children_of v)) [])
      go true = every_map (λ f. Deep T k f.1) (λ r. ((row T r).name, r)) (children_of v) h
      go false = tt

  named_deep : (k : ℕ) (ms : List Member) (rs : List ℕ) → Every (Deep T k) rs → FieldsDeep T k (named ms rs)
  unfolding named
  named_deep k [] rs h = tt
  named_deep k (m ∷ ms) [] h = tt
  named_deep k (m ∷ ms) (r ∷ rs) h = go (eqb m.name ARRAYINFO) (named_deep k ms (r ∷ rs) h) (named_deep k ms rs h.1)
    where
      go : (b : Bool) → FieldsDeep T k (named ms (r ∷ rs)) → FieldsDeep T k (named ms rs)
          → FieldsDeep T k (elim b [ true ↦ named ms (r ∷ rs) | false ↦ (m.name, r) ∷ named ms rs ])
      go true x y = x
      go false x y = (h.0, y)

  pairs_deep : (k : ℕ) (rs : List ℕ) → Every (Deep T k) rs → Every (λ p. Deep T k p.0 × Deep T k p.1) (pairs_of rs)
  unfolding pairs_of
  pairs_deep k [] h = tt
  pairs_deep k (r ∷ []) h = tt
  pairs_deep k (r ∷ (q ∷ rs)) h = ((h.0, h.1.0), pairs_deep k rs h.1.1)

-- writers

-- A structure whose fields have at most n levels each. w and w' are alike on what its members lead to: inline on fields that have fewer levels, or none at all,
-- afresh on fields that have fewer.
module _ (E : Env) (n : ℕ) (w w' : Writers)
    (hi : (k : ℕ) → k ≤ n - 1 → (i : StructDef) (fs : Fields) → FieldsDeep E.sheet k fs → Alike (w.inline i fs) (w'.inline i fs))
    (ha : (k : ℕ) → k < n → (i : StructDef) (fs : Fields) → FieldsDeep E.sheet k fs → Alike (w.afresh i fs) (w'.afresh i fs)) where
  abbrev T : Bytes
  T = E.sheet

  -- a row, a pair of rows, that a value of the structure leads to
  abbrev Lower : ℕ → Type 0
  Lower r = (k : ℕ) × (k < n) × Deep T k r

  abbrev LowerPair : ℕ × ℕ → Type 0
  LowerPair p = (k : ℕ) × (k < n) × (Deep T k p.0 × Deep T k p.1)

  value_children : (v : Value) → ValueDeep T n v → Every Lower (children_of (value_row T v))
  value_children None h = unfold children_of child_count rows_from in tt
  value_children (Some r) h =
      let (k, e, c) = children_deep T n r h in
      every_so (Deep T k) Lower (λ x p. (k, omega (arith, e), p)) (children_of (row T r)) c

  value_pairs : (v : Value) → ValueDeep T n v → Every LowerPair (pairs_of (children_of (value_row T v)))
  value_pairs None h = unfold pairs_of children_of child_count rows_from in tt
  value_pairs (Some r) h =
      let (k, e, c) = children_deep T n r h in
      every_so (λ p. Deep T k p.0 × Deep T k p.1) LowerPair (λ x p. (k, omega (arith, e), p)) (pairs_of (children_of (row T r))) (pairs_deep T k (children_of (row T r)) c)

  value_fields : (v : Value) → ValueDeep T n v → (k : ℕ) × (k ≤ n - 1) × FieldsDeep T k (fields_of T (value_row T v))
  value_fields None h = (0, omega arith, unfold fields_of in tt)
  value_fields (Some r) h =
      let (k, e, c) = children_deep T n r h in
      (k, omega (arith, e), fields_deep T k (row T r) c)

  -- afresh

  a_row : (k : ℕ) → k ≤ n → (r : ℕ) → Deep T k r → (i : StructDef) → Alike (w.afresh i (fields_of T (row T r))) (w'.afresh i (fields_of T (row T r)))
  a_row k l r h i =
      let (j, e, c) = children_deep T k r h in
      ha j (omega (arith, e, l)) i _ (fields_deep T j (row T r) c)

  a_pointed : (d : StructDef) (e : Member) (ref k : ℕ) → k ≤ n → (r : ℕ) → Deep T k r → Alike (pointed E w.afresh d e ref (row T r)) (pointed E w'.afresh d e ref (row T r))
  unfolding pointed
  a_pointed d e ref k l r h = a_opt _ _ _ _ _ (a_same _) (λ i q. a_bind _ _ _ _ (a_row k l r h i) (λ bs. a_same _))

  a_pointer_element : (d : StructDef) (e : Member) (ref r : ℕ) → Lower r → Alike (pointer_element E w.afresh d e ref r) (pointer_element E w'.afresh d e ref r)
  unfolding pointer_element
  a_pointer_element d e ref r h = a_if _ _ _ _ _ (a_bind _ _ _ _ (a_pointed d e ref h.0 (omega (arith, h.1)) r h.2) (λ o. a_same _)) (a_same _)

  a_struct_element : (d : StructDef) (e : Member) (i : StructDef) (r : ℕ) → Lower r → Alike (struct_element E w.afresh d e i r) (struct_element E w'.afresh d e i r)
  unfolding struct_element
  a_struct_element d e i r h = a_bind _ _ _ _ (a_same _) (λ x. a_bind _ _ _ _ (a_row h.0 (omega (arith, h.1)) r h.2 i) (λ bs. a_same _))

  a_struct_run : (d : StructDef) (e x : Member) (rs : List ℕ) → Every Lower rs → Alike (struct_run E w.afresh d e x rs) (struct_run E w'.afresh d e x rs)
  unfolding struct_run
  a_struct_run d e x rs h =
      a_if _ _ _ _ _ (a_run E 8 12 Lower _ _ rs (a_pointer_element d e x.reference) h)
      (a_opt _ _ _ _ _ (a_same _) (λ i q. a_run E i.size i.name Lower _ _ rs (a_struct_element d e i) h))

  a_element_run : (d : StructDef) (e x : Member) (k : Kinds.Kind) (rs : List ℕ) → Every Lower rs → Alike (element_run E w.afresh d e x k rs) (element_run E w'.afresh d e x k rs)
  unfolding element_run
  a_element_run d e x (Kinds.scalar s) rs h = a_same _
  a_element_run d e x Kinds.text rs h = a_same _
  a_element_run d e x Kinds.structure rs h = a_struct_run d e x rs h
  a_element_run d e x Kinds.enumeration rs h = a_same _
  a_element_run d e x Kinds.array rs h = a_same _
  a_element_run d e x Kinds.flags rs h = a_same _
  a_element_run d e x Kinds.map rs h = a_same _
  a_element_run d e x Kinds.other rs h = a_same _

  a_pointed_array : (d : StructDef) (e x : Member) (rs : List ℕ) (buf : Bytes) → Every Lower rs → Alike (pointed_array E w.afresh d e x rs buf) (pointed_array E w'.afresh d e x rs buf)
  unfolding pointed_array
  a_pointed_array d e x rs buf h =
      a_need d e 16 buf _ _ (a_if _ _ _ _ _ (a_same _) (a_laid_run _ _ _ _ buf (a_element_run d e x (Kinds.kind_of x.type) rs h)))

  a_embedded_array : (d : StructDef) (e x : Member) (rs : List ℕ) (buf : Bytes) → Every Lower rs → Alike (embedded_array E w.afresh d e x rs buf) (embedded_array E w'.afresh d e x rs buf)
  unfolding embedded_array
  a_embedded_array d e x rs buf h = a_bind _ _ _ _ (a_element_run d e x (Kinds.kind_of x.type) rs h) (λ o. a_same _)

  a_array_member : (d : StructDef) (e : Member) (v : Value) (buf : Bytes) → ValueDeep T n v → Alike (array_member E w.afresh d e v buf) (array_member E w'.afresh d e v buf)
  unfolding array_member array_of
  a_array_member d e v buf h =
      let c = value_children v h in
      a_opt _ _ _ _ _ (a_same _)
      (λ x q. a_if _ _ _ _ _ (a_if _ _ _ _ _ (a_pointed_array d e x _ buf c) (a_embedded_array d e x _ buf (every_take Lower (high16 e.reference) _ c))) (a_same _))

  a_pair_element : (i : StructDef) (p : ℕ × ℕ) → LowerPair p → Alike (pair_element E w.afresh i p) (pair_element E w'.afresh i p)
  unfolding pair_element
  a_pair_element i p h = a_bind _ _ _ _ (ha h.0 h.1 i _ (named_deep T h.0 i.members (p.0 ∷ p.1 ∷ []) (h.2.0, (h.2.1, tt)))) (λ bs. a_same _)

  a_map_of : (d : StructDef) (e : Member) (m : ℕ) (ps : List (ℕ × ℕ)) (buf : Bytes) → Every LowerPair ps → Alike (map_of E w.afresh d e m ps buf) (map_of E w'.afresh d e m ps buf)
  unfolding map_of
  a_map_of d e m ps buf h =
      a_if _ _ _ _ _ (a_same _) (a_opt _ _ _ _ _ (a_same _) (λ i q. a_laid_run _ _ _ _ buf (a_run E i.size m LowerPair _ _ ps (a_pair_element i) h)))

  a_map_member : (d : StructDef) (e : Member) (v : Value) (buf : Bytes) → ValueDeep T n v → Alike (map_member E w.afresh d e v buf) (map_member E w'.afresh d e v buf)
  unfolding map_member
  a_map_member d e v buf h = a_if _ _ _ _ _ (a_need d e 24 buf _ _ (a_if _ _ _ _ _ (a_map_of d e _ _ _ (value_pairs v h)) (a_same _))) (a_same _)

  a_pointed_member : (d : StructDef) (e : Member) (v : Value) (buf : Bytes) → ValueDeep T n v
      → Alike (pointed_member E w.afresh d e (value_row T v) buf) (pointed_member E w'.afresh d e (value_row T v) buf)
  unfolding pointed_member
  a_pointed_member d e None buf h = unfold if_m in a_same _
  a_pointed_member d e (Some r) buf h =
      a_need d e 8 buf _ _ (a_if _ _ _ _ _ (a_bind _ _ _ _ (a_pointed d e e.reference n (omega arith) r h) (λ o. a_same _)) (a_same _))

  -- inline

  a_inline_member : (d : StructDef) (e : Member) (v : Value) (buf : Bytes) → ValueDeep T n v
      → Alike (inline_member E w.inline d e (value_row T v) buf) (inline_member E w'.inline d e (value_row T v) buf)
  unfolding inline_member
  a_inline_member d e v buf h =
      let (k, l, f) = value_fields v h in
      a_opt _ _ _ _ _ (a_same _) (λ i q. a_need d e i.size buf _ _ (a_bind _ _ _ _ (hi k l i _ f) (λ bs. a_same _)))

  -- both

  a_struct_member : (d : StructDef) (e : Member) (v : Value) (buf : Bytes) → ValueDeep T n v → Alike (struct_member E w d e v buf) (struct_member E w' d e v buf)
  unfolding struct_member
  a_struct_member d e v buf h = a_if _ _ _ _ _ (a_if _ _ _ _ _ (a_inline_member d e v buf h) (a_pointed_member d e v buf h)) (a_same _)

  a_member : (d : StructDef) (e : Member) (k : Kinds.Kind) (v : Value) (buf : Bytes) → ValueDeep T n v → Alike (member E w d e k v buf) (member E w' d e k v buf)
  unfolding member
  a_member d e (Kinds.scalar s) v buf h = a_same _
  a_member d e Kinds.text v buf h = a_same _
  a_member d e Kinds.structure v buf h = a_struct_member d e v buf h
  a_member d e Kinds.array v buf h = a_array_member d e v buf h
  a_member d e Kinds.enumeration v buf h = a_same _
  a_member d e Kinds.flags v buf h = a_same _
  a_member d e Kinds.map v buf h = a_map_member d e v buf h
  a_member d e Kinds.other v buf h = a_same _

  a_members : (d : StructDef) (fs : Fields) → FieldsDeep T n fs → (es : List Member) (buf : Bytes) → Alike (members E w d fs es buf) (members E w' d fs es buf)
  unfolding members
  a_members d fs h [] buf = a_same _
  a_members d fs h (e ∷ es) buf =
      a_bind _ _ _ _ (a_if _ _ _ _ _ (a_same _) (a_member d e _ _ buf (value_deep T n e.name fs h))) (λ b. a_members d fs h es b)

  pub a_started : (d : StructDef) (fs : Fields) → FieldsDeep T n fs → Alike (started E w d fs) (started E w' d fs)
  unfolding started
  a_started d fs h = a_bind _ _ _ _ (a_same _) (λ x. a_bind _ _ _ _ (a_same _) (λ y. a_members d fs h d.members _))
