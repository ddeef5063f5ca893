-- A structure has as many bytes as its definition says, once it is written and at the turn of each of its members: `sizes`.
-- Assumes nothing.
use Rattle.std.specs.Prelude.{Option, Some, None, Ok, Err}
use Prim.Native.Nat.{ℕ, zero, suc, ◌+◌, ◌-◌, ◌≤◌}
use native.Mathlib.Omega.{arith}
use mathlib.Core.Path.{◌≡◌, refl, ◌∙◌, subst}
use mathlib.Core.Bool.{Bool, true, false, cond}
use mathlib.Core.List.{List, [], ◌∷◌, ◌++◌}
use lib.Dec.{eqb}
use lib.ListN.{length, take, length-append, length-take, length-replicate}
use borrow.Author.Tests.{leb-true}
use Rattle.numbers.specs.Words.{Bytes, bytes_of, words, over, zeros}
use Rattle.numbers.proofs.Bytes.{length_bytes, length_words}
use Rattle.numbers.proofs.Laws.{length_over}
use Rattle.value.specs.Rows.{Value, Row, Fields, field_named}
use Rattle.coerce.specs.Numbers.{Fit, map_fit, int_of, float_of, vec_of}
use Rattle.coerce.specs.declared.misfit.Misfit.TheVariants.{Unfit, FloatText}
use Rattle.names.specs.Names.{Entries}
use Rattle.schema.specs.Defs.{StructDef, Member}
use Rattle.layout.specs.State.{State, Env, Out, done, stop, M, after, bind, ret, fail, if_m, opt_m, fit_m}
use Rattle.layout.specs.Kinds
use Rattle.layout.specs.Kinds.{Scalar, size_of, scalar_bytes}
use Rattle.layout.specs.Members
use Rattle.layout.specs.Members.{high16, slot_size, enum_size, put_pointer, put_counted}
use Rattle.layout.specs.Runs.{Writer, Run}
use Rattle.layout.specs.Write
use Rattle.layout.specs.Write.{Writers, writers, write, members}
use Rattle.layout.specs.Parts.{Sizes}

-- what an action answers: rules for a claim on answers, one for each way to put actions together

abbrev Answers : {A : Type 0} → (A → Type 0) → Out A → Type 0
Answers P (done a s) = P a
Answers P (stop n es) = Unit {0}

unfoldable Gives : {A : Type 0} → (A → Type 0) → M A → Type 0
Gives P m = (s : State) → Answers P (m s)

-- where a coercion fits, Q is known of what it gives
abbrev Fitting : {X : Type 0} → (X → Type 0) → Fit X → Type 0
Fitting Q (Ok x) = Q x
Fitting Q (Err Unfit) = Unit {0}
Fitting Q (Err FloatText) = Unit {0}

fitting_map : {X Y : Type 0} (Q : Y → Type 0) (f : X → Y) → ((x : X) → Q (f x)) → (o : Fit X) → Fitting Q (map_fit f o)
fitting_map Q f h (Ok x) = h x
fitting_map Q f h (Err Unfit) = tt
fitting_map Q f h (Err FloatText) = tt

-- .. or nothing
fitting_any : {X : Type 0} (o : Fit X) → Fitting (λ x. Unit {0}) o
fitting_any (Ok x) = tt
fitting_any (Err Unfit) = tt
fitting_any (Err FloatText) = tt

module _ {A : Type 0} (P : A → Type 0) where
  g_ret : (a : A) → P a → Gives P (ret a)
  unfolding Gives ret
  g_ret a p s = p

  g_fail : (n : ℕ) → Gives P (fail n)
  unfolding Gives fail
  g_fail n s = tt

  g_after : {B : Type 0} (Q : B → Type 0) (k : B → M A) → ((b : B) → Q b → Gives P (k b)) → (o : Out B) → Answers Q o → Answers P (after o k)
  unfolding Gives after
  g_after Q k h (done b s) q = h b q s
  g_after Q k h (stop n es) q = tt

  -- what follows an answer of which Q is known
  g_then : {B : Type 0} (Q : B → Type 0) (m : M B) (k : B → M A) → Gives Q m → ((b : B) → Q b → Gives P (k b)) → Gives P (bind m k)
  unfolding Gives bind
  g_then Q m k hm hk s = g_after Q k hk (m s) (hm s)

  -- .. of which nothing is known
  g_bind : {B : Type 0} (m : M B) (k : B → M A) → ((b : B) → Gives P (k b)) → Gives P (bind m k)
  unfolding Gives
  g_bind {B} m k h = g_then (λ b. Unit {0}) m k (λ s. nothing (m s)) (λ b u. h b)
    where
      nothing : (o : Out B) → Answers (λ b. Unit {0}) o
      nothing (done b s) = tt
      nothing (stop n es) = tt

  g_if : (b : Bool) (m n : M A) → (b ≡ true → Gives P m) → Gives P n → Gives P (if_m b m n)
  unfolding if_m
  g_if true m n hm hn = hm refl
  g_if false m n hm hn = hn

  g_opt : {X : Type 0} (o : Option X) (m : M A) (f : X → M A) → Gives P m → ((x : X) → Gives P (f x)) → Gives P (opt_m o m f)
  unfolding opt_m
  g_opt None m f hm hf = hm
  g_opt (Some x) m f hm hf = hf x

  g_fit : {X : Type 0} (Q : X → Type 0) (o : Fit X) (m : M A) (f : X → M A) → Fitting Q o → Gives P m → ((x : X) → Q x → Gives P (f x)) → Gives P (fit_m o m f)
  unfolding fit_m
  g_fit Q (Ok x) m f q hm hf = hf x q
  g_fit Q (Err Unfit) m f q hm hf = hm
  g_fit Q (Err FloatText) m f q hm hf = g_fail 11

-- a buffer of n bytes
abbrev Long : ℕ → Bytes → Type 0
Long n b = length b ≡ n

-- bytes put where they fit leave the length
long_over : (n : ℕ) (buf : Bytes) (off : ℕ) (bs : Bytes) → length buf ≡ n → off + length bs ≤ n → Long n (over buf off bs)
long_over n buf off bs l h = length_over buf off bs (omega (arith, l)) ∙ l

long_pointer : (n : ℕ) (buf : Bytes) (off p : ℕ) → length buf ≡ n → off + 4 ≤ n → Long n (put_pointer buf off p)
unfolding put_pointer
long_pointer n buf off p l h = long_over n buf off (bytes_of 4 p) l (omega (arith, length_bytes 4 p))

long_counted : (n : ℕ) (buf : Bytes) (off p c : ℕ) → length buf ≡ n → off + 12 ≤ n → Long n (put_counted buf off p c)
unfolding put_counted
long_counted n buf off p c l h =
    long_over n (put_pointer buf off p) (off + 8) (bytes_of 2 c ++ bytes_of 2 c) (long_pointer n buf off p l (omega arith))
    (omega (arith, length-append (bytes_of 2 c) (bytes_of 2 c), length_bytes 2 c))

-- a scalar has no more bytes than its member
scalar_size : (T : Bytes) (k : Scalar) (v : Row) → Fitting (λ bs. length bs ≤ size_of k) (scalar_bytes T k v)
unfolding scalar_bytes
scalar_size T (Kinds.integer n) v = fitting_map _ (bytes_of n) (λ x. omega (arith, length_bytes n x)) (int_of T v)
scalar_size T Kinds.single v = fitting_map _ (bytes_of 4) (λ x. omega (arith, length_bytes 4 x)) (float_of T v)
scalar_size T (Kinds.vector n) v = fitting_map _ (λ xs. words (take n xs)) (λ xs. omega (arith, length_words (take n xs), length-take n xs)) (vec_of T n v)

-- a run's pointer with its count
g_laid_run : (size : ℕ) (m : M (Option Run)) (n off : ℕ) (buf : Bytes) → length buf ≡ size → off + 12 ≤ size → Gives (Long size) (Write.laid_run m n off buf)
unfolding Write.laid_run
g_laid_run size m n off buf l h = g_bind _ _ _ (λ o. g_opt _ o _ _ (g_ret _ buf l) (λ r. g_bind _ _ _ (λ p. g_ret _ _ (long_counted size buf off _ n l h))))

-- members: a buffer of the definition's size keeps its length

g_leaves : (d : StructDef) (e : Member) (kind detail : ℕ) (buf : Bytes) → length buf ≡ d.size → Gives (Long d.size) (Members.leaves d e kind detail buf)
unfolding Members.leaves
g_leaves d e kind detail buf l = g_bind _ _ _ (λ u. g_ret _ buf l)

g_pairs : (E : Env) (w : Writer) (d : StructDef) (e : Member) (n : ℕ) (ps : List (ℕ × ℕ)) (buf : Bytes) → length buf ≡ d.size → e.offset + 24 ≤ d.size
    → Gives (Long d.size) (Write.map_of E w d e n ps buf)
unfolding Write.map_of
g_pairs E w d e n ps buf l h =
    g_if _ _ _ _ (λ q. g_ret _ buf l) (g_opt _ _ _ _ (g_leaves d e 7 n buf l) (λ i. g_laid_run d.size _ _ _ buf l (omega (arith, h))))

module _ (d : StructDef) (e : Member) (buf : Bytes) (l : length buf ≡ d.size) where
  left_out : (kind detail : ℕ) → Gives (Long d.size) (Members.leaves d e kind detail buf)
  left_out kind detail = g_leaves d e kind detail buf l

  g_need : (n : ℕ) (m : M Bytes) → (e.offset + n ≤ d.size → Gives (Long d.size) m) → Gives (Long d.size) (Members.need d e n buf m)
  unfolding Members.need
  g_need n m h = g_if _ _ _ _ (λ q. h (leb-true (e.offset + n) d.size q)) (left_out 1 d.size)

  g_wrong : (v : Value) → Gives (Long d.size) (Members.wrong d e v buf)
  unfolding Members.wrong
  g_wrong v = g_opt _ v _ _ (g_ret _ buf l) (λ r. left_out 2 _)

  -- bytes put at the member's offset
  g_put : (bs : Bytes) → e.offset + length bs ≤ d.size → Gives (Long d.size) (ret (over buf e.offset bs))
  g_put bs h = g_ret _ _ (long_over d.size buf e.offset bs l h)

  module _ (E : Env) where
    g_scalar : (k : Scalar) (v : Value) → Gives (Long d.size) (Members.scalar_member E k d e v buf)
    unfolding Members.scalar_member
    g_scalar k v =
        g_need (size_of k) _ (λ h. g_fit _ (λ bs. length bs ≤ size_of k) _ _ _ (scalar_size E.sheet k (Members.row_of E v)) (g_wrong v) (λ bs q. g_put bs (omega (arith, h, q))))

    g_slot : (sub : ℕ) (t : Bytes) → e.offset + slot_size sub ≤ d.size → Gives (Long d.size) (Members.text_slot E sub t buf e.offset)
    unfolding Members.text_slot
    g_slot sub t h = g_if _ _ _ _ (λ q. g_ret _ buf l) (g_bind _ _ _ (λ p. g_ret _ _ (go _ _ (eqb sub 3) h)))
      where
        go : (p q : ℕ) (b : Bool) → e.offset + cond b 16 8 ≤ d.size → Long d.size (cond b (put_counted buf e.offset p (length t)) (put_pointer buf e.offset q))
        go p q true h = long_counted d.size buf e.offset p (length t) l (omega (arith, h))
        go p q false h = long_pointer d.size buf e.offset q l (omega (arith, h))

    g_text : (v : Value) → Gives (Long d.size) (Members.text_member E d e v buf)
    unfolding Members.text_member Members.fixed_member Members.pointer_member Members.hash_member
    g_text v =
        g_if _ _ _ _ (λ q. g_need _ _ (λ h. g_opt _ _ _ _ (g_wrong v) (λ t. g_put (take (high16 e.reference - 1) t) (omega (arith, h, length-take (high16 e.reference - 1) t)))))
        (g_if _ _ _ _ (λ q. g_need _ _ (λ h. g_opt _ _ _ _ (g_wrong v) (λ t. g_slot e.subtype t h)))
        (g_if _ _ _ _ (λ q. g_need _ _ (λ h. g_opt _ _ _ _ (g_wrong v) (λ x. g_put (bytes_of 4 x) (omega (arith, h, length_bytes 4 x))))) (left_out 3 _)))

    g_named : (f : Entries → Fit ℕ) (n : ℕ) (v : Value) → Gives (Long d.size) (Members.named_member E f n d e v buf)
    unfolding Members.named_member
    g_named f n v =
        g_need _ _ (λ h. g_fit _ (λ x. Unit {0}) _ _ _ (fitting_any (f (Members.entries_of E.defs n))) (g_wrong v)
        (λ x u. g_bind _ _ _ (λ w. g_put (bytes_of (enum_size e.subtype) x) (omega (arith, h, length_bytes (enum_size e.subtype) x)))))

    g_embedded : (m : M (Option Run)) → Gives (Long d.size) (bind m (λ o. opt_m o (ret buf) (λ r. Members.need d e (length r.bytes) buf (ret (over buf e.offset r.bytes)))))
    g_embedded m = g_bind _ _ _ (λ o. g_opt _ o _ _ (g_ret _ buf l) (λ r. g_need _ _ (λ h. g_put r.bytes h)))

    module _ (w : Writers) (hw : (i : StructDef) (fs : Fields) → Gives (Long i.size) (w.inline i fs)) where
      g_structure : (v : Value) → Gives (Long d.size) (Write.struct_member E w d e v buf)
      unfolding Write.struct_member Write.inline_member Write.pointed_member
      g_structure v =
          g_if _ _ _ _
          (λ q. g_if _ _ _ _
          (λ z. g_opt _ _ _ _ (left_out 4 _) (λ i. g_need i.size _ (λ h. g_then _ (Long i.size) _ _ (hw i _) (λ bs k. g_put bs (omega (arith, h, k))))))
          (g_need 8 _
          (λ h. g_if _ _ _ _ (λ k. g_bind _ _ _ (λ o. g_opt _ o _ _ (g_ret _ buf l) (λ p. g_ret _ _ (long_pointer d.size buf e.offset _ l (omega (arith, h)))))) (g_ret _ buf l))))
          (g_wrong v)

      g_array : (v : Value) → Gives (Long d.size) (Write.array_member E w.afresh d e v buf)
      unfolding Write.array_member Write.array_of Write.pointed_array Write.embedded_array
      g_array v =
          g_opt _ _ _ _ (left_out 5 0)
          (λ x. g_if _ _ _ _
          (λ q. g_if _ _ _ _ (λ p. g_need 16 _ (λ h. g_if _ _ _ _ (λ z. g_ret _ buf l) (g_laid_run d.size _ _ e.offset buf l (omega (arith, h))))) (g_embedded _))
          (g_wrong v))

      g_map : (v : Value) → Gives (Long d.size) (Write.map_member E w.afresh d e v buf)
      unfolding Write.map_member
      g_map v =
          g_if _ _ _ _
          (λ q. g_need 24 _
          (λ h. g_if _ _ _ _ (λ k. g_pairs E w.afresh d e _ _ _ (long_over d.size buf e.offset (words (0x01000000 ∷ [])) l (omega (arith, h, length_words (0x01000000 ∷ [])))) h) (g_wrong v)))
          (left_out 6 _)

      g_member : (k : Kinds.Kind) (v : Value) → Gives (Long d.size) (Write.member E w d e k v buf)
      unfolding Write.member Members.enum_member Members.flags_member
      g_member (Kinds.scalar s) v = g_scalar s v
      g_member Kinds.text v = g_text v
      g_member Kinds.structure v = g_structure v
      g_member Kinds.array v = g_array v
      g_member Kinds.enumeration v = g_named _ _ v
      g_member Kinds.flags v = g_named _ _ v
      g_member Kinds.map v = g_map v
      g_member Kinds.other v = left_out 13 _

-- structures

module _ (E : Env) where
  module _ (w : Writers) (hw : (i : StructDef) (fs : Fields) → Gives (Long i.size) (w.inline i fs)) where
    g_members : (d : StructDef) (fs : Fields) (es : List Member) (buf : Bytes) → length buf ≡ d.size → Gives (Long d.size) (members E w d fs es buf)
    unfolding members
    g_members d fs [] buf l = g_ret _ buf l
    g_members d fs (e ∷ es) buf l =
        g_then _ (Long d.size) _ _ (g_if _ _ _ _ (λ q. g_ret _ buf l) (g_member d e buf l E w hw (Kinds.kind_of e.type) (field_named e.name fs))) (λ b k. g_members d fs es b k)

    g_started : (d : StructDef) (fs : Fields) → Gives (Long d.size) (Write.started E w d fs)
    unfolding Write.started
    g_started d fs = g_bind _ _ _ (λ u. g_bind _ _ _ (λ v. g_members d fs d.members (zeros d.size) (length-replicate d.size 0)))

  g_write : (fuel left : ℕ) (d : StructDef) (fs : Fields) → Gives (Long d.size) (write E fuel left d fs)
  unfolding write Write.body
  g_write zero left d fs = g_fail _ 8
  g_write (suc fuel) left d fs = g_if _ _ _ _ (λ q. g_fail _ 8) (g_started _ (g_write fuel _) d fs)

  -- of what a step answered
  given : {A : Type 0} (P : A → Type 0) (m : M A) (s : State) (a : A) (t : State) → Gives P m → m s ≡ done a t → P a
  unfolding Gives
  given P m s a t h e = subst (Answers P) e (h s)

  pub sizes : Sizes E
  sizes =
      record {
        written = λ fuel left d fs s bs t e. given _ _ s bs t (g_write fuel left d fs) e;
        turns =
            λ fuel left d fs front e behind buf s x.
            given _ _ x.begun buf s (g_members (writers (write E fuel) left) (g_write fuel left) d fs front (zeros d.size) (length-replicate d.size 0)) x.written;
      }
