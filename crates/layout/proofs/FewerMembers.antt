-- .. in members that lead to no structure, and in runs of elements that are none.
-- Assumes nothing.
use Rattle.std.specs.Prelude.{Option, Some, None, is_some, unwrap_or, option_map, Ok, Err}
use Prim.Native.Nat.{ℕ, ◌+◌, ◌*◌}
use mathlib.Core.Path.{◌≡◌, refl, sym, ◌∙◌}
use mathlib.Core.Bool.{Bool, true, false}
use mathlib.Core.List.{List, [], ◌∷◌}
use lib.ListN.{length}
use Rattle.numbers.specs.Words.{Bytes, over, bytes_of}
use Rattle.value.specs.Rows.{Value}
use Rattle.coerce.specs.Numbers.{Fit}
use Rattle.coerce.specs.declared.misfit.Misfit.TheVariants.{Unfit, FloatText}
use Rattle.names.specs.Names.{Entries}
use Rattle.names.proofs.Mono.{Below}
use Rattle.schema.specs.Defs.{StructDef, EnumDef, Member, Lookup}
use Rattle.layout.specs.State.{Core, State, Env, Out, done, stop, M, after, bind, ret, if_m, opt_m, fit_m, remark, pay, contains, use_enum}
use Rattle.layout.specs.Kinds
use Rattle.layout.specs.Members.{says, leaves, need, wrong, scalar_member, add_string, text_slot, fixed_member, pointer_member, hash_member, text_member, enum_size, use_enum_of, named_member}
use Rattle.layout.specs.Runs.{Run, elements, run, stops, text_element, fixed_element, hash_element, enum_element, scalar_element, fixed_run, text_run, enum_run}
use Rattle.layout.specs.Write.{laid_run}
use Rattle.layout.proofs.Keep.{Keeps}
use Rattle.layout.proofs.Writers.{k_leaves}
use Rattle.layout.proofs.Follow.{back, Backs, Sim, Tells, s_ret, s_fail, s_bind, s_if_left, s_as, t_left, t_right}
use Rattle.layout.proofs.Fewer.{Both, alike_both, first_only, both, over_nil, Rel, Inside, Fewer, second, prims, b_elements, b_run, s_pay, s_pay_remark, t_use_enum, s_need, s_wrong, s_lost, more, held}

module _ (R : Fewer) where
  abbrev E : Env
  E = R.first

  abbrev E' : Env
  E' = second R

  abbrev L' : Lookup
  L' = R.defs

  abbrev U : Core
  U = R.used

  abbrev D : State → Type 0
  D = Inside U

  -- scalars and texts

  pub s_scalar_member : (s : Kinds.Scalar) (d : StructDef) (e : Member) (v : Value) (buf : Bytes) → Sim Rel D (scalar_member E s d e v buf) (scalar_member E' s d e v buf)
  unfolding scalar_member
  s_scalar_member s d e v buf = search more

  pub s_add_string : (t : Bytes) → Sim Rel D (add_string E t) (add_string E' t)
  unfolding add_string
  s_add_string t = search more

  pub s_text_slot : (sub : ℕ) (t buf : Bytes) (off : ℕ) → Sim Rel D (text_slot E sub t buf off) (text_slot E' sub t buf off)
  unfolding text_slot
  s_text_slot sub t buf off = search (more, s_add_string)

  pub s_fixed_member : (d : StructDef) (e : Member) (v : Value) (buf : Bytes) → Sim Rel D (fixed_member E d e v buf) (fixed_member E' d e v buf)
  unfolding fixed_member
  s_fixed_member d e v buf = search more

  pub s_pointer_member : (d : StructDef) (e : Member) (v : Value) (buf : Bytes) → Sim Rel D (pointer_member E d e v buf) (pointer_member E' d e v buf)
  unfolding pointer_member
  s_pointer_member d e v buf = search (more, s_text_slot)

  pub s_hash_member : (d : StructDef) (e : Member) (v : Value) (buf : Bytes) → Sim Rel D (hash_member E d e v buf) (hash_member E' d e v buf)
  unfolding hash_member
  s_hash_member d e v buf = search more

  pub s_text_member : (d : StructDef) (e : Member) (v : Value) (buf : Bytes) → Sim Rel D (text_member E d e v buf) (text_member E' d e v buf)
  unfolding text_member
  s_text_member d e v buf = search (more, s_fixed_member, s_pointer_member, s_hash_member)

  -- enums and flags: the follower has the same entries, or the first run fails, and the follower with no entries fails too

  pub s_coerced : (u : Fit ℕ) (b : Bool) (h : ℕ) (d : StructDef) (e : Member) (v : Value) (buf : Bytes) (k : ℕ → Bytes)
      → Sim Rel D (fit_m u (wrong d e v buf) λ x. bind (if_m b (use_enum h) (ret tt)) λ _. ret (k x)) (fit_m u (wrong d e v buf) λ x. bind (if_m b (use_enum h) (ret tt)) λ _. ret (k x))
  s_coerced u b h d e v buf k = search more

  pub s_uncoerced : (u u' : Fit ℕ) → Below u u' → (h : ℕ) → contains h U.enums ≡ false → (d : StructDef) (e : Member) (v : Value) (buf : Bytes) (k : ℕ → Bytes) (g : ℕ → M Bytes)
      → Sim Rel D (fit_m u (wrong d e v buf) λ x. bind (if_m true (use_enum h) (ret tt)) λ _. ret (k x)) (fit_m u' (wrong d e v buf) g)
  unfolding fit_m if_m
  s_uncoerced (Ok x) u' l h a d e v buf k g = s_lost R _ _ (λ s₀. search held) (t_left D ⊥ _ _ (t_use_enum R h a) (λ z s₀. search held))
  s_uncoerced (Err Unfit) (Ok y) l h a d e v buf k g = absurd l
  s_uncoerced (Err Unfit) (Err Unfit) l h a d e v buf k g = s_wrong R d e v buf
  s_uncoerced (Err Unfit) (Err FloatText) l h a d e v buf k g = absurd l
  s_uncoerced (Err FloatText) u' l h a d e v buf k g = s_fail Rel D Bytes 11 _

  pub s_named_member : (f : Entries → Fit ℕ) → ((es : Entries) → Below (f es) (f [])) → (h : ℕ) (d : StructDef) (e : Member) (v : Value) (buf : Bytes)
      → Sim Rel D (named_member E f h d e v buf) (named_member E' f h d e v buf)
  unfolding named_member use_enum_of
  s_named_member f below h d e v buf = s_need R d e _ buf _ _ (go (E.defs.enum h) (L'.enum h) (both U.enums E.defs.enum L'.enum R.enums_agree h))
    where
      k : ℕ → Bytes
      k x = over buf e.offset (bytes_of (enum_size e.subtype) x)

      part : Option EnumDef → M Bytes
      part o = fit_m (f (unwrap_or (option_map (λ x. x.entries) o) [])) (wrong d e v buf) λ x. bind (if_m (is_some o) (use_enum h) (ret tt)) λ _. ret (k x)

      go : (o p : Option EnumDef) → Both U.enums h o p → Sim Rel D (part o) (part p)
      go o p (alike_both q) = s_coerced (f (unwrap_or (option_map (λ x. x.entries) q) [])) (is_some q) h d e v buf k
      go o p (first_only q a) = s_uncoerced (f q.entries) (f []) (below q.entries) h a d e v buf k _

  pub b_enum_element : (s₀ : State) (n r : ℕ) → Keeps (back D s₀) (enum_element E n r)
  unfolding enum_element
  b_enum_element s₀ n r = search held

  -- runs

  pub s_cons : {X : Type 0} (f f' : X → M (Option Bytes)) (x : X) (xs : List X) → ((x : X) → Sim Rel D (f x) (f' x)) → Sim Rel D (elements f xs) (elements f' xs)
      → Sim Rel D (elements f (x ∷ xs)) (elements f' (x ∷ xs))
  unfolding elements
  s_cons f f' x xs hf h = search (more, hf)

  pub s_elements : {X : Type 0} (f f' : X → M (Option Bytes)) (xs : List X) → ((x : X) → Sim Rel D (f x) (f' x)) → Sim Rel D (elements f xs) (elements f' xs)
  unfolding elements
  s_elements f f' [] hf = search more
  s_elements f f' (x ∷ xs) hf = s_cons f f' x xs hf (s_elements f f' xs hf)

  pub s_run : {X : Type 0} (stride block : ℕ) (f f' : X → M (Option Bytes)) (xs : List X) → ((x : X) → Sim Rel D (f x) (f' x))
      → Sim Rel D (run E stride block f xs) (run E' stride block f' xs)
  unfolding run
  s_run stride block f f' xs hf = s_bind Rel D _ _ _ _ (s_pay R _) (λ z. s_bind Rel D _ _ _ _ (s_elements f f' xs hf) (λ o. s_ret Rel D _))

  pub t_run : {X : Type 0} (stride block : ℕ) (f : X → M (Option Bytes)) (x : X) (xs : List X) → ((x : X) → Backs D (f x)) → Tells D ⊥ (f x) → Tells D ⊥ (run E stride block f (x ∷ xs))
  unfolding run elements
  t_run stride block f x xs hb ht =
      t_right D ⊥ _ _ (λ z. t_left D ⊥ _ _ (t_left D ⊥ _ _ ht (λ o s₀. search (held, b_elements R s₀ f xs (λ y. hb y s₀)))) (λ o s₀. search held))

  pub s_stops : (d d' : StructDef) (e e' : Member) (kind kind' detail detail' : ℕ) → Sim Rel D (stops d e kind detail) (stops d' e' kind' detail')
  unfolding stops
  s_stops d d' e e' kind kind' detail detail' = search more

  pub s_laid_run : (m m' : M (Option Run)) (n off : ℕ) (buf : Bytes) → Sim Rel D m m' → Sim Rel D (laid_run m n off buf) (laid_run m' n off buf)
  unfolding laid_run
  s_laid_run m m' n off buf h = search more

  pub s_text_element : (sub r : ℕ) → Sim Rel D (text_element E sub r) (text_element E' sub r)
  unfolding text_element
  s_text_element sub r = search (more, s_text_slot)

  pub s_fixed_element : (len r : ℕ) → Sim Rel D (fixed_element E len r) (fixed_element E' len r)
  unfolding fixed_element
  s_fixed_element len r = search more

  pub s_hash_element : (r : ℕ) → Sim Rel D (hash_element E r) (hash_element E' r)
  unfolding hash_element
  s_hash_element r = search more

  pub s_scalar_element : (s : Kinds.Scalar) (r : ℕ) → Sim Rel D (scalar_element E s r) (scalar_element E' s r)
  unfolding scalar_element
  s_scalar_element s r = search more

  pub s_fixed_run : (d : StructDef) (e : Member) (len : ℕ) (rs : List ℕ) → Sim Rel D (fixed_run E d e len rs) (fixed_run E' d e len rs)
  unfolding fixed_run
  s_fixed_run d e len rs = search (more, s_stops, s_run, s_fixed_element)

  pub s_text_run : (d : StructDef) (e x : Member) (rs : List ℕ) → Sim Rel D (text_run E d e x rs) (text_run E' d e x rs)
  unfolding text_run
  s_text_run d e x rs = search (more, s_stops, s_run, s_fixed_run, s_text_element, s_hash_element)

  pub s_enum_element : (h r : ℕ) → L'.enum h ≡ E.defs.enum h → Sim Rel D (enum_element E h r) (enum_element E' h r)
  unfolding enum_element
  s_enum_element h r q = rw q (search more)

  -- a run of enum elements uses its enum before the first
  pub s_enum_run : (h : ℕ) (rs : List ℕ) → Sim Rel D (enum_run E h rs) (enum_run E' h rs)
  unfolding enum_run use_enum_of if_m
  s_enum_run h rs = go (E.defs.enum h) (L'.enum h) (both U.enums E.defs.enum L'.enum R.enums_agree h) refl refl
    where
      go : (o p : Option EnumDef) → Both U.enums h o p → E.defs.enum h ≡ o → L'.enum h ≡ p
          → Sim Rel D (bind (if_m (is_some o) (use_enum h) (ret tt)) λ _. run E 4 5 (enum_element E h) rs) (bind (if_m (is_some p) (use_enum h) (ret tt)) λ _. run E' 4 5 (enum_element E' h) rs)
      go o p (alike_both q) u u' = s_bind Rel D _ _ _ _ (search more) (λ z. s_run 4 5 _ _ rs (λ r. s_enum_element h r (u' ∙ sym u)))
      go o p (first_only q a) u u' =
          s_lost R _ _ (λ s₀. search (held, b_run R s₀ 4 5 (enum_element E h) rs (b_enum_element s₀ h)))
          (t_left D ⊥ _ _ (t_use_enum R h a) (λ z s₀. b_run R s₀ 4 5 (enum_element E h) rs (b_enum_element s₀ h)))

  -- an empty run gives no bytes, and neither does one without a definition: the first run pays, the follower remarks

  run_empty : {X B : Type 0} (stride block : ℕ) (f : X → M (Option Bytes)) (k : Option Run → M B) (s : State)
      → bind (pay E (16 + stride * length {A = X} [])) (λ _. k (Some (record { bytes = []; block = block }))) s ≡ bind (run E stride block f []) k s
  unfolding bind run elements ret after
  run_empty {X = X} {B = B} stride block f k s = go (pay E (16 + stride * length {A = X} []) s)
    where
      go : (o : Out (Unit {0})) → after o (λ _. k (Some (record { bytes = []; block = block }))) ≡ after (after o (λ _ t. done (Some (record { bytes = []; block = block })) t)) k
      go (done a t) = refl
      go (stop n es) = refl

  stops_none : {B : Type 0} (d : StructDef) (e : Member) (kind detail : ℕ) (k : Option Run → M B) (s : State)
      → bind (says d e kind detail) (λ _. k None) s ≡ bind (stops d e kind detail) k s
  unfolding bind stops ret says remark after
  stops_none d e kind detail k s = refl

  -- the first run may remark that it does not fit; the follower does nothing
  pub s_leaves_ret : (d : StructDef) (e : Member) (kind detail : ℕ) (buf : Bytes) → Sim Rel D (leaves d e kind detail buf) (ret buf)
  unfolding leaves says bind after remark ret
  s_leaves_ret d e kind detail buf =
      record { backs = λ s₀. k_leaves E (back D s₀) (prims R s₀) d e kind detail buf; follows = λ s t h u. (refl, record { same = h.same; less = h.less }) }

  pub s_nothing : (d : StructDef) (e : Member) (off : ℕ) (buf : Bytes) → Sim Rel D (need d e (length {A = ℕ} []) buf (ret (over buf off []))) (ret buf)
  unfolding need
  s_nothing d e off buf = rw over_nil (s_if_left Rel D _ _ _ _ (s_ret Rel D buf) (s_leaves_ret d e 1 d.size buf))

  pub s_pay_says : (n : ℕ) (d : StructDef) (e : Member) (kind detail : ℕ) → Sim Rel D (pay E n) (says d e kind detail)
  unfolding says
  s_pay_says n d e kind detail = s_pay_remark R n _

  -- what an embedded run's bytes do
  abbrev pub embed : StructDef → Member → Bytes → Option Run → M Bytes
  embed d e buf o = opt_m o (ret buf) λ r. need d e (length r.bytes) buf (ret (over buf e.offset r.bytes))

  pub s_embed : (d : StructDef) (e : Member) (buf : Bytes) (o : Option Run) → Sim Rel D (embed d e buf o) (embed d e buf o)
  s_embed d e buf o = search more

  pub s_empty : {X : Type 0} (stride block : ℕ) (f : X → M (Option Bytes)) (d : StructDef) (e : Member) (kind detail : ℕ) (buf : Bytes)
      → Sim Rel D (bind (run E stride block f []) (embed d e buf)) (bind (stops d e kind detail) (embed d e buf))
  unfolding opt_m
  s_empty stride block f d e kind detail buf =
      s_as Rel D _ _ _ _ (run_empty stride block f (embed d e buf)) (stops_none d e kind detail (embed d e buf))
      (s_bind Rel D _ _ _ _ (s_pay_says _ d e kind detail) (λ z. s_nothing d e e.offset buf))
