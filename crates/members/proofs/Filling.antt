-- Members as they are written: remarks and cells. No line here names a place of the code. Assumes nothing.
use Rattle.std.specs.Prelude.{Option, Some, None, is_some, Ok, Err}
use mathlib.Core.Path.{◌≡◌, refl, sym, ap, subst, ◌∙◌}
use mathlib.Core.Bool.{Bool, true, false}
use mathlib.Core.List.{◌++◌}
use Prim.Native.Nat.{ℕ, ◌+◌, ◌-◌, ◌≤◌}
use native.Mathlib.Omega.{arith}
use lib.Dec.{leb}
use lib.ListN.{length, take, drop}
use borrow.Rule.Slice.PartMut.{put_mid, mid_len, same_len_mid, put_same}
use Rattle.numbers.specs.Words.{Bytes, over}
use Rattle.numbers.specs.Result.{ok}
use Rattle.value.specs.Rows.{Value, Row, value_row}
use Rattle.coerce.specs.Numbers.{Fit}
use Rattle.coerce.specs.declared.misfit.Misfit.TheVariants.{Unfit, FloatText}
use Rattle.schema.specs.Defs
use Rattle.schema.specs.Defs.{Schema, StructDef, winning}
use Rattle.schema.specs.Psch.{schema_of}
use Rattle.definitions.specs.declared.members.Member as coded
use Rattle.layout.specs.State.{Remark, State, M, done, after, bind, ret, fail, if_m, opt_m, fit_m, remark, settle, on_core, log_enum, use_enum_c, use_enum, with_remark}
use Rattle.layout.specs.Kinds as Kinds
use Rattle.layout.specs.Members.{says, leaves, need, wrong}
use Rattle.area.specs.declared.Round.{Round}
use Rattle.area.specs.declared.Progress.{Progress}
use Rattle.area.specs.Area.{Rep, used_in, env_of}
use Rattle.area.specs.Posts.{Safe, Open, Notes, Marks, Ans, gives, refuses}
use Rattle.area.proofs.Lending.{buffer, lent}
use Rattle.cells.specs.declared.defs.Def.{Def}
use Rattle.cells.specs.Names.{def_of, member_of}
use Rattle.cells.specs.Cells.{Puts}
use Rattle.cells.specs.declared.plan.Plan.{Plan}
use Rattle.cells.specs.Plans.{cell_member, plain_member, planned, Known, Knows, PlansKind}
use Rattle.members.specs.Posts.{remark_on, Buffer, Went, Fills, Marked, any_schema}

-- a definition's name and size
pub def_name : (F : Bytes) (d : Def) → (def_of F d).name ≡ d.name
unfolding def_of
def_name F d = refl

pub def_size : (F : Bytes) (d : Def) → (def_of F d).size ≡ d.size
unfolding def_of
def_size F d = refl

-- a remark leaves the bytes as they were
pub leaves_is : (F : Bytes) (d : Def) (m : coded.Member) (kind detail : ℕ) (buf : Bytes) (s : State)
    → leaves (def_of F d) (member_of m) kind detail buf s ≡ done buf (with_remark (remark_on d m kind detail) s)
unfolding leaves says remark bind after ret def_of
leaves_is F d m kind detail buf s = refl

-- a member that does not fit, and one that does
pub need_no : (d : StructDef) (e : Defs.Member) (k : ℕ) (buf : Bytes) (a : M Bytes) → leb (e.offset + k) d.size ≡ false → need d e k buf a ≡ leaves d e 1 d.size buf
unfolding need if_m
need_no d e k buf a t = rw t refl

pub need_yes : (d : StructDef) (e : Defs.Member) (k : ℕ) (buf : Bytes) (a : M Bytes) → leb (e.offset + k) d.size ≡ true → need d e k buf a ≡ a
unfolding need if_m
need_yes d e k buf a t = rw t refl

module _ (R : Round) (n : ℕ) (p : Progress) (w : Bytes) where
  -- the numbers where nothing was done
  pub went_same : Safe R n p → (notes : ℕ) → Went R n p notes (gives (tt {0}) p)
  went_same h notes = (h, record { more = omega arith; paid = omega arith; top = omega arith; met = omega arith })

  -- .. after a remark
  pub went_noted : (r : Remark) (q : Progress) (w' : Bytes) → Safe R n p → Open p → Notes R n p w r q w' → Went R n p 1 (gives (tt {0}) q)
  went_noted r q w' h o t = (
    record {
      small = h.small;
      room = h.room;
      from = omega (arith, h.from, t.end);
      items = omega (arith, h.items, t.end, t.charge);
      low = omega (arith, h.low, t.top);
      stack = omega (arith, h.stack, t.top, t.charge);
      within = omega (arith, h.within, t.charge);
      blocks = omega (arith, h.blocks, t.blocks);
      rows = t.rows;
      structs = omega (arith, h.structs, t.structs);
      enums = omega (arith, h.enums, t.enums);
      next = t.next;
      seen = omega (arith, o, t.seen, t.charge);
    },
    record { more = omega (arith, t.end); paid = omega (arith, t.end, t.charge); top = omega (arith, t.top); met = omega (arith, t.seen, t.charge) },
  )

  -- .. after an enum was used
  pub went_marked : (known : Schema → Bool) (to : State → State) (x : Bytes) (q : Progress) (w' : Bytes) (notes : ℕ) → Safe R n p → Marks R n p x known to q w' → Went R n p notes (gives (tt {0}) q)
  went_marked known to x q w' notes h t = (
    record {
      small = h.small;
      room = h.room;
      from = omega (arith, h.from, t.end);
      items = omega (arith, h.items, t.end, t.charge);
      low = omega (arith, h.low, t.top);
      stack = omega (arith, h.stack, t.top, t.charge);
      within = omega (arith, h.within, t.charge);
      blocks = omega (arith, h.blocks, t.blocks);
      rows = omega (arith, h.rows, t.rows);
      structs = t.structs;
      enums = t.enums;
      next = omega (arith, h.next, t.next, t.seen);
      seen = omega (arith, h.seen, t.seen, t.charge);
    },
    record { more = omega (arith, t.end); paid = omega (arith, t.end, t.charge); top = omega (arith, t.top); met = omega (arith, t.seen, t.charge) },
  )

  -- another writer that does the same, where less is known of the schema
  pub fills_as : (known less : Schema → Type 0) (size : ℕ) (f g : Schema → Bytes → M Bytes) (r : Ans (Unit {0})) (w' : Bytes)
      → ((S : Schema) → known S → less S × ((buf : Bytes) (s : State) → f S buf s ≡ g S buf s)) → Fills less R n p w size g r w' → Fills known R n p w size f r w'
  fills_as known less size f g r w' e a =
      record { grew = a.grew; says = λ S k s σ buf l q. rw ((e S k).1 buf s) (a.says S (e S k).0 s σ buf l q) }

  -- nothing is done
  pub stays : (known : Schema → Type 0) (size : ℕ) → Safe R n p → Fills known R n p w size (λ S buf. ret buf) (gives (tt {0}) p) w
  unfolding ret
  stays known size h = record { grew = went_same h 1; says = λ S k s σ buf l q. (q, l) }

  -- a remark
  pub said : (known : Schema → Type 0) (size : ℕ) (F : Bytes) (d : Def) (m : coded.Member) (kind detail : ℕ) (q : Progress) (w' : Bytes) → Safe R n p → Open p
      → Notes R n p w (remark_on d m kind detail) q w' → Fills known R n p w size (λ S buf. leaves (def_of F d) (member_of m) kind detail buf) (gives (tt {0}) q) w'
  said known size F d m kind detail q w' h o t =
      record {
        grew = went_noted (remark_on d m kind detail) q w' h o t;
        says = λ S k s σ buf l a. rw (leaves_is F d m kind detail buf s) (t.says S s (σ ++ buf) a, l);
      }

  -- the member does not fit
  pub too_long : (known : Schema → Type 0) (F : Bytes) (d : Def) (m : coded.Member) (k : ℕ) (f : Schema → Bytes → M Bytes) (q : Progress) (w' : Bytes) → Safe R n p → Open p
      → leb (m.offset + k) d.size ≡ false → Notes R n p w (remark_on d m 1 d.size) q w'
      → Fills known R n p w d.size (λ S buf. need (def_of F d) (member_of m) k buf (f S buf)) (gives (tt {0}) q) w'
  too_long known F d m k f q w' h o e t =
      fills_as known known d.size (λ S buf. need (def_of F d) (member_of m) k buf (f S buf)) (λ S buf. leaves (def_of F d) (member_of m) 1 d.size buf) (gives (tt {0}) q) w'
      (λ S u. (u, λ buf s. ap (λ (a : M Bytes). a s) (need_no (def_of F d) (member_of m) k buf (f S buf) (rw (def_size F d) e) ∙ ap (λ (x : ℕ). leaves (def_of F d) (member_of m) 1 x buf) (def_size F d))))
      (said known d.size F d m 1 d.size q w' h o t)

  -- a wrong value: a missing member gives no remark
  pub wrong_missing : (known : Schema → Type 0) (size : ℕ) (d : StructDef) (e : Defs.Member) (v : Value) → is_some v ≡ false → Safe R n p → Fills known R n p w size (λ S buf. wrong d e v buf) (gives (tt {0}) p) w
  unfolding wrong opt_m
  wrong_missing known size d e None i h = stays known size h
  wrong_missing known size d e (Some r) i h = cc

  pub wrong_value : (known : Schema → Type 0) (size : ℕ) (F : Bytes) (d : Def) (m : coded.Member) (v : Value) (q : Progress) (w' : Bytes) → is_some v ≡ true → Safe R n p → Open p
      → Notes R n p w (remark_on d m 2 (Kinds.type_number m.kind)) q w' → Fills known R n p w size (λ S buf. wrong (def_of F d) (member_of m) v buf) (gives (tt {0}) q) w'
  unfolding wrong opt_m
  wrong_value known size F d m (Some r) q w' i h o t = said known size F d m 2 (Kinds.type_number m.kind) q w' h o t
  wrong_value known size F d m None q w' i h o t = cc

  -- bytes were stored in the buffer, which was lent for it; then the enum was used, where it is known
  stored_bytes : (name : Option ℕ) (size : ℕ) (bs : Bytes) (off at len : ℕ) (c : Bytes) (q : Progress) (w' : Bytes) → Safe R n p → at + len ≡ p.top → len ≡ size
      → c ≡ over (take len (drop at w)) off bs → length c ≡ len → Marked R n p (put_mid at len w c) name q w'
      → Fills (Known name) R n p w size (λ S buf. bind (opt_m name (ret tt) use_enum) λ _. ret (over buf off bs)) (gives (tt {0}) q) w'
  unfolding bind after ret opt_m use_enum log_enum on_core settle use_enum_c
  stored_bytes name size bs off at len c q w' h e f g l m = go name m
    where
      inside : p.top ≤ n
      inside = omega (arith, h)

      same : (S : Schema) (s : State) (σ buf : Bytes) → length buf ≡ size → Rep S R n s (σ ++ buf) p w → length (over buf off bs) ≡ len
      same S s σ buf i r = ap (λ (x : Bytes). length (over x off bs)) (sym (buffer S R n σ buf at len r inside e (i ∙ sym f))) ∙ ap length (sym g) ∙ l

      put : (S : Schema) (s : State) (σ buf : Bytes) → length buf ≡ size → Rep S R n s (σ ++ buf) p w → Rep S R n s (σ ++ over buf off bs) p (put_mid at len w c)
      put S s σ buf i r = rw g (lent S R n σ buf at len (λ b. over b off bs) r inside e (i ∙ sym f) (same S s σ buf i r))

      go : (o : Option ℕ) → Marked R n p (put_mid at len w c) o q w'
          → Fills (Known o) R n p w size (λ S buf. bind (opt_m o (ret tt) use_enum) λ _. ret (over buf off bs)) (gives (tt {0}) q) w'
      go (Some x) t =
          record {
            grew = went_marked (λ S. is_some ((winning S).enum x)) (used_in x) (put_mid at len w c) q w' 1 h t.marks;
            says = λ S k s σ buf i r. (t.marks.says S s (σ ++ over buf off bs) (k x refl) (put S s σ buf i r), same S s σ buf i r ∙ f);
          }
      go None t =
          record {
            grew = rw t.0 (went_same h 1);
            says = λ S k s σ buf i r. rw (t.0, t.1) (put S s σ buf i r, same S s σ buf i r ∙ f);
          }

  -- a member that is a cell of k bytes
  module _ (T F : Bytes) (d : Def) (m : coded.Member) (v : Value) (k : ℕ) (cell : Row → Fit Bytes) (name : Option ℕ) where
    abbrev cells : Schema → Bytes → M Bytes
    cells S buf = cell_member (env_of T S R) k cell name (def_of F d) (member_of m) v buf

    abbrev found : Schema → Type 0
    found S = Known name S

    -- it does not fit the structure
    pub cell_long : (q : Progress) (w' : Bytes) → Safe R n p → Open p → leb (m.offset + k) d.size ≡ false → Notes R n p w (remark_on d m 1 d.size) q w' → Fills found R n p w d.size cells (gives (tt {0}) q) w'
    unfolding cell_member
    cell_long q w' h o e t =
        too_long found F d m k (λ S buf. fit_m (cell (value_row T v)) (wrong (def_of F d) (member_of m) v buf) λ bs. bind (opt_m name (ret tt) use_enum) λ _. ret (over buf m.offset bs)) q w' h o e t

    -- it fits; the structure's bytes are lent
    module _ (row : Row) (is : row ≡ value_row T v) (yes : leb (m.offset + k) d.size ≡ true) (c : Bytes) where
      cell_is : (x : Fit Bytes) → cell row ≡ x → (S : Schema) (buf : Bytes) (s : State)
          → cells S buf s ≡ fit_m x (wrong (def_of F d) (member_of m) v buf) (λ bs. bind (opt_m name (ret tt) use_enum) λ _. ret (over buf m.offset bs)) s
      unfolding cell_member
      cell_is x e S buf s =
          ap (λ (a : M Bytes). a s)
          (need_yes (def_of F d) (member_of m) k buf (fit_m (cell (value_row T v)) (wrong (def_of F d) (member_of m) v buf) λ bs. bind (opt_m name (ret tt) use_enum) λ _. ret (over buf m.offset bs))
          (rw (def_size F d) yes)
          ∙ ap (λ (y : Fit Bytes). fit_m y (wrong (def_of F d) (member_of m) v buf) λ bs. bind (opt_m name (ret tt) use_enum) λ _. ret (over buf m.offset bs)) (ap cell (sym is) ∙ e))

      abbrev low : ℕ
      low = p.top - d.size

      abbrev wide : ℕ
      wide = p.top - (p.top - d.size)

      abbrev part : Bytes
      part = take wide (drop low w)

      -- it was stored
      pub cell_stored : (q : Progress) (w' : Bytes) → Safe R n p → Buffer R p d.size → n ≡ length w → Puts (cell row) part m.offset (Ok tt) c → length c ≡ length part
          → Marked R (length (put_mid low wide w c)) p (put_mid low wide w c) name q w' → Fills found R n p w d.size cells (gives (tt {0}) q) w'
      unfolding fit_m
      cell_stored q w' h b i u l t = go (cell row) refl u
        where
          long : length c ≡ wide
          long = l ∙ mid_len low p.top w (omega (arith, h))

          go : (x : Fit Bytes) → cell row ≡ x → Puts x part m.offset (Ok tt) c → Fills found R n p w d.size cells (gives (tt {0}) q) w'
          go (Ok bs) g y =
              fills_as found found d.size cells (λ S buf. bind (opt_m name (ret tt) use_enum) λ _. ret (over buf m.offset bs)) (gives (tt {0}) q) w'
              (λ S z. (z, λ buf s. cell_is (Ok bs) g S buf s))
              (stored_bytes name d.size bs m.offset low wide c q w' h (omega (arith, b)) (omega (arith, b)) y long
              (subst (λ (o : ℕ). Marked R o p (put_mid low wide w c) name q w') (same_len_mid low wide w c l ∙ sym i) t))
          go (Err e) g y = absurd y

      -- it did not coerce
      pub cell_wrong : (r : Ans (Unit {0})) (w' : Bytes) → n ≡ length w → Puts (cell row) part m.offset (Err Unfit) c
          → Fills any_schema R (length (put_mid low wide w c)) p (put_mid low wide w c) d.size (λ S buf. wrong (def_of F d) (member_of m) v buf) r w' → Fills found R n p w d.size cells r w'
      unfolding fit_m
      cell_wrong r w' i u a = go (cell row) refl u
        where
          go : (x : Fit Bytes) → cell row ≡ x → Puts x part m.offset (Err Unfit) c → Fills found R n p w d.size cells r w'
          go (Err Unfit) g y =
              fills_as found any_schema d.size cells (λ S buf. wrong (def_of F d) (member_of m) v buf) r w' (λ S z. (tt, λ buf s. cell_is (Err Unfit) g S buf s))
              (subst (λ (o : ℕ). Fills any_schema R o p w d.size (λ S buf. wrong (def_of F d) (member_of m) v buf) r w') (sym i)
              (subst (λ (o : Bytes). Fills any_schema R (length o) p o d.size (λ S buf. wrong (def_of F d) (member_of m) v buf) r w') (ap (put_mid low wide w) y.1 ∙ put_same low wide w) a))
          go (Ok bs) g y = absurd y
          go (Err FloatText) g y = cc

      -- refusal 11
      pub cell_refused : Safe R n p → Puts (cell row) part m.offset (Err FloatText) c → Fills found R n p w d.size cells (refuses 11 p) (put_mid low wide w c)
      unfolding fit_m fail
      cell_refused h u = go (cell row) refl u
        where
          go : (x : Fit Bytes) → cell row ≡ x → Puts x part m.offset (Err FloatText) c → Fills found R n p w d.size cells (refuses 11 p) (put_mid low wide w c)
          go (Err FloatText) g y =
              record {
                grew = h;
                says = λ S z s σ buf l q.
                    rw (cell_is (Err FloatText) g S buf s, ap (put_mid low wide w) y.1 ∙ put_same low wide w) (refl, record { state = s; stack = σ ++ buf; rep = q; met = refl });
              }
          go (Ok bs) g y = absurd y
          go (Err Unfit) g y = cc

-- the member is written as planned
pub as_planned : (F : Bytes) (d : Def) (m : coded.Member) (R : Round) (n : ℕ) (p : Progress) (w T : Bytes) (v : Value) (k : Kinds.Kind) (pl x : Plan) → PlansKind F d m k pl → pl ≡ x → (r : Ans (Unit {0})) (w' : Bytes)
    → Fills (λ S. Knows S x) R n p w d.size (λ S buf. planned T (env_of T S R) x (def_of F d) (member_of m) v buf) r w'
    → Fills (λ S. schema_of F ≡ ok S) R n p w d.size (λ S buf. plain_member (env_of T S R) (def_of F d) (member_of m) k v buf) r w'
as_planned F d m R n p w T v k pl x a q r w' b =
    let g : PlansKind F d m k x = subst (PlansKind F d m k) q a in
    fills_as R n p w (λ S. schema_of F ≡ ok S) (λ S. Knows S x) d.size (λ S buf. plain_member (env_of T S R) (def_of F d) (member_of m) k v buf)
    (λ S buf. planned T (env_of T S R) x (def_of F d) (member_of m) v buf) r w' (λ S y. (g.knows S y, λ buf s. g.is T R S y v buf s)) b
