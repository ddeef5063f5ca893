-- Members by their kind, as cells. No line here names a place of the code. Assumes nothing.
use Rattle.std.specs.Prelude.{Option, Some, None, is_some, option_map, Ok, Err}
use mathlib.Core.Path.{◌≡◌, refl, sym, ap, ◌∙◌}
use mathlib.Core.Bool.{Bool, true, false, cond}
use Prim.Native.Nat.{ℕ, zero, suc, min, ◌+◌, ◌-◌, ◌≤◌, ◌<◌}
use native.Mathlib.Omega.{arith}
use borrow.Author.Tests.{leb-true, leb-false}
use lib.Dec.{leb}
use lib.ListN.{length, take, drop_of_length-le}
use Rattle.numbers.specs.Words.{Bytes, bytes_of, over, number, read_at}
use Rattle.value.specs.Rows.{Value, Row, value_row}
use Rattle.coerce.specs.Numbers.{Fit, map_fit, fit_or, str_of}
use Rattle.coerce.specs.declared.misfit.Misfit.TheVariants.{Unfit, FloatText}
use Rattle.names.specs.Names
use Rattle.names.specs.Names.{hash_of, enum_value, flags_bits}
use Rattle.names.specs.Entries.{all_of}
use Rattle.names.specs.declared.entries.Entries.{Entries}
use Rattle.cells.specs.declared.Cell.{Cell}
use Rattle.schema.specs.Defs
use Rattle.schema.specs.Defs.{Schema, StructDef, winning}
use Rattle.schema.specs.Psch.{entries_at}
use Rattle.schema.specs.Index.{last_place}
use Rattle.definitions.proofs.Inside.{last_inside}
use Rattle.layout.specs.State.{State, M, after, bind, ret, if_m, opt_m, fit_m, use_enum}
use Rattle.layout.specs.Kinds as Kinds
use Rattle.layout.specs.Members.{leaves, need, wrong, enum_size, entries_of, scalar_member, fixed_member, hash_member, use_enum_of, named_member, high16}
use Rattle.area.specs.declared.Round.{Round}
use Rattle.area.specs.Area.{env_of}
use Rattle.cells.specs.declared.Cell.TheVariants as C
use Rattle.cells.specs.Cells.{cell_bytes, cell_size, Sane, scalar_cell}
use Rattle.cells.specs.Plans as plans
use Rattle.cells.specs.Names.{entries_from}
use Rattle.cells.specs.Plans.{cell_member}

-- two actions that do the same where the member fits
need_same : (d : StructDef) (e : Defs.Member) (k : ℕ) (buf : Bytes) (a b : M Bytes) (s : State) → a s ≡ b s → need d e k buf a s ≡ need d e k buf b s
unfolding need if_m
need_same d e k buf a b s h = go (leb (e.offset + k) d.size)
  where
    go : (t : Bool) → if_m t a (leaves d e 1 d.size buf) s ≡ if_m t b (leaves d e 1 d.size buf) s
    go true = h
    go false = refl

-- what is stored where it coerces, and no enum is used
abbrev stores : Bytes → ℕ → Bytes → M Bytes
stores buf off bs = bind (opt_m None (ret tt) use_enum) λ _. ret (over buf off bs)

opt_fit : {X : Type 0} (g : X → Bytes) (o : Option X) (a : M Bytes) (buf : Bytes) (off : ℕ) (s : State)
    → opt_m o a (λ x. ret (over buf off (g x))) s ≡ fit_m (fit_or (option_map g o) (Err Unfit)) a (stores buf off) s
unfolding opt_m fit_m bind after ret
opt_fit g None a buf off s = refl
opt_fit g (Some x) a buf off s = refl

fit_fit : (x : Fit Bytes) (a : M Bytes) (buf : Bytes) (off : ℕ) (s : State) → fit_m x a (λ bs. ret (over buf off bs)) s ≡ fit_m x a (stores buf off) s
unfolding fit_m bind after opt_m ret
fit_fit (Ok bs) a buf off s = refl
fit_fit (Err Unfit) a buf off s = refl
fit_fit (Err FloatText) a buf off s = refl

map_fit_law : (k : ℕ) (x : Fit ℕ) (a : M Bytes) (u : M (Unit {0})) (buf : Bytes) (off : ℕ) (s : State)
    → fit_m x a (λ y. bind u λ _. ret (over buf off (bytes_of k y))) s ≡ fit_m (map_fit (bytes_of k) x) a (λ bs. bind u λ _. ret (over buf off bs)) s
unfolding fit_m
map_fit_law k (Ok y) a u buf off s = refl
map_fit_law k (Err Unfit) a u buf off s = refl
map_fit_law k (Err FloatText) a u buf off s = refl

scalar_bytes_law : (T : Bytes) (x : Kinds.Scalar) (r : Row) → Kinds.scalar_bytes T x r ≡ cell_bytes T (scalar_cell x) r
unfolding Kinds.scalar_bytes cell_bytes
scalar_bytes_law T (Kinds.integer k) r = refl
scalar_bytes_law T Kinds.single r = refl
scalar_bytes_law T (Kinds.vector n) r = refl

-- an enum's value or flags by entries
abbrev named_value : Bytes → Bool → Row → Names.Entries → Fit ℕ
named_value T flags r es = cond flags (flags_bits 64 T es r) (enum_value T es r)

abbrev pub named_cell : Bool → Entries → ℕ → Cell
named_cell flags e k = cond flags (C.Flags e k) (C.Enum e k)

named_bytes : (T : Bytes) (flags : Bool) (e : Entries) (k : ℕ) (r : Row) → map_fit (bytes_of k) (named_value T flags r (all_of e)) ≡ cell_bytes T (named_cell flags e k) r
unfolding cell_bytes
named_bytes T true e k r = refl
named_bytes T false e k r = refl

-- an enum is used where it is known
use_known : (h : ℕ) (name : Option ℕ) (b : Bool) → b ≡ is_some name → ((k : ℕ) → name ≡ Some k → k ≡ h) → if_m b (use_enum h) (ret tt) ≡ opt_m name (ret tt) use_enum
unfolding if_m opt_m
use_known h None b e f = rw e refl
use_known h (Some k) b e f = rw (e, f k refl) refl

module _ (T : Bytes) (S : Schema) (R : Round) (d : StructDef) (e : Defs.Member) (v : Value) (buf : Bytes) (s : State) where
  pub scalar_cell_law : (x : Kinds.Scalar) → scalar_member (env_of T S R) x d e v buf s ≡ cell_member (env_of T S R) (Kinds.size_of x) (cell_bytes T (scalar_cell x)) None d e v buf s
  unfolding scalar_member cell_member
  scalar_cell_law x =
      need_same d e (Kinds.size_of x) buf (fit_m (Kinds.scalar_bytes T x (value_row T v)) (wrong d e v buf) λ bs. ret (over buf e.offset bs))
      (fit_m (cell_bytes T (scalar_cell x) (value_row T v)) (wrong d e v buf) (stores buf e.offset)) s
      (fit_fit (Kinds.scalar_bytes T x (value_row T v)) (wrong d e v buf) buf e.offset s
      ∙ ap (λ (y : Fit Bytes). fit_m y (wrong d e v buf) (stores buf e.offset) s) (scalar_bytes_law T x (value_row T v)))

  pub fixed_cell : fixed_member (env_of T S R) d e v buf s ≡ cell_member (env_of T S R) (high16 e.reference) (cell_bytes T (C.Fixed (high16 e.reference))) None d e v buf s
  unfolding fixed_member cell_member cell_bytes
  fixed_cell =
      need_same d e (high16 e.reference) buf (opt_m (str_of T (value_row T v)) (wrong d e v buf) λ t. ret (over buf e.offset (take (high16 e.reference - 1) t)))
      (fit_m (cell_bytes T (C.Fixed (high16 e.reference)) (value_row T v)) (wrong d e v buf) (stores buf e.offset)) s
      (opt_fit (take (high16 e.reference - 1)) (str_of T (value_row T v)) (wrong d e v buf) buf e.offset s)

  pub hash_cell : hash_member (env_of T S R) d e v buf s ≡ cell_member (env_of T S R) 4 (cell_bytes T C.Hash) None d e v buf s
  unfolding hash_member cell_member cell_bytes
  hash_cell =
      need_same d e 4 buf (opt_m (hash_of T (value_row T v)) (wrong d e v buf) λ h. ret (over buf e.offset (bytes_of 4 h)))
      (fit_m (cell_bytes T C.Hash (value_row T v)) (wrong d e v buf) (stores buf e.offset)) s
      (opt_fit (bytes_of 4) (hash_of T (value_row T v)) (wrong d e v buf) buf e.offset s)

  -- flags or an enum by entries
  pub named_cell_law : (flags : Bool) (h : ℕ) (en : Entries) (name : Option ℕ) → is_some ((winning S).enum h) ≡ is_some name → ((k : ℕ) → name ≡ Some k → k ≡ h) → entries_of (winning S) h ≡ all_of en
      → plans.named_member flags (env_of T S R) h d e v buf s
      ≡ cell_member (env_of T S R) (enum_size e.subtype) (cell_bytes T (named_cell flags en (enum_size e.subtype))) name d e v buf s
  unfolding named_member cell_member use_enum_of
  named_cell_law flags h en name k f l =
      need_same d e (enum_size e.subtype) buf
      (fit_m (named_value T flags (value_row T v) (entries_of (winning S) h)) (wrong d e v buf) λ x. bind (if_m (is_some ((winning S).enum h)) (use_enum h) (ret tt)) λ _. ret (over buf e.offset (bytes_of (enum_size e.subtype) x)))
      (fit_m (cell_bytes T (named_cell flags en (enum_size e.subtype)) (value_row T v)) (wrong d e v buf) λ bs. bind (opt_m name (ret tt) use_enum) λ _. ret (over buf e.offset bs)) s
      (rw (l, use_known h name (is_some ((winning S).enum h)) k f)
      (map_fit_law (enum_size e.subtype) (named_value T flags (value_row T v) (all_of en)) (wrong d e v buf) (opt_m name (ret tt) use_enum) buf e.offset s
      ∙ ap (λ (y : Fit Bytes). fit_m y (wrong d e v buf) (λ bs. bind (opt_m name (ret tt) use_enum) λ _. ret (over buf e.offset bs)) s) (named_bytes T flags en (enum_size e.subtype) (value_row T v))))

-- behind the file's end all entries are the same
behind_end : (F : Bytes) (k x y : ℕ) → length F ≤ x → length F ≤ y → read_at k F x ≡ read_at k F y
unfolding read_at
behind_end F k x y h g = ap (λ (l : Bytes). number 0 (take k l)) (drop_of_length-le F h ∙ sym (drop_of_length-le F g))

pub entries_behind : (F : Bytes) (n x y : ℕ) → length F ≤ x → length F ≤ y → entries_at F n x ≡ entries_at F n y
unfolding entries_at
entries_behind F zero x y h g = refl
entries_behind F (suc n) x y h g =
    rw (behind_end F 4 x y h g, behind_end F 4 (x + 4) (y + 4) (omega arith) (omega arith), entries_behind F n (x + 8) (y + 8) (omega arith) (omega arith)) refl

-- where an enum is found lies in the file
pub place_inside : (F : Bytes) (h at : ℕ) (r : Option ℕ) → r ≡ last_place F 1 h → r ≡ Some at → at < length F
place_inside F h at r e f = last_inside F 1 h at (sym e ∙ f)

-- where entries begin, or the file's end: the same entries
pub entries_from_law : (F : Bytes) (n place : ℕ) → entries_at F n (entries_from F place) ≡ entries_at F n (place + 4)
entries_from_law F n place = go (leb (place + 4) (length F)) refl
  where
    go : (b : Bool) → leb (place + 4) (length F) ≡ b → entries_at F n (entries_from F place) ≡ entries_at F n (place + 4)
    go true q = let h = leb-true (place + 4) (length F) q in let e : min (place + 4) (length F) ≡ place + 4 = omega arith in ap (entries_at F n) e
    go false q = let h = leb-false (place + 4) (length F) q in entries_behind F n (entries_from F place) (place + 4) (omega arith) (omega arith)

-- such a cell is in order
pub named_sane : (flags : Bool) (e : Entries) (k : ℕ) → k ≤ 4 → Sane (named_cell flags e k) × (cell_size (named_cell flags e k) ≡ k)
named_sane true e k h = (h, refl)
named_sane false e k h = (h, refl)
