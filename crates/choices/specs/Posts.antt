-- What the contracts say of a finished run and of the elements of runs.
use Rattle.std.specs.Prelude.{ℕ, ◌+◌, ◌-◌, ◌*◌, ◌≤◌, ◌≡◌, Bool, true, false, cond, not, ◌||◌, eqb, ◌++◌, length}
use Rattle.numbers.specs.Words.{Bytes, over}
use Rattle.value.specs.Rows.{row, Fields, fields_of, Struct, Null}
use Rattle.schema.specs.Defs.{Schema, StructDef}
use Rattle.definitions.specs.declared.members.Member as coded
use Rattle.layout.specs.State.{State, bind, ret, add_item}
use Rattle.layout.specs.Members.{put_counted, need}
use Rattle.layout.specs.Write.{pair_fields}
use Rattle.area.specs.declared.Round.{Round}
use Rattle.area.specs.declared.Progress.{Progress}
use Rattle.area.specs.Area.{stack_at, Rep}
use Rattle.area.specs.Posts.{Safe, Notes, Larger, Meets, Ans, gives, refuses}
use Rattle.cells.specs.declared.defs.Def.{Def}
use Rattle.cells.specs.Names.{def_of, member_of}
use Rattle.members.specs.Posts.{remark_on}

-- the numbers after the top `len` bytes of the stack were filed
abbrev pub Lodged : Round → ℕ → Progress → ℕ → Ans (Unit {0}) → Type 0
Lodged R n q len (gives u t) = Safe R n t × Larger q len (q.top - len) t
Lodged R n q len (refuses k t) = Safe R n t

-- a run is filed, and its pointer stands at `at` with its count
pub record Lodges (R : Round) (n : ℕ) (q : Progress) (w : Bytes) (block len at count : ℕ) (r : Ans (Unit {0})) (w' : Bytes) : Type 0 where
  pub grew : Lodged R n q len r
  pub says : (S : Schema) (s : State) (σ buf b : Bytes) (off : ℕ) → length b ≡ len → stack_at R + length σ + off ≡ at → off + 12 ≤ length buf → Rep S R n s ((σ ++ buf) ++ b) q w
      → Meets S R n (λ c. σ ++ c) (λ c x. length c ≡ length buf) (bind (add_item block b) (λ p. ret (put_counted buf off p count)) s) r w'

-- the numbers after the stack's part above `base` went
pub record Lower (q : Progress) (base notes : ℕ) (t : Progress) : Type 0 where
  pub end : t.end ≡ q.end
  pub top : t.top ≡ base
  pub charge : t.charge ≡ q.charge
  pub seen : t.seen ≤ q.seen + notes

abbrev pub Lowered : Round → ℕ → Progress → ℕ → Ans (Unit {0}) → Type 0
Lowered R n q base (gives u t) = Safe R n t × Lower q base 1 t
Lowered R n q base (refuses k t) = ⊥

-- the bytes above `base` are moved into the structure below them, where they fit
pub record Embeds (R : Round) (n base : ℕ) (q : Progress) (w : Bytes) (d : Def) (m : coded.Member) (r : Ans (Unit {0})) (w' : Bytes) : Type 0 where
  pub grew : Lowered R n q base r
  pub says : (F : Bytes) (S : Schema) (s : State) (σ buf b : Bytes) → length buf ≡ d.size → base + length b ≡ q.top → Rep S R n s ((σ ++ buf) ++ b) q w
      → Meets S R n (λ c. σ ++ c) (λ c x. length c ≡ d.size)
      (need (def_of F d) (member_of m) (length b) buf (ret (over buf m.offset b)) s) r w'

-- the row of element k, or of pair k's key
abbrev pub element_row : ℕ → ℕ → Bool → ℕ
element_row first k pairs = cond pairs (first + 2 * k) (first + k)

-- the values of the element, or pair, whose row or key is r
abbrev pub element_fields : Bytes → StructDef → ℕ → Bool → Fields
element_fields T i r pairs = cond pairs (pair_fields i (r, r + 1)) (fields_of T (row T r))

-- remark 9 is met, where the row is neither Struct nor Null
abbrev pub needs_note : ℕ → Bool → Bool
needs_note kind pairs = cond pairs false (not (eqb kind Struct || eqb kind Null))

pub record Noted (R : Round) (n : ℕ) (p : Progress) (w : Bytes) (d : Def) (m : coded.Member) (kind : ℕ) (pairs : Bool) (q : Progress) (w' : Bytes) : Type 0 where
  pub met : needs_note kind pairs ≡ true → Notes R n p w (remark_on d m 9 0) q w'
  pub none : needs_note kind pairs ≡ false → (q ≡ p) × (w' ≡ w)
