-- The sheet's layout: refusal 1 (it is broken), 2 (a text byte is above 127), 3 (the root is no Struct).
use Rattle.std.specs.Prelude.{ℕ, zero, suc, ◌+◌, ◌-◌, ◌^◌, Bool, true, false, cond, not, ◌&&◌, ◌||◌, [], ◌∷◌, leb, ltb, eqb, length}
use Rattle.numbers.specs.Words.{Bytes}
use Rattle.value.specs.Rows
use Rattle.sheet.specs.declared.Walk as declared

-- how many of a, b, c, d a kind uses
unfoldable pub fields_used : ℕ → ℕ
fields_used k =
    cond (eqb k Rows.Null || eqb k Rows.Bytes') 0
    (cond (eqb k Rows.Vec4) 4
    (cond (eqb k Rows.Vec3 || eqb k Rows.Struct) 3
    (cond (eqb k Rows.I64 || eqb k Rows.U64 || eqb k Rows.Vec2 || eqb k Rows.Str || eqb k Rows.Array || eqb k Rows.Map) 2 1)))

-- "zero where unused"
unfoldable pub rest_zero : Rows.Row → Bool
rest_zero v =
    let n = fields_used v.kind in
    (leb 1 n || eqb v.a 0) && (leb 2 n || eqb v.b 0) && (leb 3 n || eqb v.c 0) && (leb 4 n || eqb v.d 0)

-- "in a, sign-extended, within their width": x, 32 bits, extends a signed number of w bits
abbrev pub extends : ℕ → ℕ → Bool
extends w x = ltb x (2 ^ (w - 1)) || leb (2 ^ 32 - 2 ^ (w - 1)) x

-- a number is within its kind's width
unfoldable pub within_width : Rows.Row → Bool
within_width v =
    (not (eqb v.kind Rows.Bool') || ltb v.a 2) && (not (eqb v.kind Rows.I8) || extends 8 v.a) && (not (eqb v.kind Rows.U8) || ltb v.a (2 ^ 8))
    && (not (eqb v.kind Rows.I16) || extends 16 v.a) && (not (eqb v.kind Rows.U16) || ltb v.a (2 ^ 16))

-- Array, Map or Struct
abbrev pub is_container : ℕ → Bool
is_container k = leb Rows.Array k && leb k Rows.Struct

-- a row by itself
unfoldable pub row_sound : Rows.Row → Bool
row_sound v = leb v.kind Rows.Struct && eqb v.zero3 0 && rest_zero v && within_width v

-- "member name (zero unless the parent is a Struct)": of n rows from r on
unfoldable pub nameless : Bytes → ℕ → ℕ → Bool
nameless T r zero = true
nameless T r (suc n) = elim (eqb (Rows.row T r).name 0) [ true ↦ nameless T (suc r) n | false ↦ false ]

-- what the rows before one claim: rows that are row 0 or a child, text bytes; the level of the last row, and the first row of the next.
-- It is the code's struct, whose fields are numbers.
abbrev pub Walk : Type 0
Walk = declared.Walk

-- before row 0, which is claimed
abbrev pub begin : Walk
begin = record { claimed = 1; texts = 0; level = 0; next = 0 }

-- the level of row r; a level's rows follow those of the one above without gap
abbrev pub level_at : Walk → ℕ → ℕ
level_at w r = cond (eqb r w.next) (suc w.level) w.level

-- the text bytes that a row claims
abbrev pub text_bytes : Rows.Row → ℕ
text_bytes v = cond (eqb v.kind Rows.Str) v.b 0

-- "Children follow in row order without gap, so a first child is 1 plus all children of earlier rows, an empty container included;
-- texts do the same; .. each row but row 0 is the child of an earlier row. Nesting is at most 64 levels, row 0 being the first."
-- Of the row v, number r of n.
unfoldable pub sits : ℕ → Walk → ℕ → Rows.Row → Bool
sits n w r v =
    ltb r w.claimed && leb (level_at w r) 64 && row_sound v
    && (not (eqb v.kind Rows.Str) || eqb v.a w.texts)
    && (not (is_container v.kind) || eqb (Rows.first_child v) w.claimed)
    && leb (w.claimed + Rows.child_count v) n

-- the children of v, from row r on, have names only where v is a Struct
unfoldable pub names_fit : Bytes → ℕ → Rows.Row → Bool
names_fit T r v = eqb v.kind Rows.Struct || nameless T r (Rows.child_count v)

-- row r keeps to the layout, after those that made w
unfoldable pub placed : Bytes → Walk → ℕ → Bool
placed T w r = sits (Rows.row_count T) w r (Rows.row T r) && names_fit T w.claimed (Rows.row T r)

-- what the rows up to v, number r, claim
unfoldable pub after : Walk → ℕ → Rows.Row → Walk
after w r v =
    record { claimed = w.claimed + Rows.child_count v; texts = w.texts + text_bytes v; level = level_at w r; next = cond (eqb r w.next) w.claimed w.next }

-- what the rows up to r claim
abbrev pub stepped : Bytes → Walk → ℕ → Walk
stepped T w r = after w r (Rows.row T r)

-- "all rows and text bytes are used": n rows from r on, after those that made w
unfoldable pub walks : Bytes → ℕ → ℕ → Walk → Bool
walks T zero r w = eqb w.claimed (Rows.row_count T) && eqb w.texts (length (Rows.text_area T))
walks T (suc n) r w = elim (placed T w r) [ true ↦ walks T n (suc r) (stepped T w r) | false ↦ false ]

-- "a 4-byte row count n, 1 to 16,384; n rows of 24 bytes; the text area, at most 65,535 bytes"
unfoldable pub framed : Bytes → Bool
framed T =
    leb 4 (length T) && leb 1 (Rows.row_count T) && leb (Rows.row_count T) 16384 && leb (Rows.row_at (Rows.row_count T)) (length T)
    && leb (length (Rows.text_area T)) 65535

-- refusal 1: "the sheet breaks its layout"
unfoldable pub laid_out : Bytes → Bool
laid_out T = framed T && (eqb (Rows.row T 0).name 0 && walks T (Rows.row_count T) 0 begin)

-- every byte is below n
unfoldable pub all_below : ℕ → Bytes → Bool
all_below n [] = true
all_below n (b ∷ bs) = ltb b n && all_below n bs

-- refusal 2: "a text byte is above 127"
unfoldable pub ascii : Bytes → Bool
ascii T = all_below 128 (Rows.text_area T)

-- refusal 3: "the root is no Struct"
unfoldable pub rooted : Bytes → Bool
rooted T = eqb (Rows.row T 0).kind Rows.Struct

-- for evaluation
unfoldable pub evaluated : Bytes → Bool
unfolding Rows.evaluated fields_used rest_zero within_width row_sound nameless sits names_fit placed after walks framed laid_out all_below ascii rooted
evaluated T = laid_out T && ascii T && rooted T
