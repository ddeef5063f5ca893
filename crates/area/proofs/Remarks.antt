-- The remarks that a round keeps, and the rows that hold them. Assumes nothing.
use mathlib.Core.Path.{◌≡◌, refl, ap, ◌∙◌}
use mathlib.Core.List.{List, [], ◌∷◌, ◌++◌, append_assoc, append-nil}
use Prim.Native.Nat.{ℕ, zero, suc, ◌+◌, ◌*◌}
use native.Mathlib.Nat.{add-zero}
use native.Mathlib.Omega.{arith}
use lib.ListN.{length, length-append}
use Rattle.std.specs.List.{list_any, range_with_len}
use Rattle.numbers.specs.Words.{Bytes, words, read_at, Stands, Below}
use Rattle.numbers.specs.Result.{Every}
use Rattle.numbers.proofs.Bytes.{left, next, word_at, length_words}
use Rattle.layout.specs.State.{Remark, same_remark, remarked}
use Rattle.area.specs.Kept.{Kept, meet, meets, kept, row_bytes, rows_bytes}
use Rattle.area.specs.Rows.{row_in, rows_in, Tiny}
use Rattle.area.proofs.Anys.{or_cond}

meets_snoc : (skip : ℕ) (k : Kept) (es : List Remark) (r : Remark) → meets skip k (es ++ (r ∷ [])) ≡ meet skip (meets skip k es) r
unfolding meets
meets_snoc skip k [] r = refl
meets_snoc skip k (e ∷ es) r = meets_snoc skip (meet skip k e) es r

-- one more remark is one step
pub kept_snoc : (skip : ℕ) (es : List Remark) (r : Remark) → kept skip (es ++ (r ∷ [])) ≡ meet skip (kept skip es) r
unfolding kept
kept_snoc skip es r = meets_snoc skip (record { rows = []; next = 0; seen = 0 }) es r

pub length_rows : (rs : List Remark) → length (rows_bytes rs) ≡ 16 * length rs
unfolding rows_bytes words
length_rows [] = refl
length_rows (r ∷ rs) = omega (arith, length-append (row_bytes r) (rows_bytes rs), length_words (r.kind ∷ r.structure ∷ r.member ∷ r.detail ∷ []), length_rows rs)

-- a row that stands there is read
pub row_stands : (w : Bytes) (at : ℕ) (r : Remark) (y : Bytes) → Tiny r → Stands w at (row_bytes r ++ y) → row_in w at ≡ r
unfolding words
row_stands w at r y t h =
    let l : List ℕ = r.kind ∷ r.structure ∷ r.member ∷ r.detail ∷ [] in
    let s : Stands w at (words l) = left w (row_bytes r) y at h in
    let b : Below l = (t.kind, (t.structure, (t.member, (t.detail, tt)))) in
    let e0 : read_at 4 w at ≡ r.kind = word_at w at l b s 0 at (omega arith) (omega arith) in
    let e1 : read_at 4 w (at + 4) ≡ r.structure = word_at w at l b s 1 (at + 4) (omega arith) (omega arith) in
    let e2 : read_at 4 w (at + 8) ≡ r.member = word_at w at l b s 2 (at + 8) (omega arith) (omega arith) in
    let e3 : read_at 4 w (at + 12) ≡ r.detail = word_at w at l b s 3 (at + 12) (omega arith) (omega arith) in
    rw (e0, e1, e2, e3)

-- so are all rows
pub rows_stand : (w : Bytes) (at : ℕ) (rs : List Remark) → Every Tiny rs → Stands w at (rows_bytes rs) → rows_in w at (length rs) ≡ rs
unfolding rows_in rows_bytes
rows_stand w at [] t h = refl
rows_stand w at (r ∷ rs) t h =
    let l : length (row_bytes r) ≡ 16 = length_words (r.kind ∷ r.structure ∷ r.member ∷ r.detail ∷ []) in
    rw (row_stands w at r (rows_bytes rs) t.0 h, rows_stand w (at + 16) rs t.1 (next w (row_bytes r) (rows_bytes rs) at (at + 16) 16 l refl h))

-- as many as are read
pub length_rows_in : (w : Bytes) (at n : ℕ) → length (rows_in w at n) ≡ n
unfolding rows_in
length_rows_in w at zero = refl
length_rows_in w at (suc n) = ap suc (length_rows_in w (at + 16) n)

-- whether one of the rows holds the remark
any_from : (w : Bytes) (at : ℕ) (r : Remark) (n k : ℕ) → list_any (λ (i : ℕ). same_remark (row_in w (at + 16 * i)) r) (range_with_len k n) ≡ remarked r (rows_in w (at + 16 * k) n)
unfolding rows_in remarked
any_from w at r zero k = refl
any_from w at r (suc n) k =
    let f : at + 16 * (k + 1) ≡ at + 16 * k + 16 = omega arith in
    or_cond (same_remark (row_in w (at + 16 * k)) r) (list_any (λ (i : ℕ). same_remark (row_in w (at + 16 * i)) r) (range_with_len (k + 1) n))
    ∙ rw (any_from w at r n (k + 1), f)

pub any_row : (w : Bytes) (at n : ℕ) (r : Remark) → list_any (λ (i : ℕ). same_remark (row_in w (at + 16 * i)) r) (range_with_len 0 n) ≡ remarked r (rows_in w at n)
any_row w at n r = any_from w at r n 0 ∙ rw add-zero

-- a row behind the others
pub rows_snoc : (rs : List Remark) (r : Remark) → rows_bytes (rs ++ (r ∷ [])) ≡ rows_bytes rs ++ row_bytes r
unfolding rows_bytes
rows_snoc [] r = append-nil (row_bytes r)
rows_snoc (q ∷ rs) r = rw (rows_snoc rs r, append_assoc)
