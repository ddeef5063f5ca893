-- The segments of a work area cleared one by one: then all of it is zero. Assumes nothing.
use Prim.Native.Nat.{ℕ, ◌+◌, ◌-◌, ◌*◌, ◌≤◌}
use native.Mathlib.Omega.{arith}
use mathlib.Core.Path.{◌≡◌, refl, ◌∙◌, ap, ap₂}
use mathlib.Core.List.{List, [], ◌∷◌, ◌++◌}
use lib.ListN.{length, length-append, replicate-append-replicate}
use Rattle.numbers.specs.Words.{Bytes, words, over, zeros, padded}
use Rattle.numbers.proofs.Bytes.{length_words}
use Rattle.schema.specs.Defs.{Schema}
use Rattle.layout.specs.State.{State}
use Rattle.area.specs.declared.Round.{Round}
use Rattle.area.specs.declared.Progress.{Progress}
use Rattle.area.specs.Segments.{Segment, flat, rooms}
use Rattle.area.specs.Kept.{kept, rows_bytes}
use Rattle.area.specs.Area.{rows_of, encode, items_at, stack_at, Rep}
use Rattle.area.specs.Posts.{Safe}
use Rattle.area.proofs.Flat as flat
use Rattle.area.proofs.Remarks.{length_rows}
use Rattle.area.proofs.Spots.{length_rows_of}
use Rattle.assemble.specs.Map.{places_of}
use Rattle.assemble.specs.Packed.{table_at, InUse, rows_wiped, names_wiped, all_wiped}
use Rattle.assemble.proofs.Maps.{count_places}

-- the first k bytes of a segment cleared, where it holds no more
cleared : (xs ys : List Segment) (c : ℕ) (a : Bytes) (k at : ℕ) → length a ≤ k → k ≤ c → rooms xs ≡ at
    → over (flat (xs ++ ((c, a) ∷ ys))) at (zeros k) ≡ flat (xs ++ ((c, []) ∷ ys))
cleared xs ys c a k at h g e =
    let z : Bytes = zeros (k - length a) in
    let l : length (a ++ z) ≡ k = length-append a z ∙ omega (arith, h, flat.length_zeros (k - length a)) in
    ap (λ (x : Bytes). over x at (zeros k)) (flat.push xs ys c a (k - length a) (omega (arith, h, g))) ∙ flat.pop xs ys c [] (a ++ z) k at l (omega (arith, g)) (omega (arith, e))

-- segments that hold nothing
abbrev pub bare : List ℕ → List Segment
bare [] = []
bare (c ∷ cs) = (c, []) ∷ bare cs

padded_none : (c : ℕ) → padded c [] ≡ zeros c
padded_none c = let z : c - 0 ≡ c = omega arith in flat.padded_is c [] (omega arith) ∙ ap zeros z

pub bare_zeros : (cs : List ℕ) → flat (bare cs) ≡ zeros (rooms (bare cs))
bare_zeros [] = refl
bare_zeros (c ∷ cs) = ap₂ (λ (x y : Bytes). x ++ y) (padded_none c) (bare_zeros cs) ∙ replicate-append-replicate c (rooms (bare cs)) 0

module _ (R : Round) (n : ℕ) where
  -- the work area, by what its segments hold
  abbrev seven : Bytes → Bytes → Bytes → Bytes → Bytes → Bytes → Bytes → List Segment
  seven a b t c d i s =
      (32768, a) ∷ (16384, b) ∷ (16384, t) ∷ (4 * R.entries, c) ∷ (4 * R.entries, d) ∷ (R.cap, i) ∷ (n - stack_at R, s) ∷ []

  module _ (p : Progress) (h : Safe R n p) where
    seven_wiped : (a b t c d i s : Bytes) → length a ≤ 8 * p.blocks → length b ≤ 16 * p.rows → length t ≤ 4 * p.blocks → length c ≤ 4 * p.structs → length d ≤ 4 * p.enums
        → length i ≤ p.end - items_at R → length s ≤ p.top - stack_at R → (w w1 w2 w3 w4 : Bytes) → w ≡ flat (seven a b t c d i s)
        → w1 ≡ rows_wiped w p.blocks p.rows → w2 ≡ names_wiped w1 R.entries p.structs p.enums → w3 ≡ over w2 (items_at R) (zeros (p.end - items_at R))
        → w4 ≡ over w3 (stack_at R) (zeros (p.top - stack_at R)) → w4 ≡ zeros n
    seven_wiped a b t c d i s la lb lt lc ld li ls w w1 w2 w3 w4 e e1 e2 e3 e4 =
        let E = 4 * R.entries in
        let a1 : over w 0 (zeros (8 * p.blocks)) ≡ flat (seven [] b t c d i s) =
        ap (λ (x : Bytes). over x 0 (zeros (8 * p.blocks))) e
        ∙ cleared [] ((16384, b) ∷ (16384, t) ∷ (E, c) ∷ (E, d) ∷ (R.cap, i) ∷ (n - stack_at R, s) ∷ []) 32768 a (8 * p.blocks) 0 la (omega (arith, h.blocks)) refl in
        let a2 : over (over w 0 (zeros (8 * p.blocks))) 32768 (zeros (16 * p.rows)) ≡ flat (seven [] [] t c d i s) =
        ap (λ (x : Bytes). over x 32768 (zeros (16 * p.rows))) a1
        ∙ cleared ((32768, []) ∷ []) ((16384, t) ∷ (E, c) ∷ (E, d) ∷ (R.cap, i) ∷ (n - stack_at R, s) ∷ []) 16384 b (16 * p.rows) 32768 lb (omega (arith, h.rows)) (omega arith) in
        let a3 : w1 ≡ flat (seven [] [] [] c d i s) =
        e1 ∙ ap (λ (x : Bytes). over x 49152 (zeros (4 * p.blocks))) a2
        ∙ cleared ((32768, []) ∷ (16384, []) ∷ []) ((E, c) ∷ (E, d) ∷ (R.cap, i) ∷ (n - stack_at R, s) ∷ []) 16384 t (4 * p.blocks) 49152 lt (omega (arith, h.blocks)) (omega arith) in
        let a4 : over w1 65536 (zeros (4 * p.structs)) ≡ flat (seven [] [] [] [] d i s) =
        ap (λ (x : Bytes). over x 65536 (zeros (4 * p.structs))) a3
        ∙ cleared ((32768, []) ∷ (16384, []) ∷ (16384, []) ∷ []) ((E, d) ∷ (R.cap, i) ∷ (n - stack_at R, s) ∷ []) E c (4 * p.structs) 65536 lc (omega (arith, h.structs)) (omega arith) in
        let a5 : w2 ≡ flat (seven [] [] [] [] [] i s) =
        e2 ∙ ap (λ (x : Bytes). over x (65536 + 4 * R.entries) (zeros (4 * p.enums))) a4
        ∙ cleared ((32768, []) ∷ (16384, []) ∷ (16384, []) ∷ (E, []) ∷ []) ((R.cap, i) ∷ (n - stack_at R, s) ∷ []) E d (4 * p.enums) (65536 + 4 * R.entries) ld (omega (arith, h.enums)) (omega arith) in
        let a6 : w3 ≡ flat (seven [] [] [] [] [] [] s) =
        e3 ∙ ap (λ (x : Bytes). over x (items_at R) (zeros (p.end - items_at R))) a5
        ∙ cleared ((32768, []) ∷ (16384, []) ∷ (16384, []) ∷ (E, []) ∷ (E, []) ∷ []) ((n - stack_at R, s) ∷ []) R.cap i (p.end - items_at R) (items_at R) li (omega (arith, h.items, h.within)) (omega arith) in
        let a7 : w4 ≡ flat (seven [] [] [] [] [] [] []) =
        e4 ∙ ap (λ (x : Bytes). over x (stack_at R) (zeros (p.top - stack_at R))) a6
        ∙ cleared ((32768, []) ∷ (16384, []) ∷ (16384, []) ∷ (E, []) ∷ (E, []) ∷ (R.cap, []) ∷ []) [] (n - stack_at R) s (p.top - stack_at R) (stack_at R) ls (omega (arith, h.stack, h.within, h.room)) (omega arith) in
        let r : rooms (seven [] [] [] [] [] [] []) ≡ n = omega (arith, h.room) in
        a7 ∙ bare_zeros (32768 ∷ 16384 ∷ 16384 ∷ E ∷ E ∷ R.cap ∷ (n - stack_at R) ∷ []) ∙ ap zeros r

    -- a work area in use, cleared
    pub wiped : (S : Schema) (w w' : Bytes) → InUse S R n p w → w' ≡ all_wiped R p w → w' ≡ zeros n
    wiped S w w' u q =
        let s = u.state in
        let c = s.core in
        let r = u.rep in
        let rows = (kept R.skip s.events).rows in
        let E = 4 * R.entries in
        let e : w ≡ flat (seven (rows_of c.blocks) (rows_bytes rows) u.table (words c.structs) (words c.enums) (encode c.items) u.stack) =
        u.is ∙ ap (λ (x : Bytes). over x table_at u.table) r.work
        ∙ flat.append ((32768, rows_of c.blocks) ∷ (16384, rows_bytes rows) ∷ []) ((E, words c.structs) ∷ (E, words c.enums) ∷ (R.cap, encode c.items) ∷ (n - stack_at R, u.stack) ∷ [])
        16384 [] u.table table_at (omega (arith, u.few, h.blocks)) (omega arith) in
        seven_wiped (rows_of c.blocks) (rows_bytes rows) u.table (words c.structs) (words c.enums) (encode c.items) u.stack
        (omega (arith, length_rows_of c.blocks, r.blocks)) (omega (arith, length_rows rows, r.rows)) u.few (omega (arith, length_words c.structs, r.structs))
        (omega (arith, length_words c.enums, r.enums)) (omega (arith, r.end)) (omega (arith, r.top)) w _ _ _ w' e refl refl refl q

-- an area that holds a state, and its blocks' places in the table
pub tabled_in_use : {S : Schema} {R : Round} {n : ℕ} {p : Progress} {w : Bytes} {s : State} {σ : Bytes} → Rep S R n s σ p w → (w' : Bytes)
    → w' ≡ over w table_at (words (places_of 16 s.core.blocks)) → InUse S R n p w'
tabled_in_use {w = w} {s = s} {σ = σ} r w' e =
    let bs = s.core.blocks in
    record {
      state = s;
      stack = σ;
      before = w;
      table = words (places_of 16 bs);
      rep = r;
      few = omega (arith, length_words (places_of 16 bs), count_places 16 bs, r.blocks);
      is = e;
    }
