-- The loops over the used names: the lengths summed, and the index and the definitions written side by side. Assumes nothing.
use Prim.Native.Nat.{ℕ, zero, suc, ◌+◌, ◌-◌, ◌*◌, ◌/◌, ◌^◌, ◌≤◌, ◌<◌}
use native.Mathlib.Omega.{arith}
use mathlib.Core.Path.{◌≡◌, refl, sym, ◌∙◌, ap, ap₂, subst}
use mathlib.Core.List.{List, [], ◌∷◌, ◌++◌, append_assoc}
use lib.ListN.{length, take, drop, length-append, length-map, length-drop, take-append-drop}
use lib.Seq.{length-take-le, take_all, take_at, drop_at}
use borrow.Author.Tests.{lt-ltb, le-ltb}
use Rattle.schema.specs.declared.kind.Kind.{Kind}
use Rattle.schema.specs.declared.kind.Kind.TheVariants.{Structure, Enum}
use Rattle.numbers.specs.Words.{Bytes, read_at, words, over}
use Rattle.numbers.specs.Result.{Every}
use Rattle.numbers.proofs.Bytes.{length_words}
use Rattle.numbers.proofs.Parts.{read_part}
use Rattle.layout.specs.Assemble.{joined, Records, index_of, bodies}
use Rattle.layout.proofs.ReadDefs.{index_length}
use Rattle.area.specs.declared.Round.{Round}
use Rattle.area.specs.declared.Progress.{Progress}
use Rattle.area.specs.Rows.{names_in}
use Rattle.area.specs.Posts.{Safe}
use Rattle.area.proofs.Over.{over_right, over_left, over_seq, length_over}
use Rattle.psch.specs.Used.{body_of, records_for, size_of, counted_from, names_at, names_count, names_of, Names, Stored, Counts}
use Rattle.psch.proofs.Sections.{over_none}

-- pastes

-- two pastes apart from each other, in either order
pub over_apart : (l : Bytes) (t j : ℕ) (b i : Bytes) → j + length i ≤ t → t ≤ length l → over (over l t b) j i ≡ over (over l j i) t b
over_apart l t j b i h g =
    let P : Bytes = take t l in
    let Q : Bytes = drop t l in
    let lp : length P ≡ t = length-take-le t l g in
    let sp : l ≡ P ++ Q = sym (take-append-drop t l) in
    let P' : Bytes = over P j i in
    let lp' : length P' ≡ t = length_over P j i (omega (arith, lp)) ∙ lp in
    let z : t ≡ length P + 0 = omega (arith, lp) in
    let z' : length P' + 0 ≡ t = omega (arith, lp') in
    let a : over l t b ≡ P ++ over Q 0 b = ap₂ (λ (x : Bytes) (k : ℕ). over x k b) sp z ∙ over_right P Q 0 b in
    let c : over l j i ≡ P' ++ Q = ap (λ (x : Bytes). over x j i) sp ∙ over_left P Q j i (omega (arith, lp)) in
    ap (λ (x : Bytes). over x j i) a ∙ over_left P (over Q 0 b) j i (omega (arith, lp)) ∙ sym (over_right P' Q 0 b)
    ∙ ap₂ (λ (x : Bytes) (k : ℕ). over x k b) (sym c) z'

-- two lists that grow side by side
pub over_both : (o : Bytes) (i j t u : ℕ) (w x b y : Bytes) → i + length w ≡ j → t + length b ≡ u → j + length x ≤ t → u ≤ length o
    → over (over (over (over o i w) t b) j x) u y ≡ over (over o i (w ++ x)) t (b ++ y)
over_both o i j t u w x b y ej eu h g =
    let f : i + length (w ++ x) ≤ length o = omega (arith, length-append w x) in
    let lo : length (over o i w) ≡ length o = length_over o i w (omega arith) in
    let s : over (over o i w) j x ≡ over o i (w ++ x) = ap (λ (k : ℕ). over (over o i w) k x) (sym ej) ∙ over_seq o i w x (omega arith) in
    let m : over (over (over o i w) t b) j x ≡ over (over o i (w ++ x)) t b = over_apart (over o i w) t j b x h (omega (arith, lo)) ∙ ap (λ (z : Bytes). over z t b) s in
    ap₂ (λ (z : Bytes) (k : ℕ). over z k y) m (sym eu) ∙ over_seq (over o i (w ++ x)) t b y (omega (arith, length_over o i (w ++ x) f))

-- records

pub size_cons : (r : ℕ × Bytes) (rs : Records) → size_of (r ∷ rs) ≡ 8 + length r.1 + size_of rs
unfolding joined
size_cons r rs = omega (arith, length-append r.1 (bodies rs))

bodies_cons : (r : ℕ × Bytes) (rs : Records) → bodies (r ∷ rs) ≡ r.1 ++ bodies rs
unfolding joined
bodies_cons r rs = refl

index_cons : (at : ℕ) (r : ℕ × Bytes) (rs : Records) → index_of at (r ∷ rs) ≡ words (r.0 ∷ at ∷ []) ++ index_of (at + length r.1) rs
unfolding index_of
index_cons at r rs = refl

pub bodies_append : (rs qs : Records) → bodies (rs ++ qs) ≡ bodies rs ++ bodies qs
unfolding joined
bodies_append [] qs = refl
bodies_append (r ∷ rs) qs = ap (λ (x : Bytes). r.1 ++ x) (bodies_append rs qs) ∙ sym (append_assoc r.1 (bodies rs) (bodies qs))

pub index_append : (at : ℕ) (rs qs : Records) → index_of at (rs ++ qs) ≡ index_of at rs ++ index_of (at + length (bodies rs)) qs
unfolding index_of joined
index_append at [] qs = let z : at ≡ at + 0 = omega arith in ap (λ (n : ℕ). index_of n qs) z
index_append at (r ∷ rs) qs =
    let z : at + length r.1 + length (bodies rs) ≡ at + length (r.1 ++ bodies rs) = omega (arith, length-append r.1 (bodies rs)) in
    ap (λ (x : Bytes). words (r.0 ∷ at ∷ []) ++ x) (index_append (at + length r.1) rs qs ∙ ap (λ (n : ℕ). index_of (at + length r.1) rs ++ index_of n qs) z)
    ∙ sym (append_assoc (words (r.0 ∷ at ∷ [])) (index_of (at + length r.1) rs) (index_of (at + length (r.1 ++ bodies rs)) qs))

pub length_names : (w : Bytes) (at n : ℕ) → length (names_in w at n) ≡ n
unfolding names_in
length_names w at zero = refl
length_names w at (suc n) = ap suc (length_names w (at + 4) n)

pub count_records : (F w : Bytes) (e : Kind) (at n : ℕ) → length (records_for F e (names_in w at n)) ≡ n
count_records F w e at n = length-map (names_in w at n) (λ m. (m, body_of F e m)) ∙ length_names w at n

-- names that stand in a part
pub names_part : (w : Bytes) (from n at k : ℕ) → at + 4 * k ≤ n → names_in (take n (drop from w)) at k ≡ names_in w (from + at) k
unfolding names_in
names_part w from n at zero h = refl
names_part w from n at (suc k) h =
    let z : from + (at + 4) ≡ from + at + 4 = omega arith in
    ap₂ (λ (x : ℕ) (ns : List ℕ). x ∷ ns) (read_part 4 w from n at (omega arith)) (names_part w from n (at + 4) k (omega arith) ∙ ap (λ (i : ℕ). names_in w i k) z)

-- the part of the work area with the names of a kind
pub part_named : (k : Kind) (R : Round) (p : Progress) (w : Bytes) (q : ℕ × ℕ) → Safe R (length w) p → q ≡ (names_at k R, names_count k p)
    → Names k R p w (take (q.0 + 4 * q.1 - q.0) (drop q.0 w))
part_named k R p w q h e = rw e (go k)
  where
    part : (at n : ℕ) → at + 4 * n ≤ length w → (length (take (at + 4 * n - at) (drop at w)) ≡ 4 * n) × (names_of (take (at + 4 * n - at) (drop at w)) ≡ names_in w at n)
    part at n g =
        let z : at + 4 * n - at ≡ 4 * n = omega arith in
        let l : length (take (at + 4 * n - at) (drop at w)) ≡ 4 * n = length-take-le (at + 4 * n - at) (drop at w) (omega (arith, length-drop at w)) ∙ z in
        let i : length (take (at + 4 * n - at) (drop at w)) / 4 ≡ n = omega (arith, l) in
        let j : at + 0 ≡ at = omega arith in
        (l, ap (names_in (take (at + 4 * n - at) (drop at w)) 0) i ∙ names_part w at (at + 4 * n - at) 0 n (omega arith) ∙ ap (λ (i : ℕ). names_in w i n) j)

    go : (k : Kind) → Names k R p w (take (names_at k R + 4 * names_count k p - names_at k R) (drop (names_at k R) w))
    go Structure = let t = part 65536 p.structs (omega (arith, h.structs, h.room)) in record { size = t.0; names = t.1 }
    go Enum = let t = part (65536 + 4 * R.entries) p.enums (omega (arith, h.enums, h.room)) in record { size = t.0; names = t.1 }

-- the first of the names in bytes, and those behind it
pub names_turn : (r x t : Bytes) (name : ℕ) → r ≡ x ++ t → length x ≡ 4 → name ≡ read_at 4 x 0 → names_of r ≡ name ∷ names_of t
unfolding names_in
names_turn r x t name e l q =
    let s : length r ≡ 4 + length t = ap length e ∙ length-append x t ∙ omega (arith, l) in
    let n : length r / 4 ≡ suc (length t / 4) = omega (arith, s) in
    let a : take 4 (drop 0 r) ≡ x = ap (take 4) e ∙ take_at x t 4 l in
    let b : take (length t) (drop 4 r) ≡ t = ap (λ (y : Bytes). take (length t) (drop 4 y)) e ∙ ap (take (length t)) (drop_at x t 4 l) ∙ take_all (length t) t (omega arith) in
    ap (names_in r 0) n
    ∙ ap₂ (λ (y : ℕ) (ys : List ℕ). y ∷ ys) (sym (read_part 4 r 0 4 0 (omega arith)) ∙ ap (λ (y : Bytes). read_at 4 y 0) a ∙ sym q)
    (sym (names_part r 4 (length t) 0 (length t / 4) (omega arith)) ∙ ap (λ (y : Bytes). names_in y 0 (length t / 4)) b)

pub names_none : (r : Bytes) → length r < 4 → names_of r ≡ []
unfolding names_in
names_none r h = let n : length r / 4 ≡ 0 = omega arith in ap (names_in r 0) n

-- the loop that sums: of the names `all` those in ns are left
module _ (F : Bytes) (e : Kind) (all : List ℕ) (from : ℕ) where
  pub record Summing (sum : ℕ) (ns : List ℕ) : Type 0 where
    pub low : sum < 2 ^ 48
    pub same : sum + size_of (records_for F e ns) ≡ from + size_of (records_for F e all)
    pub counts : counted_from F e sum ns ≡ counted_from F e from all

  module _ (sum : ℕ) (ns : List ℕ) (s : Summing sum ns) where
    -- a name is counted
    pub sum_turn : (n name : ℕ) (rest : List ℕ) → ns ≡ name ∷ rest → sum ≤ 16777216 → (n ≡ length (body_of F e name)) × (n < 2 ^ 28) → Summing (sum + (8 + n)) rest
    unfolding counted_from
    sum_turn n name rest q l m =
        let z : size_of (records_for F e ns) ≡ 8 + n + size_of (records_for F e rest) =
        ap (λ (x : List ℕ). size_of (records_for F e x)) q ∙ size_cons (name, body_of F e name) (records_for F e rest) ∙ ap (λ (x : ℕ). 8 + x + size_of (records_for F e rest)) (sym m.0) in
        let t : counted_from F e sum ns ≡ counted_from F e (sum + (8 + n)) rest =
        ap (counted_from F e sum) q ∙ rw (le-ltb 16777216 sum l) (ap (λ (x : ℕ). counted_from F e (sum + (8 + x)) rest) (sym m.0)) in
        record { low = omega (arith, l, m.1); same = omega (arith, s.same, z); counts = sym t ∙ s.counts }

    pub long_counts : 16777216 < sum → Counts sum (from + size_of (records_for F e all))
    long_counts h = record { exact = λ g. absurd (omega (arith, g, h)); long = λ g. omega (arith, s.same, h) }

    pub long_same : 16777216 < sum → sum ≡ counted_from F e from all
    unfolding counted_from
    long_same h = sym (stops ns) ∙ s.counts
      where
        stops : (x : List ℕ) → counted_from F e sum x ≡ sum
        stops [] = refl
        stops (x ∷ xs) = rw (lt-ltb 16777216 sum h) refl

    pub sum_last : ns ≡ [] → Counts sum (from + size_of (records_for F e all)) × (sum < 2 ^ 48) × (sum ≡ counted_from F e from all)
    unfolding joined counted_from
    sum_last q =
        let z : size_of (records_for F e ns) ≡ 0 = ap (λ (x : List ℕ). size_of (records_for F e x)) q in
        let t : sum ≡ from + size_of (records_for F e all) = omega (arith, s.same, z) in
        (record { exact = λ g. t; long = λ g. omega (arith, g, t) }, s.low, ap (counted_from F e sum) (sym q) ∙ s.counts)

-- the loop that writes: of the names `all` k are done, and those in ns are left
module _ (F : Bytes) (e : Kind) (all : List ℕ) (o₀ : Bytes) (index to : ℕ) where
  abbrev rs : List ℕ → Records
  rs ns = records_for F e ns

  pub record Putting (at k : ℕ) (o : Bytes) (ns : List ℕ) : Type 0 where
    pub many : k + length ns ≡ length all
    pub long : length o ≡ length o₀
    pub stored : Every (Stored F e) ns
    pub ends : at + length (bodies (records_for F e ns)) ≡ to + length (bodies (records_for F e all))
    pub behind : to ≤ at
    pub same : over (over o (index + 8 * k) (index_of at (records_for F e ns))) at (bodies (records_for F e ns))
        ≡ over (over o₀ index (index_of to (records_for F e all))) to (bodies (records_for F e all))

  pub put_begin : Every (Stored F e) all → Putting to 0 o₀ all
  put_begin s =
      let z : index + 8 * 0 ≡ index = omega arith in
      record {
        many = omega arith;
        long = refl;
        stored = s;
        ends = refl;
        behind = omega arith;
        same = ap (λ (n : ℕ). over (over o₀ n (index_of to (rs all))) to (bodies (rs all))) z;
      }

  module _ (fits : index + 8 * length all ≤ to) (room : to + length (bodies (records_for F e all)) ≤ length o₀) (at k : ℕ) (o : Bytes) (ns : List ℕ) (p : Putting at k o ns) where
    pub put_last : ns ≡ [] → (at ≡ to + length (bodies (records_for F e all)))
        × (o ≡ over (over o₀ index (index_of to (records_for F e all))) to (bodies (records_for F e all)))
    unfolding joined index_of
    put_last q =
        let z : at + 0 ≡ to + length (bodies (rs all)) = ap (λ (x : List ℕ). at + length (bodies (rs x))) (sym q) ∙ p.ends in
        let s : over (over o (index + 8 * k) []) at [] ≡ over (over o₀ index (index_of to (rs all))) to (bodies (rs all)) =
        ap (λ (x : List ℕ). over (over o (index + 8 * k) (index_of at (rs x))) at (bodies (rs x))) (sym q) ∙ p.same in
        (omega (arith, z), sym (over_none (over o (index + 8 * k) []) at ∙ over_none o (index + 8 * k)) ∙ s)

    module _ (name : ℕ) (rest : List ℕ) (q : ns ≡ name ∷ rest) where
      abbrev one : ℕ × Bytes
      one = (name, body_of F e name)

      more : k + (1 + length rest) ≡ length all
      more = omega (arith, p.many, ap length q)

      ends_at : at + (length (body_of F e name) + length (bodies (rs rest))) ≡ to + length (bodies (rs all))
      ends_at =
          let z : length (bodies (rs ns)) ≡ length (body_of F e name) + length (bodies (rs rest)) =
          ap (λ (x : List ℕ). length (bodies (rs x))) q ∙ ap length (bodies_cons one (rs rest)) ∙ length-append (body_of F e name) (bodies (rs rest)) in
          omega (arith, z, p.ends)

      pub put_turn : Stored F e name × ((index + 8 * k + 8 ≤ at) × (at + length (body_of F e name) ≤ length o)
          × (at + length (body_of F e name) ≤ to + length (bodies (records_for F e all))))
      put_turn = ((subst (Every (Stored F e)) q p.stored).0, (omega (arith, fits, more, p.behind), omega (arith, ends_at, room, p.long), omega (arith, ends_at)))

      pub put_again : (o' : Bytes) (at' : ℕ) → length o' ≡ length o → at' ≡ at + length (body_of F e name) → o' ≡ over (over o (index + 8 * k) (words (name ∷ at ∷ []))) at (body_of F e name)
          → Putting at' (k + 1) o' rest
      put_again o' at' l ea eo =
          let i = index + 8 * k in
          let j = index + 8 * (k + 1) in
          let W : Bytes = words (name ∷ at ∷ []) in
          let B : Bytes = body_of F e name in
          let I : Bytes = index_of at' (rs rest) in
          let J : Bytes = bodies (rs rest) in
          let lw : length W ≡ 8 = length_words (name ∷ at ∷ []) in
          let li : length I ≡ 8 * length rest = index_length at' (rs rest) ∙ ap (λ (n : ℕ). 8 * n) (length-map rest (λ m. (m, body_of F e m))) in
          let ia : index_of at (one ∷ rs rest) ≡ W ++ I = index_cons at one (rs rest) ∙ ap (λ (n : ℕ). W ++ index_of n (rs rest)) (sym ea) in
          let s : over (over o i (W ++ I)) at (B ++ J) ≡ over (over o i (index_of at (rs ns))) at (bodies (rs ns)) =
          ap₂ (λ (x y : Bytes). over (over o i x) at y) (sym ia) (sym (bodies_cons one (rs rest))) ∙ ap (λ (x : List ℕ). over (over o i (index_of at (rs x))) at (bodies (rs x))) (sym q) in
          record {
            many = omega (arith, more);
            long = l ∙ p.long;
            stored = (subst (Every (Stored F e)) q p.stored).1;
            ends = omega (arith, ends_at, ea);
            behind = omega (arith, p.behind, ea);
            same = ap (λ (x : Bytes). over (over x j I) at' J) eo
                ∙ over_both o i j at at' W I B J (omega (arith, lw)) (sym ea) (omega (arith, li, fits, more, p.behind)) (omega (arith, ea, ends_at, room, p.long)) ∙ s ∙ p.same;
          }
