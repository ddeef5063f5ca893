-- PSCH: index entries and definitions of structures, then of enums, then the head. Assumes nothing.
use Prim.Native.Nat.{ℕ, ◌+◌, ◌*◌, ◌≤◌}
use native.Mathlib.Omega.{arith}
use mathlib.Core.Path.{◌≡◌, refl, sym, ◌∙◌, ap, ap₂}
use mathlib.Core.List.{[], ◌∷◌, ◌++◌}
use lib.ListN.{length, length-append}
use Rattle.schema.specs.declared.kind.Kind.{Kind}
use Rattle.schema.specs.declared.kind.Kind.TheVariants.{Structure, Enum}
use Rattle.numbers.specs.Words.{Bytes, bytes_of, words, over}
use Rattle.numbers.proofs.Bytes.{length_words}
use Rattle.schema.specs.Sections.{PSCH}
use Rattle.layout.specs.Assemble.{Records, index_of, psch_bytes, bodies}
use Rattle.layout.proofs.ReadDefs.{index_length, psch_length}
use Rattle.area.specs.declared.Round.{Round}
use Rattle.area.specs.declared.Progress.{Progress}
use Rattle.area.proofs.Over.{over_seq, length_over, words_one, words_behind}
use Rattle.psch.specs.Used.{records_for, used_names, used_records}
use Rattle.psch.proofs.Listing.{over_apart, over_both, bodies_append, index_append, count_records}

module _ (rs qs : Records) where
  psch_size : length (psch_bytes (rs ++ qs)) ≡ 12 + 8 * (length rs + length qs) + length (bodies rs) + length (bodies qs)
  psch_size =
      omega (arith, psch_length (rs ++ qs), length-append rs qs, ap length (bodies_append rs qs), length-append (bodies rs) (bodies qs))

  abbrev body : ℕ → ℕ → Bytes
  body to mid = (index_of to rs ++ index_of mid qs) ++ (bodies rs ++ bodies qs)

  psch_is : (n to mid end : ℕ) → length rs + length qs ≡ n → to ≡ 12 + 8 * n → mid ≡ to + length (bodies rs) → end ≡ mid + length (bodies qs)
      → words (PSCH ∷ end ∷ n ∷ []) ++ body to mid ≡ psch_bytes (rs ++ qs)
  unfolding psch_bytes
  psch_is n to mid end en et em ee =
      let l : length (rs ++ qs) ≡ n = length-append rs qs ∙ en in
      let t : 12 + 8 * length (rs ++ qs) ≡ to = omega (arith, l, et) in
      let z : 12 + 8 * length (rs ++ qs) + length (bodies (rs ++ qs)) ≡ end = omega (arith, t, em, ee, ap length (bodies_append rs qs), length-append (bodies rs) (bodies qs)) in
      let i : index_of (12 + 8 * length (rs ++ qs)) (rs ++ qs) ≡ index_of to rs ++ index_of mid qs =
      ap (λ (x : ℕ). index_of x (rs ++ qs)) t ∙ index_append to rs qs ∙ ap (λ (x : ℕ). index_of to rs ++ index_of x qs) (sym em) in
      sym (ap₂ (λ (x y : ℕ). words (PSCH ∷ x ∷ y ∷ []) ++ (index_of (12 + 8 * length (rs ++ qs)) (rs ++ qs) ++ bodies (rs ++ qs))) z l
      ∙ ap₂ (λ (x y : Bytes). words (PSCH ∷ end ∷ n ∷ []) ++ (x ++ y)) i (bodies_append rs qs))

  schema_put : (n to mid end second : ℕ) (o o1 o2 o3 o4 : Bytes) → length rs + length qs ≡ n → to ≡ 12 + 8 * n → mid ≡ to + length (bodies rs) → end ≡ mid + length (bodies qs)
      → second ≡ 12 + 8 * length rs → end ≤ length o → o1 ≡ over (over o 12 (index_of to rs)) to (bodies rs) → o2 ≡ over (over o1 second (index_of mid qs)) mid (bodies qs)
      → o3 ≡ over o2 0 (words (PSCH ∷ end ∷ [])) → o4 ≡ over o3 8 (bytes_of 4 n) → o4 ≡ over o 0 (psch_bytes (rs ++ qs))
  schema_put n to mid end second o o1 o2 o3 o4 en et em ee es h e1 e2 e3 e4 =
      let I1 : Bytes = index_of to rs in
      let I2 : Bytes = index_of mid qs in
      let J1 : Bytes = bodies rs in
      let J2 : Bytes = bodies qs in
      let X : Bytes = body to mid in
      let H : Bytes = words (PSCH ∷ end ∷ n ∷ []) in
      let l1 : length I1 ≡ 8 * length rs = index_length to rs in
      let l2 : length I2 ≡ 8 * length qs = index_length mid qs in
      let l12 : length (I1 ++ I2) ≡ 8 * n = length-append I1 I2 ∙ omega (arith, l1, l2, en) in
      let lh : length H ≡ 12 = length_words (PSCH ∷ end ∷ n ∷ []) in
      let s2 : o2 ≡ over (over o 12 (I1 ++ I2)) to (J1 ++ J2) =
      e2 ∙ ap (λ (x : Bytes). over (over x second I2) mid J2) e1
      ∙ over_both o 12 second to mid I1 I2 J1 J2 (omega (arith, l1, es)) (sym em) (omega (arith, l2, es, et, en)) (omega (arith, ee, h)) in
      let lx : to ≡ 12 + length (I1 ++ I2) = omega (arith, et, l12) in
      let s3 : o2 ≡ over o 12 X = s2 ∙ ap (λ (k : ℕ). over (over o 12 (I1 ++ I2)) k (J1 ++ J2)) lx ∙ over_seq o 12 (I1 ++ I2) (J1 ++ J2) (omega (arith, lx, em, ee, h)) in
      let l3 : length o2 ≡ length o = ap length s3 ∙ length_over o 12 X (omega (arith, length-append (I1 ++ I2) (J1 ++ J2), length-append J1 J2, lx, em, ee, h)) in
      let s4 : o4 ≡ over o2 0 H = words_behind o2 o3 o4 0 8 (PSCH ∷ end ∷ []) (n ∷ []) refl (omega (arith, l3, h, ee, em, et)) e3 (e4 ∙ ap (over o3 8) (sym (words_one n))) in
      let z : 0 + length H ≡ 12 = omega (arith, lh) in
      s4 ∙ ap (λ (x : Bytes). over x 0 H) s3 ∙ over_apart o 12 0 X H (omega (arith, lh)) (omega (arith, h, ee, em, et))
      ∙ ap (λ (k : ℕ). over (over o 0 H) k X) (sym z) ∙ over_seq o 0 H X (omega (arith, lh, h, ee, em, et)) ∙ ap (over o 0) (psch_is n to mid end en et em ee)

-- the records by the names in the work area
abbrev pub kind_records : Kind → Bytes → Round → Progress → Bytes → Records
kind_records k F R p w = records_for F k (used_names k R p w)

module _ (F : Bytes) (R : Round) (p : Progress) (w : Bytes) where
  pub used_count : length (kind_records Structure F R p w) + length (kind_records Enum F R p w) ≡ p.structs + p.enums
  used_count = omega (arith, count_records F w Structure 65536 p.structs, count_records F w Enum (65536 + 4 * R.entries) p.enums)

  pub used_size : length (psch_bytes (used_records F R p w)) ≡ 12 + 8 * (p.structs + p.enums) + length (bodies (kind_records Structure F R p w)) + length (bodies (kind_records Enum F R p w))
  used_size = omega (arith, psch_size (kind_records Structure F R p w) (kind_records Enum F R p w), used_count)

  pub used_put : (mid end : ℕ) (o o1 o2 o3 o4 : Bytes) → length (psch_bytes (used_records F R p w)) ≤ length o
      → (mid ≡ 12 + 8 * (p.structs + p.enums) + length (bodies (kind_records Structure F R p w)))
      × (o1 ≡ over (over o 12 (index_of (12 + 8 * (p.structs + p.enums)) (kind_records Structure F R p w))) (12 + 8 * (p.structs + p.enums)) (bodies (kind_records Structure F R p w)))
      → (end ≡ mid + length (bodies (kind_records Enum F R p w))) × (o2 ≡ over (over o1 (12 + 8 * p.structs) (index_of mid (kind_records Enum F R p w))) mid (bodies (kind_records Enum F R p w)))
      → o3 ≡ over o2 0 (words (PSCH ∷ end ∷ [])) → o4 ≡ over o3 8 (bytes_of 4 (p.structs + p.enums)) → o4 ≡ over o 0 (psch_bytes (used_records F R p w))
  used_put mid end o o1 o2 o3 o4 h a b e3 e4 =
      schema_put (kind_records Structure F R p w) (kind_records Enum F R p w) (p.structs + p.enums) (12 + 8 * (p.structs + p.enums)) mid end (12 + 8 * p.structs) o o1 o2 o3 o4
      used_count refl a.0 b.0 (omega (arith, count_records F w Structure 65536 p.structs)) (omega (arith, h, used_size, a.0, b.0)) a.1 b.1 e3 e4
