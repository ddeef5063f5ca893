-- A definition's bytes are those that stand in the schema file, but for the 4 before a structure's members. Assumes nothing.
use Rattle.schema.specs.declared.kind.Kind.{Kind}
use Rattle.schema.specs.declared.kind.Kind.TheVariants.{Structure, Enum}
use Rattle.std.specs.Prelude.{Option, Some, None, unwrap_or, option_map}
use Prim.Native.Nat.{ℕ, zero, suc, ◌+◌, ◌-◌, ◌*◌, ◌≤◌, ◌<◌}
use native.Mathlib.Omega.{arith}
use mathlib.Core.Path.{◌≡◌, refl, sym, ◌∙◌, ap, ap₂, subst}
use mathlib.Core.List.{[], ◌++◌, map, append_assoc, append-nil}
use lib.ListN.{length, take, drop, length-append, length-drop}
use lib.Seq.{take-add, drop-drop, length-take-le}
use Rattle.numbers.specs.Words.{Bytes, read_at, bytes_of, words, over, Octets}
use Rattle.numbers.proofs.Bytes.{octets_take, octets_drop, bytes_number, length_bytes}
use Rattle.schema.specs.Psch.{member_at, members_at, entries_at, struct_here, enum_here}
use Rattle.schema.specs.Index.{last_place}
use Rattle.schema.specs.Steps.{kind_number}
use Rattle.schema.proofs.Places.{struct_count, enum_count}
use Rattle.layout.specs.Assemble.{joined, member_bytes, struct_bytes, enum_bytes}
use Rattle.layout.proofs.ReadDefs.{struct_length, enum_length, entry_bytes}
use Rattle.area.proofs.Over.{over_seq}
use Rattle.psch.specs.Used.{definition_at, body_of, Lies, Stored}

-- lengths

pub struct_size : (F : Bytes) (at : ℕ) → length (definition_at F Structure at) ≡ 12 + 12 * read_at 2 F (at + 2)
struct_size F at = omega (arith, struct_length (struct_here F 0 at), struct_count F 0 at)

pub enum_size_law : (F : Bytes) (at : ℕ) → length (definition_at F Enum at) ≡ 4 + 8 * read_at 3 F (at + 1)
enum_size_law F at = omega (arith, enum_length (enum_here F 0 at), enum_count F 0 at)

-- a paste behind a paste
pub over_next : (o o1 o2 : Bytes) (p q : ℕ) (a b : Bytes) → o1 ≡ over o p a → o2 ≡ over o1 q b → q ≡ p + length a → p + length a ≤ length o → o2 ≡ over o p (a ++ b)
over_next o o1 o2 p q a b e1 e2 eq h = e2 ∙ ap (λ (x : Bytes). over x q b) e1 ∙ ap (λ (k : ℕ). over (over o p a) k b) eq ∙ over_seq o p a b h

-- k bytes from a place on
abbrev cut : Bytes → ℕ → ℕ → Bytes
cut F k at = take k (drop at F)

module _ (F : Bytes) (o : Octets F) where
  -- they are those of their number
  cut_is : (k at : ℕ) → at + k ≤ length F → cut F k at ≡ bytes_of k (read_at k F at)
  unfolding read_at
  cut_is k at h =
      let l : length (cut F k at) ≡ k = length-take-le k (drop at F) (omega (arith, length-drop at F)) in
      sym (ap (λ (n : ℕ). bytes_of n (read_at k F at)) (sym l) ∙ bytes_number (cut F k at) (octets_take k (drop at F) (octets_drop at F o)))

  cut_two : (j k at to : ℕ) → at + j ≡ to → cut F (j + k) at ≡ cut F j at ++ cut F k to
  cut_two j k at to e = take-add j k (drop at F) ∙ ap (λ (x : Bytes). cut F j at ++ take k x) (drop-drop j at F ∙ ap (λ (n : ℕ). drop n F) e)

  -- a number, and what stands behind it
  cut_head : (j k at to : ℕ) → at + j ≡ to → to ≤ length F → cut F (j + k) at ≡ bytes_of j (read_at j F at) ++ cut F k to
  cut_head j k at to e h = cut_two j k at to e ∙ ap (λ (x : Bytes). x ++ cut F k to) (cut_is j at (omega (arith, e, h)))

  member_cut : (at : ℕ) → at + 12 ≤ length F → cut F 12 at ≡ member_bytes (member_at F at)
  unfolding member_bytes member_at
  member_cut at h =
      cut_head 4 8 at (at + 4) refl (omega arith)
      ∙ ap (λ (x : Bytes). bytes_of 4 (read_at 4 F at) ++ x)
      (cut_head 1 7 (at + 4) (at + 5) (omega arith) (omega arith)
      ∙ ap (λ (x : Bytes). bytes_of 1 (read_at 1 F (at + 4)) ++ x)
      (cut_head 1 6 (at + 5) (at + 6) (omega arith) (omega arith)
      ∙ ap (λ (x : Bytes). bytes_of 1 (read_at 1 F (at + 5)) ++ x)
      (cut_head 2 4 (at + 6) (at + 8) (omega arith) (omega arith)
      ∙ ap (λ (x : Bytes). bytes_of 2 (read_at 2 F (at + 6)) ++ x) (cut_is 4 (at + 8) (omega arith)))))

  members_cut : (n at : ℕ) → (0 < n → at + 12 * n ≤ length F) → cut F (12 * n) at ≡ joined (map member_bytes (members_at F n at))
  unfolding joined members_at
  members_cut zero at h = refl
  members_cut (suc n) at h =
      let f : at + 12 * suc n ≤ length F = h (omega arith) in
      let e : 12 * suc n ≡ 12 + 12 * n = omega arith in
      ap (λ (k : ℕ). cut F k at) e ∙ cut_two 12 (12 * n) at (at + 12) refl
      ∙ ap₂ (λ (x y : Bytes). x ++ y) (member_cut at (omega (arith, f))) (members_cut n (at + 12) (λ _. omega (arith, f)))

  entry_cut : (at : ℕ) → at + 8 ≤ length F → cut F 8 at ≡ entry_bytes (read_at 4 F at, read_at 4 F (at + 4))
  unfolding words
  entry_cut at h =
      cut_head 4 4 at (at + 4) refl (omega arith) ∙ ap (λ (x : Bytes). bytes_of 4 (read_at 4 F at) ++ x) (cut_is 4 (at + 4) (omega arith) ∙ sym (append-nil (bytes_of 4 (read_at 4 F (at + 4)))))

  entries_cut : (n at : ℕ) → (0 < n → at + 8 * n ≤ length F) → cut F (8 * n) at ≡ joined (map entry_bytes (entries_at F n at))
  unfolding joined entries_at
  entries_cut zero at h = refl
  entries_cut (suc n) at h =
      let f : at + 8 * suc n ≤ length F = h (omega arith) in
      let e : 8 * suc n ≡ 8 + 8 * n = omega arith in
      ap (λ (k : ℕ). cut F k at) e ∙ cut_two 8 (8 * n) at (at + 8) refl
      ∙ ap₂ (λ (x y : Bytes). x ++ y) (entry_cut at (omega (arith, f))) (entries_cut n (at + 8) (λ _. omega (arith, f)))

  -- an enum is copied whole
  enum_cut : (at : ℕ) → Lies F Enum at → cut F (4 + 8 * read_at 3 F (at + 1)) at ≡ definition_at F Enum at
  unfolding enum_bytes enum_here
  enum_cut at l =
      let n = read_at 3 F (at + 1) in
      let s = l.within.starts in
      let e : 4 + 8 * n ≡ 1 + (3 + 8 * n) = omega arith in
      ap (λ (k : ℕ). cut F k at) e ∙ cut_head 1 (3 + 8 * n) at (at + 1) refl (omega (arith, s))
      ∙ ap₂ (λ (x : ℕ) (y : Bytes). bytes_of 1 x ++ y) l.top
      (cut_head 3 (8 * n) (at + 1) (at + 4) (omega arith) (omega (arith, s))
      ∙ ap₂ (λ (x : ℕ) (y : Bytes). bytes_of 3 x ++ y) (sym (enum_count F 0 at)) (entries_cut n (at + 4) (l.within.entries refl)))

  -- a structure in two parts, with a zero between them
  struct_cut : (at : ℕ) → Lies F Structure at → cut F 8 at ++ (bytes_of 4 0 ++ cut F (12 * read_at 2 F (at + 2)) (at + 12)) ≡ definition_at F Structure at
  unfolding struct_bytes struct_here words
  struct_cut at l =
      let n = read_at 2 F (at + 2) in
      let s = l.within.head refl in
      let M : Bytes = cut F (12 * n) (at + 12) in
      let a : cut F 8 at ≡ bytes_of 1 0 ++ (bytes_of 1 (read_at 1 F (at + 1)) ++ (bytes_of 2 n ++ bytes_of 4 (read_at 4 F (at + 4)))) =
      cut_head 1 7 at (at + 1) refl (omega (arith, s))
      ∙ ap₂ (λ (x : ℕ) (y : Bytes). bytes_of 1 x ++ y) l.top
      (cut_head 1 6 (at + 1) (at + 2) (omega arith) (omega (arith, s))
      ∙ ap (λ (y : Bytes). bytes_of 1 (read_at 1 F (at + 1)) ++ y)
      (cut_head 2 4 (at + 2) (at + 4) (omega arith) (omega (arith, s))
      ∙ ap (λ (y : Bytes). bytes_of 2 n ++ y) (cut_is 4 (at + 4) (omega (arith, s))))) in
      ap (λ (x : Bytes). x ++ (bytes_of 4 0 ++ M)) a
      ∙ regroup (bytes_of 1 0) (bytes_of 1 (read_at 1 F (at + 1))) (bytes_of 2 n) (bytes_of 4 (read_at 4 F (at + 4))) (bytes_of 4 0) M
      ∙ ap₂ (λ (k : ℕ) (y : Bytes). bytes_of 1 0 ++ (bytes_of 1 (read_at 1 F (at + 1)) ++ (bytes_of 2 k ++ ((bytes_of 4 (read_at 4 F (at + 4)) ++ (bytes_of 4 0 ++ [])) ++ y))))
      (sym (struct_count F 0 at)) (members_cut n (at + 12) (l.within.members refl))
    where
      regroup : (a b c d z m : Bytes) → (a ++ (b ++ (c ++ d))) ++ (z ++ m) ≡ a ++ (b ++ (c ++ ((d ++ (z ++ [])) ++ m)))
      regroup a b c d z m = simp (append_assoc, append-nil)

-- what `put_definition` wrote

module _ (F : Bytes) (o : Octets F) (at len to : ℕ) where
  enum_put : Lies F Enum at → len ≡ length (definition_at F Enum at) → (b b1 : Bytes) → b1 ≡ over b to (cut F len at) → b1 ≡ over b to (definition_at F Enum at)
  enum_put l e b b1 e1 = e1 ∙ ap (over b to) (ap (λ (k : ℕ). cut F k at) (e ∙ enum_size_law F at) ∙ enum_cut F o at l)

  struct_put : Lies F Structure at → len ≡ length (definition_at F Structure at) → (b b1 b2 b3 : Bytes) → to + len ≤ length b
      → b1 ≡ over b to (cut F 8 at) → b2 ≡ over b1 (to + 8) (bytes_of 4 0) → b3 ≡ over b2 (to + 12) (cut F (len - 12) (at + 12)) → b3 ≡ over b to (definition_at F Structure at)
  struct_put l e b b1 b2 b3 h e1 e2 e3 =
      let A : Bytes = cut F 8 at in
      let Z : Bytes = bytes_of 4 0 in
      let M : Bytes = cut F (len - 12) (at + 12) in
      let g : 12 ≤ len = omega (arith, e, struct_size F at) in
      let n : len - 12 ≡ 12 * read_at 2 F (at + 2) = omega (arith, e, struct_size F at) in
      let la : length A ≡ 8 = length-take-le 8 (drop at F) (omega (arith, length-drop at F, l.within.head refl)) in
      let lz : length Z ≡ 4 = length_bytes 4 0 in
      let s2 : b2 ≡ over b to (A ++ Z) = over_next b b1 b2 to (to + 8) A Z e1 e2 (omega (arith, la)) (omega (arith, la, h, g)) in
      let laz : length (A ++ Z) ≡ 12 = length-append A Z ∙ omega (arith, la, lz) in
      let s3 : b3 ≡ over b to ((A ++ Z) ++ M) = over_next b b2 b3 to (to + 12) (A ++ Z) M s2 e3 (omega (arith, laz)) (omega (arith, laz, h, g)) in
      s3 ∙ ap (over b to) (append_assoc A Z M ∙ ap (λ (k : ℕ). A ++ (Z ++ cut F k (at + 12))) n ∙ struct_cut F o at l)

  pub enum_written : (k : Kind) → k ≡ Enum → Lies F k at → len ≡ length (definition_at F k at) → (b b1 : Bytes) → b1 ≡ over b to (cut F len at) → b1 ≡ over b to (definition_at F k at)
  enum_written k q l e b b1 e1 = rw q (enum_put (rw q at l) (rw q at e) b b1 e1)

  pub struct_written : (k : Kind) → k ≡ Structure → Lies F k at → len ≡ length (definition_at F k at) → (b b1 b2 b3 : Bytes) → to + len ≤ length b
      → b1 ≡ over b to (cut F 8 at) → b2 ≡ over b1 (to + 8) (bytes_of 4 0) → b3 ≡ over b2 (to + 12) (cut F (len - 12) (at + 12)) → b3 ≡ over b to (definition_at F k at)
  struct_written k q l e b b1 b2 b3 h e1 e2 e3 = rw q (struct_put (rw q at l) (rw q at e) b b1 b2 b3 h e1 e2 e3)

-- what a search says of a name's definition
module _ (F : Bytes) (k : Kind) (name : ℕ) (r : Option ℕ) (e : r ≡ last_place F (kind_number k) name) where
  pub body_at : (place : ℕ) → r ≡ Some place → body_of F k name ≡ definition_at F k place
  body_at place q = ap (λ (o : Option ℕ). unwrap_or (option_map (definition_at F k) o) []) (sym e ∙ q)

  module _ (s : Stored F k name) where
    pub stored_lies : (place : ℕ) → r ≡ Some place → Lies F k place
    stored_lies place q =
        let f : Some place ≡ Some s.place = sym q ∙ e ∙ s.found in
        let g : s.place ≡ place = cc in
        subst (Lies F k) g s.lies

    pub stored_found : r ≡ None → ⊥
    stored_found q =
        let f : None ≡ Some s.place = sym q ∙ e ∙ s.found in
        let z : ◌≡◌ {A = ℕ} 0 1 = cc in omega arith
