-- What the code reads from a place on: the numbers of a structure, of a member, of an entry. Assumes nothing.
use mathlib.Core.Path.{◌≡◌, sym, ap, ◌∙◌}
use mathlib.Core.Logic.{◌⊎◌, inl, inr}
use Prim.Native.Nat.{ℕ, ◌+◌, ◌-◌, ◌≤◌, ◌<◌, min}
use native.Mathlib.Omega.{arith}
use lib.ListN.{length, take, drop, drop_of_length-le}
use lib.Seq.{drop-drop}
use Rattle.numbers.specs.Words.{Bytes, number, read_at}
use Rattle.numbers.proofs.Parts.{split, read_part}
use Rattle.schema.specs.Psch.{member_at}
use Rattle.definitions.specs.Answers.{head_here, member_is, entry_here}
use Rattle.definitions.specs.declared.members.Head.{Head}
use Rattle.definitions.specs.declared.members.Member.{Member}

-- a sum that is cut off lies behind the last byte
pub from_sum : (F H : Bytes) (s a b : ℕ) → H ≡ drop s F → s ≡ min a 18446744073709551615 → length F ≤ 18446744073709551615 → a ≡ b → H ≡ drop b F
from_sum F H s a b h e l q = go (split a 18446744073709551615)
  where
    go : (a < 18446744073709551615) ⊎ (18446744073709551615 ≤ a) → H ≡ drop b F
    go (inl x) =
        let y : s ≡ b = omega arith in
        rw (← y) h
    go (inr x) = h ∙ drop_of_length-le F (omega arith) ∙ sym (drop_of_length-le F (omega arith))

-- of an index entry's eight bytes: its name, and the place that it leads to
module _ (P : Bytes) (at : ℕ) where
  abbrev entry : Bytes
  entry = take (at + 8 - at) (drop at P)

  in_entry : (i : ℕ) → i + 4 ≤ 8 → read_at 4 entry i ≡ read_at 4 P (at + i)
  in_entry i h =
      let n : at + 8 - at ≡ 8 = omega arith in
      rw n (read_part 4 P at 8 i h)

  pub entry_name : read_at 4 (take (at + 8 - at) (drop at P)) 0 ≡ read_at 4 P at
  entry_name =
      let z : at + 0 ≡ at = omega arith in
      in_entry 0 (omega arith) ∙ ap (read_at 4 P) z

  pub entry_place : read_at 4 (take (at + 8 - at) (drop at P)) 4 ≡ read_at 4 P (at + 4)
  entry_place = in_entry 4 (omega arith)

-- the numbers that were read in what was cut off behind a place
module _ (F : Bytes) (at : ℕ) (H G : Bytes) (g : G ≡ drop at F) where
  pub head_is : (r : Head) → r ≡ head_here H 0 → H ≡ take 8 G → r ≡ head_here F at
  head_is r e h = rw (e, h, g, read_part 1 F at 8 1 (omega arith), read_part 2 F at 8 2 (omega arith), read_part 4 F at 8 4 (omega arith))

  pub member_here : (r : Member) → r ≡ member_is (member_at H 0) → H ≡ take 12 G → r ≡ member_is (member_at F at)
  unfolding member_at
  member_here r e h =
      let z : at + 0 ≡ at = omega arith in
      rw (e, h, g, read_part 4 F at 12 0 (omega arith), read_part 1 F at 12 4 (omega arith), read_part 1 F at 12 5 (omega arith), read_part 2 F at 12 6 (omega arith), read_part 4 F at 12 8 (omega arith), z)

module _ (F : Bytes) (at : ℕ) (H : Bytes) (h : H ≡ drop at F) where
  -- read behind the place
  pub behind : (k i : ℕ) → read_at k H i ≡ read_at k F (at + i)
  unfolding read_at
  behind k i = ap (λ (x : Bytes). number 0 (take k x)) (ap (drop i) h ∙ drop-drop i at F)

  pub entry_is_law : (n v : ℕ) → n ≡ read_at 4 H 0 → v ≡ read_at 4 H 4 → record { name = n; value = v } ≡ entry_here F at
  entry_is_law n v a b =
      let z : at + 0 ≡ at = omega arith in
      rw (a, b, behind 4 0, behind 4 4, z)
