-- Look-up by name in any file, by the places of its index entries.
use Rattle.std.specs.Prelude.{ℕ, zero, suc, ◌+◌, ◌-◌, ◌/◌, min, Bool, true, false, cond, ◌&&◌, List, [], ◌∷◌, ◌++◌, map, ltb, eqb, length, Option, Some, None}
use Rattle.std.specs.Option.{option_or}
use Rattle.numbers.specs.Words.{Bytes, read_at}
use Rattle.schema.specs.Sections.{Sections, section, end, broken, PSCH, sections}

-- how many index entries of a PSCH section lie in it
abbrev pub index_count : Bytes → ℕ
index_count P = min (read_at 4 P 8) ((length P - 12) / 8)

-- "An index entry is name and place in the section": the one at `at` has the name, and at its place stands the kind (0 a structure, 1 an enum)
abbrev pub leads_to : Bytes → ℕ → ℕ → ℕ → Bool
leads_to P kind name at =
    eqb (read_at 4 P at) name && (ltb (read_at 4 P (at + 4)) (length P) && eqb (read_at 1 P (read_at 4 P (at + 4))) kind)

-- with a in front where the test passes
abbrev pub kept : {A : Type 0} → Bool → A → List A → List A
kept true a l = a ∷ l
kept false a l = l

-- the places that n index entries from `at` on lead to
unfoldable pub places_from : Bytes → ℕ → ℕ → ℕ → ℕ → List ℕ
places_from P kind name zero at = []
places_from P kind name (suc n) at = kept (leads_to P kind name at) (read_at 4 P (at + 4)) (places_from P kind name n (at + 8))

-- .. of a PSCH section
abbrev pub places_in : Bytes → ℕ → ℕ → List ℕ
places_in P kind name = places_from P kind name (index_count P) 12

-- .. of a section; any other than PSCH has none
unfoldable pub section_places : ℕ → Bytes → ℕ → ℕ → List ℕ
section_places ident P kind name = cond (eqb ident PSCH) (places_in P kind name) []

-- .. of all sections, as places in the file, where the first of them stands at `at`
unfoldable pub places_of : ℕ → ℕ → Sections → ℕ → List ℕ
places_of kind name end at = []
places_of kind name broken at = []
places_of kind name (section ident P ss) at = map (at +◌) (section_places ident P kind name) ++ places_of kind name ss (at + length P)

-- the first of a list
unfoldable pub first_of : {A : Type 0} → List A → Option A
first_of [] = None
first_of (a ∷ l) = Some a

-- the last of a list
unfoldable pub last_of : {A : Type 0} → List A → Option A
last_of [] = None
last_of (a ∷ l) = option_or (last_of l) (Some a)

-- where the definition stands that building finds
unfoldable pub last_place : Bytes → ℕ → ℕ → Option ℕ
last_place F kind name = last_of (places_of kind name (sections F) 0)

-- where the definition stands that the reader finds
unfoldable pub first_place : Bytes → ℕ → ℕ → Option ℕ
first_place F kind name = first_of (places_of kind name (sections F) 0)
