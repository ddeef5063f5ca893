-- The definitions that PSCH is written with are read back from it.
-- Assumes nothing.
use Prim.Native.Nat.{ℕ, zero, suc, ◌+◌, ◌*◌, ◌^◌, ◌≤◌, ◌<◌}
use native.Mathlib.Omega.{arith}
use mathlib.Core.Path.{◌≡◌, refl, sym, ◌∙◌, ap, ap₂, subst}
use mathlib.Core.Bool.{false}
use mathlib.Core.List.{List, [], ◌∷◌, ◌++◌, map}
use lib.ListN.{length, get_or, length-append, length-map}
use borrow.Author.Tests.{le-ltb}
use Rattle.numbers.specs.Words.{Bytes, read_at, bytes_of, words, Stands}
use Rattle.numbers.specs.Result.{Result, ok, and_then, map_result, Every}
use Rattle.numbers.proofs.Bytes.{all_of, left, next, behind, ends, head_at, read_at_law, word_at, length_bytes, length_words}
use Rattle.schema.specs.Sections.{PSCH}
use Rattle.schema.specs.Defs.{Member, StructDef, EnumDef, Schema}
use Rattle.schema.specs.Psch.{Def, structure, enumeration, member_at, members_at, entries_at, outside, struct_at, struct_here, enum_at, enum_here, def_at, defs_from, psch_of, add_def, schema_from}
use Rattle.schema.proofs.Three.{Headed}
use Rattle.schema.proofs.Bounds.{MemberFits, StructFits, EntryFits, EnumFits, DefFits, SchemaFits}
use Rattle.layout.specs.Assemble.{joined, member_bytes, struct_bytes, enum_bytes, Records, records_of, index_of, psch_bytes, bodies}

-- n things of k bytes that end in the section
inside : (P : Bytes) (k n at : ℕ) → at + k * n ≤ length P → outside P k n at ≡ false
inside P k zero at h = refl
inside P k (suc n) at h = le-ltb (length P) (at + k * suc n) h

-- members

member_length : (m : Member) → length (member_bytes m) ≡ 12
unfolding member_bytes bytes_of
member_length m = refl

member_back : (P : Bytes) (at : ℕ) (m : Member) → MemberFits m → Stands P at (member_bytes m) → member_at P at ≡ m
unfolding member_at member_bytes
member_back P at m f s =
    rw (
      head_at 4 m.name t1 P at f.name s,
      head_at 1 m.type t2 P (at + 4) f.type s1,
      head_at 1 m.subtype t3 P (at + 5) f.subtype s2,
      head_at 2 m.offset t4 P (at + 6) f.offset s3,
      read_at_law 4 m.reference P (at + 8) f.reference s4,
    )
  where
    t4 : Bytes
    t4 = bytes_of 4 m.reference

    t3 : Bytes
    t3 = bytes_of 2 m.offset ++ t4

    t2 : Bytes
    t2 = bytes_of 1 m.subtype ++ t3

    t1 : Bytes
    t1 = bytes_of 1 m.type ++ t2

    s1 : Stands P (at + 4) t1
    s1 = behind 4 m.name t1 P at (at + 4) refl s

    s2 : Stands P (at + 5) t2
    s2 = behind 1 m.type t2 P (at + 4) (at + 5) (omega arith) s1

    s3 : Stands P (at + 6) t3
    s3 = behind 1 m.subtype t3 P (at + 5) (at + 6) (omega arith) s2

    s4 : Stands P (at + 8) t4
    s4 = behind 2 m.offset t4 P (at + 6) (at + 8) (omega arith) s3

members_length : (ms : List Member) → length (joined (map member_bytes ms)) ≡ 12 * length ms
unfolding joined
members_length [] = refl
members_length (m ∷ ms) = omega (arith, length-append (member_bytes m) (joined (map member_bytes ms)), member_length m, members_length ms)

members_back : (P : Bytes) (at : ℕ) (ms : List Member) → Every MemberFits ms → Stands P at (joined (map member_bytes ms)) → members_at P (length ms) at ≡ ms
unfolding members_at joined
members_back P at [] f s = refl
members_back P at (m ∷ ms) f s =
    ap₂ (λ x l. x ∷ l) (member_back P at m f.0 (left P (member_bytes m) (joined (map member_bytes ms)) at s))
    (members_back P (at + 12) ms f.1 (next P (member_bytes m) (joined (map member_bytes ms)) at (at + 12) 12 (member_length m) refl s))

-- entries

abbrev pub entry_bytes : ℕ × ℕ → Bytes
entry_bytes e = words (e.0 ∷ e.1 ∷ [])

entries_length : (es : List (ℕ × ℕ)) → length (joined (map entry_bytes es)) ≡ 8 * length es
unfolding joined
entries_length [] = refl
entries_length (e ∷ es) = omega (arith, length-append (entry_bytes e) (joined (map entry_bytes es)), length_words (e.0 ∷ e.1 ∷ []), entries_length es)

entries_back : (P : Bytes) (at : ℕ) (es : List (ℕ × ℕ)) → Every EntryFits es → Stands P at (joined (map entry_bytes es)) → entries_at P (length es) at ≡ es
unfolding entries_at joined
entries_back P at [] f s = refl
entries_back P at (e ∷ es) f s =
    ap₂ (λ x l. x ∷ l) (ap₂ (λ x y. (x, y)) (word 0 at (omega arith) (omega arith)) (word 1 (at + 4) (omega arith) (omega arith)))
    (entries_back P (at + 8) es f.1 (next P (entry_bytes e) (joined (map entry_bytes es)) at (at + 8) 8 (length_words (e.0 ∷ e.1 ∷ [])) refl s))
  where
    word : (k j : ℕ) → k < 2 → at + 4 * k ≡ j → read_at 4 P j ≡ get_or (e.0 ∷ e.1 ∷ []) k 0
    word k j h q = word_at P at (e.0 ∷ e.1 ∷ []) (f.0.0, (f.0.1, tt)) (left P (entry_bytes e) (joined (map entry_bytes es)) at s) k j h q

-- a structure

module _ (d : StructDef) where
  abbrev ms : Bytes
  ms = joined (map member_bytes d.members)

  abbrev sized : Bytes
  sized = words (d.size ∷ 0 ∷ [])

  abbrev counted : Bytes
  counted = bytes_of 2 (length d.members) ++ (sized ++ ms)

  pub struct_length : length (struct_bytes d) ≡ 12 + 12 * length d.members
  unfolding struct_bytes
  struct_length =
      omega (
        arith,
        length-append (bytes_of 1 0) (bytes_of 1 d.unknown ++ counted),
        length-append (bytes_of 1 d.unknown) counted,
        length-append (bytes_of 2 (length d.members)) (sized ++ ms),
        length-append sized ms,
        length_bytes 1 0,
        length_bytes 1 d.unknown,
        length_bytes 2 (length d.members),
        length_words (d.size ∷ 0 ∷ []),
        members_length d.members,
      )

  struct_back : (P : Bytes) (at : ℕ) → StructFits d → Stands P at (struct_bytes d) → (read_at 1 P at ≡ 0) × (struct_at P d.name at ≡ ok (structure d))
  unfolding struct_at struct_here struct_bytes
  struct_back P at f s = (
    head_at 1 0 (bytes_of 1 d.unknown ++ counted) P at (omega arith) s,
    rw (q2, inside P 8 1 at (omega (arith, e)), inside P 12 (length d.members) (at + 12) (omega (arith, e)), q1, q4, qm),
  )
    where
      s1 : Stands P (at + 1) (bytes_of 1 d.unknown ++ counted)
      s1 = behind 1 0 (bytes_of 1 d.unknown ++ counted) P at (at + 1) refl s

      s2 : Stands P (at + 2) counted
      s2 = behind 1 d.unknown counted P (at + 1) (at + 2) (omega arith) s1

      s4 : Stands P (at + 4) (sized ++ ms)
      s4 = behind 2 (length d.members) (sized ++ ms) P (at + 2) (at + 4) (omega arith) s2

      s12 : Stands P (at + 12) ms
      s12 = next P sized ms (at + 4) (at + 12) 8 (length_words (d.size ∷ 0 ∷ [])) (omega arith) s4

      e : at + (12 + 12 * length d.members) ≤ length P
      e = omega (arith, ends P (struct_bytes d) at s, struct_length)

      q1 : read_at 1 P (at + 1) ≡ d.unknown
      q1 = head_at 1 d.unknown counted P (at + 1) f.unknown s1

      q2 : read_at 2 P (at + 2) ≡ length d.members
      q2 = head_at 2 (length d.members) (sized ++ ms) P (at + 2) f.count s2

      q4 : read_at 4 P (at + 4) ≡ d.size
      q4 = word_at P (at + 4) (d.size ∷ 0 ∷ []) (f.size, (omega arith, tt)) (left P sized ms (at + 4) s4) 0 (at + 4) (omega arith) (omega arith)

      qm : members_at P (length d.members) (at + 12) ≡ d.members
      qm = members_back P (at + 12) d.members f.members s12

-- an enum

module _ (d : EnumDef) where
  abbrev es : Bytes
  es = joined (map entry_bytes d.entries)

  pub enum_length : length (enum_bytes d) ≡ 4 + 8 * length d.entries
  unfolding enum_bytes
  enum_length =
      omega (
        arith,
        length-append (bytes_of 1 1) (bytes_of 3 (length d.entries) ++ es),
        length-append (bytes_of 3 (length d.entries)) es,
        length_bytes 1 1,
        length_bytes 3 (length d.entries),
        entries_length d.entries,
      )

  enum_back : (P : Bytes) (at : ℕ) → EnumFits d → Stands P at (enum_bytes d) → (read_at 1 P at ≡ 1) × (enum_at P d.name at ≡ ok (enumeration d))
  unfolding enum_at enum_here enum_bytes
  enum_back P at f s =
      (head_at 1 1 (bytes_of 3 (length d.entries) ++ es) P at (omega arith) s, rw (q1, inside P 8 (length d.entries) (at + 4) (omega (arith, e)), qe))
    where
      s1 : Stands P (at + 1) (bytes_of 3 (length d.entries) ++ es)
      s1 = behind 1 1 (bytes_of 3 (length d.entries) ++ es) P at (at + 1) refl s

      s4 : Stands P (at + 4) es
      s4 = behind 3 (length d.entries) es P (at + 1) (at + 4) (omega arith) s1

      e : at + (4 + 8 * length d.entries) ≤ length P
      e = omega (arith, ends P (enum_bytes d) at s, enum_length)

      q1 : read_at 3 P (at + 1) ≡ length d.entries
      q1 = head_at 3 (length d.entries) es P (at + 1) f.count s1

      qe : entries_at P (length d.entries) (at + 4) ≡ d.entries
      qe = entries_back P (at + 4) d.entries f.entries s4

-- definitions

-- a definition's name and bytes
unfoldable pub record_of : Def → ℕ × Bytes
record_of (structure d) = (d.name, struct_bytes d)
record_of (enumeration d) = (d.name, enum_bytes d)

name_fits : (d : Def) → DefFits d → (record_of d).0 < 256 ^ 4
unfolding record_of
name_fits (structure d) f = f.name
name_fits (enumeration d) f = f.name

def_back : (P : Bytes) (at : ℕ) (d : Def) → DefFits d → Stands P at (record_of d).1 → def_at P (record_of d).0 at ≡ ok d
unfolding def_at record_of
def_back P at (structure d) f s =
    let (q, r) = struct_back d P at f s in
    rw (inside P 4 1 at (omega (arith, ends P (struct_bytes d) at s, struct_length d)), q, r)
def_back P at (enumeration d) f s =
    let (q, r) = enum_back d P at f s in
    rw (inside P 4 1 at (omega (arith, ends P (enum_bytes d) at s, enum_length d)), q, r)

glue : (r : Result Def) (s : Result (List Def)) (d : Def) (ds : List Def) → r ≡ ok d → s ≡ ok ds → and_then r (λ x. map_result (x ∷◌) s) ≡ ok (d ∷ ds)
unfolding and_then map_result
glue r s d ds e f = rw (e, f)

defs_back : (P : Bytes) (ds : List Def) (i at : ℕ) → Every DefFits ds → length P < 256 ^ 4
    → Stands P i (index_of at (map record_of ds)) → Stands P at (bodies (map record_of ds)) → defs_from P (length ds) i ≡ ok ds
unfolding defs_from index_of joined
defs_back P [] i at f h s t = refl
defs_back P (d ∷ ds) i at f h s t =
    glue (def_at P (read_at 4 P i) (read_at 4 P (i + 4))) (defs_from P (length ds) (i + 8)) d ds
    (rw (word 0 i (omega arith) (omega arith), word 1 (i + 4) (omega arith) (omega arith)) (def_back P at d f.0 (left P r.1 (bodies rs) at t)))
    (defs_back P ds (i + 8) (at + length r.1) f.1 h
    (next P (words ws) (index_of (at + length r.1) rs) i (i + 8) 8 (length_words ws) refl s)
    (next P r.1 (bodies rs) at (at + length r.1) (length r.1) refl refl t))
  where
    r : ℕ × Bytes
    r = record_of d

    rs : Records
    rs = map record_of ds

    ws : List ℕ
    ws = r.0 ∷ at ∷ []

    low : at < 256 ^ 4
    low = omega (arith, h, ends P (r.1 ++ bodies rs) at t)

    word : (k j : ℕ) → k < 2 → i + 4 * k ≡ j → read_at 4 P j ≡ get_or ws k 0
    word k j g q = word_at P i ws (name_fits d f.0, (low, tt)) (left P (words ws) (index_of (at + length r.1) rs) i s) k j g q

pub index_length : (at : ℕ) (rs : Records) → length (index_of at rs) ≡ 8 * length rs
unfolding index_of
index_length at [] = refl
index_length at (r ∷ rs) =
    omega (
      arith,
      length-append (words (r.0 ∷ at ∷ [])) (index_of (at + length r.1) rs),
      length_words (r.0 ∷ at ∷ []),
      index_length (at + length r.1) rs,
    )

-- the section

module _ (rs : Records) where
  abbrev first : ℕ
  first = 12 + 8 * length rs

  abbrev heads : List ℕ
  heads = PSCH ∷ (12 + 8 * length rs + length (bodies rs)) ∷ length rs ∷ []

  pub psch_length : length (psch_bytes rs) ≡ 12 + 8 * length rs + length (bodies rs)
  unfolding psch_bytes
  psch_length =
      omega (
        arith,
        length-append (words heads) (index_of first rs ++ bodies rs),
        length-append (index_of first rs) (bodies rs),
        length_words heads,
        index_length first rs,
      )

module _ (rs : Records) (h : length (psch_bytes rs) < 256 ^ 4) where
  psch_word : (k j : ℕ) → k < 3 → 0 + 4 * k ≡ j → read_at 4 (psch_bytes rs) j ≡ get_or (heads rs) k 0
  unfolding psch_bytes
  psch_word k j g q =
      word_at (psch_bytes rs) 0 (heads rs) (omega arith, (omega (arith, h, psch_length rs), (omega (arith, h, psch_length rs), tt)))
      (left (psch_bytes rs) (words (heads rs)) (index_of (first rs) rs ++ bodies rs) 0 (all_of (psch_bytes rs))) k j g q

  psch_rest : Stands (psch_bytes rs) 12 (index_of (first rs) rs ++ bodies rs)
  unfolding psch_bytes
  psch_rest = next (psch_bytes rs) (words (heads rs)) (index_of (first rs) rs ++ bodies rs) 0 12 12 (length_words (heads rs)) refl (all_of (psch_bytes rs))

  psch_index : Stands (psch_bytes rs) 12 (index_of (first rs) rs)
  psch_index = left (psch_bytes rs) (index_of (first rs) rs) (bodies rs) 12 psch_rest

  psch_bodies : Stands (psch_bytes rs) (first rs) (bodies rs)
  psch_bodies = next (psch_bytes rs) (index_of (first rs) rs) (bodies rs) 12 (first rs) (8 * length rs) (index_length (first rs) rs) refl psch_rest

  pub psch_headed : Headed PSCH (psch_bytes rs)
  psch_headed =
      record {
        named = psch_word 0 0 (omega arith) (omega arith);
        measured = psch_word 1 4 (omega arith) (omega arith) ∙ sym (psch_length rs);
        eight = omega (arith, psch_length rs);
      }

  psch_count : read_at 4 (psch_bytes rs) 8 ≡ length rs
  psch_count = psch_word 2 8 (omega arith) (omega arith)

  psch_opens : (n : ℕ) → n ≡ length rs → psch_of (psch_bytes rs) ≡ defs_from (psch_bytes rs) n 12
  unfolding psch_of
  psch_opens n e =
      rw (psch_count, inside (psch_bytes rs) 12 1 0 (omega (arith, psch_length rs)), inside (psch_bytes rs) 8 (length rs) 12 (omega (arith, psch_length rs)), e)

-- what PSCH is written with
pub psch_back : (ds : List Def) → Every DefFits ds → length (psch_bytes (map record_of ds)) < 256 ^ 4 → psch_of (psch_bytes (map record_of ds)) ≡ ok ds
psch_back ds f h =
    let rs = map record_of ds in
    psch_opens rs h (length ds) (sym (length-map ds record_of)) ∙ defs_back (psch_bytes rs) ds 12 (first rs) f h (psch_index rs h) (psch_bodies rs h)

-- "used structures, used enums"

-- the definitions of a schema, structures then enums
unfoldable pub listed : Schema → List Def
listed S = map structure S.structs ++ map enumeration S.enums

enums_recorded : (ds : List EnumDef) → map (λ d. (d.name, enum_bytes d)) ds ≡ map record_of (map enumeration ds)
unfolding record_of
enums_recorded [] = refl
enums_recorded (d ∷ ds) = ap (λ l. (d.name, enum_bytes d) ∷ l) (enums_recorded ds)

structs_recorded : (ds : List StructDef) (l : List Def) → map (λ d. (d.name, struct_bytes d)) ds ++ map record_of l ≡ map record_of (map structure ds ++ l)
unfolding record_of
structs_recorded [] l = refl
structs_recorded (d ∷ ds) l = ap (λ k. (d.name, struct_bytes d) ∷ k) (structs_recorded ds l)

pub recorded : (S : Schema) → records_of S ≡ map record_of (listed S)
unfolding records_of listed
recorded S =
    ap (λ l. map (λ d. (d.name, struct_bytes d)) S.structs ++ l) (enums_recorded S.enums) ∙ structs_recorded S.structs (map enumeration S.enums)

enums_listed : (ds : List EnumDef) → schema_from (map enumeration ds) ≡ record { structs = []; enums = ds }
unfolding schema_from
enums_listed [] = refl
enums_listed (d ∷ ds) = ap (add_def (enumeration d)) (enums_listed ds)

structs_listed : (ds : List StructDef) (l : List Def) (fs : List EnumDef) → schema_from l ≡ record { structs = []; enums = fs }
    → schema_from (map structure ds ++ l) ≡ record { structs = ds; enums = fs }
unfolding schema_from
structs_listed [] l fs e = e
structs_listed (d ∷ ds) l fs e = ap (add_def (structure d)) (structs_listed ds l fs e)

-- structures and enums apart again
pub apart : (S : Schema) → schema_from (listed S) ≡ S
unfolding listed
apart S = structs_listed S.structs (map enumeration S.enums) S.enums (enums_listed S.enums)

enums_fit : (ds : List EnumDef) → Every EnumFits ds → Every DefFits (map enumeration ds)
enums_fit [] f = tt
enums_fit (d ∷ ds) f = (f.0, enums_fit ds f.1)

structs_fit : (ds : List StructDef) (l : List Def) → Every StructFits ds → Every DefFits l → Every DefFits (map structure ds ++ l)
structs_fit [] l f g = g
structs_fit (d ∷ ds) l f g = (f.0, structs_fit ds l f.1 g)

-- PSCH of a schema whose numbers fit is read as its definitions, structures then enums
pub psch_reads : (S : Schema) → SchemaFits S → length (psch_bytes (records_of S)) < 256 ^ 4 → psch_of (psch_bytes (records_of S)) ≡ ok (listed S)
unfolding listed
psch_reads S f h =
    subst (λ rs. length (psch_bytes rs) < 256 ^ 4 → psch_of (psch_bytes rs) ≡ ok (listed S)) (sym (recorded S))
    (psch_back (listed S) (structs_fit S.structs (map enumeration S.enums) f.structs (enums_fit S.enums f.enums))) h
