-- The check: how many definitions there are, turn by turn. Assumes nothing.
use mathlib.Core.Path.{◌≡◌, refl, sym, ap, ◌∙◌}
use mathlib.Core.Bool.{Bool, true, false, cond, ◌||◌}
use mathlib.Core.List.{List, [], ◌∷◌, ◌++◌}
use Rattle.std.specs.Prelude.{Ok, Err}
use Prim.Native.Nat.{ℕ, zero, suc, ◌+◌, ◌-◌, ◌*◌, ◌≤◌, ◌<◌}
use native.Mathlib.Omega.{arith}
use lib.Dec.{eqb}
use lib.ListN.{length, length-append}
use Rattle.numbers.specs.Words.{Bytes, read_at}
use Rattle.numbers.specs.Result.{Result, ok, refused, and_then, map_result}
use Rattle.schema.specs.Sections.{Sections, section, end, broken, sections, PSCH}
use Rattle.schema.specs.Defs.{index_entries}
use Rattle.schema.specs.Psch.{Def, structure, enumeration, past, outside, def_at, defs_from, psch_of, section_defs, defs_of, schema_from, schema_of}
use Rattle.schema.specs.Steps.{rest, kind_number, def_here, judged}
use Rattle.numbers.specs.Refusal.{number_of}
use Rattle.numbers.specs.declared.refusal.Refusal.{Refusal}
use Rattle.schema.specs.declared.kind.Kind.{Kind}
use Rattle.schema.proofs.Judge.{inside, Refuses}
use Rattle.schema.proofs.Walk.{rest_all}

-- i definitions and those that are left
abbrev pub more : ℕ → List Def → ℕ
more i ds = i + length ds

none_more : (X : Result (List Def)) → map_result (more 0) X ≡ map_result length X
unfolding map_result
none_more (ok ds) =
    let e : 0 + length ds ≡ length ds = omega arith in
    ap ok e
none_more (refused n) = refl

-- ---- a PSCH section
module _ (P : Bytes) where
  abbrev whole : Result ℕ
  whole = map_result length (psch_of P)

  pub psch_short : (e : Refusal) → Refuses (past P 1 12) e → refused (number_of e) ≡ whole
  unfolding psch_of map_result
  psch_short e r = rw (r.past, r.five, psch_of)

  module _ (h : past P 1 12 ≡ false) (n : ℕ) (q : n ≡ read_at 4 P 8) where
    pub psch_past : (e : Refusal) → Refuses (past P n (12 + 8 * n)) e → refused (number_of e) ≡ whole
    unfolding psch_of map_result
    psch_past e r = rw (h, ← q, r.past, r.five, psch_of)

    psch_goes : past P n (12 + 8 * n) ≡ false → psch_of P ≡ defs_from P n 12
    unfolding psch_of
    psch_goes r = rw (h, ← q, r, psch_of)

    pub begin : past P n (12 + 8 * n) ≡ false → map_result (more 0) (defs_from P (n - 0) (12 + 8 * 0)) ≡ whole
    begin r =
        let z : n - 0 ≡ n = omega arith in
        rw (z, ← psch_goes r) (none_more (psch_of P))

  module _ (n i place : ℕ) (lt : i < n) (b : place ≡ read_at 4 P (12 + 8 * i + 4)) (g : map_result (more i) (defs_from P (n - i) (12 + 8 * i)) ≡ whole) where
    left : n - i ≡ suc (n - (i + 1))
    left = omega arith

    one_more : (X : Result Def) (d : Def) (Y : Result (List Def)) → X ≡ ok d → map_result (more i) (and_then X (λ a. map_result (a ∷◌) Y)) ≡ map_result (more (i + 1)) Y
    unfolding and_then map_result
    one_more X d (ok ds) e =
        let f : i + suc (length ds) ≡ i + 1 + length ds = omega arith in
        rw e (ap ok f)
    one_more X d (refused n) e = rw e

    pub turn : (k : Kind) → ((name : ℕ) → def_at P name place ≡ judged P name place (Ok k)) → map_result (more (i + 1)) (defs_from P (n - (i + 1)) (12 + 8 * (i + 1))) ≡ whole
    unfolding defs_from map_result
    turn k j =
        let f : 12 + 8 * i + 8 ≡ 12 + 8 * (i + 1) = omega arith in
        sym
        (sym g ∙ ap (λ (x : ℕ). map_result (more i) (defs_from P x (12 + 8 * i))) left
        ∙ one_more (def_at P (read_at 4 P (12 + 8 * i)) (read_at 4 P (12 + 8 * i + 4))) (def_here P (kind_number k) (read_at 4 P (12 + 8 * i)) place)
        (defs_from P (n - (i + 1)) (12 + 8 * i + 8)) (rw (← b) (j (read_at 4 P (12 + 8 * i))))
        ∙ ap (λ (x : ℕ). map_result (more (i + 1)) (defs_from P (n - (i + 1)) x)) f)

    stops : (m : ℕ) (X : Result Def) (Y : Result (List Def)) → X ≡ refused m → map_result (more i) (and_then X (λ a. map_result (a ∷◌) Y)) ≡ refused m
    unfolding and_then map_result
    stops m X Y e = rw e

    pub stop : (e : Refusal) → ((name : ℕ) → def_at P name place ≡ judged P name place (Err e)) → refused (number_of e) ≡ whole
    unfolding defs_from map_result
    stop e j =
        sym
        (sym g ∙ ap (λ (x : ℕ). map_result (more i) (defs_from P x (12 + 8 * i))) left
        ∙ stops (number_of e) (def_at P (read_at 4 P (12 + 8 * i)) (read_at 4 P (12 + 8 * i + 4))) (defs_from P (n - (i + 1)) (12 + 8 * i + 8))
        (rw (← b) (j (read_at 4 P (12 + 8 * i)))))

  pub finish : (n : ℕ) → map_result (more n) (defs_from P (n - n) (12 + 8 * n)) ≡ whole → ok n ≡ whole
  unfolding defs_from map_result
  finish n g =
      let z : n - n ≡ 0 = omega arith in
      let e : n + 0 ≡ n = omega arith in
      ap ok (sym e) ∙ ap (λ (x : ℕ). map_result (more n) (defs_from P x (12 + 8 * n))) (sym z) ∙ g

-- ---- a section of a file
module _ (P : Bytes) (t : Bool) (e : t ≡ eqb (read_at 4 P 0) PSCH) where
  pub other : t ≡ false → ok 0 ≡ map_result length (section_defs (read_at 4 P 0) P)
  unfolding section_defs map_result
  other f = rw (← e, f, section_defs)

  pub psch : t ≡ true → (X : Result ℕ) → X ≡ map_result length (psch_of P) → X ≡ map_result length (section_defs (read_at 4 P 0) P)
  unfolding section_defs
  psch f X g = rw (← e, f, section_defs) g

-- ---- a definition has an index entry of 8 bytes
with_one : (n : ℕ) (ds : List Def) (X : Result Def) (Y : Result (List Def)) → ((es : List Def) → Y ≡ ok es → length es ≡ n)
    → and_then X (λ d. map_result (d ∷◌) Y) ≡ ok ds → length ds ≡ suc n
unfolding and_then map_result
with_one n ds (refused m) Y h e = cc
with_one n ds (ok d) (refused m) h e = cc
with_one n ds (ok d) (ok es) h e =
    let f : d ∷ es ≡ ds = cc in
    sym (ap length f) ∙ ap suc (h es refl)

defs_count : (P : Bytes) (n at : ℕ) (ds : List Def) → defs_from P n at ≡ ok ds → length ds ≡ n
unfolding defs_from
defs_count P zero at ds e =
    let q : [] ≡ ds = cc in
    sym (ap length q)
defs_count P (suc n) at ds e =
    with_one n ds (def_at P (read_at 4 P at) (read_at 4 P (at + 4))) (defs_from P n (at + 8)) (λ es. defs_count P n (at + 8) es) e

-- the index of a section that is not refused lies in it
pub record Indexed (P : Bytes) (ds : List Def) : Type 0 where
  pub count : ℕ
  pub read : count ≡ read_at 4 P 8
  pub fits : 0 < count → 12 + 8 * count ≤ length P
  pub defs : defs_from P count 12 ≡ ok ds
  pub all : length ds ≡ count

pub indexed : (P : Bytes) (ds : List Def) → psch_of P ≡ ok ds → Indexed P ds
unfolding psch_of
indexed P ds = go (outside P 12 1 0) (outside P 8 (read_at 4 P 8) 12) refl
  where
    go : (a b : Bool) → outside P 8 (read_at 4 P 8) 12 ≡ b → cond (a || b) (refused 5) (defs_from P (read_at 4 P 8) 12) ≡ ok ds → Indexed P ds
    go true b q e = absurd (let z : ◌≡◌ {A = ℕ} 0 1 = cc in omega arith)
    go false true q e = absurd (let z : ◌≡◌ {A = ℕ} 0 1 = cc in omega arith)
    go false false q e =
        record {
          count = read_at 4 P 8;
          read = refl;
          fits = λ h. inside P 8 (read_at 4 P 8) 12 q h;
          defs = e;
          all = defs_count P (read_at 4 P 8) 12 ds e;
        }

few_psch : (P : Bytes) (ds : List Def) → psch_of P ≡ ok ds → 8 * length ds ≤ length P
few_psch P ds e = go x.count refl
  where
    x : Indexed P ds
    x = indexed P ds e

    go : (n : ℕ) → x.count ≡ n → 8 * length ds ≤ length P
    go zero q = omega (arith, x.all)
    go (suc n) q = omega (arith, x.all, x.fits (omega arith))

pub few_defs : (ident : ℕ) (P : Bytes) (ds : List Def) → section_defs ident P ≡ ok ds → 8 * length ds ≤ length P
unfolding section_defs
few_defs ident P ds = go (eqb ident PSCH)
  where
    go : (b : Bool) → cond b (psch_of P) (ok []) ≡ ok ds → 8 * length ds ≤ length P
    go true e = few_psch P ds e
    go false e =
        let q : [] ≡ ds = cc in
        omega (arith, ap length q)

-- ---- the sections of a file
index_entries_law : (ds : List Def) → index_entries (schema_from ds) ≡ length ds
unfolding schema_from
index_entries_law [] = refl
index_entries_law (structure d ∷ ds) = omega (arith, index_entries_law ds)
index_entries_law (enumeration d ∷ ds) = omega (arith, index_entries_law ds)

all_entries : (X : Result (List Def)) → map_result length X ≡ map_result index_entries (map_result schema_from X)
unfolding map_result
all_entries (ok ds) = ap ok (sym (index_entries_law ds))
all_entries (refused n) = refl

-- a section's definitions, and those of the sections behind it
joined : (i : ℕ) (ds : List Def) (X Y : Result (List Def)) → X ≡ ok ds → map_result (more i) (and_then X (λ as'. map_result (as' ++◌) Y)) ≡ map_result (more (i + length ds)) Y
unfolding and_then map_result
joined i ds X (refused n) e = rw e
joined i ds X (ok es) e =
    let f : i + length (ds ++ es) ≡ i + length ds + length es = omega (arith, length-append ds es) in
    rw e (ap ok f)

none_joined : (i n : ℕ) (X Y : Result (List Def)) → X ≡ refused n → map_result (more i) (and_then X (λ as'. map_result (as' ++◌) Y)) ≡ refused n
unfolding and_then map_result
none_joined i n X Y e = rw e

-- an answer's definitions, and a refusal's number
pub record Sound (X : Result (List Def)) (n : ℕ) : Type 0 where
  pub defs : List Def
  pub is : X ≡ ok defs
  pub count : length defs ≡ n

pub sound : (X : Result (List Def)) (n : ℕ) → ok n ≡ map_result length X → Sound X n
unfolding map_result
sound (ok ds) n e = record { defs = ds; is = refl; count = cc }
sound (refused m) n e = absurd (let z : ◌≡◌ {A = ℕ} 0 1 = cc in omega arith)

pub not_sound : (X : Result (List Def)) (n : ℕ) → refused n ≡ map_result length X → X ≡ refused n
unfolding map_result
not_sound (ok ds) n e = cc
not_sound (refused m) n e = cc

module _ (F : Bytes) where
  abbrev all : Result ℕ
  all = map_result index_entries (schema_of F)

  -- the sections that are left lead to the same end
  pub record Going (ss : Sections) (count : ℕ) : Type 0 where
    pub same : map_result (more count) (defs_of ss) ≡ all

  pub first : (ss : Sections) → ss ≡ rest F 0 → Going ss 0
  unfolding schema_of
  first ss e =
      record { same = none_more (defs_of ss) ∙ ap (λ (x : Sections). map_result length (defs_of x)) (e ∙ rest_all F) ∙ all_entries (defs_of (sections F)) }

  module _ (count : ℕ) where
    pub at_end_law : Going end count → ok count ≡ all
    unfolding defs_of map_result
    at_end_law g =
        let z : count ≡ count + 0 = omega arith in
        ap ok z ∙ g.same

    pub at_broken : Going broken count → refused 4 ≡ all
    unfolding defs_of map_result
    at_broken g = g.same

    module _ (ident : ℕ) (P : Bytes) (ss : Sections) (g : Going (section ident P ss) count) where
      pub refused_by : (n : ℕ) → refused n ≡ map_result length (section_defs ident P) → refused n ≡ all
      unfolding defs_of
      refused_by n s = sym (none_joined count n (section_defs ident P) (defs_of ss) (not_sound (section_defs ident P) n s)) ∙ g.same

      pub fewer : (n : ℕ) → ok n ≡ map_result length (section_defs ident P) → 8 * n ≤ length P
      fewer n s =
          let x = sound (section_defs ident P) n s in
          omega (arith, x.count, few_defs ident P x.defs x.is)

      pub goes_on : (n : ℕ) → ok n ≡ map_result length (section_defs ident P) → Going ss (count + n)
      unfolding defs_of
      goes_on n s =
          let x = sound (section_defs ident P) n s in
          record { same = ap (λ (k : ℕ). map_result (more (count + k)) (defs_of ss)) (sym x.count) ∙ sym (joined count x.defs (section_defs ident P) (defs_of ss) x.is) ∙ g.same }
