-- The bits of flags, by a text's parts and by an array's items. Assumes nothing.
use Rattle.std.specs.Prelude.{◌≡◌, cond, List, [], ◌∷◌, ℕ, zero, suc, max, ◌+◌, ◌-◌, ◌*◌, ◌/◌, ◌%◌, ◌≤◌, ◌<◌, length, get_or, drop, Option, Some, None, Ok, Err}
use mathlib.Core.Path.{refl, sym, ap, ◌∙◌}
use native.Mathlib.Nat.{add-zero, sub-zero}
use native.Mathlib.Omega.{arith}
use lib.Bits.{bit_or, or_step, or_zero_r}
use borrow.Author.Tests.{eq-eqb, ne_eqb}
use Rattle.std.proofs.lemmas.List.{at_drop_more, at_drop_all}
use Rattle.numbers.specs.Words.{Bytes, is_empty}
use Rattle.value.specs.Rows
use Rattle.texts.specs.Text.{split, non_empty, parts}
use Rattle.coerce.specs.Numbers.{Fit, fit_or, fit_then, map_fit}
use Rattle.coerce.specs.declared.misfit.Misfit.{Misfit}
use Rattle.coerce.specs.declared.misfit.Misfit.TheVariants.{Unfit}
use Rattle.schema.specs.Defs.{first_entry}
use Rattle.names.specs.Names
use Rattle.names.specs.Answer

-- ---- bits

or_assoc_n : (n a b c : ℕ) → a ≤ n → bit_or (bit_or a b) c ≡ bit_or a (bit_or b c)
or_assoc_n zero a b c h = let z : a ≡ 0 = omega arith in rw z refl
or_assoc_n (suc n) a b c h =
    let ih = or_assoc_n n (a / 2) (b / 2) (c / 2) (omega arith) in
    let ab = or_step a b in
    let bc = or_step b c in
    let e₁ : bit_or a b / 2 ≡ bit_or (a / 2) (b / 2) = omega (arith, ab) in
    let e₂ : bit_or a b % 2 ≡ max (a % 2) (b % 2) = omega (arith, ab) in
    let f₁ : bit_or b c / 2 ≡ bit_or (b / 2) (c / 2) = omega (arith, bc) in
    let f₂ : bit_or b c % 2 ≡ max (b % 2) (c % 2) = omega (arith, bc) in
    let l = or_step (bit_or a b) c ∙ ap (λ (x : ℕ). bit_or x (c / 2) * 2 + max (bit_or a b % 2) (c % 2)) e₁ in
    let r = or_step a (bit_or b c) ∙ ap (λ (x : ℕ). bit_or (a / 2) x * 2 + max (a % 2) (bit_or b c % 2)) f₁ in
    omega (arith, l, r, ih, e₂, f₂)

or_assoc : (a b c : ℕ) → bit_or (bit_or a b) c ≡ bit_or a (bit_or b c)
or_assoc a b c = or_assoc_n a a b c (omega arith)

pub or_none_law : (f : Fit ℕ) → map_fit (bit_or 0) f ≡ f
or_none_law (Ok x) = refl
or_none_law (Err e) = refl

or_more : (a b : ℕ) (f : Fit ℕ) → map_fit (bit_or a) (map_fit (bit_or b) f) ≡ map_fit (bit_or (bit_or a b)) f
or_more a b (Ok x) = ap Ok (sym (or_assoc a b x))
or_more a b (Err e) = refl

-- the bits of one part or item, then of those behind it
abbrev pub bits_then : Fit ℕ → Fit ℕ → Fit ℕ
bits_then g f = fit_then g (λ m. map_fit (bit_or m) f)

then_ok : (bits x : ℕ) (g f : Fit ℕ) → g ≡ Ok x → map_fit (bit_or bits) (bits_then g f) ≡ map_fit (bit_or (bit_or bits x)) f
then_ok bits x g f e = rw e (or_more bits x f)

then_err : (bits : ℕ) (m : Misfit) (g f : Fit ℕ) → g ≡ Err m → map_fit (bit_or bits) (bits_then g f) ≡ Err m
then_err bits m g f e = rw e

-- ---- the names in a text

one_name : (o : Option ℕ) (f : Fit ℕ) → fit_then (fit_or o (Err Unfit)) (λ x. map_fit (bit_or (Names.bit_of x)) f) ≡ bits_then (map_fit Names.bit_of (fit_or o (Err Unfit))) f
one_name None f = refl
one_name (Some x) f = refl

one_part : (es : Names.Entries) (p : Bytes) (ps : List Bytes) → Names.flag_names es (cond (is_empty p) ps (p ∷ ps)) ≡ bits_then (Answer.part_bits es p) (Names.flag_names es ps)
unfolding Names.flag_names
one_part es [] ps = sym (or_none_law (Names.flag_names es ps))
one_part es (b ∷ p) ps = one_name (first_entry es (Names.hash_text (b ∷ p))) (Names.flag_names es ps)

-- the bits of the parts from i on
abbrev pub part_bits_from : Names.Entries → Bytes → ℕ → Fit ℕ
part_bits_from es t i = Names.flag_names es (non_empty (drop i (split t)))

pub names_first : (es : Names.Entries) (t : Bytes) → map_fit (bit_or 0) (part_bits_from es t 0) ≡ Names.flag_names es (parts t)
unfolding parts
names_first es t = or_none_law (part_bits_from es t 0)

-- one turn: p is the part i
module _ (es : Names.Entries) (t p : Bytes) (i j bits : ℕ) (h : (i < length (split t)) × (p ≡ get_or (split t) i p)) where
  names_step : part_bits_from es t i ≡ bits_then (Answer.part_bits es p) (part_bits_from es t (i + 1))
  unfolding non_empty
  names_step =
      at_drop_more (λ ps. Names.flag_names es (non_empty ps)) (split t) i p h.0
      ∙ ap (λ q. Names.flag_names es (non_empty (q ∷ drop (i + 1) (split t)))) (sym h.1)
      ∙ one_part es p (non_empty (drop (i + 1) (split t)))

  pub names_turn : (x : ℕ) → Answer.part_bits es p ≡ Ok x → j ≡ i + 1 → map_fit (bit_or bits) (part_bits_from es t i) ≡ map_fit (bit_or (bit_or bits x)) (part_bits_from es t j)
  names_turn x e n = rw n (ap (map_fit (bit_or bits)) names_step ∙ then_ok bits x (Answer.part_bits es p) (part_bits_from es t (i + 1)) e)

  pub names_err : (m : Misfit) → Answer.part_bits es p ≡ Err m → map_fit (bit_or bits) (part_bits_from es t i) ≡ Err m
  names_err m e = ap (map_fit (bit_or bits)) names_step ∙ then_err bits m (Answer.part_bits es p) (part_bits_from es t (i + 1)) e

pub names_done : (es : Names.Entries) (t : Bytes) (i bits : ℕ) → length (split t) ≤ i → map_fit (bit_or bits) (part_bits_from es t i) ≡ Ok bits
unfolding Names.flag_names non_empty
names_done es t i bits h = ap (map_fit (bit_or bits)) (at_drop_all (λ ps. Names.flag_names es (non_empty ps)) (split t) i h) ∙ ap Ok (or_zero_r bits)

-- ---- the items of an array

-- those from i on
abbrev pub item_bits : ℕ → Bytes → Names.Entries → ℕ → ℕ → ℕ → Fit ℕ
item_bits m T es f c i = Names.flag_items T (Names.flags_bits m T es) (Rows.rows_from (f + i) (c - i))

module _ (m : ℕ) (T : Bytes) (es : Names.Entries) (f c i bits : ℕ) where
  module _ (h : i < c) where
    items_step : item_bits m T es f c i ≡ bits_then (Names.flags_bits m T es (Rows.row T (f + i))) (item_bits m T es f c (i + 1))
    unfolding Names.flag_items Rows.rows_from
    items_step =
        let e : c - i ≡ suc (c - (i + 1)) = omega arith in
        let g : suc (f + i) ≡ f + (i + 1) = omega arith in
        rw (e, ← g)

    pub items_turn : (x : ℕ) → Names.flags_bits m T es (Rows.row T (f + i)) ≡ Ok x → map_fit (bit_or bits) (item_bits m T es f c i) ≡ map_fit (bit_or (bit_or bits x)) (item_bits m T es f c (i + 1))
    items_turn x e = ap (map_fit (bit_or bits)) items_step ∙ then_ok bits x _ _ e

    pub items_err : (k : Misfit) → Names.flags_bits m T es (Rows.row T (f + i)) ≡ Err k → map_fit (bit_or bits) (item_bits m T es f c i) ≡ Err k
    items_err k e = ap (map_fit (bit_or bits)) items_step ∙ then_err bits k _ _ e

  pub items_done : c ≤ i → map_fit (bit_or bits) (item_bits m T es f c i) ≡ Ok bits
  unfolding Names.flag_items Rows.rows_from
  items_done h = let z : c - i ≡ 0 = omega arith in rw z (ap Ok (or_zero_r bits))

-- an array's rows are its items
pub flags_items : (levels m : ℕ) (T : Bytes) (es : Names.Entries) (v : Rows.Row) (f c : ℕ) → levels ≡ suc m → v.kind ≡ 19 → f ≡ Rows.first_child v → c ≡ Rows.child_count v
    → item_bits m T es f c 0 ≡ Names.flags_bits levels T es v
unfolding Names.flags_bits Names.flags_body Rows.children_of
flags_items levels m T es v f c el e pf pc =
    let n17 : v.kind ≡ 17 → ⊥ = λ q. omega arith in
    let n15 : v.kind ≡ 15 → ⊥ = λ q. omega arith in
    rw (el, ne_eqb v.kind 17 n17, ne_eqb v.kind 15 n15, eq-eqb v.kind 19 e, pf, pc, add-zero, sub-zero)
