-- What fails to coerce with an enum's entries fails with none, and is not refused with 11 then: demand 3 rests on it.
-- Assumes nothing.
use Rattle.std.specs.Prelude.{Ok, Err}
use Prim.Native.Nat.{ℕ, zero, suc}
use mathlib.Core.Bool.{Bool, true, false, cond}
use mathlib.Core.List.{List, [], ◌∷◌}
use lib.Dec.{eqb}
use Rattle.numbers.specs.Words.{Bytes, is_empty}
use Rattle.value.specs.Rows
use Rattle.schema.specs.Defs.{first_entry}
use Rattle.texts.specs.Text.{trimmed, parts}
use Rattle.coerce.specs.Numbers.{Fit, fit_then, map_fit, fit_or, int_of, parse_int}
use Rattle.coerce.specs.declared.misfit.Misfit.TheVariants.{Unfit, FloatText}
use Rattle.names.specs.Names.{Entries, hash_text, low32, number_or, named_text, enum_value, flag_names, flag_items, flags_body, flags_bits}

-- a, with entries, and b, with none: where a fails, b fails; where a fits, b is not refused with 11
abbrev pub Below : {A : Type 0} → Fit A → Fit A → Type 0
Below (Ok x) (Ok y) = Unit {0}
Below (Ok x) (Err Unfit) = Unit {0}
Below (Ok x) (Err FloatText) = ⊥
Below (Err Unfit) (Ok y) = ⊥
Below (Err Unfit) (Err Unfit) = Unit {0}
Below (Err Unfit) (Err FloatText) = ⊥
Below (Err FloatText) b = Unit {0}

below_same : {A : Type 0} (a : Fit A) → Below a a
below_same (Ok x) = tt
below_same (Err Unfit) = tt
below_same (Err FloatText) = tt

below_unfit : {A : Type 0} (a : Fit A) → Below a (Err Unfit)
below_unfit (Ok x) = tt
below_unfit (Err Unfit) = tt
below_unfit (Err FloatText) = tt

below_map : {A : Type 0} (f g : A → A) (a b : Fit A) → Below a b → Below (map_fit f a) (map_fit g b)
below_map f g (Ok x) (Ok y) h = tt
below_map f g (Ok x) (Err Unfit) h = tt
below_map f g (Ok x) (Err FloatText) h = h
below_map f g (Err Unfit) (Ok y) h = h
below_map f g (Err Unfit) (Err Unfit) h = tt
below_map f g (Err Unfit) (Err FloatText) h = h
below_map f g (Err FloatText) b h = tt

below_then : (a b : Fit ℕ) (k l : ℕ → Fit ℕ) → Below a b → ((x y : ℕ) → Below (k x) (l y)) → Below (fit_then a k) (fit_then b l)
below_then (Ok x) (Ok y) k l h g = g x y
below_then (Ok x) (Err Unfit) k l h g = below_unfit (k x)
below_then (Ok x) (Err FloatText) k l h g = absurd h
below_then (Err Unfit) (Ok y) k l h g = absurd h
below_then (Err Unfit) (Err Unfit) k l h g = tt
below_then (Err Unfit) (Err FloatText) k l h g = h
below_then (Err FloatText) b k l h g = tt

below_cond : (t : Bool) (a b c d : Fit ℕ) → Below a c → Below b d → Below (cond t a b) (cond t c d)
below_cond true a b c d h g = h
below_cond false a b c d h g = g

below_number : (n a b : Fit ℕ) → Below a b → Below (number_or n a) (number_or n b)
below_number (Ok x) a b h = tt
below_number (Err Unfit) a b h = h
below_number (Err FloatText) a b h = tt

below_named : (t : Bytes) (a b : Fit ℕ) → Below a b → Below (named_text t a) (named_text t b)
unfolding named_text
below_named t a b h = below_cond (is_empty t) (Ok 0) _ (Ok 0) _ tt (below_number (parse_int t) a b h)

module _ (T : Bytes) (es : Entries) where
  pub enum_below : (v : Rows.Row) → Below (enum_value T es v) (enum_value T [] v)
  unfolding enum_value first_entry
  enum_below v =
      let t = trimmed (Rows.text_of T v) in
      below_cond (eqb v.kind Rows.Enum) (Ok v.a) _ (Ok v.a) _ tt
      (below_cond (eqb v.kind Rows.Str) _ _ _ _ (below_named t (fit_or (first_entry es (hash_text t)) (Err Unfit)) (Err Unfit) (below_unfit (fit_or (first_entry es (hash_text t)) (Err Unfit))))
      (below_cond (eqb v.kind Rows.Hash) (Ok _) _ (Ok _) _ tt (below_same (map_fit low32 (int_of T v)))))

  names_below : (ps : List Bytes) → Below (flag_names es ps) (flag_names [] ps)
  unfolding flag_names first_entry
  names_below [] = tt
  names_below (p ∷ ps) = below_unfit (flag_names es (p ∷ ps))

  items_below : (f g : Rows.Row → Fit ℕ) → ((v : Rows.Row) → Below (f v) (g v)) → (rs : List ℕ) → Below (flag_items T f rs) (flag_items T g rs)
  unfolding flag_items
  items_below f g h [] = tt
  items_below f g h (r ∷ rs) =
      below_then (f (Rows.row T r)) (g (Rows.row T r)) _ _ (h (Rows.row T r))
      (λ x y. below_map _ _ (flag_items T f rs) (flag_items T g rs) (items_below f g h rs))

  pub flags_below : (levels : ℕ) (v : Rows.Row) → Below (flags_bits levels T es v) (flags_bits levels T [] v)
  unfolding flags_bits flags_body
  flags_below zero v = tt
  flags_below (suc n) v =
      let t = trimmed (Rows.text_of T v) in
      below_cond (eqb v.kind Rows.Flags) (Ok v.a) _ (Ok v.a) _ tt
      (below_cond (eqb v.kind Rows.Str) _ _ _ _ (below_named t (flag_names es (parts t)) (flag_names [] (parts t)) (names_below (parts t)))
      (below_cond (eqb v.kind Rows.Array) _ _ _ _ (items_below (flags_bits n T es) (flags_bits n T []) (flags_below n) (Rows.children_of v)) (below_same (map_fit low32 (int_of T v)))))
