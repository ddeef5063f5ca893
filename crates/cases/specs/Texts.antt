-- Texts and numbers with their coercions.
use Rattle.std.specs.Prelude.{ℕ, ◌≡◌, refl, cond, List, [], ◌∷◌, map, length, Ok, Err}
use Rattle.numbers.specs.Words.{Bytes}
use Rattle.conversions.specs.Signed.{signed_of, word_of}
use Rattle.conversions.specs.Round.{f32_of}
use Rattle.conversions.specs.Trunc.{i64_of}
use Rattle.texts.specs.Text.{trimmed, parts}
use Rattle.texts.specs.Float.{parses_float}
use Rattle.coerce.specs.Numbers.{Fit, int_text, float_text, vec_text}
use Rattle.coerce.specs.declared.misfit.Misfit.TheVariants.{Unfit, FloatText}
use Rattle.names.specs.Names.{hash_text}
use Rattle.layout.specs.Eval

-- whether it is a float, the whole number, the f32, the four of a vector of two, the hash, the number of parts
data Reading : Type 0 where
  reading : ℕ → Fit ℕ → Fit ℕ → Fit (List ℕ) → ℕ → ℕ → Reading

read : Bytes → Reading
read t =
    reading (cond (parses_float (trimmed t)) 1 0) (int_text (trimmed t)) (float_text (trimmed t)) (vec_text 2 (parts t)) (hash_text t)
    (length (parts t))

texts : List Bytes
texts = ([]) ∷ (32 ∷ []) ∷ (84 ∷ 82 ∷ 85 ∷ 69 ∷ 32 ∷ []) ∷ (9 ∷ 70 ∷ 97 ∷ 108 ∷ 115 ∷ 101 ∷ []) ∷ (11 ∷ 12 ∷ 55 ∷ 13 ∷ 10 ∷ []) ∷ (97 ∷ []) ∷ (98 ∷ []) ∷ (114 ∷ 101 ∷ 100 ∷ []) ∷ (66 ∷ 108 ∷ 117 ∷ 101 ∷ []) ∷ (70 ∷ 76 ∷ 65 ∷ 71 ∷ 95 ∷ 65 ∷ []) ∷ (70 ∷ 76 ∷ 65 ∷ 71 ∷ 95 ∷ 66 ∷ []) ∷ (116 ∷ 114 ∷ 117 ∷ 101 ∷ []) ∷ (120 ∷ 49 ∷ []) ∷ (104 ∷ 97 ∷ 115 ∷ 104 ∷ 95 ∷ 49 ∷ 70 ∷ []) ∷ (48 ∷ 120 ∷ 50 ∷ 65 ∷ []) ∷ (48 ∷ 120 ∷ 49 ∷ 71 ∷ []) ∷ (110 ∷ 97 ∷ 110 ∷ 120 ∷ []) ∷ (105 ∷ 110 ∷ 102 ∷ 95 ∷ []) ∷ (45 ∷ []) ∷ (49 ∷ 120 ∷ []) ∷ (107 ∷ []) ∷ (49 ∷ 46 ∷ 53 ∷ []) ∷ (48 ∷ []) ∷ (49 ∷ []) ∷ (55 ∷ []) ∷ (45 ∷ 49 ∷ []) ∷ (43 ∷ 53 ∷ []) ∷ (45 ∷ 48 ∷ []) ∷ (48 ∷ 48 ∷ 55 ∷ []) ∷ (50 ∷ 53 ∷ 53 ∷ []) ∷ (50 ∷ 53 ∷ 54 ∷ []) ∷ (45 ∷ 49 ∷ 50 ∷ 56 ∷ []) ∷ (54 ∷ 53 ∷ 53 ∷ 51 ∷ 54 ∷ []) ∷ (50 ∷ 49 ∷ 52 ∷ 55 ∷ 52 ∷ 56 ∷ 51 ∷ 54 ∷ 52 ∷ 56 ∷ []) ∷ (52 ∷ 50 ∷ 57 ∷ 52 ∷ 57 ∷ 54 ∷ 55 ∷ 50 ∷ 57 ∷ 53 ∷ []) ∷ (52 ∷ 50 ∷ 57 ∷ 52 ∷ 57 ∷ 54 ∷ 55 ∷ 50 ∷ 57 ∷ 54 ∷ []) ∷ (57 ∷ 50 ∷ 50 ∷ 51 ∷ 51 ∷ 55 ∷ 50 ∷ 48 ∷ 51 ∷ 54 ∷ 56 ∷ 53 ∷ 52 ∷ 55 ∷ 55 ∷ 53 ∷ 56 ∷ 48 ∷ 55 ∷ []) ∷ (57 ∷ 50 ∷ 50 ∷ 51 ∷ 51 ∷ 55 ∷ 50 ∷ 48 ∷ 51 ∷ 54 ∷ 56 ∷ 53 ∷ 52 ∷ 55 ∷ 55 ∷ 53 ∷ 56 ∷ 48 ∷ 56 ∷ []) ∷ (45 ∷ 57 ∷ 50 ∷ 50 ∷ 51 ∷ 51 ∷ 55 ∷ 50 ∷ 48 ∷ 51 ∷ 54 ∷ 56 ∷ 53 ∷ 52 ∷ 55 ∷ 55 ∷ 53 ∷ 56 ∷ 48 ∷ 56 ∷ []) ∷ (49 ∷ 56 ∷ 52 ∷ 52 ∷ 54 ∷ 55 ∷ 52 ∷ 52 ∷ 48 ∷ 55 ∷ 51 ∷ 55 ∷ 48 ∷ 57 ∷ 53 ∷ 53 ∷ 49 ∷ 54 ∷ 49 ∷ 53 ∷ []) ∷ (43 ∷ 49 ∷ 56 ∷ 52 ∷ 52 ∷ 54 ∷ 55 ∷ 52 ∷ 52 ∷ 48 ∷ 55 ∷ 51 ∷ 55 ∷ 48 ∷ 57 ∷ 53 ∷ 53 ∷ 49 ∷ 54 ∷ 49 ∷ 53 ∷ []) ∷ (49 ∷ 54 ∷ 55 ∷ 55 ∷ 55 ∷ 50 ∷ 49 ∷ 55 ∷ []) ∷ (49 ∷ 54 ∷ 55 ∷ 55 ∷ 55 ∷ 50 ∷ 49 ∷ 57 ∷ []) ∷ (48 ∷ 120 ∷ 48 ∷ []) ∷ (48 ∷ 120 ∷ 49 ∷ 70 ∷ []) ∷ (48 ∷ 88 ∷ 49 ∷ 102 ∷ []) ∷ (48 ∷ 120 ∷ 70 ∷ 70 ∷ 70 ∷ 70 ∷ 70 ∷ 70 ∷ 70 ∷ 70 ∷ []) ∷ (48 ∷ 120 ∷ 55 ∷ 70 ∷ 70 ∷ 70 ∷ 70 ∷ 70 ∷ 70 ∷ 70 ∷ 70 ∷ 70 ∷ 70 ∷ 70 ∷ 70 ∷ 70 ∷ 70 ∷ 70 ∷ []) ∷ (48 ∷ 120 ∷ 56 ∷ 48 ∷ 48 ∷ 48 ∷ 48 ∷ 48 ∷ 48 ∷ 48 ∷ 48 ∷ 48 ∷ 48 ∷ 48 ∷ 48 ∷ 48 ∷ 48 ∷ 48 ∷ []) ∷ (48 ∷ 120 ∷ 70 ∷ 70 ∷ 70 ∷ 70 ∷ 70 ∷ 70 ∷ 70 ∷ 70 ∷ 70 ∷ 70 ∷ 70 ∷ 70 ∷ 70 ∷ 70 ∷ 70 ∷ 70 ∷ []) ∷ (48 ∷ 120 ∷ 45 ∷ 49 ∷ []) ∷ (48 ∷ 120 ∷ 43 ∷ 49 ∷ []) ∷ (48 ∷ 120 ∷ 45 ∷ 56 ∷ 48 ∷ 48 ∷ 48 ∷ 48 ∷ 48 ∷ 48 ∷ 48 ∷ 48 ∷ 48 ∷ 48 ∷ 48 ∷ 48 ∷ 48 ∷ 48 ∷ 48 ∷ []) ∷ (48 ∷ 88 ∷ 102 ∷ 102 ∷ []) ∷ (48 ∷ 48 ∷ 120 ∷ 49 ∷ []) ∷ (43 ∷ 48 ∷ []) ∷ (49 ∷ 50 ∷ []) ∷ (57 ∷ 57 ∷ []) ∷ (51 ∷ 49 ∷ []) ∷ (51 ∷ 50 ∷ []) ∷ (48 ∷ 120 ∷ 50 ∷ 48 ∷ []) ∷ (45 ∷ 51 ∷ 49 ∷ []) ∷ (48 ∷ 120 ∷ []) ∷ (48 ∷ 88 ∷ []) ∷ (48 ∷ 120 ∷ 45 ∷ []) ∷ (48 ∷ 120 ∷ 43 ∷ []) ∷ (48 ∷ 120 ∷ 71 ∷ []) ∷ (48 ∷ 120 ∷ 32 ∷ 49 ∷ []) ∷ (48 ∷ 120 ∷ 49 ∷ 48 ∷ 48 ∷ 48 ∷ 48 ∷ 48 ∷ 48 ∷ 48 ∷ 48 ∷ 48 ∷ 48 ∷ 48 ∷ 48 ∷ 48 ∷ 48 ∷ 48 ∷ 48 ∷ []) ∷ (48 ∷ 120 ∷ 45 ∷ 56 ∷ 48 ∷ 48 ∷ 48 ∷ 48 ∷ 48 ∷ 48 ∷ 48 ∷ 48 ∷ 48 ∷ 48 ∷ 48 ∷ 48 ∷ 48 ∷ 48 ∷ 49 ∷ []) ∷ (43 ∷ []) ∷ (45 ∷ 45 ∷ 49 ∷ []) ∷ (43 ∷ 45 ∷ 49 ∷ []) ∷ (49 ∷ 45 ∷ []) ∷ (49 ∷ 32 ∷ 50 ∷ []) ∷ (116 ∷ 114 ∷ 117 ∷ []) ∷ (116 ∷ 114 ∷ 117 ∷ 101 ∷ 101 ∷ []) ∷ (101 ∷ 53 ∷ []) ∷ (46 ∷ []) ∷ (45 ∷ 46 ∷ []) ∷ (43 ∷ 46 ∷ 101 ∷ 49 ∷ []) ∷ (49 ∷ 101 ∷ []) ∷ (49 ∷ 101 ∷ 43 ∷ []) ∷ (46 ∷ 101 ∷ 53 ∷ []) ∷ (105 ∷ 110 ∷ []) ∷ (105 ∷ 110 ∷ 102 ∷ 105 ∷ 110 ∷ 105 ∷ 116 ∷ []) ∷ (110 ∷ 97 ∷ 110 ∷ 97 ∷ []) ∷ (48 ∷ 120 ∷ 49 ∷ 46 ∷ 53 ∷ []) ∷ (49 ∷ 95 ∷ 48 ∷ []) ∷ (49 ∷ 46 ∷ 50 ∷ 46 ∷ 51 ∷ []) ∷ (46 ∷ 46 ∷ []) ∷ (43 ∷ 46 ∷ []) ∷ (53 ∷ 46 ∷ 46 ∷ []) ∷ (49 ∷ 32 ∷ 46 ∷ 53 ∷ []) ∷ (49 ∷ 44 ∷ 53 ∷ []) ∷ (49 ∷ 46 ∷ 53 ∷ 102 ∷ []) ∷ (46 ∷ 45 ∷ 53 ∷ []) ∷ (49 ∷ 101 ∷ 53 ∷ []) ∷ (49 ∷ 69 ∷ 53 ∷ []) ∷ (49 ∷ 46 ∷ 101 ∷ 53 ∷ []) ∷ (46 ∷ 53 ∷ 101 ∷ 45 ∷ 51 ∷ []) ∷ (49 ∷ 101 ∷ 43 ∷ 49 ∷ 48 ∷ []) ∷ (105 ∷ 110 ∷ 102 ∷ []) ∷ (45 ∷ 105 ∷ 110 ∷ 102 ∷ []) ∷ (43 ∷ 73 ∷ 78 ∷ 70 ∷ []) ∷ (73 ∷ 110 ∷ 102 ∷ 105 ∷ 110 ∷ 105 ∷ 116 ∷ 121 ∷ []) ∷ (110 ∷ 97 ∷ 110 ∷ []) ∷ (78 ∷ 97 ∷ 78 ∷ []) ∷ (45 ∷ 110 ∷ 97 ∷ 110 ∷ []) ∷ (57 ∷ 50 ∷ 50 ∷ 51 ∷ 51 ∷ 55 ∷ 50 ∷ 48 ∷ 51 ∷ 54 ∷ 56 ∷ 53 ∷ 52 ∷ 55 ∷ 55 ∷ 53 ∷ 56 ∷ 48 ∷ 56 ∷ 46 ∷ 48 ∷ []) ∷ (45 ∷ 57 ∷ 50 ∷ 50 ∷ 51 ∷ 51 ∷ 55 ∷ 50 ∷ 48 ∷ 51 ∷ 54 ∷ 56 ∷ 53 ∷ 52 ∷ 55 ∷ 55 ∷ 53 ∷ 56 ∷ 48 ∷ 57 ∷ []) ∷ (49 ∷ 56 ∷ 52 ∷ 52 ∷ 54 ∷ 55 ∷ 52 ∷ 52 ∷ 48 ∷ 55 ∷ 51 ∷ 55 ∷ 48 ∷ 57 ∷ 53 ∷ 53 ∷ 49 ∷ 54 ∷ 49 ∷ 54 ∷ []) ∷ (57 ∷ 57 ∷ 57 ∷ 57 ∷ 57 ∷ 57 ∷ 57 ∷ 57 ∷ 57 ∷ 57 ∷ 57 ∷ 57 ∷ 57 ∷ 57 ∷ 57 ∷ 57 ∷ 57 ∷ 57 ∷ 57 ∷ 57 ∷ []) ∷ (48 ∷ 101 ∷ 48 ∷ []) ∷ (49 ∷ 101 ∷ 57 ∷ 57 ∷ 57 ∷ []) ∷ (49 ∷ 101 ∷ 45 ∷ 57 ∷ 57 ∷ 57 ∷ []) ∷ (43 ∷ 49 ∷ 101 ∷ 49 ∷ []) ∷ (49 ∷ 50 ∷ 51 ∷ 52 ∷ 53 ∷ 54 ∷ 55 ∷ 56 ∷ 57 ∷ 101 ∷ 49 ∷ 50 ∷ []) ∷ (45 ∷ 49 ∷ 56 ∷ 52 ∷ 52 ∷ 54 ∷ 55 ∷ 52 ∷ 52 ∷ 48 ∷ 55 ∷ 51 ∷ 55 ∷ 48 ∷ 57 ∷ 53 ∷ 53 ∷ 49 ∷ 54 ∷ 49 ∷ 53 ∷ []) ∷ (49 ∷ 46 ∷ 53 ∷ 101 ∷ 48 ∷ []) ∷ (45 ∷ 49 ∷ 46 ∷ 53 ∷ 69 ∷ 48 ∷ []) ∷ (48 ∷ 48 ∷ 48 ∷ 48 ∷ 48 ∷ 48 ∷ 48 ∷ 48 ∷ 48 ∷ 46 ∷ 53 ∷ []) ∷ (49 ∷ 46 ∷ 48 ∷ 48 ∷ 48 ∷ 48 ∷ 48 ∷ 48 ∷ 48 ∷ 48 ∷ 48 ∷ []) ∷ (48 ∷ 48 ∷ 48 ∷ 48 ∷ 48 ∷ 48 ∷ 48 ∷ 48 ∷ 48 ∷ 48 ∷ 46 ∷ []) ∷ (48 ∷ 46 ∷ 49 ∷ 50 ∷ 51 ∷ 52 ∷ 53 ∷ 54 ∷ 55 ∷ 56 ∷ 57 ∷ 48 ∷ []) ∷ (49 ∷ 50 ∷ 51 ∷ 52 ∷ 53 ∷ 54 ∷ 55 ∷ 56 ∷ 57 ∷ 48 ∷ 46 ∷ 53 ∷ []) ∷ (45 ∷ 49 ∷ 50 ∷ 51 ∷ 52 ∷ 53 ∷ 54 ∷ 55 ∷ 56 ∷ 57 ∷ 48 ∷ 46 ∷ []) ∷ (43 ∷ 49 ∷ 50 ∷ 51 ∷ 52 ∷ 53 ∷ 46 ∷ 54 ∷ 55 ∷ 56 ∷ 57 ∷ 48 ∷ []) ∷ (45 ∷ 46 ∷ 48 ∷ 48 ∷ 48 ∷ 48 ∷ 48 ∷ 48 ∷ 48 ∷ 48 ∷ 48 ∷ 49 ∷ []) ∷ (104 ∷ 97 ∷ 115 ∷ 104 ∷ 95 ∷ []) ∷ (104 ∷ 97 ∷ 115 ∷ 104 ∷ 95 ∷ 48 ∷ 120 ∷ 49 ∷ 70 ∷ []) ∷ (104 ∷ 97 ∷ 115 ∷ 104 ∷ 95 ∷ 70 ∷ 70 ∷ 70 ∷ 70 ∷ 70 ∷ 70 ∷ 70 ∷ 70 ∷ []) ∷ (104 ∷ 97 ∷ 115 ∷ 104 ∷ 95 ∷ 49 ∷ 48 ∷ 48 ∷ 48 ∷ 48 ∷ 48 ∷ 48 ∷ 48 ∷ 48 ∷ []) ∷ (104 ∷ 97 ∷ 115 ∷ 104 ∷ 95 ∷ 43 ∷ 49 ∷ []) ∷ (104 ∷ 97 ∷ 115 ∷ 104 ∷ 95 ∷ 45 ∷ 49 ∷ []) ∷ (104 ∷ 97 ∷ 115 ∷ 104 ∷ 95 ∷ 103 ∷ []) ∷ (48 ∷ 88 ∷ 49 ∷ 70 ∷ []) ∷ (48 ∷ 120 ∷ 49 ∷ 48 ∷ 48 ∷ 48 ∷ 48 ∷ 48 ∷ 48 ∷ 48 ∷ 48 ∷ []) ∷ (72 ∷ 97 ∷ 115 ∷ 104 ∷ 95 ∷ 49 ∷ 70 ∷ []) ∷ (112 ∷ 114 ∷ 111 ∷ 112 ∷ 95 ∷ 98 ∷ 101 ∷ 110 ∷ 99 ∷ 104 ∷ []) ∷ (104 ∷ 97 ∷ 115 ∷ 104 ∷ 95 ∷ 32 ∷ 49 ∷ []) ∷ (45 ∷ 49 ∷ 46 ∷ 53 ∷ []) ∷ (49 ∷ 46 ∷ []) ∷ (46 ∷ 53 ∷ []) ∷ (43 ∷ 46 ∷ 53 ∷ []) ∷ (51 ∷ 46 ∷ []) ∷ (49 ∷ 50 ∷ 46 ∷ 53 ∷ []) ∷ (45 ∷ 49 ∷ 50 ∷ 46 ∷ 57 ∷ []) ∷ (45 ∷ 48 ∷ 46 ∷ 57 ∷ []) ∷ (50 ∷ 53 ∷ 55 ∷ 46 ∷ 53 ∷ []) ∷ (48 ∷ 46 ∷ 49 ∷ []) ∷ (45 ∷ 50 ∷ 46 ∷ 53 ∷ []) ∷ (45 ∷ 48 ∷ 46 ∷ 48 ∷ []) ∷ (45 ∷ 46 ∷ 48 ∷ []) ∷ (45 ∷ 48 ∷ 46 ∷ []) ∷ (48 ∷ 48 ∷ 46 ∷ 48 ∷ 48 ∷ []) ∷ (48 ∷ 48 ∷ 48 ∷ 48 ∷ 48 ∷ 48 ∷ 48 ∷ 48 ∷ 48 ∷ []) ∷ (46 ∷ 48 ∷ 48 ∷ 48 ∷ 48 ∷ 48 ∷ 48 ∷ 48 ∷ 48 ∷ 48 ∷ []) ∷ (45 ∷ 48 ∷ 48 ∷ 48 ∷ 48 ∷ 48 ∷ 48 ∷ 48 ∷ 48 ∷ 48 ∷ 46 ∷ []) ∷ (48 ∷ 48 ∷ 48 ∷ 48 ∷ 48 ∷ 48 ∷ 48 ∷ 48 ∷ 46 ∷ 53 ∷ []) ∷ (48 ∷ 46 ∷ 53 ∷ 48 ∷ 48 ∷ 48 ∷ 48 ∷ 48 ∷ 48 ∷ 48 ∷ []) ∷ (45 ∷ 55 ∷ []) ∷ (43 ∷ 55 ∷ 46 ∷ []) ∷ (57 ∷ 57 ∷ 57 ∷ 57 ∷ 57 ∷ 57 ∷ 57 ∷ 57 ∷ 57 ∷ []) ∷ (46 ∷ 57 ∷ 57 ∷ 57 ∷ 57 ∷ 57 ∷ 57 ∷ 57 ∷ 57 ∷ 57 ∷ []) ∷ (57 ∷ 57 ∷ 57 ∷ 57 ∷ 57 ∷ 57 ∷ 57 ∷ 57 ∷ 46 ∷ 57 ∷ []) ∷ (45 ∷ 57 ∷ 57 ∷ 57 ∷ 57 ∷ 57 ∷ 57 ∷ 57 ∷ 57 ∷ 57 ∷ 46 ∷ []) ∷ (46 ∷ 48 ∷ 48 ∷ 48 ∷ 48 ∷ 48 ∷ 48 ∷ 48 ∷ 48 ∷ 49 ∷ []) ∷ (45 ∷ 48 ∷ 46 ∷ 48 ∷ 48 ∷ 48 ∷ 48 ∷ 48 ∷ 48 ∷ 48 ∷ 49 ∷ []) ∷ (49 ∷ 50 ∷ 51 ∷ 52 ∷ 53 ∷ 54 ∷ 55 ∷ 56 ∷ 57 ∷ []) ∷ (49 ∷ 50 ∷ 51 ∷ 52 ∷ 53 ∷ 54 ∷ 55 ∷ 56 ∷ 57 ∷ 46 ∷ []) ∷ (46 ∷ 49 ∷ 50 ∷ 51 ∷ 52 ∷ 53 ∷ 54 ∷ 55 ∷ 56 ∷ 57 ∷ []) ∷ (49 ∷ 50 ∷ 51 ∷ 52 ∷ 53 ∷ 46 ∷ 54 ∷ 55 ∷ 56 ∷ 57 ∷ []) ∷ (56 ∷ 51 ∷ 56 ∷ 56 ∷ 54 ∷ 48 ∷ 56 ∷ 46 ∷ 53 ∷ []) ∷ (56 ∷ 51 ∷ 56 ∷ 56 ∷ 54 ∷ 48 ∷ 57 ∷ 46 ∷ 53 ∷ []) ∷ (45 ∷ 56 ∷ 51 ∷ 56 ∷ 56 ∷ 54 ∷ 48 ∷ 57 ∷ 46 ∷ 53 ∷ []) ∷ (52 ∷ 49 ∷ 57 ∷ 52 ∷ 51 ∷ 48 ∷ 52 ∷ 46 ∷ 50 ∷ 53 ∷ []) ∷ (52 ∷ 49 ∷ 57 ∷ 52 ∷ 51 ∷ 48 ∷ 52 ∷ 46 ∷ 55 ∷ 53 ∷ []) ∷ (45 ∷ 49 ∷ 54 ∷ 55 ∷ 55 ∷ 55 ∷ 50 ∷ 49 ∷ 55 ∷ 46 ∷ []) ∷ (51 ∷ 51 ∷ 53 ∷ 53 ∷ 52 ∷ 52 ∷ 51 ∷ 52 ∷ 46 ∷ []) ∷ (49 ∷ 54 ∷ 55 ∷ 55 ∷ 55 ∷ 50 ∷ 49 ∷ 54 ∷ 46 ∷ 53 ∷ []) ∷ (48 ∷ 46 ∷ 51 ∷ 48 ∷ 48 ∷ 48 ∷ 48 ∷ 48 ∷ 48 ∷ 49 ∷ []) ∷ (71 ∷ []) ∷ (71 ∷ 71 ∷ []) ∷ (48 ∷ 88 ∷ 110 ∷ 97 ∷ 110 ∷ []) ∷ (46 ∷ 32 ∷ 48 ∷ 88 ∷ 49 ∷ 50 ∷ []) ∷ (43 ∷ 102 ∷ 97 ∷ 108 ∷ 115 ∷ 101 ∷ 102 ∷ 70 ∷ 102 ∷ 97 ∷ 108 ∷ 115 ∷ 101 ∷ []) ∷ (102 ∷ 70 ∷ 48 ∷ 88 ∷ []) ∷ (9 ∷ 110 ∷ 97 ∷ 110 ∷ 105 ∷ 110 ∷ 102 ∷ 48 ∷ 88 ∷ []) ∷ (48 ∷ 88 ∷ 9 ∷ []) ∷ (102 ∷ 70 ∷ []) ∷ (101 ∷ 48 ∷ 48 ∷ 55 ∷ 105 ∷ 110 ∷ 102 ∷ 105 ∷ 110 ∷ 105 ∷ 116 ∷ 121 ∷ 49 ∷ 50 ∷ []) ∷ (32 ∷ 49 ∷ 50 ∷ 57 ∷ []) ∷ (95 ∷ 48 ∷ 48 ∷ 55 ∷ []) ∷ (104 ∷ 97 ∷ 115 ∷ 104 ∷ 95 ∷ 101 ∷ []) ∷ (97 ∷ 32 ∷ []) ∷ (102 ∷ 97 ∷ 108 ∷ 115 ∷ 101 ∷ 49 ∷ 50 ∷ 46 ∷ 71 ∷ 48 ∷ 120 ∷ []) ∷ (46 ∷ 105 ∷ 110 ∷ 102 ∷ 105 ∷ 110 ∷ 105 ∷ 116 ∷ 121 ∷ 102 ∷ 70 ∷ 48 ∷ 88 ∷ 9 ∷ []) ∷ (104 ∷ 97 ∷ 115 ∷ 104 ∷ 95 ∷ 49 ∷ 105 ∷ 110 ∷ 102 ∷ 49 ∷ 48 ∷ 120 ∷ []) ∷ (57 ∷ 46 ∷ 110 ∷ 97 ∷ 110 ∷ []) ∷ (97 ∷ 9 ∷ 105 ∷ 110 ∷ 102 ∷ 105 ∷ 110 ∷ 105 ∷ 116 ∷ 121 ∷ []) ∷ (116 ∷ 114 ∷ 117 ∷ 101 ∷ 44 ∷ []) ∷ (49 ∷ 50 ∷ 32 ∷ 46 ∷ []) ∷ (48 ∷ 48 ∷ 55 ∷ 48 ∷ 88 ∷ 46 ∷ 101 ∷ 49 ∷ 50 ∷ []) ∷ (48 ∷ 88 ∷ 116 ∷ 114 ∷ 117 ∷ 101 ∷ 102 ∷ 97 ∷ 108 ∷ 115 ∷ 101 ∷ []) ∷ (102 ∷ 70 ∷ 32 ∷ 45 ∷ []) ∷ (101 ∷ 97 ∷ 104 ∷ 97 ∷ 115 ∷ 104 ∷ 95 ∷ 49 ∷ 57 ∷ []) ∷ (105 ∷ 110 ∷ 102 ∷ 105 ∷ 110 ∷ 105 ∷ 116 ∷ 121 ∷ 71 ∷ 69 ∷ 44 ∷ []) ∷ (116 ∷ 114 ∷ 117 ∷ 101 ∷ 48 ∷ 88 ∷ []) ∷ (95 ∷ 57 ∷ 49 ∷ 50 ∷ []) ∷ (105 ∷ 110 ∷ 102 ∷ 105 ∷ 110 ∷ 105 ∷ 116 ∷ 121 ∷ 69 ∷ 9 ∷ 48 ∷ 48 ∷ 55 ∷ []) ∷ (44 ∷ []) ∷ (49 ∷ 50 ∷ 69 ∷ 102 ∷ 97 ∷ 108 ∷ 115 ∷ 101 ∷ 97 ∷ 48 ∷ 48 ∷ 55 ∷ []) ∷ (97 ∷ 101 ∷ 97 ∷ 48 ∷ 48 ∷ 55 ∷ 9 ∷ []) ∷ (105 ∷ 110 ∷ 102 ∷ 105 ∷ 110 ∷ 105 ∷ 116 ∷ 121 ∷ []) ∷ (32 ∷ 49 ∷ 50 ∷ 9 ∷ 44 ∷ []) ∷ (104 ∷ 97 ∷ 115 ∷ 104 ∷ 95 ∷ 105 ∷ 110 ∷ 102 ∷ 49 ∷ []) ∷ (45 ∷ 9 ∷ 71 ∷ 110 ∷ 97 ∷ 110 ∷ []) ∷ (48 ∷ 120 ∷ 9 ∷ 45 ∷ 102 ∷ 70 ∷ []) ∷ (97 ∷ 110 ∷ 97 ∷ 110 ∷ 102 ∷ 70 ∷ 110 ∷ 97 ∷ 110 ∷ []) ∷ (44 ∷ 46 ∷ 102 ∷ 70 ∷ 97 ∷ []) ∷ (116 ∷ 114 ∷ 117 ∷ 101 ∷ 102 ∷ 70 ∷ []) ∷ (49 ∷ 50 ∷ 44 ∷ 102 ∷ 97 ∷ 108 ∷ 115 ∷ 101 ∷ 48 ∷ 120 ∷ []) ∷ (95 ∷ 101 ∷ 9 ∷ 45 ∷ 71 ∷ []) ∷ (105 ∷ 110 ∷ 102 ∷ 69 ∷ 46 ∷ 43 ∷ []) ∷ (46 ∷ 69 ∷ 49 ∷ []) ∷ (48 ∷ 88 ∷ 116 ∷ 114 ∷ 117 ∷ 101 ∷ 57 ∷ 97 ∷ []) ∷ (101 ∷ 95 ∷ 102 ∷ 97 ∷ 108 ∷ 115 ∷ 101 ∷ []) ∷ (46 ∷ 49 ∷ []) ∷ (104 ∷ 97 ∷ 115 ∷ 104 ∷ 95 ∷ 46 ∷ 45 ∷ 45 ∷ 102 ∷ 70 ∷ []) ∷ (46 ∷ 104 ∷ 97 ∷ 115 ∷ 104 ∷ 95 ∷ 9 ∷ []) ∷ (48 ∷ 120 ∷ 48 ∷ 120 ∷ []) ∷ (102 ∷ 70 ∷ 71 ∷ []) ∷ (44 ∷ 102 ∷ 97 ∷ 108 ∷ 115 ∷ 101 ∷ 102 ∷ 97 ∷ 108 ∷ 115 ∷ 101 ∷ 48 ∷ 120 ∷ []) ∷ (44 ∷ 105 ∷ 110 ∷ 102 ∷ 57 ∷ 104 ∷ 97 ∷ 115 ∷ 104 ∷ 95 ∷ []) ∷ (95 ∷ 9 ∷ 45 ∷ []) ∷ (110 ∷ 97 ∷ 110 ∷ 105 ∷ 110 ∷ 102 ∷ 105 ∷ 110 ∷ 105 ∷ 116 ∷ 121 ∷ []) ∷ (57 ∷ 104 ∷ 97 ∷ 115 ∷ 104 ∷ 95 ∷ []) ∷ (101 ∷ 97 ∷ 48 ∷ 48 ∷ 55 ∷ 49 ∷ []) ∷ (57 ∷ 101 ∷ 102 ∷ 70 ∷ []) ∷ (110 ∷ 97 ∷ 110 ∷ 69 ∷ 110 ∷ 97 ∷ 110 ∷ 69 ∷ 101 ∷ []) ∷ (49 ∷ 95 ∷ []) ∷ (45 ∷ 32 ∷ []) ∷ (101 ∷ 71 ∷ 105 ∷ 110 ∷ 102 ∷ 105 ∷ 110 ∷ 105 ∷ 116 ∷ 121 ∷ 97 ∷ 71 ∷ []) ∷ (104 ∷ 97 ∷ 115 ∷ 104 ∷ 95 ∷ 110 ∷ 97 ∷ 110 ∷ 69 ∷ 45 ∷ 104 ∷ 97 ∷ 115 ∷ 104 ∷ 95 ∷ []) ∷ (101 ∷ 105 ∷ 110 ∷ 102 ∷ 110 ∷ 97 ∷ 110 ∷ 104 ∷ 97 ∷ 115 ∷ 104 ∷ 95 ∷ []) ∷ (105 ∷ 110 ∷ 102 ∷ 105 ∷ 110 ∷ 105 ∷ 116 ∷ 121 ∷ 49 ∷ 105 ∷ 110 ∷ 102 ∷ 105 ∷ 110 ∷ 105 ∷ 116 ∷ 121 ∷ 110 ∷ 97 ∷ 110 ∷ 49 ∷ 50 ∷ []) ∷ (102 ∷ 70 ∷ 116 ∷ 114 ∷ 117 ∷ 101 ∷ []) ∷ (48 ∷ 48 ∷ 55 ∷ 57 ∷ 9 ∷ 97 ∷ []) ∷ (110 ∷ 97 ∷ 110 ∷ 105 ∷ 110 ∷ 102 ∷ 105 ∷ 110 ∷ 105 ∷ 116 ∷ 121 ∷ 48 ∷ 120 ∷ 9 ∷ []) ∷ (49 ∷ 50 ∷ 69 ∷ 116 ∷ 114 ∷ 117 ∷ 101 ∷ 48 ∷ 88 ∷ []) ∷ (97 ∷ 116 ∷ 114 ∷ 117 ∷ 101 ∷ 32 ∷ []) ∷ (49 ∷ 49 ∷ 69 ∷ 44 ∷ []) ∷ (48 ∷ 88 ∷ 102 ∷ 97 ∷ 108 ∷ 115 ∷ 101 ∷ 32 ∷ 102 ∷ 97 ∷ 108 ∷ 115 ∷ 101 ∷ 49 ∷ 50 ∷ []) ∷ (9 ∷ 105 ∷ 110 ∷ 102 ∷ 105 ∷ 110 ∷ 105 ∷ 116 ∷ 121 ∷ []) ∷ (46 ∷ 32 ∷ 49 ∷ 44 ∷ []) ∷ (45 ∷ 105 ∷ 110 ∷ 102 ∷ 45 ∷ 32 ∷ 9 ∷ []) ∷ (97 ∷ 105 ∷ 110 ∷ 102 ∷ []) ∷ (45 ∷ 9 ∷ 104 ∷ 97 ∷ 115 ∷ 104 ∷ 95 ∷ 101 ∷ 43 ∷ []) ∷ (95 ∷ 43 ∷ 101 ∷ []) ∷ (48 ∷ 48 ∷ 55 ∷ 49 ∷ 50 ∷ 49 ∷ 50 ∷ []) ∷ (102 ∷ 70 ∷ 43 ∷ 105 ∷ 110 ∷ 102 ∷ 105 ∷ 110 ∷ 105 ∷ 116 ∷ 121 ∷ []) ∷ (49 ∷ 50 ∷ 95 ∷ 69 ∷ 95 ∷ []) ∷ (101 ∷ 105 ∷ 110 ∷ 102 ∷ 95 ∷ 43 ∷ []) ∷ (116 ∷ 114 ∷ 117 ∷ 101 ∷ 9 ∷ 49 ∷ []) ∷ (46 ∷ 69 ∷ 44 ∷ []) ∷ (48 ∷ 88 ∷ 102 ∷ 97 ∷ 108 ∷ 115 ∷ 101 ∷ []) ∷ (48 ∷ 88 ∷ 32 ∷ []) ∷ (97 ∷ 102 ∷ 70 ∷ 101 ∷ []) ∷ (110 ∷ 97 ∷ 110 ∷ 57 ∷ 9 ∷ 105 ∷ 110 ∷ 102 ∷ 105 ∷ 110 ∷ 105 ∷ 116 ∷ 121 ∷ []) ∷ (110 ∷ 97 ∷ 110 ∷ 69 ∷ 44 ∷ 105 ∷ 110 ∷ 102 ∷ []) ∷ (105 ∷ 110 ∷ 102 ∷ 105 ∷ 110 ∷ 105 ∷ 116 ∷ 121 ∷ 101 ∷ 102 ∷ 70 ∷ 102 ∷ 70 ∷ []) ∷ (49 ∷ 50 ∷ 48 ∷ 88 ∷ 57 ∷ 71 ∷ 49 ∷ []) ∷ (101 ∷ []) ∷ (9 ∷ []) ∷ (101 ∷ 48 ∷ 120 ∷ 49 ∷ 104 ∷ 97 ∷ 115 ∷ 104 ∷ 95 ∷ []) ∷ (104 ∷ 97 ∷ 115 ∷ 104 ∷ 95 ∷ 102 ∷ 70 ∷ 97 ∷ []) ∷ (104 ∷ 97 ∷ 115 ∷ 104 ∷ 95 ∷ 102 ∷ 97 ∷ 108 ∷ 115 ∷ 101 ∷ 69 ∷ []) ∷ (9 ∷ 48 ∷ 48 ∷ 55 ∷ []) ∷ (116 ∷ 114 ∷ 117 ∷ 101 ∷ 105 ∷ 110 ∷ 102 ∷ 105 ∷ 110 ∷ 105 ∷ 116 ∷ 121 ∷ 44 ∷ 44 ∷ []) ∷ (95 ∷ 116 ∷ 114 ∷ 117 ∷ 101 ∷ 116 ∷ 114 ∷ 117 ∷ 101 ∷ 32 ∷ []) ∷ (95 ∷ 48 ∷ 48 ∷ 55 ∷ 43 ∷ 32 ∷ []) ∷ (105 ∷ 110 ∷ 102 ∷ 116 ∷ 114 ∷ 117 ∷ 101 ∷ 44 ∷ []) ∷ (46 ∷ 57 ∷ []) ∷ (105 ∷ 110 ∷ 102 ∷ 48 ∷ 120 ∷ 57 ∷ 48 ∷ 48 ∷ 55 ∷ []) ∷ (44 ∷ 48 ∷ 88 ∷ 116 ∷ 114 ∷ 117 ∷ 101 ∷ []) ∷ (69 ∷ []) ∷ (43 ∷ 95 ∷ 43 ∷ 49 ∷ 50 ∷ 105 ∷ 110 ∷ 102 ∷ 105 ∷ 110 ∷ 105 ∷ 116 ∷ 121 ∷ []) ∷ (105 ∷ 110 ∷ 102 ∷ 105 ∷ 110 ∷ 105 ∷ 116 ∷ 121 ∷ 105 ∷ 110 ∷ 102 ∷ 102 ∷ 70 ∷ 32 ∷ []) ∷ (57 ∷ []) ∷ (110 ∷ 97 ∷ 110 ∷ 116 ∷ 114 ∷ 117 ∷ 101 ∷ 105 ∷ 110 ∷ 102 ∷ 105 ∷ 110 ∷ 105 ∷ 116 ∷ 121 ∷ 102 ∷ 70 ∷ []) ∷ (105 ∷ 110 ∷ 102 ∷ 101 ∷ 101 ∷ 110 ∷ 97 ∷ 110 ∷ []) ∷ (102 ∷ 97 ∷ 108 ∷ 115 ∷ 101 ∷ 49 ∷ 43 ∷ 48 ∷ 48 ∷ 55 ∷ []) ∷ (48 ∷ 48 ∷ 55 ∷ 101 ∷ []) ∷ (102 ∷ 70 ∷ 45 ∷ 102 ∷ 70 ∷ []) ∷ (49 ∷ 105 ∷ 110 ∷ 102 ∷ 105 ∷ 110 ∷ 105 ∷ 116 ∷ 121 ∷ 49 ∷ []) ∷ (95 ∷ 9 ∷ []) ∷ (110 ∷ 97 ∷ 110 ∷ 104 ∷ 97 ∷ 115 ∷ 104 ∷ 95 ∷ 45 ∷ 48 ∷ 48 ∷ 55 ∷ []) ∷ (95 ∷ []) ∷ (48 ∷ 48 ∷ 55 ∷ 104 ∷ 97 ∷ 115 ∷ 104 ∷ 95 ∷ 32 ∷ 102 ∷ 97 ∷ 108 ∷ 115 ∷ 101 ∷ 43 ∷ []) ∷ (57 ∷ 102 ∷ 97 ∷ 108 ∷ 115 ∷ 101 ∷ 49 ∷ 50 ∷ 110 ∷ 97 ∷ 110 ∷ []) ∷ (48 ∷ 120 ∷ 57 ∷ 104 ∷ 97 ∷ 115 ∷ 104 ∷ 95 ∷ []) ∷ (105 ∷ 110 ∷ 102 ∷ 105 ∷ 110 ∷ 105 ∷ 116 ∷ 121 ∷ 104 ∷ 97 ∷ 115 ∷ 104 ∷ 95 ∷ 101 ∷ 44 ∷ []) ∷ (43 ∷ 43 ∷ 57 ∷ 49 ∷ 50 ∷ []) ∷ (48 ∷ 88 ∷ 95 ∷ 71 ∷ 32 ∷ 110 ∷ 97 ∷ 110 ∷ []) ∷ (46 ∷ 110 ∷ 97 ∷ 110 ∷ 105 ∷ 110 ∷ 102 ∷ []) ∷ (97 ∷ 49 ∷ []) ∷ (48 ∷ 48 ∷ 55 ∷ 116 ∷ 114 ∷ 117 ∷ 101 ∷ 46 ∷ 44 ∷ 9 ∷ []) ∷ (110 ∷ 97 ∷ 110 ∷ 48 ∷ 48 ∷ 55 ∷ 71 ∷ []) ∷ (116 ∷ 114 ∷ 117 ∷ 101 ∷ 43 ∷ []) ∷ (116 ∷ 114 ∷ 117 ∷ 101 ∷ 57 ∷ 48 ∷ 120 ∷ 9 ∷ 32 ∷ []) ∷ (46 ∷ 49 ∷ 49 ∷ 50 ∷ 49 ∷ 50 ∷ 48 ∷ 48 ∷ 55 ∷ []) ∷ (105 ∷ 110 ∷ 102 ∷ 57 ∷ 71 ∷ 105 ∷ 110 ∷ 102 ∷ 105 ∷ 110 ∷ 105 ∷ 116 ∷ 121 ∷ []) ∷ (32 ∷ 57 ∷ 105 ∷ 110 ∷ 102 ∷ 105 ∷ 110 ∷ 105 ∷ 116 ∷ 121 ∷ 48 ∷ 48 ∷ 55 ∷ 105 ∷ 110 ∷ 102 ∷ 105 ∷ 110 ∷ 105 ∷ 116 ∷ 121 ∷ []) ∷ (32 ∷ 69 ∷ 32 ∷ []) ∷ (43 ∷ 102 ∷ 70 ∷ []) ∷ (48 ∷ 48 ∷ 55 ∷ 69 ∷ 101 ∷ []) ∷ (49 ∷ 50 ∷ 45 ∷ []) ∷ (48 ∷ 48 ∷ 55 ∷ 116 ∷ 114 ∷ 117 ∷ 101 ∷ []) ∷ (49 ∷ 95 ∷ 105 ∷ 110 ∷ 102 ∷ 105 ∷ 110 ∷ 105 ∷ 116 ∷ 121 ∷ []) ∷ []

readings : map read texts ≡ reading 0 (Ok 0) (Err Unfit) (Err Unfit) 0x0 0 ∷ reading 0 (Ok 0) (Err Unfit) (Err Unfit) 0x0 0 ∷ reading 0 (Ok 1) (Err Unfit) (Err Unfit) 0x38185521 1 ∷ reading 0 (Ok 0) (Err Unfit) (Err Unfit) 0xEA6A35B4 1 ∷ reading 1 (Ok 7) (Ok 0x40E00000) (Err Unfit) 0xECC9D984 1 ∷ reading 0 (Err Unfit) (Err Unfit) (Err Unfit) 0xCA2E9442 1 ∷ reading 0 (Err Unfit) (Err Unfit) (Err Unfit) 0xDB819B 1 ∷ reading 0 (Err Unfit) (Err Unfit) (Err Unfit) 0x9872324C 1 ∷ reading 0 (Err Unfit) (Err Unfit) (Err Unfit) 0xD3AC69A2 1 ∷ reading 0 (Err Unfit) (Err Unfit) (Err Unfit) 0x8782BB5F 1 ∷ reading 0 (Err Unfit) (Err Unfit) (Err Unfit) 0x77DD1C14 1 ∷ reading 0 (Ok 1) (Err Unfit) (Err Unfit) 0xB2F35C25 1 ∷ reading 0 (Err Unfit) (Err Unfit) (Err Unfit) 0x74A7DE27 1 ∷ reading 0 (Err Unfit) (Err Unfit) (Err Unfit) 0x1F 1 ∷ reading 0 (Ok 42) (Err Unfit) (Err Unfit) 0x2A 1 ∷ reading 0 (Err Unfit) (Err Unfit) (Err Unfit) 0xD62B88A 1 ∷ reading 0 (Err Unfit) (Err Unfit) (Err Unfit) 0x1AD2F57E 1 ∷ reading 0 (Err Unfit) (Err Unfit) (Err Unfit) 0x8E3BFD10 1 ∷ reading 0 (Err Unfit) (Err Unfit) (Err Unfit) 0x371A6E28 1 ∷ reading 0 (Err Unfit) (Err Unfit) (Err Unfit) 0xCE43E52D 1 ∷ reading 0 (Err Unfit) (Err Unfit) (Err Unfit) 0x8034004A 1 ∷ reading 1 (Ok 1) (Ok 0x3FC00000) (Err Unfit) 0xC8FBD9A 1 ∷ reading 1 (Ok 0) (Ok 0x0) (Err Unfit) 0x6E3C5C6B 1 ∷ reading 1 (Ok 1) (Ok 0x3F800000) (Err Unfit) 0x806B80C9 1 ∷ reading 1 (Ok 7) (Ok 0x40E00000) (Err Unfit) 0xECC9D984 1 ∷ reading 1 (Ok 18446744073709551615) (Ok 0xBF800000) (Err Unfit) 0x9855FFF 1 ∷ reading 1 (Ok 5) (Ok 0x40A00000) (Err Unfit) 0x1E2B0BE2 1 ∷ reading 1 (Ok 0) (Ok 0x80000000) (Err Unfit) 0x2AB9A26B 1 ∷ reading 1 (Ok 7) (Ok 0x40E00000) (Err Unfit) 0xD80EC868 1 ∷ reading 1 (Ok 255) (Ok 0x437F0000) (Err Unfit) 0x9945F98D 1 ∷ reading 1 (Ok 256) (Ok 0x43800000) (Err Unfit) 0xC33DCD7C 1 ∷ reading 1 (Ok 18446744073709551488) (Ok 0xC3000000) (Err Unfit) 0x5EC2FB0E 1 ∷ reading 1 (Ok 65536) (Ok 0x47800000) (Err Unfit) 0xA6F9B458 1 ∷ reading 1 (Ok 2147483648) (Err FloatText) (Err FloatText) 0x14E248FA 1 ∷ reading 1 (Ok 4294967295) (Err FloatText) (Err FloatText) 0x8E0596F1 1 ∷ reading 1 (Ok 4294967296) (Err FloatText) (Err FloatText) 0xA043BB6D 1 ∷ reading 1 (Ok 9223372036854775807) (Err FloatText) (Err FloatText) 0x496A04CD 1 ∷ reading 1 (Ok 9223372036854775808) (Err FloatText) (Err FloatText) 0x926216C0 1 ∷ reading 1 (Ok 9223372036854775808) (Err FloatText) (Err FloatText) 0xBE927974 1 ∷ reading 1 (Ok 18446744073709551615) (Err FloatText) (Err FloatText) 0xCA4B5AE3 1 ∷ reading 1 (Ok 18446744073709551615) (Err FloatText) (Err FloatText) 0xB7F5BD41 1 ∷ reading 1 (Ok 16777217) (Ok 0x4B800000) (Err Unfit) 0x9CC9C11B 1 ∷ reading 1 (Ok 16777219) (Ok 0x4B800002) (Err Unfit) 0x7F9286AD 1 ∷ reading 0 (Ok 0) (Err Unfit) (Err Unfit) 0x0 1 ∷ reading 0 (Ok 31) (Err Unfit) (Err Unfit) 0x1F 1 ∷ reading 0 (Ok 31) (Err Unfit) (Err Unfit) 0x1F 1 ∷ reading 0 (Ok 4294967295) (Err Unfit) (Err Unfit) 0xFFFFFFFF 1 ∷ reading 0 (Ok 9223372036854775807) (Err Unfit) (Err Unfit) 0xFD6FD67E 1 ∷ reading 0 (Ok 9223372036854775808) (Err Unfit) (Err Unfit) 0x35CEB604 1 ∷ reading 0 (Ok 18446744073709551615) (Err Unfit) (Err Unfit) 0xEB80DFF9 1 ∷ reading 0 (Ok 18446744073709551615) (Err Unfit) (Err Unfit) 0x81731C29 1 ∷ reading 0 (Ok 1) (Err Unfit) (Err Unfit) 0x1 1 ∷ reading 0 (Ok 9223372036854775808) (Err Unfit) (Err Unfit) 0xCD81711F 1 ∷ reading 0 (Ok 255) (Err Unfit) (Err Unfit) 0xFF 1 ∷ reading 0 (Err Unfit) (Err Unfit) (Err Unfit) 0xBB14572C 1 ∷ reading 1 (Ok 0) (Ok 0x0) (Err Unfit) 0xB37E5FC 1 ∷ reading 1 (Ok 12) (Ok 0x41400000) (Err Unfit) 0x7401B0B6 1 ∷ reading 1 (Ok 99) (Ok 0x42C60000) (Err Unfit) 0x43E6C589 1 ∷ reading 1 (Ok 31) (Ok 0x41F80000) (Err Unfit) 0xAECE241E 1 ∷ reading 1 (Ok 32) (Ok 0x42000000) (Err Unfit) 0xE6C01401 1 ∷ reading 0 (Ok 32) (Err Unfit) (Err Unfit) 0x20 1 ∷ reading 1 (Ok 18446744073709551585) (Ok 0xC1F80000) (Err Unfit) 0xBFDA8FF7 1 ∷ reading 0 (Err Unfit) (Err Unfit) (Err Unfit) 0xB16CAC9F 1 ∷ reading 0 (Err Unfit) (Err Unfit) (Err Unfit) 0x989D7B05 1 ∷ reading 0 (Err Unfit) (Err Unfit) (Err Unfit) 0xC52165CE 1 ∷ reading 0 (Err Unfit) (Err Unfit) (Err Unfit) 0x5BE69362 1 ∷ reading 0 (Err Unfit) (Err Unfit) (Err Unfit) 0xBC1953C6 1 ∷ reading 0 (Err Unfit) (Err Unfit) (Err Unfit) 0x630A552C 2 ∷ reading 0 (Err Unfit) (Err Unfit) (Err Unfit) 0xF4A830E 1 ∷ reading 0 (Err Unfit) (Err Unfit) (Err Unfit) 0xA2F91C0B 1 ∷ reading 0 (Err Unfit) (Err Unfit) (Err Unfit) 0x11E1A3B7 1 ∷ reading 0 (Err Unfit) (Err Unfit) (Err Unfit) 0x96B14895 1 ∷ reading 0 (Err Unfit) (Err Unfit) (Err Unfit) 0x902CD5B3 1 ∷ reading 0 (Err Unfit) (Err Unfit) (Err Unfit) 0x7A97BDF2 1 ∷ reading 0 (Err Unfit) (Err Unfit) (Ok (0x3F800000 ∷ 0x40000000 ∷ 0x0 ∷ 0x0 ∷ [])) 0x901BD704 2 ∷ reading 0 (Err Unfit) (Err Unfit) (Err Unfit) 0x232C81C4 1 ∷ reading 0 (Err Unfit) (Err Unfit) (Err Unfit) 0xA6F154FC 1 ∷ reading 0 (Err Unfit) (Err Unfit) (Err Unfit) 0x2F1CEC6E 1 ∷ reading 0 (Err Unfit) (Err Unfit) (Err Unfit) 0x48FC91EC 1 ∷ reading 0 (Err Unfit) (Err Unfit) (Err Unfit) 0x1708FB06 1 ∷ reading 0 (Err Unfit) (Err Unfit) (Err Unfit) 0x8172FB92 1 ∷ reading 0 (Err Unfit) (Err Unfit) (Err Unfit) 0x77C53841 1 ∷ reading 0 (Err Unfit) (Err Unfit) (Err Unfit) 0x50873EFC 1 ∷ reading 0 (Err Unfit) (Err Unfit) (Err Unfit) 0x77B69F75 1 ∷ reading 0 (Err Unfit) (Err Unfit) (Err Unfit) 0x4D5FA44B 1 ∷ reading 0 (Err Unfit) (Err Unfit) (Err Unfit) 0xBCDDEAAD 1 ∷ reading 0 (Err Unfit) (Err Unfit) (Err Unfit) 0x1098610D 1 ∷ reading 0 (Err Unfit) (Err Unfit) (Err Unfit) 0xA6BC1C50 1 ∷ reading 0 (Err Unfit) (Err Unfit) (Err Unfit) 0xB602D99A 1 ∷ reading 0 (Err Unfit) (Err Unfit) (Err Unfit) 0xA6A90F48 1 ∷ reading 0 (Err Unfit) (Err Unfit) (Err Unfit) 0x669698F4 1 ∷ reading 0 (Err Unfit) (Err Unfit) (Err Unfit) 0x2FB3AEF7 1 ∷ reading 0 (Err Unfit) (Err Unfit) (Err Unfit) 0xAC62DCDA 1 ∷ reading 0 (Err Unfit) (Err Unfit) (Ok (0x3F800000 ∷ 0x3F000000 ∷ 0x0 ∷ 0x0 ∷ [])) 0x231D54BD 2 ∷ reading 0 (Err Unfit) (Err Unfit) (Ok (0x3F800000 ∷ 0x40A00000 ∷ 0x0 ∷ 0x0 ∷ [])) 0xFB7C6037 2 ∷ reading 0 (Err Unfit) (Err Unfit) (Err Unfit) 0xE02BA4D8 1 ∷ reading 0 (Err Unfit) (Err Unfit) (Err Unfit) 0x13C998D1 1 ∷ reading 1 (Err FloatText) (Err FloatText) (Err FloatText) 0x93C0456D 1 ∷ reading 1 (Err FloatText) (Err FloatText) (Err FloatText) 0x9CF1FC94 1 ∷ reading 1 (Err FloatText) (Err FloatText) (Err FloatText) 0x7EAEBCD8 1 ∷ reading 1 (Err FloatText) (Err FloatText) (Err FloatText) 0x86040666 1 ∷ reading 1 (Err FloatText) (Err FloatText) (Err FloatText) 0x97B55FD5 1 ∷ reading 1 (Err FloatText) (Err FloatText) (Err FloatText) 0xFDD40615 1 ∷ reading 1 (Err FloatText) (Err FloatText) (Err FloatText) 0xFAAE4187 1 ∷ reading 1 (Err FloatText) (Err FloatText) (Err FloatText) 0x55713380 1 ∷ reading 1 (Err FloatText) (Err FloatText) (Err FloatText) 0x26BFD116 1 ∷ reading 1 (Err FloatText) (Err FloatText) (Err FloatText) 0xDB5B36A2 1 ∷ reading 1 (Err FloatText) (Err FloatText) (Err FloatText) 0x8608F0AE 1 ∷ reading 1 (Err FloatText) (Err FloatText) (Err FloatText) 0x7D0AD449 1 ∷ reading 1 (Err FloatText) (Err FloatText) (Err FloatText) 0x463B0CD1 1 ∷ reading 1 (Err FloatText) (Err FloatText) (Err FloatText) 0xB05DDD0B 1 ∷ reading 1 (Err FloatText) (Err FloatText) (Err FloatText) 0x7861B711 1 ∷ reading 1 (Err FloatText) (Err FloatText) (Err FloatText) 0xF68C76FB 1 ∷ reading 1 (Err FloatText) (Err FloatText) (Err FloatText) 0x6F974753 1 ∷ reading 1 (Err FloatText) (Err FloatText) (Err FloatText) 0x74B58CDC 1 ∷ reading 1 (Err FloatText) (Err FloatText) (Err FloatText) 0x45BD986F 1 ∷ reading 1 (Err FloatText) (Err FloatText) (Err FloatText) 0xFF281400 1 ∷ reading 1 (Err FloatText) (Err FloatText) (Err FloatText) 0x523F9768 1 ∷ reading 1 (Err FloatText) (Err FloatText) (Err FloatText) 0x88D6FA7E 1 ∷ reading 1 (Err FloatText) (Err FloatText) (Err FloatText) 0x680AC4F8 1 ∷ reading 1 (Err FloatText) (Err FloatText) (Err FloatText) 0xE226418A 1 ∷ reading 1 (Err FloatText) (Err FloatText) (Err FloatText) 0x2C029FEF 1 ∷ reading 1 (Err FloatText) (Err FloatText) (Err FloatText) 0x62EB658F 1 ∷ reading 1 (Err FloatText) (Err FloatText) (Err FloatText) 0xE9AAF955 1 ∷ reading 1 (Err FloatText) (Err FloatText) (Err FloatText) 0xC9F54BEA 1 ∷ reading 1 (Err FloatText) (Err FloatText) (Err FloatText) 0x9D329301 1 ∷ reading 1 (Err FloatText) (Err FloatText) (Err FloatText) 0x3E399342 1 ∷ reading 1 (Err FloatText) (Err FloatText) (Err FloatText) 0x6053DE04 1 ∷ reading 1 (Err FloatText) (Err FloatText) (Err FloatText) 0xE331161 1 ∷ reading 0 (Err Unfit) (Err Unfit) (Err Unfit) 0x199A50B2 1 ∷ reading 0 (Err Unfit) (Err Unfit) (Err Unfit) 0x210E0B42 1 ∷ reading 0 (Err Unfit) (Err Unfit) (Err Unfit) 0xFFFFFFFF 1 ∷ reading 0 (Err Unfit) (Err Unfit) (Err Unfit) 0xDCD9038D 1 ∷ reading 0 (Err Unfit) (Err Unfit) (Err Unfit) 0x1 1 ∷ reading 0 (Err Unfit) (Err Unfit) (Err Unfit) 0xDE5D3446 1 ∷ reading 0 (Err Unfit) (Err Unfit) (Err Unfit) 0xF9489EB8 1 ∷ reading 0 (Ok 31) (Err Unfit) (Err Unfit) 0x1F 1 ∷ reading 0 (Ok 4294967296) (Err Unfit) (Err Unfit) 0x12D47BE 1 ∷ reading 0 (Err Unfit) (Err Unfit) (Err Unfit) 0x42034932 1 ∷ reading 0 (Err Unfit) (Err Unfit) (Err Unfit) 0xF17D3043 1 ∷ reading 0 (Err Unfit) (Err Unfit) (Err Unfit) 0xB347AC10 2 ∷ reading 1 (Ok 18446744073709551615) (Ok 0xBFC00000) (Err Unfit) 0xCCE85BD3 1 ∷ reading 1 (Ok 1) (Ok 0x3F800000) (Err Unfit) 0xAC712198 1 ∷ reading 1 (Ok 0) (Ok 0x3F000000) (Err Unfit) 0x42DAD175 1 ∷ reading 1 (Ok 0) (Ok 0x3F000000) (Err Unfit) 0xCD55C5C8 1 ∷ reading 1 (Ok 3) (Ok 0x40400000) (Err Unfit) 0xA03A86F7 1 ∷ reading 1 (Ok 12) (Ok 0x41480000) (Err Unfit) 0xDE312745 1 ∷ reading 1 (Ok 18446744073709551604) (Ok 0xC14E6666) (Err Unfit) 0x34C1F5E0 1 ∷ reading 1 (Ok 0) (Ok 0xBF666666) (Err Unfit) 0x9437E669 1 ∷ reading 1 (Ok 257) (Ok 0x4380C000) (Err Unfit) 0xC8EC5F27 1 ∷ reading 1 (Ok 0) (Ok 0x3DCCCCCD) (Err Unfit) 0x7869A693 1 ∷ reading 1 (Ok 18446744073709551614) (Ok 0xC0200000) (Err Unfit) 0x542878B3 1 ∷ reading 1 (Ok 0) (Ok 0x80000000) (Err Unfit) 0xB08E1EA5 1 ∷ reading 1 (Ok 0) (Ok 0x80000000) (Err Unfit) 0x90974691 1 ∷ reading 1 (Ok 0) (Ok 0x80000000) (Err Unfit) 0x1D8062A1 1 ∷ reading 1 (Ok 0) (Ok 0x0) (Err Unfit) 0x63E64B5A 1 ∷ reading 1 (Ok 0) (Ok 0x0) (Err Unfit) 0x2E6180A1 1 ∷ reading 1 (Ok 0) (Ok 0x0) (Err Unfit) 0x2A056A05 1 ∷ reading 1 (Ok 0) (Ok 0x80000000) (Err Unfit) 0xC35C5B07 1 ∷ reading 1 (Ok 0) (Ok 0x3F000000) (Err Unfit) 0x52A3B2D9 1 ∷ reading 1 (Ok 0) (Ok 0x3F000000) (Err Unfit) 0xBE5C2814 1 ∷ reading 1 (Ok 18446744073709551609) (Ok 0xC0E00000) (Err Unfit) 0xBF60CBA7 1 ∷ reading 1 (Ok 7) (Ok 0x40E00000) (Err Unfit) 0xFDE0332C 1 ∷ reading 1 (Ok 999999999) (Ok 0x4E6E6B28) (Err Unfit) 0xE289CF26 1 ∷ reading 1 (Ok 0) (Ok 0x3F800000) (Err Unfit) 0xD9330492 1 ∷ reading 1 (Ok 99999999) (Ok 0x4CBEBC20) (Err Unfit) 0xEDDB35D8 1 ∷ reading 1 (Ok 18446744072709551617) (Ok 0xCE6E6B28) (Err Unfit) 0x15FBEDAB 1 ∷ reading 1 (Ok 0) (Ok 0x3089705F) (Err Unfit) 0x74447E7E 1 ∷ reading 1 (Ok 0) (Ok 0xB22BCC77) (Err Unfit) 0x5C7B78C5 1 ∷ reading 1 (Ok 123456789) (Ok 0x4CEB79A3) (Err Unfit) 0xC66B58C5 1 ∷ reading 1 (Ok 123456789) (Ok 0x4CEB79A3) (Err Unfit) 0xF58BA775 1 ∷ reading 1 (Ok 0) (Ok 0x3DFCD6EA) (Err Unfit) 0x29E65992 1 ∷ reading 1 (Ok 12345) (Ok 0x4640E6B7) (Err Unfit) 0x7AC90BA9 1 ∷ reading 1 (Ok 8388608) (Ok 0x4B000000) (Err Unfit) 0x953999F2 1 ∷ reading 1 (Ok 8388609) (Ok 0x4B000002) (Err Unfit) 0x7401A90C 1 ∷ reading 1 (Ok 18446744073701163007) (Ok 0xCB000002) (Err Unfit) 0x6515115E 1 ∷ reading 1 (Ok 4194304) (Ok 0x4A800000) (Err Unfit) 0x3F4EC224 1 ∷ reading 1 (Ok 4194304) (Ok 0x4A800002) (Err Unfit) 0x5E05E126 1 ∷ reading 1 (Ok 18446744073692774399) (Ok 0xCB800000) (Err Unfit) 0x8365AC9C 1 ∷ reading 1 (Ok 33554434) (Ok 0x4C000000) (Err Unfit) 0x168D066D 1 ∷ reading 1 (Ok 16777216) (Ok 0x4B800000) (Err Unfit) 0x1E5090C0 1 ∷ reading 1 (Ok 0) (Ok 0x3E99999A) (Err Unfit) 0x48985893 1 ∷ reading 0 (Err Unfit) (Err Unfit) (Err Unfit) 0xEC7858DD 1 ∷ reading 0 (Err Unfit) (Err Unfit) (Err Unfit) 0xE941827C 1 ∷ reading 0 (Err Unfit) (Err Unfit) (Err Unfit) 0x6871537F 1 ∷ reading 0 (Err Unfit) (Err Unfit) (Err Unfit) 0x847CE889 2 ∷ reading 0 (Err Unfit) (Err Unfit) (Err Unfit) 0x71849D32 1 ∷ reading 0 (Err Unfit) (Err Unfit) (Err Unfit) 0x8CB0D75B 1 ∷ reading 0 (Err Unfit) (Err Unfit) (Err Unfit) 0x763ED30F 1 ∷ reading 0 (Err Unfit) (Err Unfit) (Err Unfit) 0x989D7B05 1 ∷ reading 0 (Err Unfit) (Err Unfit) (Err Unfit) 0x50BC2E84 1 ∷ reading 0 (Err Unfit) (Err Unfit) (Err Unfit) 0x514A9844 1 ∷ reading 1 (Ok 129) (Ok 0x43010000) (Err Unfit) 0x9C044445 1 ∷ reading 0 (Err Unfit) (Err Unfit) (Err Unfit) 0xF5E12DF6 1 ∷ reading 0 (Err Unfit) (Err Unfit) (Err Unfit) 0xE 1 ∷ reading 0 (Err Unfit) (Err Unfit) (Err Unfit) 0xCA2E9442 1 ∷ reading 0 (Err Unfit) (Err Unfit) (Err Unfit) 0x4E4B4C13 1 ∷ reading 0 (Err Unfit) (Err Unfit) (Err Unfit) 0xD7B0549C 1 ∷ reading 0 (Err Unfit) (Err Unfit) (Err Unfit) 0x468F4997 1 ∷ reading 0 (Err Unfit) (Err Unfit) (Err Unfit) 0xEF53B498 1 ∷ reading 0 (Err Unfit) (Err Unfit) (Err Unfit) 0x5B0FFFA3 2 ∷ reading 0 (Err Unfit) (Err Unfit) (Err Unfit) 0xF80876E1 1 ∷ reading 0 (Err Unfit) (Err Unfit) (Err Unfit) 0xA07ED312 2 ∷ reading 0 (Err Unfit) (Err Unfit) (Err Unfit) 0x39D2AC04 1 ∷ reading 0 (Err Unfit) (Err Unfit) (Err Unfit) 0x3F52897D 1 ∷ reading 0 (Err Unfit) (Err Unfit) (Err Unfit) 0xD368C069 2 ∷ reading 0 (Err Unfit) (Err Unfit) (Err Unfit) 0xD5FCB1E4 1 ∷ reading 0 (Err Unfit) (Err Unfit) (Err Unfit) 0x25F6BC5C 1 ∷ reading 0 (Err Unfit) (Err Unfit) (Err Unfit) 0x7EA8D3E0 1 ∷ reading 0 (Err Unfit) (Err Unfit) (Err Unfit) 0x84E68C4E 1 ∷ reading 0 (Err Unfit) (Err Unfit) (Err Unfit) 0x3AFF4B8A 2 ∷ reading 0 (Err Unfit) (Err Unfit) (Err Unfit) 0x2548CA85 0 ∷ reading 0 (Err Unfit) (Err Unfit) (Err Unfit) 0xDD0B9416 1 ∷ reading 0 (Err Unfit) (Err Unfit) (Err Unfit) 0xCFF7156D 1 ∷ reading 1 (Err FloatText) (Err FloatText) (Err FloatText) 0xE3E57CD0 1 ∷ reading 0 (Err Unfit) (Err Unfit) (Err Unfit) 0xD29B1F42 1 ∷ reading 0 (Err Unfit) (Err Unfit) (Err Unfit) 0x97B72905 1 ∷ reading 0 (Err Unfit) (Err Unfit) (Err Unfit) 0xB01C43E0 2 ∷ reading 0 (Err Unfit) (Err Unfit) (Err Unfit) 0x7B201731 2 ∷ reading 0 (Err Unfit) (Err Unfit) (Err Unfit) 0x53819E20 1 ∷ reading 0 (Err Unfit) (Err Unfit) (Err Unfit) 0x8A0676E 1 ∷ reading 0 (Err Unfit) (Err Unfit) (Err Unfit) 0x1F6BB8BE 1 ∷ reading 0 (Err Unfit) (Err Unfit) (Err Unfit) 0xA89B009B 2 ∷ reading 0 (Err Unfit) (Err Unfit) (Err Unfit) 0x375A73AF 2 ∷ reading 0 (Err Unfit) (Err Unfit) (Err Unfit) 0x9B3CF64F 1 ∷ reading 0 (Err Unfit) (Err Unfit) (Err Unfit) 0x9CED7D8 1 ∷ reading 0 (Err Unfit) (Err Unfit) (Err Unfit) 0x636E9D66 1 ∷ reading 0 (Err Unfit) (Err Unfit) (Err Unfit) 0x9EB95573 1 ∷ reading 1 (Ok 0) (Ok 0x3DCCCCCD) (Err Unfit) 0x4D6C66A0 1 ∷ reading 0 (Err Unfit) (Err Unfit) (Err Unfit) 0x3717B74F 1 ∷ reading 0 (Err Unfit) (Err Unfit) (Err Unfit) 0xA7A07AB1 1 ∷ reading 0 (Err Unfit) (Err Unfit) (Err Unfit) 0x8179A432 1 ∷ reading 0 (Err Unfit) (Err Unfit) (Err Unfit) 0x403DCE23 1 ∷ reading 0 (Err Unfit) (Err Unfit) (Err Unfit) 0xB4BF6E88 1 ∷ reading 0 (Err Unfit) (Err Unfit) (Err Unfit) 0x2DBFD11 1 ∷ reading 0 (Err Unfit) (Err Unfit) (Err Unfit) 0xBC0C9067 2 ∷ reading 0 (Err Unfit) (Err Unfit) (Err Unfit) 0x81D83390 1 ∷ reading 0 (Err Unfit) (Err Unfit) (Err Unfit) 0xD3D4FC77 1 ∷ reading 0 (Err Unfit) (Err Unfit) (Err Unfit) 0xD7FC76F8 1 ∷ reading 0 (Err Unfit) (Err Unfit) (Err Unfit) 0x238B6C13 1 ∷ reading 0 (Err Unfit) (Err Unfit) (Err Unfit) 0xD8ADF5E6 1 ∷ reading 0 (Err Unfit) (Err Unfit) (Err Unfit) 0x5F8D49A 1 ∷ reading 0 (Err Unfit) (Err Unfit) (Err Unfit) 0x371A6E28 1 ∷ reading 0 (Err Unfit) (Err Unfit) (Err Unfit) 0xE7D729F2 1 ∷ reading 0 (Err Unfit) (Err Unfit) (Err Unfit) 0x195F5395 1 ∷ reading 0 (Err Unfit) (Err Unfit) (Err Unfit) 0x8A95F333 1 ∷ reading 0 (Err Unfit) (Err Unfit) (Err Unfit) 0xBD9BC0F0 1 ∷ reading 0 (Err Unfit) (Err Unfit) (Err Unfit) 0x9D602375 1 ∷ reading 0 (Err Unfit) (Err Unfit) (Err Unfit) 0xAC47C37F 2 ∷ reading 0 (Err Unfit) (Err Unfit) (Err Unfit) 0x72C29414 1 ∷ reading 0 (Err Unfit) (Err Unfit) (Err Unfit) 0x7AFB2869 1 ∷ reading 0 (Err Unfit) (Err Unfit) (Err Unfit) 0xA6BDB463 1 ∷ reading 0 (Err Unfit) (Err Unfit) (Err Unfit) 0xAAA23EEE 1 ∷ reading 0 (Err Unfit) (Err Unfit) (Err Unfit) 0xB1A0F695 2 ∷ reading 1 (Err FloatText) (Err FloatText) (Err FloatText) 0xE3E57CD0 1 ∷ reading 0 (Err Unfit) (Err Unfit) (Err Unfit) 0x5E09ED1A 2 ∷ reading 0 (Err Unfit) (Err Unfit) (Err Unfit) 0xD8CF340 1 ∷ reading 0 (Err Unfit) (Err Unfit) (Err Unfit) 0x4384B5C1 1 ∷ reading 0 (Err Unfit) (Err Unfit) (Err Unfit) 0xF2CC719F 2 ∷ reading 0 (Err Unfit) (Err Unfit) (Err Unfit) 0xBDE0B49F 1 ∷ reading 1 (Ok 71212) (Ok 0x478B1600) (Err Unfit) 0x2D179469 1 ∷ reading 0 (Err Unfit) (Err Unfit) (Err Unfit) 0x9474D484 1 ∷ reading 0 (Err Unfit) (Err Unfit) (Err Unfit) 0x7FC210BB 1 ∷ reading 0 (Err Unfit) (Err Unfit) (Err Unfit) 0x2AFF3F3C 1 ∷ reading 0 (Err Unfit) (Err Unfit) (Err Unfit) 0x274E26BF 2 ∷ reading 0 (Err Unfit) (Err Unfit) (Err Unfit) 0xD13E6684 1 ∷ reading 0 (Err Unfit) (Err Unfit) (Err Unfit) 0xD4E54FC5 1 ∷ reading 0 (Err Unfit) (Err Unfit) (Err Unfit) 0x989D7B05 1 ∷ reading 0 (Err Unfit) (Err Unfit) (Err Unfit) 0x9D4C73C2 1 ∷ reading 0 (Err Unfit) (Err Unfit) (Err Unfit) 0x6AD02994 2 ∷ reading 0 (Err Unfit) (Err Unfit) (Err Unfit) 0xBA4813B4 2 ∷ reading 0 (Err Unfit) (Err Unfit) (Err Unfit) 0x9F350F42 1 ∷ reading 0 (Err Unfit) (Err Unfit) (Err Unfit) 0xBDB4EDA3 1 ∷ reading 0 (Err Unfit) (Err Unfit) (Err Unfit) 0x11162210 1 ∷ reading 0 (Ok 0) (Err Unfit) (Err Unfit) 0x0 0 ∷ reading 0 (Err Unfit) (Err Unfit) (Err Unfit) 0x9666E3B2 1 ∷ reading 0 (Err Unfit) (Err Unfit) (Err Unfit) 0xFFA 1 ∷ reading 0 (Err Unfit) (Err Unfit) (Err Unfit) 0x98BC7D2C 1 ∷ reading 1 (Ok 7) (Ok 0x40E00000) (Err Unfit) 0xD80EC868 1 ∷ reading 0 (Err Unfit) (Err Unfit) (Err Unfit) 0xCB508913 1 ∷ reading 0 (Err Unfit) (Err Unfit) (Err Unfit) 0x19E380B6 1 ∷ reading 0 (Err Unfit) (Err Unfit) (Err Unfit) 0xECC8A681 1 ∷ reading 0 (Err Unfit) (Err Unfit) (Err Unfit) 0x5E277AE2 1 ∷ reading 1 (Ok 0) (Ok 0x3F666666) (Err Unfit) 0xFBD34363 1 ∷ reading 0 (Err Unfit) (Err Unfit) (Err Unfit) 0xE140ED84 1 ∷ reading 0 (Err Unfit) (Err Unfit) (Err Unfit) 0xDCAAE97F 1 ∷ reading 0 (Err Unfit) (Err Unfit) (Err Unfit) 0xC8CC9186 1 ∷ reading 0 (Err Unfit) (Err Unfit) (Err Unfit) 0x14478D28 1 ∷ reading 0 (Err Unfit) (Err Unfit) (Err Unfit) 0x1A27AF99 1 ∷ reading 1 (Ok 9) (Ok 0x41100000) (Err Unfit) 0x1302A5F5 1 ∷ reading 0 (Err Unfit) (Err Unfit) (Err Unfit) 0x70B8EA08 1 ∷ reading 0 (Err Unfit) (Err Unfit) (Err Unfit) 0x5C3AFD1F 1 ∷ reading 0 (Err Unfit) (Err Unfit) (Err Unfit) 0x742FAE1C 1 ∷ reading 0 (Err Unfit) (Err Unfit) (Err Unfit) 0x649904 1 ∷ reading 0 (Err Unfit) (Err Unfit) (Err Unfit) 0x5889372D 1 ∷ reading 0 (Err Unfit) (Err Unfit) (Err Unfit) 0xD90377E6 1 ∷ reading 0 (Err Unfit) (Err Unfit) (Err Unfit) 0xA36846B6 1 ∷ reading 0 (Err Unfit) (Err Unfit) (Err Unfit) 0x9B382DD7 1 ∷ reading 0 (Err Unfit) (Err Unfit) (Err Unfit) 0xA36846B6 1 ∷ reading 0 (Err Unfit) (Err Unfit) (Err Unfit) 0xFB6B43AA 2 ∷ reading 0 (Err Unfit) (Err Unfit) (Err Unfit) 0xFAFB9E2C 1 ∷ reading 0 (Err Unfit) (Err Unfit) (Err Unfit) 0xD370A129 1 ∷ reading 0 (Err Unfit) (Err Unfit) (Err Unfit) 0x3D203B2E 1 ∷ reading 0 (Err Unfit) (Err Unfit) (Err Unfit) 0x86648162 1 ∷ reading 0 (Err Unfit) (Err Unfit) (Err Unfit) 0xB51184C4 2 ∷ reading 0 (Err Unfit) (Err Unfit) (Err Unfit) 0x573FFB8B 1 ∷ reading 0 (Err Unfit) (Err Unfit) (Err Unfit) 0xD3CA3A2E 1 ∷ reading 0 (Err Unfit) (Err Unfit) (Err Unfit) 0xDBDA39D1 1 ∷ reading 0 (Err Unfit) (Err Unfit) (Err Unfit) 0x365E2D5D 1 ∷ reading 0 (Err Unfit) (Err Unfit) (Err Unfit) 0x8B499D65 1 ∷ reading 0 (Err Unfit) (Err Unfit) (Err Unfit) 0xDDB25D4 1 ∷ reading 1 (Ok 0) (Ok 0x3DE59F35) (Err Unfit) 0xED3F8F66 1 ∷ reading 0 (Err Unfit) (Err Unfit) (Err Unfit) 0xCE8D1EF6 1 ∷ reading 0 (Err Unfit) (Err Unfit) (Err Unfit) 0x823D4056 1 ∷ reading 0 (Err Unfit) (Err Unfit) (Err Unfit) 0xC8CC9186 1 ∷ reading 0 (Err Unfit) (Err Unfit) (Err Unfit) 0x9EC87F01 1 ∷ reading 0 (Err Unfit) (Err Unfit) (Err Unfit) 0x70F79B8F 1 ∷ reading 0 (Err Unfit) (Err Unfit) (Err Unfit) 0x81578ED0 1 ∷ reading 0 (Err Unfit) (Err Unfit) (Err Unfit) 0x467727FB 1 ∷ reading 0 (Err Unfit) (Err Unfit) (Err Unfit) 0x27356A76 1 ∷ []
unfolding Eval.evaluated texts read
readings = refl

wholes : List ℕ
wholes = 0x200000 ∷ 0x80000080002 ∷ 0xFFFFFFFFFFFFF801 ∷ 0xFFFFE00000000000 ∷ 0xFFFFFFFFFF000001 ∷ 0xFFFFFFFF00000001 ∷ 0xFABF01DBDAC826C6 ∷ 0xFFFDACA87043A6AA ∷ 0x242EECB4B8C261 ∷ 0xFFFFFFFFFFFF857D ∷ 0xFFFFFFFEFFFFFFFF ∷ 0x542F850B08E12C ∷ 0x1000000001 ∷ 0x1FFFFFFFF ∷ 0x100000302 ∷ 0xFFFFFFFEFFFFFCFE ∷ 0xFFFFFFFFFFF99A8C ∷ 0xFFFFFFC74029EB48 ∷ 0xFFFFFFFFEF964649 ∷ 0x394FDA1CCE6BC ∷ 0x27 ∷ 0x2000000000001 ∷ 0xCF21 ∷ 0xFFFFFFE704BA72D9 ∷ 0xFFFFFFFFFFFFFFFF ∷ 0x10000010000000 ∷ 0xFFFFFFFFFF000000 ∷ 0xFFFC000000000000 ∷ 0x6CC922E ∷ 0xFFFFECBA39BB0B89 ∷ 0x200000201 ∷ 0xFFFFFFFFEFFFFFFE ∷ 0xFFF96136E9BFA27F ∷ 0x10000000000000 ∷ 0xFFFFFFF7FFFFE7FF ∷ 0x0 ∷ 0x800000802 ∷ 0xFFFFFFFFFFFCCE3E ∷ 0x20000000 ∷ 0x800000000 ∷ 0x400000C00000 ∷ 0x3573B685D ∷ 0x100000302 ∷ 0x8000018 ∷ 0x800001800001 ∷ 0x959829277543 ∷ 0xFFFFFFFFFFFFFF94 ∷ 0x200000400001 ∷ 0x1FFFFFFFFFFFFFFF ∷ 0x400000000000001 ∷ 0x200000400000002 ∷ 0x2000004000002 ∷ 0x4000000000000001 ∷ 0xFFF20A2C85A20FE7 ∷ 0xFFFFFDFFFFFBFFFE ∷ 0x12 ∷ 0x4000008000002 ∷ 0xFFFFFFFBFFFFFFFF ∷ 0xFFFFE4317FB069C8 ∷ 0x80000000000001 ∷ 0x2AC ∷ 0xFFFFFFFFFFF7FFFF ∷ 0x16 ∷ 0xFFFFFFFFFFDCA7D7 ∷ 0x100000300 ∷ 0x100000100000002 ∷ 0xFFFFFFFFDFFFFFDF ∷ 0x400000400000001 ∷ 0x10000000000000 ∷ 0x4000008 ∷ 0xFFFFFFFFFFFFF6E0 ∷ 0x400000C0001 ∷ 0x1000000000000001 ∷ 0x7500634280110363 ∷ 0xFF80000000000001 ∷ 0xBFFFFF3FFFFFFFFE ∷ 0xFFFFFFFFFFFFFFFF ∷ 0xFFFFFFFF7FFFFEFE ∷ 0x3E4F96 ∷ 0x2 ∷ 0x1E3D15 ∷ 0xFFFFFFEFFFFFD000 ∷ 0x7FFFFFFFFFF ∷ 0x286AB94DCF28F77 ∷ 0x57FBA9068F6B6B0 ∷ 0x8000000000 ∷ 0x4C9 ∷ 0x7DD550DD53C60E ∷ 0x1CFA213B03E0 ∷ 0x4000000000000 ∷ 0xFFFBFFFFFBFFFFFF ∷ 0xFFFFFFFFBFFFFFBE ∷ 0x8 ∷ 0x2000004000000 ∷ 0xC7E7B62B2 ∷ 0x7FFFFFF ∷ 0xFDFFFFFE00000000 ∷ 0xFFFFFFFFF8000000 ∷ 0x4000000000000 ∷ 0x8000008001 ∷ 0xFFFFFFFF420F5041 ∷ 0x2E3E2806A0073F7A ∷ 0x5A7CF696E04 ∷ 0x80000082 ∷ 0x200000000000001 ∷ 0x339F4310B640B ∷ 0x18D7FEDD8935 ∷ 0x7F921C6C970 ∷ 0x400000000000002 ∷ 0x400000400000000 ∷ 0xFFF7B9E8FF8D0FF2 ∷ 0xE000000000000001 ∷ 0xDFFFFF9FFFFFFFFE ∷ 0x1B ∷ 0x1F ∷ 0x800000A ∷ 0x800000800000000 ∷ 0x1 ∷ 0xFEFFFFFCFFFFFFFF ∷ 0x1FFFF ∷ 0xFFFFFFFFFFF80000 ∷ 0x169F5F8D52B60C8 ∷ 0x8CB753CA20 ∷ 0x100000100000002 ∷ 0x200000402 ∷ 0x400000000000000 ∷ 0x100001 ∷ 0xFFFFFFFFFFFFFFF4 ∷ 0xBEE0CB ∷ 0x16D ∷ 0xFFFFFFFBFFFFF3FE ∷ 0xA146E099DA3D7 ∷ 0x8000000000000000 ∷ 0xB56 ∷ 0x1EAEDB81984 ∷ 0x7 ∷ 0x40000041 ∷ 0x2000000000000 ∷ 0xFFFFFFFFFFFFFFE9 ∷ 0x100000300000 ∷ 0x1B271E2E30F ∷ 0x1 ∷ 0x4D8ADF25 ∷ 0x17ACC498 ∷ 0xFFFFFEE4FA7BBE42 ∷ 0x7A ∷ 0xB3C47B ∷ 0x588DC ∷ 0x4E2BA1F2 ∷ 0x5A0BAAA ∷ 0xFFFFFE0000000000 ∷ 0x359426B ∷ 0x5EE878 ∷ 0xB29E51F ∷ 0xD028C38A97A477C7 ∷ 0x29191 ∷ 0x426B ∷ 0x3 ∷ 0x3FFFFFFFFFFFFFFF ∷ 0xFFFFFFFFEFFFFFDF ∷ 0xFFFFFFFFFFFFC001 ∷ 0x1 ∷ 0x15D55E256 ∷ 0x10000021 ∷ 0xFBFFFFFFFFFFFFFF ∷ 0xFFFFFFFFFFEC74FA ∷ 0xFFFFFFFFFFFFFFFD ∷ 0x100000001 ∷ 0xFFFFFFBFFFFFFFFF ∷ 0x40000040000 ∷ 0xFFEFFFFFDFFFFFFE ∷ 0x4000000000000000 ∷ 0xFFFFFFFFFEE1F1FF ∷ 0x8000000000000001 ∷ 0xF067F179060FF86F ∷ 0x800001001 ∷ 0xFFFFFFFFC0000001 ∷ 0xFFFFFFFE8BFB3D6A ∷ 0x241 ∷ 0x2E9607EC09 ∷ 0xFFFFFFFFFFFFFFE3 ∷ 0x2000 ∷ 0x3FF ∷ 0x1B7D60FDFCB56C3 ∷ 0x44D67D1 ∷ 0x200000401 ∷ 0x2ADC45 ∷ 0x20F31 ∷ 0xE277EC35B9 ∷ 0x5 ∷ 0xFFFF7FFFFF7FFFFF ∷ 0xFFFFFFFF7FFFFEFF ∷ 0x300B49B ∷ 0x100000000000000 ∷ 0xFFFFFFEFFFFFCFFF ∷ 0xCB322E5 ∷ 0x8000000000001 ∷ 0x4000000000 ∷ 0x48AF0D5 ∷ 0x4E37E66E93566F3 ∷ 0x40000001 ∷ 0x1E393125752 ∷ 0x43BFB9D570902D ∷ 0xFFFFFFFFFBFFFFF7 ∷ 0x8000010002 ∷ 0xEF540B3D2E5064E7 ∷ 0x34F7C ∷ 0xFFFF7FFFFEFFFFFF ∷ 0xDCDABBD123 ∷ 0x1FB3 ∷ 0x1800C7 ∷ 0x17BE6D ∷ 0xFFFFFFFFFFFFC000 ∷ 0x2BDBF79BD7BBF4FE ∷ 0xFFDFFFFFFFFFFFFE ∷ 0x3 ∷ 0x13A698852A9501E ∷ 0xFFFFFFFFFFFFFFFA ∷ 0x400000001 ∷ 0xFFFFFFFDFFFFF9FE ∷ 0x1 ∷ 0x399F953AD90F0 ∷ 0xFFFFFFFFFF000000 ∷ 0x200000000 ∷ 0xE1A89603C60AE ∷ 0x200000 ∷ 0x4000004000002 ∷ 0x1000002000002 ∷ 0x20000020000000 ∷ 0x74BE9C6686DCE ∷ 0x44678E61 ∷ 0xFD4C307B34C8 ∷ 0x10000000001 ∷ 0x876 ∷ 0x32AC39D93B7254 ∷ 0xFFFFFFFFFFFFFFFC ∷ 0x2754709DB4978F ∷ 0x40000080 ∷ 0x8000000000 ∷ 0xF7FFFFEFFFFFFFFF ∷ 0x8B ∷ 0xFFFFFFC000000000 ∷ 0x10000020000000 ∷ 0x32C5EF84 ∷ 0x10000000 ∷ 0x15 ∷ 0xFFFFFFE000000001 ∷ 0x7A5D20 ∷ 0x3C ∷ 0xFFFFFFFFEFFFFFFE ∷ 0x2CB9BEDB6 ∷ 0x4A5F419FDFA862 ∷ 0x10001 ∷ 0xF037C6661D05 ∷ 0xFFF15FCF05E1909A ∷ 0x8000018000000000 ∷ 0x23B3D ∷ 0x193788BD14B7E ∷ 0xFFFFFFFFFFFFFFE8 ∷ 0x400000000000000 ∷ []

singles : map (λ x. f32_of (signed_of 64 x)) wholes ≡ 0x4A000000 ∷ 0x55000001 ∷ 0xC4FFE000 ∷ 0xD6000000 ∷ 0xCB7FFFFF ∷ 0xCF800000 ∷ 0xDCA81FC5 ∷ 0xD814D5E4 ∷ 0x5A10BBB3 ∷ 0xC6F50600 ∷ 0xCF800000 ∷ 0x5AA85F0A ∷ 0x51800000 ∷ 0x50000000 ∷ 0x4F800002 ∷ 0xCF800002 ∷ 0xC8CCAE80 ∷ 0xD262FF58 ∷ 0xCD834DCE ∷ 0x58653F68 ∷ 0x421C0000 ∷ 0x58000000 ∷ 0x474F2100 ∷ 0xD1C7DA2C ∷ 0xBF800000 ∷ 0x59800000 ∷ 0xCB800000 ∷ 0xD8800000 ∷ 0x4CD99246 ∷ 0xD59A2E32 ∷ 0x50000001 ∷ 0xCD800000 ∷ 0xD8D3D923 ∷ 0x59800000 ∷ 0xD1000002 ∷ 0x0 ∷ 0x51000001 ∷ 0xC84C7080 ∷ 0x4E000000 ∷ 0x51000000 ∷ 0x56800002 ∷ 0x5055CEDA ∷ 0x4F800002 ∷ 0x4D000002 ∷ 0x57000002 ∷ 0x57159829 ∷ 0xC2D80000 ∷ 0x56000001 ∷ 0x5E000000 ∷ 0x5C800000 ∷ 0x5C000001 ∷ 0x58000001 ∷ 0x5E800000 ∷ 0xD95F5D38 ∷ 0xD4000001 ∷ 0x41900000 ∷ 0x58800001 ∷ 0xD0800000 ∷ 0xD5DE7402 ∷ 0x5B000000 ∷ 0x442B0000 ∷ 0xC9000010 ∷ 0x41B00000 ∷ 0xCA0D60A4 ∷ 0x4F800002 ∷ 0x5B800001 ∷ 0xCE000001 ∷ 0x5C800001 ∷ 0x59800000 ∷ 0x4C800001 ∷ 0xC5120000 ∷ 0x54800002 ∷ 0x5D800000 ∷ 0x5EEA00C7 ∷ 0xDB000000 ∷ 0xDE800002 ∷ 0xBF800000 ∷ 0xCF000001 ∷ 0x4A793E58 ∷ 0x40000000 ∷ 0x49F1E8A8 ∷ 0xD1800002 ∷ 0x55000000 ∷ 0x5C21AAE5 ∷ 0x5CAFF752 ∷ 0x53000000 ∷ 0x44992000 ∷ 0x5AFBAAA2 ∷ 0x55E7D10A ∷ 0x58800000 ∷ 0xD8800001 ∷ 0xCE800001 ∷ 0x41000000 ∷ 0x58000001 ∷ 0x5147E7B6 ∷ 0x4D000000 ∷ 0xDC000000 ∷ 0xCD000000 ∷ 0x58800000 ∷ 0x53000001 ∷ 0xCF3DF0B0 ∷ 0x5E38F8A0 ∷ 0x54B4F9ED ∷ 0x4F000001 ∷ 0x5C000000 ∷ 0x584E7D0C ∷ 0x55C6BFF7 ∷ 0x54FF2439 ∷ 0x5C800000 ∷ 0x5C800000 ∷ 0xD9046170 ∷ 0xDE000000 ∷ 0xDE000002 ∷ 0x41D80000 ∷ 0x41F80000 ∷ 0x4D000001 ∷ 0x5D000000 ∷ 0x3F800000 ∷ 0xDB800002 ∷ 0x47FFFF80 ∷ 0xC9000000 ∷ 0x5BB4FAFC ∷ 0x530CB754 ∷ 0x5B800001 ∷ 0x50000001 ∷ 0x5C800000 ∷ 0x49800008 ∷ 0xC1400000 ∷ 0x4B3EE0CB ∷ 0x43B68000 ∷ 0xD0800002 ∷ 0x592146E1 ∷ 0xDF000000 ∷ 0x45356000 ∷ 0x53F576DC ∷ 0x40E00000 ∷ 0x4E800001 ∷ 0x58000000 ∷ 0xC1B80000 ∷ 0x55800002 ∷ 0x53D938F1 ∷ 0x3F800000 ∷ 0x4E9B15BE ∷ 0x4DBD6625 ∷ 0xD38D82C2 ∷ 0x42F40000 ∷ 0x4B33C47B ∷ 0x48B11B80 ∷ 0x4E9C5744 ∷ 0x4CB41755 ∷ 0xD4000000 ∷ 0x4C56509B ∷ 0x4ABDD0F0 ∷ 0x4D329E52 ∷ 0xDE3F5CF2 ∷ 0x48246440 ∷ 0x4684D600 ∷ 0x40400000 ∷ 0x5E800000 ∷ 0xCD800001 ∷ 0xC67FFC00 ∷ 0x3F800000 ∷ 0x4FAEAAF1 ∷ 0x4D800001 ∷ 0xDC800000 ∷ 0xC99C5830 ∷ 0xC0400000 ∷ 0x4F800000 ∷ 0xD2800000 ∷ 0x54800000 ∷ 0xD9800001 ∷ 0x5E800000 ∷ 0xCB8F0700 ∷ 0xDF000000 ∷ 0xDD7980E8 ∷ 0x51000001 ∷ 0xCE800000 ∷ 0xCFBA0261 ∷ 0x44104000 ∷ 0x523A5820 ∷ 0xC1E80000 ∷ 0x46000000 ∷ 0x447FC000 ∷ 0x5BDBEB08 ∷ 0x4C89ACFA ∷ 0x50000001 ∷ 0x4A2B7114 ∷ 0x4803CC40 ∷ 0x536277EC ∷ 0x40A00000 ∷ 0xD7000001 ∷ 0xCF000001 ∷ 0x4C402D27 ∷ 0x5B800000 ∷ 0xD1800002 ∷ 0x4D4B322E ∷ 0x59000000 ∷ 0x52800000 ∷ 0x4C915E1B ∷ 0x5C9C6FCD ∷ 0x4E800000 ∷ 0x53F1C989 ∷ 0x5A877F74 ∷ 0xCC800001 ∷ 0x53000001 ∷ 0xDD855FA6 ∷ 0x4853DF00 ∷ 0xD7000001 ∷ 0x535CDABC ∷ 0x45FD9800 ∷ 0x49C00638 ∷ 0x49BDF368 ∷ 0xC6800000 ∷ 0x5E2F6FDE ∷ 0xDA000000 ∷ 0x40400000 ∷ 0x5B9D34C4 ∷ 0xC0C00000 ∷ 0x50800000 ∷ 0xD0000002 ∷ 0x3F800000 ∷ 0x58667E55 ∷ 0xCB800000 ∷ 0x50000000 ∷ 0x5961A896 ∷ 0x4A000000 ∷ 0x58800001 ∷ 0x57800001 ∷ 0x5A000000 ∷ 0x58E97D39 ∷ 0x4E88CF1D ∷ 0x577D4C30 ∷ 0x53800000 ∷ 0x45076000 ∷ 0x5A4AB0E7 ∷ 0xC0800000 ∷ 0x5A1D51C2 ∷ 0x4E800001 ∷ 0x53000000 ∷ 0xDD000001 ∷ 0x430B0000 ∷ 0xD2800000 ∷ 0x59800001 ∷ 0x4E4B17BE ∷ 0x4D800000 ∷ 0x41A80000 ∷ 0xD2000000 ∷ 0x4AF4BA40 ∷ 0x42700000 ∷ 0xCD800000 ∷ 0x5032E6FB ∷ 0x5A94BE83 ∷ 0x47800080 ∷ 0x577037C6 ∷ 0xD96A0310 ∷ 0xDEFFFFFD ∷ 0x480ECF40 ∷ 0x57C9BC46 ∷ 0xC1C00000 ∷ 0x5C800000 ∷ []
unfolding Eval.evaluated wholes
singles = refl

patterns : List ℕ
patterns = 0xD4AC895A ∷ 0x1 ∷ 0xEB8A4B1A ∷ 0xC6C8085B ∷ 0x3F7FFFFF ∷ 0x4D97976B ∷ 0x1140BAE2 ∷ 0x5EFFFFFF ∷ 0x466BA0CB ∷ 0x0 ∷ 0xD0F190EC ∷ 0x0 ∷ 0xDF6650D6 ∷ 0x8D32B9F4 ∷ 0x80000000 ∷ 0xD4C69F6E ∷ 0x57025A69 ∷ 0x5FEF7759 ∷ 0xD815CEB3 ∷ 0x20CBBEE2 ∷ 0xC1312F2D ∷ 0x61D3404E ∷ 0xDDD9203C ∷ 0x3F800000 ∷ 0xDAF9E8BB ∷ 0x47BD01B2 ∷ 0x57292659 ∷ 0x5EFFFFFF ∷ 0xADAAB851 ∷ 0xB4F08DF4 ∷ 0x1 ∷ 0xDAB79B51 ∷ 0xC3A93520 ∷ 0x35DEEC96 ∷ 0x5B48900C ∷ 0x8F4067CC ∷ 0x7F800000 ∷ 0x27656503 ∷ 0xFA0083E5 ∷ 0x8009E5E9 ∷ 0x9C5ADFE5 ∷ 0x7F800000 ∷ 0x79DD2871 ∷ 0x3F800000 ∷ 0x72CE49BF ∷ 0xA127AC58 ∷ 0x493C3855 ∷ 0x5C6F8612 ∷ 0x7F800000 ∷ 0xA4A32ADD ∷ 0x4DA87315 ∷ 0xFF800000 ∷ 0xC4DF543C ∷ 0x5C2272A1 ∷ 0x5934996B ∷ 0xC615D00C ∷ 0x49ABEC98 ∷ 0x5EFFFFFF ∷ 0x7FC00000 ∷ 0x80000000 ∷ 0xDAA11A9F ∷ 0x9CE1777B ∷ 0x86EBA38B ∷ 0x80000000 ∷ 0xD93B5C5B ∷ 0xD0F2ACF6 ∷ 0x80000000 ∷ 0xDF000000 ∷ 0x40DC39FE ∷ 0x1 ∷ 0x7FC00000 ∷ 0x0 ∷ 0x3F7FFFFF ∷ 0x3F800000 ∷ 0x4B267D52 ∷ 0xDE2FDF37 ∷ 0x45FD1800 ∷ 0x3F7FFFFF ∷ 0xD43BD25F ∷ 0x0 ∷ 0xC0FB690C ∷ 0x5F000000 ∷ 0xDF000001 ∷ 0x87444885 ∷ 0x80000000 ∷ 0x5252B8D9 ∷ 0x5F000000 ∷ 0x3AFEA54D ∷ 0x1D2A210B ∷ 0xDF11FA06 ∷ 0x5B5C2828 ∷ 0xAC702BC3 ∷ 0xE4A53E2B ∷ 0x59709862 ∷ 0xD5392EAE ∷ 0x8D541D32 ∷ 0x48EEC3C0 ∷ 0xCFDB9B90 ∷ 0x48416AB4 ∷ 0xCA9B392 ∷ 0x9A6D577D ∷ 0x4DD7D7AB ∷ 0x7F800001 ∷ 0x2E7911F7 ∷ 0xC9B461F7 ∷ 0xCAE55685 ∷ 0xC15CFDBE ∷ 0x80000000 ∷ 0x4ABA97BB ∷ 0x56A35AA0 ∷ 0xDF000000 ∷ 0xCC1471E0 ∷ 0x4709ADBD ∷ 0x6B3D4B94 ∷ 0x5BDEEA57 ∷ 0x55A5BB22 ∷ 0x5EFFFFFF ∷ 0xC400F756 ∷ 0x7B2F4E95 ∷ 0xDF000001 ∷ 0x1 ∷ 0x7FC00000 ∷ 0x41CFAFF1 ∷ 0xF62E44BB ∷ 0x4FCEDA99 ∷ 0x1722BB7F ∷ 0xD4129699 ∷ 0x3F800000 ∷ 0x5F000000 ∷ 0xFF800000 ∷ 0x3E5AE133 ∷ 0x7FC00000 ∷ 0xF0088C6E ∷ 0x2D07C954 ∷ 0x7F31A3AD ∷ 0xDF000001 ∷ 0x4FEAC7AC ∷ 0x5F000000 ∷ 0x4FD7F369 ∷ 0x80000000 ∷ 0x72652CC0 ∷ 0x5F0B84DB ∷ 0x822228C2 ∷ 0x7FC00000 ∷ 0x4BD96EFE ∷ 0x5A3DB98C ∷ 0xECB57EF1 ∷ 0xDF000000 ∷ 0x5EFFFFFF ∷ 0x0 ∷ 0x7F800001 ∷ 0xC49CCFF9 ∷ 0x6991867 ∷ 0xDF000000 ∷ 0x0 ∷ 0xC3F624FC ∷ 0x7F800000 ∷ 0xDA6A3807 ∷ 0x29B3C54D ∷ 0xBF072104 ∷ 0x80000000 ∷ 0xDF000000 ∷ 0xF5205293 ∷ 0xDF000001 ∷ 0xFF800000 ∷ 0x9D86C48D ∷ 0xC839FA42 ∷ 0x755A1F0 ∷ 0xBFC00000 ∷ 0x43BC52AC ∷ 0xBFC00000 ∷ 0x80000000 ∷ 0x541A1D70 ∷ 0x3023D3B7 ∷ 0x0 ∷ 0x60D558B3 ∷ 0x7FC00000 ∷ 0xA5AE99D5 ∷ 0xCBD2C6B4 ∷ 0x129239A1 ∷ 0xD051B61D ∷ 0xDF000001 ∷ 0x56AE5249 ∷ 0x0 ∷ 0x7FC00000 ∷ 0xFA4E01D6 ∷ 0x85C8880 ∷ 0x5EFFFFFF ∷ 0x2DD1CE34 ∷ 0xDF000001 ∷ 0xCB891981 ∷ 0xF037B13 ∷ 0x56293627 ∷ 0x3F396A7D ∷ 0x7F800001 ∷ 0x71BB5B3D ∷ 0x59A3B217 ∷ 0x3F800000 ∷ 0x371F994 ∷ 0x5950A287 ∷ 0x5AD9D085 ∷ 0x0 ∷ 0x86EDB3A1 ∷ 0xC10FAC83 ∷ 0x5967A275 ∷ 0xC69F4562 ∷ 0xF8874875 ∷ 0x16310F7F ∷ 0x5EFFFFFF ∷ 0xB4B42775 ∷ 0x4638D8C2 ∷ 0x3F800000 ∷ 0xC01C7EB5 ∷ 0xC4AECCDB ∷ 0x5DC91617 ∷ 0xA46F5C43 ∷ 0x80000000 ∷ 0x43180EFC ∷ 0x76B2149E ∷ 0x5FA7EFCC ∷ 0x80000000 ∷ 0x1BBFF4DD ∷ 0x5B46005C ∷ 0xDDD5186C ∷ 0xD0F3B709 ∷ 0x39E2E95B ∷ 0x2E940DD4 ∷ 0x53267127 ∷ 0x5F000000 ∷ 0x6946DB82 ∷ 0x4E248D88 ∷ 0xDE8D499A ∷ 0x571540DF ∷ 0x5EFFFFFF ∷ 0x5F000000 ∷ 0xF8F1D901 ∷ 0x25D2EC4B ∷ 0x83117AF1 ∷ 0x8752B55E ∷ 0xC70D2734 ∷ 0x1 ∷ 0xDF000000 ∷ 0x5A92440A ∷ 0xDF000001 ∷ 0x3743EE39 ∷ 0xBFC00000 ∷ 0x42B5D1EB ∷ 0xDB966861 ∷ 0x4D1FF777 ∷ 0xAB0C0FC9 ∷ 0x7F800001 ∷ 0x7F800000 ∷ 0x7F800001 ∷ 0xD07A9587 ∷ 0x54EC4D29 ∷ 0xD39E6FB3 ∷ 0xE1BC9054 ∷ 0x530C8BEF ∷ 0x9DA6AE0D ∷ 0xCD631201 ∷ []

truncated : map (λ b. word_of 64 (i64_of b)) patterns ≡ 0xFFFFFA9BB5300000 ∷ 0x0 ∷ 0x8000000000000000 ∷ 0xFFFFFFFFFFFF9BFC ∷ 0x0 ∷ 0x12F2ED60 ∷ 0x0 ∷ 0x7FFFFF8000000000 ∷ 0x3AE8 ∷ 0x0 ∷ 0xFFFFFFF87378A000 ∷ 0x0 ∷ 0x8000000000000000 ∷ 0x0 ∷ 0x0 ∷ 0xFFFFF9CB04900000 ∷ 0x825A69000000 ∷ 0x7FFFFFFFFFFFFFFF ∷ 0xFFFDA8C534000000 ∷ 0x0 ∷ 0xFFFFFFFFFFFFFFF5 ∷ 0x7FFFFFFFFFFFFFFF ∷ 0xE4DBF88000000000 ∷ 0x1 ∷ 0xFF830BA280000000 ∷ 0x17A03 ∷ 0xA92659000000 ∷ 0x7FFFFF8000000000 ∷ 0x0 ∷ 0x0 ∷ 0x0 ∷ 0xFFA4325780000000 ∷ 0xFFFFFFFFFFFFFEAE ∷ 0x0 ∷ 0xC8900C00000000 ∷ 0x0 ∷ 0x7FFFFFFFFFFFFFFF ∷ 0x0 ∷ 0x8000000000000000 ∷ 0x0 ∷ 0x0 ∷ 0x7FFFFFFFFFFFFFFF ∷ 0x7FFFFFFFFFFFFFFF ∷ 0x1 ∷ 0x7FFFFFFFFFFFFFFF ∷ 0x0 ∷ 0xBC385 ∷ 0x3BE184800000000 ∷ 0x7FFFFFFFFFFFFFFF ∷ 0x0 ∷ 0x150E62A0 ∷ 0x8000000000000000 ∷ 0xFFFFFFFFFFFFF906 ∷ 0x289CA8400000000 ∷ 0xB4996B0000000 ∷ 0xFFFFFFFFFFFFDA8C ∷ 0x157D93 ∷ 0x7FFFFF8000000000 ∷ 0x0 ∷ 0x0 ∷ 0xFFAF72B080000000 ∷ 0x0 ∷ 0x0 ∷ 0x0 ∷ 0xFFF44A3A50000000 ∷ 0xFFFFFFF86A985000 ∷ 0x0 ∷ 0x8000000000000000 ∷ 0x6 ∷ 0x0 ∷ 0x0 ∷ 0x0 ∷ 0x0 ∷ 0x1 ∷ 0xA67D52 ∷ 0xD408324000000000 ∷ 0x1FA3 ∷ 0x0 ∷ 0xFFFFFD10B6840000 ∷ 0x0 ∷ 0xFFFFFFFFFFFFFFF9 ∷ 0x7FFFFFFFFFFFFFFF ∷ 0x8000000000000000 ∷ 0x0 ∷ 0x0 ∷ 0x34AE364000 ∷ 0x7FFFFFFFFFFFFFFF ∷ 0x0 ∷ 0x0 ∷ 0x8000000000000000 ∷ 0xDC282800000000 ∷ 0x0 ∷ 0x8000000000000000 ∷ 0xF098620000000 ∷ 0xFFFFF46D15200000 ∷ 0x0 ∷ 0x7761E ∷ 0xFFFFFFFE48C8E000 ∷ 0x305AA ∷ 0x0 ∷ 0x0 ∷ 0x1AFAF560 ∷ 0x0 ∷ 0x0 ∷ 0xFFFFFFFFFFE973C2 ∷ 0xFFFFFFFFFF8D54BE ∷ 0xFFFFFFFFFFFFFFF3 ∷ 0x0 ∷ 0x5D4BDD ∷ 0x51AD50000000 ∷ 0x8000000000000000 ∷ 0xFFFFFFFFFDAE3880 ∷ 0x89AD ∷ 0x7FFFFFFFFFFFFFFF ∷ 0x1BDD4AE00000000 ∷ 0x14B764400000 ∷ 0x7FFFFF8000000000 ∷ 0xFFFFFFFFFFFFFDFD ∷ 0x7FFFFFFFFFFFFFFF ∷ 0x8000000000000000 ∷ 0x0 ∷ 0x0 ∷ 0x19 ∷ 0x8000000000000000 ∷ 0x19DB53200 ∷ 0x0 ∷ 0xFFFFFDB5A59C0000 ∷ 0x1 ∷ 0x7FFFFFFFFFFFFFFF ∷ 0x8000000000000000 ∷ 0x0 ∷ 0x0 ∷ 0x8000000000000000 ∷ 0x0 ∷ 0x7FFFFFFFFFFFFFFF ∷ 0x8000000000000000 ∷ 0x1D58F5800 ∷ 0x7FFFFFFFFFFFFFFF ∷ 0x1AFE6D200 ∷ 0x0 ∷ 0x7FFFFFFFFFFFFFFF ∷ 0x7FFFFFFFFFFFFFFF ∷ 0x0 ∷ 0x0 ∷ 0x1B2DDFC ∷ 0x2F6E6300000000 ∷ 0x8000000000000000 ∷ 0x8000000000000000 ∷ 0x7FFFFF8000000000 ∷ 0x0 ∷ 0x0 ∷ 0xFFFFFFFFFFFFFB1A ∷ 0x0 ∷ 0x8000000000000000 ∷ 0x0 ∷ 0xFFFFFFFFFFFFFE14 ∷ 0x7FFFFFFFFFFFFFFF ∷ 0xFFC571FE40000000 ∷ 0x0 ∷ 0x0 ∷ 0x0 ∷ 0x8000000000000000 ∷ 0x8000000000000000 ∷ 0x8000000000000000 ∷ 0x8000000000000000 ∷ 0x0 ∷ 0xFFFFFFFFFFFD1817 ∷ 0x0 ∷ 0xFFFFFFFFFFFFFFFF ∷ 0x178 ∷ 0xFFFFFFFFFFFFFFFF ∷ 0x0 ∷ 0x26875C00000 ∷ 0x0 ∷ 0x0 ∷ 0x7FFFFFFFFFFFFFFF ∷ 0x0 ∷ 0x0 ∷ 0xFFFFFFFFFE5A7298 ∷ 0x0 ∷ 0xFFFFFFFCB9278C00 ∷ 0x8000000000000000 ∷ 0x572924800000 ∷ 0x0 ∷ 0x0 ∷ 0x8000000000000000 ∷ 0x0 ∷ 0x7FFFFF8000000000 ∷ 0x0 ∷ 0x8000000000000000 ∷ 0xFFFFFFFFFEEDCCFE ∷ 0x0 ∷ 0x2A4D89C00000 ∷ 0x0 ∷ 0x0 ∷ 0x7FFFFFFFFFFFFFFF ∷ 0x147642E0000000 ∷ 0x1 ∷ 0x0 ∷ 0xD0A2870000000 ∷ 0x6CE84280000000 ∷ 0x0 ∷ 0x0 ∷ 0xFFFFFFFFFFFFFFF8 ∷ 0xE7A2750000000 ∷ 0xFFFFFFFFFFFFB05E ∷ 0x8000000000000000 ∷ 0x0 ∷ 0x7FFFFF8000000000 ∷ 0x0 ∷ 0x2E36 ∷ 0x1 ∷ 0xFFFFFFFFFFFFFFFE ∷ 0xFFFFFFFFFFFFFA8A ∷ 0x1922C2E000000000 ∷ 0x0 ∷ 0x0 ∷ 0x98 ∷ 0x7FFFFFFFFFFFFFFF ∷ 0x7FFFFFFFFFFFFFFF ∷ 0x0 ∷ 0x0 ∷ 0xC6005C00000000 ∷ 0xE55CF28000000000 ∷ 0xFFFFFFF86247B800 ∷ 0x0 ∷ 0x0 ∷ 0xA671270000 ∷ 0x7FFFFFFFFFFFFFFF ∷ 0x7FFFFFFFFFFFFFFF ∷ 0x29236200 ∷ 0xB95B330000000000 ∷ 0x9540DF000000 ∷ 0x7FFFFF8000000000 ∷ 0x7FFFFFFFFFFFFFFF ∷ 0x8000000000000000 ∷ 0x0 ∷ 0x0 ∷ 0x0 ∷ 0xFFFFFFFFFFFF72D9 ∷ 0x0 ∷ 0x8000000000000000 ∷ 0x49220500000000 ∷ 0x8000000000000000 ∷ 0x0 ∷ 0xFFFFFFFFFFFFFFFF ∷ 0x5A ∷ 0xFED32F3E00000000 ∷ 0x9FF7770 ∷ 0x0 ∷ 0x0 ∷ 0x7FFFFFFFFFFFFFFF ∷ 0x0 ∷ 0xFFFFFFFC15A9E400 ∷ 0x76269480000 ∷ 0xFFFFFEC3209A0000 ∷ 0x8000000000000000 ∷ 0x8C8BEF0000 ∷ 0x0 ∷ 0xFFFFFFFFF1CEDFF0 ∷ []
unfolding Eval.evaluated patterns
truncated = refl
