-- `texts::float::special` meets its contract. Assumes nothing.
use mathlib.Core.Path.{◌≡◌, refl, sym, ◌∙◌}
use mathlib.Core.Bool.{Bool, true, false, ◌||◌}
use Rattle.texts.specs.Float.{special}
use Rattle.texts.proofs.float.special.Goals.{then-is_word, else-is_word}
use Rattle.texts.proofs.float.special.Goals as goal

-- which of three tests, run one after the other, decides
first_holds : (a b c : Bool) → a ≡ true → a ≡ (a || b || c)
first_holds true b c q = q
first_holds false b c q = cc

second_holds : (a b c : Bool) → a ≡ false → b ≡ true → b ≡ (a || b || c)
second_holds true b c p q = cc
second_holds false true c p q = q
second_holds false false c p q = cc

third_decides : (a b c : Bool) → a ≡ false → b ≡ false → c ≡ (a || b || c)
third_decides true b c p q = cc
third_decides false true c p q = cc
third_decides false false c p q = refl

pub returns-then-is_word-2 : goal.returns-then-is_word-2
unfolding special
returns-then-is_word-2 c = elim c.if-is_word.branch [
  | then-is_word w ↦ w.value-is ∙ c.is_word.ensures ∙ first_holds _ _ _ (sym c.is_word.ensures ∙ w.if-is_word.true)
  | else-is_word w ↦
      w.value-is ∙ w.is_word-else-is_word.ensures
      ∙ second_holds _ _ _ (sym c.is_word.ensures ∙ w.if-is_word.false) (sym (w.value-is ∙ w.is_word-else-is_word.ensures) ∙ c.if-is_word-2.true)
]

pub returns-else-is_word-2 : goal.returns-else-is_word-2
unfolding special
returns-else-is_word-2 c = elim c.if-is_word.branch [
  | then-is_word w ↦ cc (w.value-is, w.if-is_word.true, c.if-is_word-2.false)
  | else-is_word w ↦
      c.is_word-else-is_word-2.ensures
      ∙ third_decides _ _ _ (sym c.is_word.ensures ∙ w.if-is_word.false) (sym (w.value-is ∙ w.is_word-else-is_word.ensures) ∙ c.if-is_word-2.false)
]
