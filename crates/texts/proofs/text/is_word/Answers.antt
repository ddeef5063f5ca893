-- `texts::text::is_word` meets its contract: the lengths, and each letter. Assumes nothing.
use mathlib.Core.Path.{sym, ◌∙◌}
use Rattle.std.proofs.Common.{rules, ◌≡◌, true, false}
use Rattle.std.specs.Prelude.{get_or, ◌<◌, ℕ, length}
use Rattle.std.specs.Char.{to_ascii_lowercase}
use borrow.Author.Tests.{ne_eqb}
use Rattle.texts.proofs.Letters.{word_all, word_length}
use Rattle.texts.proofs.text.is_word.Goals as goal

pub returns-then-s-w : goal.returns-then-s-w
returns-then-s-w c =
    let yes : c.all.result ≡ true → (k : ℕ) → k < length c.args.s.now → to_ascii_lowercase (get_or c.args.s.now k 0) ≡ get_or c.args.w.now k 0 = search rules in
    let no : c.all.result ≡ false → (k : ℕ) × (k < length c.args.s.now) × (to_ascii_lowercase (get_or c.args.s.now k 0) ≡ get_or c.args.w.now k 0 → ⊥) = search rules in
    word_all c.args.w.now c.args.s.now c.all.result c.if-s-w.true yes no

pub returns-else-s-w : goal.returns-else-s-w
returns-else-s-w c = ne_eqb (length c.args.s.now) (length c.args.w.now) c.if-s-w.false ∙ sym (word_length c.args.w.now c.args.s.now c.if-s-w.false)
