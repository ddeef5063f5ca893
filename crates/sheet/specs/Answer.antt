-- The check's answer.
use Rattle.std.specs.Prelude.{cond, Result, Ok, Err}
use Rattle.numbers.specs.Words.{Bytes}
use Rattle.numbers.specs.declared.refusal.Refusal.{Refusal}
use Rattle.numbers.specs.declared.refusal.Refusal.TheVariants.{SheetLayout, SheetText, SheetRoot}
use Rattle.sheet.specs.Layout.{laid_out, ascii, rooted}

-- "Order of building: 1, 2, 3"
unfoldable pub checked : Bytes → Result (Unit {0}) Refusal
checked T = cond (laid_out T) (cond (ascii T) (cond (rooted T) (Ok tt) (Err SheetRoot)) (Err SheetText)) (Err SheetLayout)
