-- `cells::put_text` meets its contract. Assumes nothing.
use mathlib.Core.Path.{ap}
use mathlib.Core.Bool.{not}
use Rattle.coerce.specs.Numbers.{str_of}
use Rattle.cells.proofs.Celling.{text_room, no_text, text_stored, text_empty}
use Rattle.cells.proofs.put_text.Goals as goal

pub returns-then-not-has_str : goal.returns-then-not-has_str
returns-then-not-has_str c =
    let a = c.args in
    no_text a.len a.buf.now a.off (str_of a.sheet.now a.v) _ (c.has_str.ensures a.sheet.now) (ap not c.if-not-has_str.true)

pub copy-requires : goal.copy-requires
copy-requires c =
    let a = c.args in
    text_room _ _ a.off a.len _ c.part_to.ensures c.requires

pub returns-then-len-gt0 : goal.returns-then-len-gt0
returns-then-len-gt0 c =
    let a = c.args in
    text_stored a.len a.buf.now a.off (str_of a.sheet.now a.v) _ _ _ _ (c.has_str.ensures a.sheet.now) (ap not c.if-not-has_str.false) c.str_of-t.ensures c.part_to.ensures c.copy.ensures

pub returns-else-len-gt0 : goal.returns-else-len-gt0
returns-else-len-gt0 c =
    let a = c.args in
    text_empty a.len a.buf.now a.off (str_of a.sheet.now a.v) _ (c.has_str.ensures a.sheet.now) (ap not c.if-not-has_str.false) c.if-len-gt0.false
