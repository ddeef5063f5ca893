-- `cells::defs::named` meets its contract. Assumes nothing.
use mathlib.Core.Path.{refl}
use Rattle.cells.proofs.Choosing.{place_inside}
use Rattle.cells.proofs.Planning.{named_none, named_some}
use Rattle.cells.proofs.defs.named.Goals as goal

pub entries_of-requires : goal.entries_of-requires
entries_of-requires c = place_inside c.args.schema.now c.args.h c.in-Some.place c.find.result c.find.ensures.result_value c.in-Some.is

pub returns-in-Some : goal.returns-in-Some
returns-in-Some c =
    let a = c.args in
    named_some a.schema.now a.h c.find.result c.find.ensures.result_value (c.find.ensures.enum_value refl) c.entries_of.result c.in-Some.place c.in-Some.is c.entries_of.ensures

pub returns-in-None : goal.returns-in-None
returns-in-None c =
    let a = c.args in
    named_none a.schema.now a.h c.find.result c.find.ensures.result_value (c.find.ensures.enum_value refl) c.empty.result c.in-None.is c.empty.ensures
