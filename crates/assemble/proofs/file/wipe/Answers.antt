-- `assemble::file::wipe` meets its contract. Assumes nothing.
use borrow.Author.Rules.{rules}
use lib.ListN.{length}
use Rattle.assemble.proofs.Wiping.{wiped}
use Rattle.assemble.proofs.file.wipe.Goals as goal

pub returns-clause-zero : goal.returns-clause-zero
returns-clause-zero c =
    λ S u.
    let a = c.args.area.now in
    wiped a.round (length a.bytes.now) a.progress a.safe S a.bytes.now _ u (search rules)
