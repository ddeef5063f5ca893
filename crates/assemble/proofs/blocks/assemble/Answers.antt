-- `assemble::blocks::assemble` meets its contract. Assumes nothing.
use native.Mathlib.Omega.{arith}
use mathlib.Core.Path.{sym, subst}
use lib.ListN.{length}
use Rattle.assemble.specs.Map.{Pieces, SomePieces}
use Rattle.assemble.proofs.Maps.{table_stands}
use Rattle.assemble.proofs.Heads.{count_rows, as_many}
use Rattle.assemble.proofs.blocks.assemble.Goals as goal

pub put_places-size-requires : goal.put_places-size-requires
put_places-size-requires c =
    let P = c.requires.held in
    record { some_rows = record { blocks = c.requires.core.blocks; held = P.blocks }; room = omega (arith, count_rows P, P.table) }

pub write_both-requires : goal.write_both-requires
write_both-requires c =
    let a = c.args in
    let P = c.requires.held in
    let f = c.put_places-size in
    record {
      pieces = subst (λ n. SomePieces a.rows.now a.items.now n (length a.out.now)) (sym f.auto.table) c.requires;
      placed = λ bs r.
          let g = f.ensures bs r in
          (table_stands a.table.now f.new.table 0 bs (omega (arith, as_many P bs r, P.table)) g.0, g.1);
    }

pub returns : goal.returns
returns c =
    λ k P.
    let a = c.args in
    let f = c.put_places-size in
    let b = c.write_both.ensures k (subst (λ n. Pieces a.rows.now a.items.now n (length a.out.now) k) (sym f.auto.table) P) in
    (b.0, (f.ensures k.blocks P.blocks).0, b.1)
