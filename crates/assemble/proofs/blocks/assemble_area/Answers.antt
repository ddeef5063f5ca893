-- `assemble::blocks::assemble_area` meets its contract. Assumes nothing.
use native.Mathlib.Omega.{arith}
use Rattle.assemble.proofs.Heads.{rows_first, area_pieces, area_placed}
use Rattle.assemble.proofs.blocks.assemble_area.Goals as goal

pub fill_table-size-requires-clause-some_rows : goal.fill_table-size-requires-clause-some_rows
fill_table-size-requires-clause-some_rows c = record { blocks = c.requires.core.blocks; held = rows_first c.requires.held }

pub write_both-requires : goal.write_both-requires
write_both-requires c =
    let k = c.requires.core in
    let w = c.requires.held in
    let f = c.fill_table-size.ensures in
    let e = (f k.blocks (rows_first w)).0 in
    rw (c.rows.ensures, c.items.ensures, c.table.ensures)
    record { pieces = record { core = k; held = area_pieces w _ e }; placed = area_placed w _ e c.fill_table-size.result f }

pub returns-clause-whole : goal.returns-clause-whole
returns-clause-whole c =
    λ k w.
    let f = c.fill_table-size.ensures k.blocks (rows_first w) in
    let b = rw (c.rows.ensures, c.items.ensures, c.table.ensures) at c.write_both.ensures in
    let d = b k (area_pieces w _ f.0) in (d.0, f.0, omega (arith, d.1, w.many))
