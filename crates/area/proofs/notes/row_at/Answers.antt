-- `area::notes::row_at` meets its contract. Assumes nothing.
use Rattle.area.proofs.notes.row_at.Goals as goal

pub returns : goal.returns
returns c = cc
