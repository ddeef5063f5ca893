-- The blocks of any file, by number.
use Rattle.std.specs.Prelude.{ℕ, zero, suc, cond, List, [], ◌++◌, eqb, Option, None}
use Rattle.numbers.specs.Words.{Bytes}
use Rattle.numbers.specs.Result.{Result, ok, refused, nth}
use Rattle.schema.specs.Sections.{Sections, section, end, broken, PMAP}
use Rattle.pso.specs.Reader.{Block, pmap_of}

-- "block number (from 1)"
abbrev pub numbered : List Block → ℕ → Option Block
numbered bs zero = None
numbered bs (suc n) = nth bs n

-- the rows, or none where they are refused (16)
abbrev pub or_none : Result (List Block) → List Block
or_none (ok bs) = bs
or_none (refused n) = []

-- the blocks of a section; any other than PMAP has none
unfoldable pub section_blocks : ℕ → Bytes → List Block
section_blocks ident P = cond (eqb ident PMAP) (or_none (pmap_of P)) []

-- the blocks of all sections, in file order
unfoldable pub blocks_of : Sections → List Block
blocks_of end = []
blocks_of broken = []
blocks_of (section ident P ss) = section_blocks ident P ++ blocks_of ss
