-- A work area of segments: each has a fixed room and holds bytes, with zeros behind them.
use Rattle.std.specs.Prelude.{ℕ, ◌+◌, List, [], ◌∷◌, ◌++◌}
use Rattle.numbers.specs.Words.{Bytes, padded}

-- a segment's room, and what it holds
abbrev pub Segment : Type 0
Segment = ℕ × Bytes

-- the segments one behind the other
abbrev pub flat : List Segment → Bytes
flat [] = []
flat (s ∷ ss) = padded s.0 s.1 ++ flat ss

-- their rooms together
abbrev pub rooms : List Segment → ℕ
rooms [] = 0
rooms (s ∷ ss) = s.0 + rooms ss
