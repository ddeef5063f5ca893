-- What an enum's entries are.
use Rattle.std.specs.Prelude.{ℕ, ◌≡◌, List, []}
use Rattle.numbers.specs.Words.{Bytes}
use Rattle.schema.specs.Psch.{entries_at}
use Rattle.names.specs.declared.entries.Entries.{Entries}

-- the entries one by one: name and value
abbrev pub all_of : Entries → List (ℕ × ℕ)
all_of e = entries_at e.schema.now e.count e.at

-- e has no entries: none from the start of F on
pub record NoEntries (F : Bytes) (e : Entries) : Type 0 where
  pub file : e.schema.now ≡ F
  pub start : e.at ≡ 0
  pub many : e.count ≡ 0
  pub all : all_of e ≡ []
