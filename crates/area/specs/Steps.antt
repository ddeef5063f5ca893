-- What each function of an area says of it before and after, by the contracts' parts.
use Rattle.std.specs.Prelude.{◌≡◌, ℕ, length, Result, Bool, false}
use Rattle.numbers.specs.Words.{Bytes}
use Rattle.numbers.specs.declared.refusal.Refusal.{Refusal}
use Rattle.layout.specs.State.{Remark}
use Rattle.area.specs.declared.Round.{Round}
use Rattle.area.specs.declared.Progress.{Progress}
use Rattle.area.specs.declared.Area.{Area}
use Rattle.area.specs.Posts as P
use Rattle.area.specs.Posts.{Ans, answered}

-- how many bytes it has
abbrev pub size : Area → ℕ
size a = length a.bytes.now

-- the same bytes, as many of them, in the same round
pub record Same (a b : Area) : Type 0 where
  pub bytes : b.bytes.ghost_name ≡ a.bytes.ghost_name
  pub size : length b.bytes.now ≡ length a.bytes.now
  pub round : b.round ≡ a.round

-- a step from the area a to the area b, with the answer r: D says what it did to the numbers and the bytes
pub record Step {X : Type 0} (D : Round → ℕ → Progress → Bytes → Ans X → Bytes → Type 0) (a : Area) (r : Result X Refusal) (b : Area) : Type 0 where
  pub same : Same a b
  pub did : D a.round (size a) a.progress a.bytes.now (answered r b.progress) b.bytes.now

-- a step that is never refused
pub record Change (D : Round → ℕ → Progress → Bytes → Progress → Bytes → Type 0) (a b : Area) : Type 0 where
  pub same : Same a b
  pub did : D a.round (size a) a.progress a.bytes.now b.progress b.bytes.now

-- the charge is paid, or refusal 9
abbrev pub Pays : Area → ℕ → Result (Unit {0}) Refusal → Area → Type 0
Pays a cost = Step (λ R n p w. P.Pays R n p w cost) a

-- what stands from `base` on is taken off the stack
abbrev pub Falls : Area → ℕ → Area → Type 0
Falls a base = Change (λ R n p w. P.Fell p base w) a

-- the top `len` bytes of the stack are laid as an item of the name; alone, in a new last block
abbrev pub LaysItem : Bool → Area → ℕ → ℕ → Result ℕ Refusal → Area → Type 0
LaysItem alone a name len = Step (λ R n p w. P.LaysItem alone R n p w name len) a

-- .. in the first block with room
abbrev pub Lays : Area → ℕ → ℕ → Result ℕ Refusal → Area → Type 0
Lays a name len = LaysItem false a name len

-- bytes are laid as an item of block 1, with a closing zero byte
abbrev pub LaysText : Area → Bytes → Result ℕ Refusal → Area → Type 0
LaysText a t = Step (λ R n p w. P.LaysText R n p w t) a

-- a remark is met
abbrev pub Notes : Area → Remark → Area → Type 0
Notes a r = Change (λ R n p w. P.Notes R n p w r) a

-- a structure's definition is used
abbrev pub UsesStruct : Area → ℕ → Area → Type 0
UsesStruct a name = Change (λ R n p w. P.UsesStruct R n p w name) a

-- an enum's
abbrev pub UsesEnum : Area → ℕ → Area → Type 0
UsesEnum a name = Change (λ R n p w. P.UsesEnum R n p w name) a
