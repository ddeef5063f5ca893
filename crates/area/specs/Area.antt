-- How the work area holds the layout's state and the bytes under construction.
use Rattle.std.specs.Prelude.{◌≡◌, ℕ, ◌+◌, ◌-◌, ◌*◌, ◌^◌, ◌<◌, List, [], ◌∷◌, ◌++◌, length}
use Rattle.numbers.specs.Words.{Bytes, words, over, Below}
use Rattle.numbers.specs.Result.{Every}
use Rattle.schema.specs.Defs.{Schema, winning, index_entries}
use Rattle.layout.specs.State.{Item, Block, Core, Remark, State, Env, insert}
use Rattle.layout.specs.Build.{work_need}
use Rattle.layout.specs.Always.{Known}
use Rattle.area.specs.declared.Round.{Round}
use Rattle.area.specs.declared.Progress.{Progress}
use Rattle.area.specs.Segments.{Segment, flat}
use Rattle.area.specs.Kept.{kept, rows_bytes}
use Rattle.area.specs.Rows.{Tiny}

-- name and length of each block, 4 bytes each
unfoldable pub rows_of : List Block → Bytes
rows_of [] = []
rows_of (b ∷ bs) = words (b.name ∷ b.len ∷ []) ++ rows_of bs

-- an item's head: block number, start, length, zero, 4 bytes each; then its bytes; items in order of laying
unfoldable pub encode : List Item → Bytes
encode [] = []
encode (i ∷ is) = words (i.block ∷ i.start ∷ length i.bytes ∷ 0 ∷ []) ++ (i.bytes ++ encode is)

-- where the items begin, and where the stack begins
abbrev pub items_at : Round → ℕ
items_at R = work_need R.entries

abbrev pub stack_at : Round → ℕ
stack_at R = items_at R + R.cap

-- block rows, remark rows, the table of places (used last), used structures, used enums, items, stack: n bytes in all
abbrev pub segments : Round → ℕ → Core → List Remark → Bytes → List Segment
segments R n c rows σ =
    (32768, rows_of c.blocks) ∷ (16384, rows_bytes rows) ∷ (16384, []) ∷ (4 * R.entries, words c.structs) ∷ (4 * R.entries, words c.enums)
    ∷ (R.cap, encode c.items) ∷ (n - stack_at R, σ) ∷ []

-- numbers of 4 bytes
pub record Small (b : Block) : Type 0 where
  pub name : b.name < 256 ^ 4
  pub len : b.len < 256 ^ 4

-- the area w of n bytes, with the numbers p, holds the state s and the stack σ
pub record Rep (S : Schema) (R : Round) (n : ℕ) (s : State) (σ : Bytes) (p : Progress) (w : Bytes) : Type 0 where
  pub work : w ≡ flat (segments R n s.core (kept R.skip s.events).rows σ)
  pub blocks : p.blocks ≡ length s.core.blocks
  pub rows : p.rows ≡ length (kept R.skip s.events).rows
  pub structs : p.structs ≡ length s.core.structs
  pub enums : p.enums ≡ length s.core.enums
  pub end : p.end ≡ items_at R + length (encode s.core.items)
  pub top : p.top ≡ stack_at R + length σ
  pub charge : p.charge ≡ s.charge
  pub seen : p.seen ≡ (kept R.skip s.events).seen
  pub next : p.next ≡ (kept R.skip s.events).next
  pub tiny : Every Tiny (kept R.skip s.events).rows
  pub small : Every Small s.core.blocks
  pub struct_names : Below s.core.structs
  pub enum_names : Below s.core.enums
  pub known : Known (winning S) s.core
  pub entries : R.entries ≡ index_entries S

-- what the layout is given in a round
abbrev pub env_of : Bytes → Schema → Round → Env
env_of T S R = record { sheet = T; defs = winning S; charge_cap = R.cap }

-- the numbers with another top of the stack
abbrev pub with_top : Progress → ℕ → Progress
with_top p t =
    record {
      blocks = p.blocks;
      rows = p.rows;
      structs = p.structs;
      enums = p.enums;
      end = p.end;
      top = t;
      charge = p.charge;
      seen = p.seen;
      next = p.next;
    }

-- with another charge
abbrev pub with_paid : Progress → ℕ → Progress
with_paid p c =
    record {
      blocks = p.blocks;
      rows = p.rows;
      structs = p.structs;
      enums = p.enums;
      end = p.end;
      top = p.top;
      charge = c;
      seen = p.seen;
      next = p.next;
    }

-- with other numbers of remarks
abbrev pub with_notes : Progress → ℕ → ℕ → ℕ → Progress
with_notes p rows seen next =
    record {
      blocks = p.blocks;
      rows = rows;
      structs = p.structs;
      enums = p.enums;
      end = p.end;
      top = p.top;
      charge = p.charge;
      seen = seen;
      next = next;
    }

-- with other numbers of used structures and enums
abbrev pub with_used : Progress → ℕ → ℕ → Progress
with_used p structs enums =
    record {
      blocks = p.blocks;
      rows = p.rows;
      structs = structs;
      enums = enums;
      end = p.end;
      top = p.top;
      charge = p.charge;
      seen = p.seen;
      next = p.next;
    }

-- with an item more
abbrev pub with_item : Progress → ℕ → ℕ → ℕ → Progress
with_item p blocks end top =
    record {
      blocks = blocks;
      rows = p.rows;
      structs = p.structs;
      enums = p.enums;
      end = end;
      top = top;
      charge = p.charge;
      seen = p.seen;
      next = p.next;
    }

-- the state after a structure of the name was started
abbrev pub started_in : ℕ → State → State
started_in n s =
    record {
      core = record { items = s.core.items; blocks = s.core.blocks; structs = insert n s.core.structs; enums = s.core.enums };
      charge = s.charge;
      events = s.events;
      uses = record { started = s.uses.started ++ (n ∷ []); enums = s.uses.enums };
    }

-- the state after an enum of the name was used
abbrev pub used_in : ℕ → State → State
used_in n s =
    record {
      core = record { items = s.core.items; blocks = s.core.blocks; structs = s.core.structs; enums = insert n s.core.enums };
      charge = s.charge;
      events = s.events;
      uses = record { started = s.uses.started; enums = s.uses.enums ++ (n ∷ []) };
    }

-- the area with the row of the block behind `before` others, and an item's head at `end`
abbrev pub headed : Bytes → ℕ → ℕ → ℕ → ℕ → ℕ → Bytes
headed w end name before start len = over (over w (8 * before) (words (name ∷ (start + len) ∷ []))) end (words ((before + 1) ∷ start ∷ len ∷ 0 ∷ []))
