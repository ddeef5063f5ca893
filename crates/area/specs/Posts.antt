-- The contracts' parts, with names.
use Rattle.std.specs.Prelude.{◌≡◌, ℕ, ◌+◌, ◌-◌, ◌*◌, ◌≤◌, ◌<◌, Bool, true, false, cond, ◌||◌, List, [], ◌∷◌, ◌++◌, ltb, leb, length, take, drop, is_some, Result, Ok, Err}
use Rattle.numbers.specs.Words.{Bytes, bytes_of, over, zeros}
use Rattle.numbers.specs.Refusal.{number_of}
use Rattle.numbers.specs.declared.refusal.Refusal.{Refusal}
use Rattle.numbers.specs.declared.refusal.Refusal.TheVariants.{BlockLimit, Charge}
use Rattle.schema.specs.Defs.{Schema, winning}
use Rattle.layout.specs.State as layout
use Rattle.layout.specs.State.{Remark, State, with_remark, contains, spot, pointer_at, lies, lay_item, add_item, Out, done, stop}
use Rattle.area.specs.declared.Round.{Round}
use Rattle.area.specs.declared.Progress.{Progress}
use Rattle.area.specs.declared.Spot.{Spot}
use Rattle.area.specs.Kept.{Kept, meet, rows_bytes}
use Rattle.area.specs.Rows.{rows_in, names_in, blocks_in}
use Rattle.area.specs.Area.{items_at, stack_at, Rep, with_top, with_paid, with_notes, with_used, with_item, started_in, used_in, headed}

-- the numbers are in order: every segment has room for all that is charged
pub record Safe (R : Round) (n : ℕ) (p : Progress) : Type 0 where
  pub small : R.cap ≤ 4194304
  pub room : items_at R + 4 * R.cap ≤ n
  pub from : items_at R ≤ p.end
  pub items : p.end ≤ items_at R + p.charge
  pub low : stack_at R ≤ p.top
  pub stack : p.top ≤ stack_at R + p.charge
  pub within : p.charge ≤ R.cap
  pub blocks : p.blocks ≤ 4095
  pub rows : p.rows ≤ 1024
  pub structs : p.structs ≤ R.entries
  pub enums : p.enums ≤ R.entries
  pub next : p.next ≤ p.seen
  pub seen : p.seen ≤ 65536 * p.charge

-- there is charge for a further remark of each of 65,535 members: asked where a member is written, and no invariant of the area, since it need not hold afterwards
abbrev pub Open : Progress → Type 0
Open p = p.seen + 65536 ≤ 65536 * p.charge

-- what a step did to the numbers: it pushed `push` bytes, charged `cost` at least besides what it laid, and met `notes` remarks besides those paid for
pub record Grown (p : Progress) (cost push notes : ℕ) (q : Progress) : Type 0 where
  pub more : p.end ≤ q.end
  pub paid : q.end + p.charge + cost ≤ p.end + q.charge
  pub top : q.top ≡ p.top + push
  pub met : q.seen + 65536 * p.charge ≤ p.seen + notes + 65536 * q.charge

-- the remark rows that stand in the area, with the numbers of remarks
abbrev pub kept_in : Progress → Bytes → Kept
kept_in p w = record { rows = rows_in w 32768 p.rows; next = p.next; seen = p.seen }

-- the numbers with what is kept, and the area with the rows that are new, behind the others
abbrev pub keeps_in : Progress → Bytes → Kept → Progress × Bytes
keeps_in p w k = (with_notes p (length k.rows) k.seen k.next, over w (32768 + 16 * p.rows) (rows_bytes (drop p.rows k.rows)))

-- one remark more (`meet`), whatever rows stand there
unfoldable pub noted_in : Round → Progress → Bytes → Remark → Progress × Bytes
noted_in R p w r = keeps_in p w (meet R.skip (kept_in p w) r)

-- a remark r is met
pub record Notes (R : Round) (n : ℕ) (p : Progress) (w : Bytes) (r : Remark) (q : Progress) (w' : Bytes) : Type 0 where
  pub blocks : q.blocks ≡ p.blocks
  pub structs : q.structs ≡ p.structs
  pub enums : q.enums ≡ p.enums
  pub end : q.end ≡ p.end
  pub top : q.top ≡ p.top
  pub charge : q.charge ≡ p.charge
  pub seen : q.seen ≡ p.seen + 1
  pub next : q.next ≤ q.seen
  pub rows : q.rows ≤ 1024
  pub says : (S : Schema) (s : State) (σ : Bytes) → Rep S R n s σ p w → Rep S R n (with_remark r s) σ q w'
  pub exact : (q, w') ≡ noted_in R p w r

-- a name behind the `count` at `at`, unless it is among them or the room for `room` is full: how many there are then, and the area
unfoldable pub inserted_in : Bytes → ℕ → ℕ → ℕ → ℕ → ℕ × Bytes
inserted_in w at count room name =
    cond (contains name (names_in w at count) || leb room count) (count, w) (count + 1, over w (at + 4 * count) (bytes_of 4 name))

-- a name is put there
pub record Inserts (at count room name : ℕ) (w : Bytes) (r : ℕ) (w' : Bytes) : Type 0 where
  pub few : r ≤ room
  pub exact : (r, w') ≡ inserted_in w at count room name

-- a name among those of the used structures
abbrev pub struct_in : Round → Progress → Bytes → ℕ → Progress × Bytes
struct_in R p w name = let i = inserted_in w 65536 p.structs R.entries name in (with_used p i.0 p.enums, i.1)

-- .. of the used enums
abbrev pub enum_in : Round → Progress → Bytes → ℕ → Progress × Bytes
enum_in R p w name = let i = inserted_in w (65536 + 4 * R.entries) p.enums R.entries name in (with_used p p.structs i.0, i.1)

-- a definition is used: `to` is the state after it
pub record Marks (R : Round) (n : ℕ) (p : Progress) (w : Bytes) (known : Schema → Bool) (to : State → State) (q : Progress) (w' : Bytes) : Type 0 where
  pub blocks : q.blocks ≡ p.blocks
  pub rows : q.rows ≡ p.rows
  pub end : q.end ≡ p.end
  pub top : q.top ≡ p.top
  pub charge : q.charge ≡ p.charge
  pub seen : q.seen ≡ p.seen
  pub next : q.next ≡ p.next
  pub structs : q.structs ≤ R.entries
  pub enums : q.enums ≤ R.entries
  pub says : (S : Schema) (s : State) (σ : Bytes) → known S ≡ true → Rep S R n s σ p w → Rep S R n (to s) σ q w'

-- a structure's definition is used
pub record UsesStruct (R : Round) (n : ℕ) (p : Progress) (w : Bytes) (name : ℕ) (q : Progress) (w' : Bytes) : Type 0 where
  pub marks : Marks R n p w (λ S. is_some ((winning S).struct name)) (started_in name) q w'
  pub exact : (q, w') ≡ struct_in R p w name

-- an enum's
pub record UsesEnum (R : Round) (n : ℕ) (p : Progress) (w : Bytes) (name : ℕ) (q : Progress) (w' : Bytes) : Type 0 where
  pub marks : Marks R n p w (λ S. is_some ((winning S).enum name)) (used_in name) q w'
  pub exact : (q, w') ≡ enum_in R p w name

-- what stands from `base` on is taken off the stack
pub record Fell (p : Progress) (base : ℕ) (w : Bytes) (q : Progress) (w' : Bytes) : Type 0 where
  pub number : q ≡ with_top p base
  pub area : w' ≡ over w base (zeros (p.top - base))

-- a refusal: some state and some stack stand in the area, and the remarks met are es
pub record Stopped (S : Schema) (R : Round) (n : ℕ) (es : List Remark) (p : Progress) (w : Bytes) : Type 0 where
  pub state : State
  pub stack : Bytes
  pub rep : Rep S R n state stack p w
  pub met : state.events ≡ es

-- what a function answers: something, or a refusal's number
pub data Ans (X : Type 0) : Type 0 where
  gives : X → Progress → Ans X
  refuses : ℕ → Progress → Ans X

-- the code's answer, with the numbers that it left
abbrev pub answered : {X : Type 0} → Result X Refusal → Progress → Ans X
answered (Ok x) p = gives x p
answered (Err e) p = refuses (number_of e) p

-- the numbers with a cost charged, or refusal 9
abbrev pub paid_in : ℕ → Progress → ℕ → Result Progress Refusal
paid_in cap p cost = cond (leb (p.charge + cost) cap) (Ok (with_paid p (p.charge + cost))) (Err Charge)

-- the charge paid, or refusal 9
abbrev pub paid_is : Round → Progress → ℕ → Ans (Unit {0})
paid_is R p cost = cond (leb (p.charge + cost) R.cap) (gives tt (with_paid p (p.charge + cost))) (refuses 9 p)

-- it is paid, or refused
pub record Pays (R : Round) (n : ℕ) (p : Progress) (w : Bytes) (cost : ℕ) (r : Ans (Unit {0})) (w' : Bytes) : Type 0 where
  pub answer : r ≡ paid_is R p cost
  pub area : w' ≡ w

-- the code's answer and the area that it left are the definition's; what it made gives the stack
abbrev pub Meets : {A X : Type 0} → Schema → Round → ℕ → (A → Bytes) → (A → X → Type 0) → Out A → Ans X → Bytes → Type 0
Meets S R n stack fits (done a s) (gives x p) w = Rep S R n s (stack a) p w × fits a x
Meets S R n stack fits (done a s) (refuses m p) w = ⊥
Meets S R n stack fits (stop m es) (gives x p) w = ⊥
Meets S R n stack fits (stop m es) (refuses k p) w = (k ≡ m) × Stopped S R n es p w

-- the first block of the name with room for `need` bytes, of the n whose rows stand in the area; else behind the last, and alone always there
pub record Finds (alone : Bool) (w : Bytes) (n name need : ℕ) (r : Spot) : Type 0 where
  pub before : r.before ≤ n
  pub start : r.start ≤ 0x100000
  pub is : (r.before ≡ (spot alone name need (blocks_in w 0 n)).before) × (r.start ≡ (spot alone name need (blocks_in w 0 n)).start)

-- where an item of the name with `need` bytes goes, if its pointer has room for the block's number and the start; else refusal 10
abbrev pub Places : Bool → Bytes → ℕ → ℕ → ℕ → Result Spot Refusal → Type 0
Places alone w n name need (Ok r) = Finds alone w n name need r × (r.before < 4095) × (r.start ≤ 0xFFFFF)
Places alone w n name need (Err e) = (r : Spot) × Finds alone w n name need r × (r.before < 4095 → 0xFFFFF < r.start) × (e ≡ BlockLimit)

-- how many blocks there are with an item in the block behind k others
abbrev pub blocks_with : ℕ → ℕ → ℕ
blocks_with n k = cond (ltb k n) n (k + 1)

-- what laying an item of `len` bytes did to the numbers, the stack's top being `to` then
pub record Larger (p : Progress) (len to : ℕ) (q : Progress) : Type 0 where
  pub blocks : q.blocks ≤ 4095
  pub rows : q.rows ≡ p.rows
  pub structs : q.structs ≡ p.structs
  pub enums : q.enums ≡ p.enums
  pub end : q.end ≡ p.end + (16 + len)
  pub top : q.top ≡ to
  pub charge : q.charge ≡ p.charge
  pub seen : q.seen ≡ p.seen
  pub next : q.next ≡ p.next

abbrev pub Enlarged : Progress → ℕ → ℕ → Ans ℕ → Type 0
Enlarged p len to (gives x q) = Larger p len to q
Enlarged p len to (refuses k q) = (k ≡ 10) × (q ≡ p)

-- an item of `len` bytes at the spot s: its head stands behind the other items, and `put` puts its bytes behind that; where there is no place for it, nothing is done
abbrev pub laid_at : Progress → Bytes → ℕ → ℕ → ℕ → (Bytes → Bytes) → layout.Spot → Ans ℕ × Bytes
laid_at p w name len top put s =
    cond (lies s)
    (gives (pointer_at s) (with_item p (blocks_with p.blocks s.before) (p.end + (16 + len)) top), put (headed w p.end name s.before s.start len))
    (refuses 10 p, w)

-- the top `len` bytes of the stack moved behind the head, and zeros where they stood
abbrev pub moved : Progress → ℕ → Bytes → Bytes
moved p len x = over (over x (p.end + 16) (take len (drop (p.top - len) x))) (p.top - len) (zeros len)

-- they are an item of the name, alone in a new last block, whatever stands in the area
unfoldable pub lay_in : Bool → Progress → Bytes → ℕ → ℕ → Ans ℕ × Bytes
lay_in alone p w name len = laid_at p w name len (p.top - len) (moved p len) (spot alone name len (blocks_in w 0 p.blocks))

-- a text is an item of the name 1; the item's last byte, behind the text, is left as it stands
unfoldable pub lay_text_in : Progress → Bytes → Bytes → Ans ℕ × Bytes
lay_text_in p w t = laid_at p w 1 (length t + 1) p.top (λ x. over x (p.end + 16) t) (spot false 1 (length t + 1) (blocks_in w 0 p.blocks))

-- the top `len` bytes of the stack are laid as an item of the name; alone, in a new last block
pub record LaysItem (alone : Bool) (R : Round) (n : ℕ) (p : Progress) (w : Bytes) (name len : ℕ) (r : Ans ℕ) (w' : Bytes) : Type 0 where
  pub grew : Enlarged p len (p.top - len) r
  pub says : (S : Schema) (s : State) (σ b : Bytes) → length b ≡ len → Rep S R n s (σ ++ b) p w → Meets S R n (λ _. σ) (λ a x. a ≡ x) (lay_item alone name b s) r w'
  pub exact : (r, w') ≡ lay_in alone p w name len

-- .. in the first block with room
abbrev pub Lays : Round → ℕ → Progress → Bytes → ℕ → ℕ → Ans ℕ → Bytes → Type 0
Lays R n p w name len r w' = LaysItem false R n p w name len r w'

-- bytes are laid as an item of block 1, with a closing zero byte
pub record LaysText (R : Round) (n : ℕ) (p : Progress) (w : Bytes) (t : Bytes) (r : Ans ℕ) (w' : Bytes) : Type 0 where
  pub grew : Enlarged p (length t + 1) p.top r
  pub says : (S : Schema) (s : State) (σ : Bytes) → Rep S R n s σ p w → Meets S R n (λ _. σ) (λ a x. a ≡ x) (add_item 1 (t ++ (0 ∷ [])) s) r w'
  pub exact : (r, w') ≡ lay_text_in p w t
