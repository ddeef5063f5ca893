-- Where the data section stands. Assumes nothing.
use Rattle.std.specs.Prelude.{Option, Some, None, Ok, Err}
use Rattle.std.specs.Option.{ok_or}
use Rattle.std.specs.Prelude as Rust
use mathlib.Core.Path.{◌≡◌, refl, sym, ap, ap₂, subst, ◌∙◌}
use mathlib.Core.Bool.{Bool, true, false, cond}
use Prim.Native.Nat.{ℕ, ◌+◌}
use native.Mathlib.Omega.{arith}
use lib.Dec.{eqb}
use lib.ListN.{length, take, drop}
use Rattle.numbers.specs.Words.{Bytes, read_at}
use Rattle.numbers.specs.Result.{Result, ok, refused, and_then, needed, map_result}
use Rattle.numbers.specs.declared.refusal.Refusal.{Refusal}
use Rattle.numbers.specs.declared.refusal.Refusal.TheVariants.{NoData, NoMap}
use Rattle.numbers.specs.Refusal.{number_of}
use Rattle.schema.specs.Sections.{Sections, section, end, PSIN}
use Rattle.schema.specs.Steps.{rest, Stepped}
use Rattle.schema.specs.declared.cursor.Section.{Section}
use Rattle.schema.specs.declared.cursor.Cursor.{Cursor}
use Rattle.schema.proofs.Errors.{ok_or_none}
use Rattle.schema.proofs.Walk.{rest_all}
use Rattle.pso.specs.Reader as R
use Rattle.pso.specs.Reader.{parse_pso}
use Rattle.pso.specs.Answers.{Shown, shown, shown_at, data_from, data_at, answered, finish_is}
use Rattle.pso.specs.Steps.{Sees}
use Rattle.pso.specs.declared.parse.State.{State}
use Rattle.pso.specs.declared.parse.Pso.{Pso}

-- the place that is known so far
abbrev pub known : Option Section → ℕ
known (Some b) = b.place
known None = 0

known_cond : (b : Bool) (p q : Option Section) → cond b (known p) (known q) ≡ known (cond b p q)
known_cond true p q = refl
known_cond false p q = refl

module _ (F : Bytes) where
  -- the section's bytes are those of the file at its place
  abbrev pub Lies : Option Section → Type 0
  Lies (Some b) = b.bytes.now ≡ take (length b.bytes.now) (drop b.place F)
  Lies None = Unit {0}

  pub lies_there : (c : Cursor) (b : Section) (next : Cursor) → Stepped c b next → c.file.now ≡ F → Lies (Some b)
  lies_there c b next s e = rw (s.here, ← e) s.part

  lies_cond : (b : Bool) (p q : Option Section) → Lies p → Lies q → Lies (cond b p q)
  lies_cond true p q x y = x
  lies_cond false p q x y = y

  -- the sections that are left, the first of them at `at`, lead to the same place
  pub record Placed (ss : Sections) (at : ℕ) (s : State) : Type 0 where
    pub leads : data_from ss at (known s.body) ≡ data_at F
    pub lies : Lies s.body

  pub placed_first : (ss : Sections) (at : ℕ) → ss ≡ rest F 0 → at ≡ 0 → Placed ss at (record { body = None; root = None; blocks = 0 })
  unfolding data_at
  placed_first ss at e z = record { leads = ap₂ (λ (x : Sections) (n : ℕ). data_from x n 0) (e ∙ rest_all F) z; lies = tt }

  pub placed_turn : (b : Section) (ss : Sections) (at next : ℕ) (s x : State) → Placed (section (read_at 4 b.bytes.now 0) b.bytes.now ss) at s → b.place ≡ at
      → next ≡ at + length b.bytes.now → Lies (Some b) → (r : Rust.Result State Refusal) → Sees b s r → r ≡ Ok x → Placed ss next x
  unfolding data_from
  placed_turn b ss at next s x g here on l r w q =
      let t = eqb (read_at 4 b.bytes.now 0) PSIN in
      let k : cond t at (known s.body) ≡ known x.body
      = ap (λ (y : ℕ). cond t y (known s.body)) (sym here) ∙ known_cond t (Some b) s.body ∙ ap known (sym (w.body x q)) in
      record {
        leads = sym (ap₂ (λ (y z : ℕ). data_from ss y z) (sym on) k) ∙ g.leads;
        lies = subst Lies (sym (w.body x q)) (lies_cond t (Some b) s.body l g.lies);
      }

  -- of an answer: the data section stands there, and its bytes are in the file
  abbrev pub Right : Result Pso → Type 0
  Right (ok p) = (p.place ≡ data_at F) × (length (take p.len (drop p.place F)) ≡ p.len)
  Right (refused n) = Unit {0}

  right_end : (s : State) → known s.body ≡ data_at F → Lies s.body → Right (finish_is s)
  unfolding and_then needed
  right_end s = go s.body s.root
    where
      go : (b : Option Section) (n : Option ℕ) → known b ≡ data_at F → Lies b → Right (finish_is (record { body = b; root = n; blocks = s.blocks }))
      go (Some b) (Some n) e l = (e, sym (ap length l))
      go (Some b) None e l = tt
      go None n e l = tt

  shown_as : (X : Result R.Pso) (r : Result Pso) → map_result shown X ≡ map_result (shown_at F) r → Right r → r ≡ map_result (answered F) X
  unfolding map_result
  shown_as (ok p) (ok w) e (h, l) =
      let a : shown p ≡ shown_at F w = cc in
      let i : p.root ≡ w.root = ap (λ (x : Shown). x.root) a in
      let j : length p.data' ≡ w.len = ap (λ (x : Shown). length x.data') a ∙ l in
      let k : length p.blocks ≡ w.blocks = ap (λ (x : Shown). x.blocks) a in
      rw (i, j, k, ← h)
  shown_as (ok p) (refused n) e g = absurd (let z : ◌≡◌ {A = ℕ} 0 1 = cc in omega arith)
  shown_as (refused m) (ok w) e g = absurd (let z : ◌≡◌ {A = ℕ} 0 1 = cc in omega arith)
  shown_as (refused m) (refused n) e g =
      let a : m ≡ n = cc in
      ap refused (sym a)

  -- a refusal, with both promises
  abbrev pub Answers : Result Pso → Type 0
  Answers r = record { file_value : map_result shown (parse_pso F) ≡ map_result (shown_at F) r; value : r ≡ map_result (answered F) (parse_pso F) }

  pub refusal_is : (n : ℕ) → map_result shown (parse_pso F) ≡ refused n → Answers (refused n)
  unfolding map_result
  refusal_is n e = record { file_value = e; value = shown_as (parse_pso F) (refused n) e tt }

  -- .. and the answer at the end
  pub answer_is : (at : ℕ) (s : State) → Placed end at s → (r : Result Pso) → r ≡ finish_is s → map_result shown (parse_pso F) ≡ map_result (shown_at F) r → Answers r
  unfolding data_from
  answer_is at s g r q a = record { file_value = a; value = shown_as (parse_pso F) r a (subst Right (sym q) (right_end s g.leads g.lies)) }

-- ---- the end, once its case is known
module _ (s : State) where
  pub no_data : (e : Refusal) → Err e ≡ ok_or s.body NoData → refused (number_of e) ≡ finish_is s
  unfolding and_then needed
  no_data e h =
      let w = ok_or_none s.body NoData e h in
      rw (w.0, w.1)

  module _ (b : Section) (h : s.body ≡ Some b) where
    pub no_root : (e : Refusal) → Err e ≡ ok_or s.root NoMap → refused (number_of e) ≡ finish_is s
    unfolding and_then needed
    no_root e g =
        let w = ok_or_none s.root NoMap e g in
        rw (h, w.0, w.1)

    pub all_there : (n : ℕ) → s.root ≡ Some n → ok (record { root = n; place = b.place; len = length b.bytes.now; blocks = s.blocks }) ≡ finish_is s
    unfolding and_then needed
    all_there n g = rw (h, g)
