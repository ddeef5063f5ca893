-- An item is laid. Assumes nothing.
use mathlib.Core.Path.{◌≡◌, sym, ap, ◌∙◌}
use mathlib.Core.Bool.{Bool}
use mathlib.Core.List.{List, [], ◌∷◌, ◌++◌, append_assoc, append-nil}
use Prim.Native.Nat.{ℕ, suc, ◌+◌, ◌-◌, ◌*◌, ◌^◌, ◌≤◌, ◌<◌}
use native.Mathlib.Omega.{arith}
use lib.ListN.{length, length-append}
use Rattle.numbers.specs.Words.{Bytes, words, over}
use Rattle.numbers.proofs.Bytes.{length_words}
use Rattle.schema.specs.Defs.{Schema}
use Rattle.layout.specs.State.{Item, Spot, State, spot, pointer_at, file}
use Rattle.layout.proofs.Laying.{laid_in}
use Rattle.area.specs.declared.Round.{Round}
use Rattle.area.specs.declared.Progress.{Progress}
use Rattle.area.specs.Segments.{Segment, flat}
use Rattle.area.specs.Kept.{kept, rows_bytes}
use Rattle.area.specs.Area.{rows_of, encode, stack_at, Rep, with_item, headed}
use Rattle.area.specs.Posts.{Safe}
use Rattle.area.proofs.Flat as flat
use Rattle.area.proofs.Spots.{length_rows_of, rows_of_snoc, Filed, inside, behind, spot_small, spot_start}

-- an item behind the others
encode_snoc : (is : List Item) (i : Item) → encode (is ++ (i ∷ [])) ≡ encode is ++ (words (i.block ∷ i.start ∷ length i.bytes ∷ 0 ∷ []) ++ i.bytes)
unfolding encode
encode_snoc [] i = ap (λ (x : Bytes). words (i.block ∷ i.start ∷ length i.bytes ∷ 0 ∷ []) ++ x) (append-nil i.bytes)
encode_snoc (j ∷ is) i = rw (encode_snoc is i) (simp append_assoc)

-- the area with the blocks bs, the items' bytes a and the stack σ in the place of those of the state
abbrev pub area_with : Round → ℕ → State → Bytes → Bytes → Bytes → Bytes
area_with R n s bs a σ =
    flat ((32768, bs) ∷ (16384, rows_bytes (kept R.skip s.events).rows) ∷ (16384, []) ∷ (4 * R.entries, words s.core.structs) ∷ (4 * R.entries, words s.core.enums)
    ∷ (R.cap, a) ∷ (n - stack_at R, σ) ∷ [])

module _ (R : Round) (n : ℕ) (p : Progress) (w : Bytes) (safe : Safe R n p) (S : Schema) (s : State) (σ : Bytes) (rep : Rep S R n s σ p w) (name len : ℕ) where
  -- the block's row
  row_put : (q : Spot) → Filed name len s.core.blocks q → suc q.before ≤ 4095
      → over w (8 * q.before) (words (name ∷ (q.start + len) ∷ [])) ≡ area_with R n s (rows_of q.blocks) (encode s.core.items) σ
  row_put q (inside h l e) t =
      ap (λ (x : Bytes). over x (8 * q.before) (words (name ∷ (q.start + len) ∷ []))) rep.work
      ∙ flat.replace []
      ((16384, rows_bytes (kept R.skip s.events).rows) ∷ (16384, []) ∷ (4 * R.entries, words s.core.structs) ∷ (4 * R.entries, words s.core.enums) ∷ (R.cap, encode s.core.items) ∷ (n - stack_at R, σ) ∷ [])
      32768 (rows_of s.core.blocks) (words (name ∷ (q.start + len) ∷ [])) (8 * q.before) (8 * q.before)
      (omega (arith, h, length_rows_of s.core.blocks, length_words (name ∷ (q.start + len) ∷ []))) (omega (arith, length_rows_of s.core.blocks, rep.blocks, safe.blocks)) (omega arith)
      ∙ ap (λ (x : Bytes). area_with R n s x (encode s.core.items) σ) (sym e)
  row_put q (behind h z e) t =
      let l : q.start + len ≡ len = omega (arith, z) in
      ap (λ (x : Bytes). over x (8 * q.before) (words (name ∷ (q.start + len) ∷ []))) rep.work
      ∙ flat.append []
      ((16384, rows_bytes (kept R.skip s.events).rows) ∷ (16384, []) ∷ (4 * R.entries, words s.core.structs) ∷ (4 * R.entries, words s.core.enums) ∷ (R.cap, encode s.core.items) ∷ (n - stack_at R, σ) ∷ [])
      32768 (rows_of s.core.blocks) (words (name ∷ (q.start + len) ∷ [])) (8 * q.before)
      (omega (arith, h, length_rows_of s.core.blocks, length_words (name ∷ (q.start + len) ∷ []))) (omega (arith, h, length_rows_of s.core.blocks))
      ∙ ap (λ (x : Bytes). area_with R n s x (encode s.core.items) σ)
      (ap (λ (k : ℕ). rows_of s.core.blocks ++ words (name ∷ k ∷ [])) l ∙ sym (rows_of_snoc s.core.blocks (record { name = name; len = len })) ∙ ap rows_of (sym e))

  -- the segments before the items
  abbrev pub before_items : Spot → List Segment
  before_items q =
      (32768, rows_of q.blocks) ∷ (16384, rows_bytes (kept R.skip s.events).rows) ∷ (16384, []) ∷ (4 * R.entries, words s.core.structs) ∷ (4 * R.entries, words s.core.enums) ∷ []

  abbrev pub head_of : Spot → Bytes
  head_of q = words (suc q.before ∷ q.start ∷ len ∷ 0 ∷ [])

  -- its head behind the other items
  pub head_put : (q : Spot) → Filed name len s.core.blocks q → suc q.before ≤ 4095 → p.end + (16 + len) ≤ stack_at R
      → headed w p.end name q.before q.start len ≡ area_with R n s (rows_of q.blocks) (encode s.core.items ++ head_of q) σ
  head_put q f t h =
      let o : q.before + 1 ≡ suc q.before = omega arith in
      ap (λ (k : ℕ). over (over w (8 * q.before) (words (name ∷ (q.start + len) ∷ []))) p.end (words (k ∷ q.start ∷ len ∷ 0 ∷ []))) o
      ∙ ap (λ (x : Bytes). over x p.end (head_of q)) (row_put q f t)
      ∙ flat.append (before_items q) ((n - stack_at R, σ) ∷ []) R.cap (encode s.core.items) (head_of q) p.end
      (omega (arith, rep.end, length_words (suc q.before ∷ q.start ∷ len ∷ 0 ∷ []))) (omega (arith, rep.end))

  -- its bytes behind its head
  pub bytes_put : (q : Spot) (b : Bytes) (w' : Bytes) → w' ≡ area_with R n s (rows_of q.blocks) (encode s.core.items ++ head_of q) σ → p.end + (16 + length b) ≤ stack_at R
      → over w' (p.end + 16) b ≡ area_with R n s (rows_of q.blocks) (encode s.core.items ++ (head_of q ++ b)) σ
  bytes_put q b w' e h =
      let l : length (encode s.core.items ++ head_of q) ≡ length (encode s.core.items) + 16 =
      length-append (encode s.core.items) (head_of q) ∙ ap (λ (k : ℕ). length (encode s.core.items) + k) (length_words (suc q.before ∷ q.start ∷ len ∷ 0 ∷ [])) in
      ap (λ (x : Bytes). over x (p.end + 16) b) e
      ∙ flat.append (before_items q) ((n - stack_at R, σ) ∷ []) R.cap (encode s.core.items ++ head_of q) b (p.end + 16) (omega (arith, rep.end)) (omega (arith, rep.end))
      ∙ ap (λ (x : Bytes). area_with R n s (rows_of q.blocks) x σ) (append_assoc (encode s.core.items) (head_of q) b)

  -- the item is laid, and τ is the stack
  pub rep_laid : (alone : Bool) (b τ w' : Bytes) (count top : ℕ) → length b ≡ len → name < 256 ^ 4 → len < 2 ^ 31
      → w' ≡ area_with R n s (rows_of (spot alone name len s.core.blocks).blocks) (encode s.core.items ++ (head_of (spot alone name len s.core.blocks) ++ b)) τ
      → count ≡ length (spot alone name len s.core.blocks).blocks → top ≡ stack_at R + length τ
      → Rep S R n (laid_in alone name b s) τ (with_item p count (p.end + (16 + len)) top) w'
  unfolding file
  rep_laid alone b τ w' count top lb h l e f g =
      let q = spot alone name len s.core.blocks in
      let x : encode (s.core.items ++ (record { pointer = pointer_at q; block = suc q.before; start = q.start; bytes = b } ∷ [])) ≡ encode s.core.items ++ (head_of q ++ b) =
      encode_snoc s.core.items (record { pointer = pointer_at q; block = suc q.before; start = q.start; bytes = b })
      ∙ ap (λ (k : ℕ). encode s.core.items ++ (words (suc q.before ∷ q.start ∷ k ∷ 0 ∷ []) ++ b)) lb in
      let m : length (head_of q ++ b) ≡ 16 + len = length-append (head_of q) b ∙ omega (arith, length_words (suc q.before ∷ q.start ∷ len ∷ 0 ∷ [])) in
      let y : length (encode s.core.items ++ (head_of q ++ b)) ≡ length (encode s.core.items) + (16 + len) = length-append (encode s.core.items) (head_of q ++ b) ∙ ap (λ (k : ℕ). length (encode s.core.items) + k) m in
      let z : q.start ≤ 0x100000 = spot_start alone name len s.core.blocks in
      rw lb
      record {
        work = rw x e;
        blocks = f;
        rows = rep.rows;
        structs = rep.structs;
        enums = rep.enums;
        end = rw x (omega (arith, rep.end));
        top = g;
        charge = rep.charge;
        seen = rep.seen;
        next = rep.next;
        tiny = rep.tiny;
        small = spot_small alone name len s.core.blocks h rep.small (omega arith);
        struct_names = rep.struct_names;
        enum_names = rep.enum_names;
        known = record { structs_once = rep.known.structs_once; enums_once = rep.known.enums_once; structs_known = rep.known.structs_known; enums_known = rep.known.enums_known };
        entries = rep.entries;
      }
