-- An item is laid, and its pointer put into bytes: what is put is read again.
-- Assumes nothing.
use Rattle.std.specs.Prelude.{Option, Some}
use Prim.Native.Nat.{ℕ, suc, ◌+◌, ◌^◌, ◌≤◌, ◌<◌}
use native.Mathlib.Omega.{arith}
use mathlib.Core.Path.{◌≡◌, refl, sym, ◌∙◌, ap, subst}
use mathlib.Core.Bool.{Bool, true, false, cond, ◌&&◌, not}
use mathlib.Core.List.{List, [], ◌∷◌, ◌++◌, map, append-nil, append_assoc}
use lib.Dec.{eqb, leb}
use lib.ListN.{length, length-append}
use borrow.Author.Tests.{leb-true, eqb-true}
use Rattle.numbers.specs.Words.{Bytes, read_at, bytes_of, over, is_empty}
use Rattle.numbers.specs.Result.{given, nth}
use Rattle.numbers.proofs.Bytes.{length_bytes, number_of}
use Rattle.numbers.proofs.Laws.{length_over, read_over, read_before}
use Rattle.value.specs.Rows.{Row, fields_of}
use Rattle.schema.specs.Defs.{StructDef, Member}
use Rattle.layout.specs.State.{Block, Core, State, Env, Out, done, stop, M, Spot, spot, past, pointer_at, max_block, file, lies, after, bind, ret, if_m, opt_m, pay, with_charge, settle, on_core, add_item, lay_item_c, lay_item}
use Rattle.layout.specs.Members.{need, slot_size, put_pointer, put_counted, add_string, text_slot}
use Rattle.layout.specs.Runs.{Writer, Run, own_type, pointed}
use Rattle.layout.specs.Write.{laid_run}
use Rattle.layout.specs.Always.{Formed}
use Rattle.layout.specs.Slots.{Further, Lays, Points, PointsFirst}
use Rattle.layout.proofs.Tiling.{spot_case}

-- the names of blocks
abbrev names : List Block → List ℕ
names bs = map (λ b. b.name) bs

-- an item renames no block, and opens at most one
spot_names : (alone : Bool) (n need : ℕ) (bs : List Block) → (more : List ℕ) × (names (spot alone n need bs).blocks ≡ names bs ++ more)
unfolding spot
spot_names alone n need [] = (n ∷ [], refl)
spot_names alone n need (b ∷ bs) = go (not alone) (eqb b.name n) refl (leb (b.len + need) max_block) (spot_names alone n need bs)
  where
    go : (o t : Bool) → eqb b.name n ≡ t → (f : Bool) → (more : List ℕ) × (names (spot alone n need bs).blocks ≡ names bs ++ more)
        → (more : List ℕ)
        × (names (cond (o && (t && f)) (record { before = 0; start = b.len; blocks = record { name = n; len = b.len + need } ∷ bs }) (past b (spot alone n need bs))).blocks ≡ names (b ∷ bs) ++ more)
    go true true e true h = ([], ap (λ (k : ℕ). k ∷ names bs) (sym (eqb-true b.name n e)) ∙ sym (append-nil (names (b ∷ bs))))
    go true true e false (more, h) = (more, ap (b.name ∷◌) h)
    go true false e f (more, h) = (more, ap (b.name ∷◌) h)
    go false t e f (more, h) = (more, ap (b.name ∷◌) h)

-- what stands once stands further on
pub further_same : (c : Core) → Further c c
further_same c = record { more_items = []; items = sym (append-nil c.items); more_blocks = []; blocks = sym (append-nil (names c.blocks)) }

pub further_then : (a b c : Core) → Further a b → Further b c → Further a c
further_then a b c f g =
    record {
      more_items = f.more_items ++ g.more_items;
      items = g.items ∙ ap (λ l. l ++ g.more_items) f.items ∙ append_assoc a.items f.more_items g.more_items;
      more_blocks = f.more_blocks ++ g.more_blocks;
      blocks = g.blocks ∙ ap (λ l. l ++ g.more_blocks) f.blocks ∙ append_assoc (names a.blocks) f.more_blocks g.more_blocks;
    }

pub further_file : (alone : Bool) (bs : Bytes) (n : ℕ) (c : Core)
    → Further c (file bs (pointer_at (spot alone n (length bs) c.blocks)) c (spot alone n (length bs) c.blocks))
unfolding file
further_file alone bs n c =
    let (more, e) = spot_names alone n (length bs) c.blocks in
    record { more_items = _ ∷ []; items = refl; more_blocks = more; blocks = e }

-- laying an item

-- the state with it
abbrev pub laid_in : Bool → ℕ → Bytes → State → State
laid_in alone n bs s =
    let p = spot alone n (length bs) s.core.blocks in
    record { core = file bs (pointer_at p) s.core p; charge = s.charge; events = s.events; uses = s.uses }

-- it has its place, or not
pub add_fits : (alone : Bool) (n : ℕ) (bs : Bytes) (s : State) → lies (spot alone n (length bs) s.core.blocks) ≡ true
    → lay_item alone n bs s ≡ done (pointer_at (spot alone n (length bs) s.core.blocks)) (laid_in alone n bs s)
unfolding lay_item on_core settle lay_item_c
add_fits alone n bs s e = rw e

pub add_none : (alone : Bool) (n : ℕ) (bs : Bytes) (s : State) → lies (spot alone n (length bs) s.core.blocks) ≡ false → lay_item alone n bs s ≡ stop 10 s.events
unfolding lay_item on_core settle lay_item_c
add_none alone n bs s e = rw e

-- the item has the pointer to where it is filed, which has 4 bytes
pub record Added (n : ℕ) (bs : Bytes) (p : ℕ) (c c' : Core) : Type 0 where
  pub lays : Lays n bs p c c'
  pub formed : Formed lays.item
  pub most : lays.item.block ≤ 4095
  pub start : lays.item.start ≤ 0xFFFFF

abbrev pub Adds : ℕ → Bytes → Core → Out ℕ → Type 0
Adds n bs c (done p s) = Added n bs p c s.core
Adds n bs c (stop k es) = Unit {0}

-- the block that an item goes to has the item's name
spot_here : (alone : Bool) (n need : ℕ) (bs : List Block) → (b : Block) × (nth (spot alone n need bs).blocks (spot alone n need bs).before ≡ Some b) × (b.name ≡ n)
unfolding nth
spot_here alone n need [] = unfold spot in (_, refl, refl)
spot_here alone n need (b ∷ bs) =
    spot_case alone (λ p. (c : Block) × (nth p.blocks p.before ≡ Some c) × (c.name ≡ n)) n need b bs (_, refl, refl) (spot_here alone n need bs)

pub adds : (alone : Bool) (n : ℕ) (bs : Bytes) (s : State) → Adds n bs s.core (lay_item alone n bs s)
unfolding lay_item on_core settle lay_item_c file
adds alone n bs s = go (leb (suc p.before) 4095) refl (leb p.start 0xFFFFF) refl
  where
    p : Spot
    p = spot alone n (length bs) s.core.blocks

    go : (a : Bool) → leb (suc p.before) 4095 ≡ a → (b : Bool) → leb p.start 0xFFFFF ≡ b
        → Adds n bs s.core (settle s 10 (given (a && b) (pointer_at p, file bs (pointer_at p) s.core p)))
    go false e b f = tt
    go true e false f = tt
    go true e true f =
        let (block, q, m) = spot_here alone n (length bs) s.core.blocks in
        record {
          lays =
              record {
                item = record { pointer = pointer_at p; block = suc p.before; start = p.start; bytes = bs };
                before = p.before;
                block = block;
                laid = refl;
                bytes = refl;
                number = refl;
                filed = q;
                named = m;
                pointer = refl;
                stays = (unfold file in further_file alone bs n s.core);
              };
          formed = refl;
          most = leb-true (suc p.before) 4095 e;
          start = leb-true p.start 0xFFFFF f;
        }

added_short : (n : ℕ) (bs : Bytes) (p : ℕ) (c c' : Core) → Added n bs p c c' → p < 256 ^ 4
added_short n bs p c c' a = omega (arith, a.lays.pointer, a.formed, a.most, a.start)

-- what is put is read

pub put_read : (buf : Bytes) (off p : ℕ) → off + 4 ≤ length buf → p < 256 ^ 4 → read_at 4 (put_pointer buf off p) off ≡ p
unfolding put_pointer
put_read buf off p h g =
    let l : length (bytes_of 4 p) ≡ 4 = length_bytes 4 p in
    ap (λ (k : ℕ). read_at k (over buf off (bytes_of 4 p)) off) (sym l) ∙ read_over buf off (bytes_of 4 p) (omega (arith, l)) ∙ number_of 4 p g

pub counted_read : (buf : Bytes) (off p n : ℕ) → off + 12 ≤ length buf → p < 256 ^ 4 → read_at 4 (put_counted buf off p n) off ≡ p
unfolding put_counted put_pointer
counted_read buf off p n h g =
    let l : length (bytes_of 4 p) ≡ 4 = length_bytes 4 p in
    let w : length (over buf off (bytes_of 4 p)) ≡ length buf = length_over buf off (bytes_of 4 p) (omega (arith, l)) in
    let m : length (bytes_of 2 n ++ bytes_of 2 n) ≡ 4 = length-append (bytes_of 2 n) (bytes_of 2 n) ∙ omega (arith, length_bytes 2 n) in
    read_before (over buf off (bytes_of 4 p)) (off + 8) (bytes_of 2 n ++ bytes_of 2 n) (omega (arith, w, m)) 4 off (omega arith)
    ∙ (unfold put_pointer in put_read buf off p (omega arith) g)

-- an item is laid, and its pointer put into bytes
module _ (n : ℕ) (bs : Bytes) (c : Core) where
  pub points : (off : ℕ) (f : ℕ → Bytes) → ((p : ℕ) → p < 256 ^ 4 → read_at 4 (f p) off ≡ p) → (o : Out ℕ) → Adds n bs c o → Points n bs off c (after o (λ p. ret (f p)))
  unfolding after ret
  points off f h (done p s) a = subst (λ (k : ℕ). Lays n bs k c s.core) (sym (h p (added_short n bs p c s.core a))) a.lays
  points off f h (stop k es) a = tt

  pub points_first : (f : ℕ → Bytes) → ((p : ℕ) → p < 256 ^ 4 → read_at 4 (f p) 0 ≡ p) → (o : Out ℕ) → Adds n bs c o → PointsFirst n bs c (after o (λ p. ret (Some (f p))))
  unfolding after ret
  points_first f h (done p s) a = subst (λ (k : ℕ). Lays n bs k c s.core) (sym (h p (added_short n bs p c s.core a))) a.lays
  points_first f h (stop k es) a = tt

-- texts

text_read : (sub : ℕ) (t buf : Bytes) (off : ℕ) → off + slot_size sub ≤ length buf → (p : ℕ) → p < 256 ^ 4
    → read_at 4 (cond (eqb sub 3) (put_counted buf off p (length t)) (put_pointer buf off p)) off ≡ p
text_read sub t buf off h p g = go (eqb sub 3) h
  where
    go : (b : Bool) → off + cond b 16 8 ≤ length buf → read_at 4 (cond b (put_counted buf off p (length t)) (put_pointer buf off p)) off ≡ p
    go true h = counted_read buf off p (length t) (omega (arith, h)) g
    go false h = put_read buf off p (omega (arith, h)) g

adds_text : (E : Env) (t : Bytes) (s : State) → Adds 1 (t ++ (0 ∷ [])) s.core (add_string E t s)
unfolding add_string bind after pay
adds_text E t s = go (leb (s.charge + (16 + (length t + 1))) E.charge_cap)
  where
    go : (b : Bool)
        → Adds 1 (t ++ (0 ∷ [])) s.core
        (after (cond b (done (tt {0}) (with_charge (s.charge + (16 + (length t + 1))) s)) (stop 9 s.events)) (λ _. add_item 1 (t ++ (0 ∷ []))))
    go true = adds false 1 (t ++ (0 ∷ [])) (with_charge (s.charge + (16 + (length t + 1))) s)
    go false = tt

pub text_slot_law : (E : Env) (sub : ℕ) (t buf : Bytes) (off : ℕ) (s : State) → off + slot_size sub ≤ length buf → is_empty t ≡ false
    → Points 1 (t ++ (0 ∷ [])) off s.core (text_slot E sub t buf off s)
unfolding text_slot if_m bind
text_slot_law E sub t buf off s h e =
    rw e (points 1 (t ++ (0 ∷ [])) s.core off _ (text_read sub t buf off h) (add_string E t s) (adds_text E t s))

-- runs, whatever m made them from
pub run_slot : (m : M (Option Run)) (n off : ℕ) (buf : Bytes) (s : State) (r : Run) (t : State) → off + 12 ≤ length buf → m s ≡ done (Some r) t
    → Points r.block r.bytes off t.core (laid_run m n off buf s)
unfolding laid_run bind after opt_m
run_slot m n off buf s r t h e =
    rw e (points r.block r.bytes t.core off _ (λ p g. counted_read buf off p n h g) (add_item r.block r.bytes t) (adds false r.block r.bytes t))

-- structures by pointer

-- what follows an answer that is there
pub there : {A B : Type 0} (o : Out A) (k : Option A → M B) → after (after o (λ p. ret (Some p))) k ≡ after o (λ p. k (Some p))
unfolding after ret
there (done a s) k = refl
there (stop n es) k = refl

module _ (E : Env) (w : Writer) (d : StructDef) (e : Member) where
  pub pointed_is_law : (ref : ℕ) (v : Row) (s : State) (i : StructDef) (bs : Bytes) (t : State) → E.defs.struct (own_type E v ref) ≡ Some i → w i (fields_of E.sheet v) s ≡ done bs t
      → pointed E w d e ref v s ≡ after (add_item i.name bs t) (λ p. ret (Some p))
  unfolding pointed opt_m bind after
  pointed_is_law ref v s i bs t f g = rw (f, g)
