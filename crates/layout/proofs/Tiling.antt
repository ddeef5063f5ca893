-- The items of each block tile it, in order of laying.
-- Assumes nothing.
use Rattle.std.specs.Prelude.{Some}
use Prim.Native.Nat.{ℕ, zero, suc, ◌+◌, ◌≤◌, ◌<◌}
use native.Mathlib.Omega.{arith}
use mathlib.Core.Path.{◌≡◌, refl, ap, subst}
use mathlib.Core.Bool.{Bool, true, false, cond}
use mathlib.Core.List.{List, [], ◌∷◌, ◌++◌, append-nil}
use lib.Dec.{eqb}
use lib.ListN.{length}
use borrow.Author.Tests.{eqb-true, eqb-false, leb-true}
use Rattle.numbers.specs.Words.{Bytes}
use Rattle.numbers.specs.Result.{Every}
use Rattle.numbers.proofs.Bytes.{every_append}
use Rattle.value.specs.Rows.{Fields}
use Rattle.schema.specs.Defs.{StructDef}
use Rattle.layout.specs.State.{Item, Block, Core, State, empty_state, Env, done, Spot, spot, past, pointer_at, file, use_struct_c, use_enum_c}
use Rattle.layout.specs.Assemble.{items_in}
use Rattle.layout.specs.Write.{write, root}
use Rattle.layout.specs.Build.{Laid}
use Rattle.layout.specs.Demand3.{ItemsTile, pointer_block, pointer_start}
use Rattle.layout.specs.Always.{len_at, AllIn, Formed, Tiled}
use Rattle.layout.proofs.Items.{items_in_append, tile_snoc}
use Rattle.layout.proofs.Keep.{Okay, Keeps}
use Rattle.layout.proofs.Writers.{Prims, k_write, k_root}
use Rattle.layout.proofs.CoreOnly.{Any, allows_any, on_core, core_prims}
use Rattle.layout.proofs.Made.{Made, env_of, reached}

-- where an item goes

-- the end of the first block
abbrev pub at_end : ℕ → ℕ → Block → List Block → Spot
at_end n need b bs = record { before = 0; start = b.len; blocks = record { name = n; len = b.len + need } ∷ bs }

-- an item goes to the end of the first block, or further on
pub spot_case : (alone : Bool) (P : Spot → Type 0) (n need : ℕ) (b : Block) (bs : List Block) → P (at_end n need b bs) → P (past b (spot alone n need bs)) → P (spot alone n need (b ∷ bs))
unfolding spot
spot_case alone P n need b bs p q = go _
  where
    go : (t : Bool) → P (cond t (at_end n need b bs) (past b (spot alone n need bs)))
    go true = p
    go false = q

record Good (need : ℕ) (bs : List Block) (p : Spot) : Type 0 where
  start_is : p.start ≡ len_at p.before bs
  grown : len_at p.before p.blocks ≡ len_at p.before bs + need
  others : (k : ℕ) → (p.before ≡ k → ⊥) → len_at k p.blocks ≡ len_at k bs
  inside : p.before < length p.blocks
  more : length bs ≤ length p.blocks

here : (n need : ℕ) (b : Block) (bs : List Block) → Good need (b ∷ bs) (at_end n need b bs)
unfolding len_at
here n need b bs = record { start_is = refl; grown = refl; others = o; inside = omega arith; more = omega arith }
  where
    o : (k : ℕ) → (0 ≡ k → ⊥) → len_at k (at_end n need b bs).blocks ≡ len_at k (b ∷ bs)
    o zero h = absurd (h refl)
    o (suc k) h = refl

beyond : (need : ℕ) (b : Block) (bs : List Block) (p : Spot) → Good need bs p → Good need (b ∷ bs) (past b p)
unfolding len_at
beyond need b bs p g = record { start_is = g.start_is; grown = g.grown; others = o; inside = omega (arith, g.inside); more = omega (arith, g.more) }
  where
    o : (k : ℕ) → (suc p.before ≡ k → ⊥) → len_at k (b ∷ p.blocks) ≡ len_at k (b ∷ bs)
    o zero h = refl
    o (suc k) h = g.others k (λ e. h (ap suc e))

spot_good : (alone : Bool) (n need : ℕ) (bs : List Block) → Good need bs (spot alone n need bs)
spot_good alone n need [] = unfold spot len_at in (record { start_is = refl; grown = omega arith; others = o; inside = omega arith; more = omega arith })
  where
    o : (k : ℕ) → (0 ≡ k → ⊥) → len_at k (record { name = n; len = need } ∷ []) ≡ len_at k []
    o zero h = absurd (h refl)
    o (suc k) h = unfold len_at in refl
spot_good alone n need (b ∷ bs) = spot_case alone (Good need (b ∷ bs)) n need b bs (here n need b bs) (beyond need b bs (spot alone n need bs) (spot_good alone n need bs))

-- an item among others
pub all_mid : (n : ℕ) (a : List Item) (i : Item) (b : List Item) → AllIn n (a ++ (i ∷ b))
    → (1 ≤ i.block) × (i.block ≤ n) × (i.block ≤ 4095) × (i.start ≤ 0xFFFFF)
all_mid n [] i b h = (h.0, h.1, h.2, h.3)
all_mid n (j ∷ a) i b h = all_mid n a i b h.4

pub every_mid : {A : Type 0} (Q : A → Type 0) (a : List A) (x : A) (b : List A) → Every Q (a ++ (x ∷ b)) → Q x
every_mid Q [] x b h = h.0
every_mid Q (y ∷ a) x b h = every_mid Q a x b h.1

-- one more item

all_snoc : (n m : ℕ) (is : List Item) (i : Item) → n ≤ m → AllIn n is → 1 ≤ i.block → i.block ≤ m → i.block ≤ 4095 → i.start ≤ 0xFFFFF
    → AllIn m (is ++ (i ∷ []))
all_snoc n m [] i h a o b c d = (o, b, c, d, tt)
all_snoc n m (j ∷ is) i h a o b c d = (a.0, omega (arith, a.1), a.2, a.3, all_snoc n m is i h a.4 o b c d)

tiled_file : (bs : Bytes) (c : Core) (p : Spot) → Good (length bs) c.blocks p → suc p.before ≤ 4095 → p.start ≤ 0xFFFFF → Tiled c → Tiled (file bs (pointer_at p) c p)
unfolding file
tiled_file bs c p g hb hs t =
    record { tiles = tl; within = all_snoc (length c.blocks) (length p.blocks) c.items i g.more t.within (omega arith) (omega (arith, g.inside)) hb hs; formed = every_append Formed c.items (i ∷ []) t.formed (refl, tt) }
  where
    i : Item
    i = record { pointer = pointer_at p; block = suc p.before; start = p.start; bytes = bs }

    go : (k : ℕ) (b : Bool) → eqb (suc p.before) (suc k) ≡ b → ItemsTile 0 (items_in (suc k) c.items ++ cond b (i ∷ []) []) (len_at k p.blocks)
    go k true e =
        let q : p.before ≡ k = omega (arith, eqb-true (suc p.before) (suc k) e) in
        rw (← q, g.grown) (tile_snoc 0 (len_at p.before c.blocks) (items_in (suc p.before) c.items) i (t.tiles p.before) g.start_is)
    go k false e = rw (append-nil, g.others k (λ q. eqb-false (suc p.before) (suc k) e (ap suc q))) (t.tiles k)

    tl : (k : ℕ) → ItemsTile 0 (items_in (suc k) (c.items ++ (i ∷ []))) (len_at k p.blocks)
    tl k = rw items_in_append (unfold items_in in go k (eqb (suc p.before) (suc k)) refl)

pub tiled_prims : (E : Env) → Prims E (on_core Any Tiled)
unfolding use_struct_c use_enum_c
tiled_prims E =
    core_prims Any Tiled E (allows_any E) (λ d c k q. record { tiles = q.tiles; within = q.within; formed = q.formed }) (λ n c e q. record { tiles = q.tiles; within = q.within; formed = q.formed })
    (λ alone n bs c u a b q. tiled_file bs c _ (spot_good alone n (length bs) c.blocks) (leb-true _ _ a) (leb-true _ _ b) q)

-- of every layout
pub tiled : {alone : Bool} (T S : Bytes) (work : ℕ) (l : Laid) → Made alone T S work l → Tiled l.state.core
unfolding items_in len_at
tiled T S work l m = reached T S work l m (on_core Any Tiled) (tiled_prims (env_of T m.schema work)) (record { tiles = λ k. refl; within = tt; formed = tt })

-- of what stands when the root is written, before it is laid
pub write_tiled : (E : Env) (name : ℕ) (d : StructDef) (fs : Fields) (bs : Bytes) (t : State) → E.defs.struct name ≡ Some d
    → write E 96 32 d fs empty_state ≡ done bs t → Tiled t.core
unfolding Keeps items_in len_at
write_tiled E name d fs bs t e r =
    subst (Okay (on_core Any Tiled)) r (k_write E (on_core Any Tiled) (tiled_prims E) 96 32 d fs ((tiled_prims E).found name d e).0 empty_state (record { tiles = λ k. refl; within = tt; formed = tt }))

-- of every run of the root that comes to an end
pub root_tiled : (alone : Bool) (E : Env) (name : ℕ) (d : StructDef) (fs : Fields) (pointer : ℕ) (s : State) → E.defs.struct name ≡ Some d
    → root E alone d fs empty_state ≡ done pointer s → Tiled s.core
unfolding Keeps items_in len_at
root_tiled alone E name d fs pointer s e r =
    subst (Okay (on_core Any Tiled)) r (k_root E (on_core Any Tiled) (tiled_prims E) alone d fs ((tiled_prims E).found name d e).0 empty_state (record { tiles = λ k. refl; within = tt; formed = tt }))

-- the number formed when an item is laid says its block and its start

pub says_block : (i : Item) → Formed i → i.block ≤ 4095 → pointer_block i.pointer ≡ i.block
says_block i e h = omega arith

pub says_start : (i : Item) → Formed i → i.block ≤ 4095 → pointer_start i.pointer ≡ i.start
says_start i e h = omega arith
