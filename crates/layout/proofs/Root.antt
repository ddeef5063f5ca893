-- The root is laid last, in the block whose number F says; so there is a block.
-- Assumes nothing.
use Rattle.std.specs.Prelude.{Option, Some, None}
use Prim.Native.Nat.{ℕ, zero, suc, ◌+◌, ◌≤◌}
use native.Mathlib.Omega.{arith}
use mathlib.Core.Path.{◌≡◌, refl, sym, ◌∙◌, ap, subst}
use mathlib.Core.Bool.{Bool}
use mathlib.Core.List.{List, [], ◌∷◌, ◌++◌}
use lib.ListN.{length}
use Rattle.numbers.specs.Words.{Bytes}
use Rattle.numbers.specs.Result.{nth}
use Rattle.value.specs.Rows.{Fields, row, fields_of}
use Rattle.schema.specs.Defs.{StructDef}
use Rattle.pso.specs.Reader as R
use Rattle.pso.specs.Blocks.{numbered}
use Rattle.layout.specs.State.{Item, Block, Core, State, Env, Out, done, stop, after, bind, lay_item, empty_state}
use Rattle.layout.specs.Write.{root, write}
use Rattle.layout.specs.Build.{Laid}
use Rattle.layout.specs.Assemble.{joined, items_in}
use Rattle.layout.specs.Demand3.{places_from, read_back, pointer_block, RootLast, pointer_start}
use Rattle.layout.specs.Always.{len_at, Tiled}
use Rattle.layout.proofs.Items.{bytes_in, tile_rest}
use Rattle.layout.proofs.Tiling.{tiled, write_tiled, says_block, says_start}
use Rattle.layout.proofs.Laying.{Added, Adds, adds}
use Rattle.layout.proofs.Places.{place_length, own_tile}
use Rattle.layout.proofs.Named.{named_winning}
use Rattle.layout.proofs.Apart.{apart_law}
use Rattle.layout.proofs.Made.{Made, env_of}

-- the root is laid, after what its members laid: its bytes, and what stood before it

record Last (alone : Bool) (E : Env) (d : StructDef) (fs : Fields) (p : ℕ) (u : State) : Type 0 where
  bytes : Bytes
  earlier : State
  written : write E 96 32 d fs empty_state ≡ done bytes earlier
  lays : lay_item alone d.name bytes earlier ≡ done p u

root_parts : (alone : Bool) (E : Env) (d : StructDef) (fs : Fields) (p : ℕ) (u : State) → root E alone d fs empty_state ≡ done p u → Last alone E d fs p u
unfolding root bind after
root_parts alone E d fs p u = go (write E 96 32 d fs empty_state) refl
  where
    go : (o : Out Bytes) → write E 96 32 d fs empty_state ≡ o → after o (λ bs. lay_item alone d.name bs) ≡ done p u → Last alone E d fs p u
    go (done bs t) e f = record { bytes = bs; earlier = t; written = e; lays = f }
    go (stop n es) e f = let z : ◌≡◌ {A = ℕ} 0 1 = cc in absurd (omega arith)

module _ {alone : Bool} (T S : Bytes) (work : ℕ) (l : Laid) (m : Made alone T S work l) where
  -- the root is laid last
  last_laid : Last alone (env_of T m.schema work) m.def (fields_of T (row T 0)) l.pointer l.state
  last_laid = root_parts alone (env_of T m.schema work) m.def (fields_of T (row T 0)) l.pointer l.state m.ran

  root_added : Added m.def.name last_laid.bytes l.pointer last_laid.earlier.core l.state.core
  root_added = subst (Adds m.def.name last_laid.bytes last_laid.earlier.core) last_laid.lays (adds alone m.def.name last_laid.bytes last_laid.earlier)

nth_some : {A : Type 0} (l : List A) (k : ℕ) (a : A) → nth l k ≡ Some a → 1 ≤ length l
unfolding nth
nth_some [] k a e = let z : ◌≡◌ {A = ℕ} 0 1 = cc in absurd (omega arith)
nth_some (b ∷ l) k a e = omega arith

-- .. so there is a block
pub some_block : {alone : Bool} (T S : Bytes) (work : ℕ) (l : Laid) → Made alone T S work l → 1 ≤ length l.state.core.blocks
some_block T S work l m =
    let e = (root_added T S work l m).lays in
    nth_some l.state.core.blocks e.before e.block e.filed

place_named : (at k : ℕ) (bs : List Block) (b : Block) → nth bs k ≡ Some b → (r : R.Block) × (nth (places_from at bs) k ≡ Some r) × (r.name ≡ b.name)
unfolding places_from nth
place_named at k [] b e = let z : ◌≡◌ {A = ℕ} 0 1 = cc in absurd (omega arith)
place_named at zero (c ∷ bs) b e = (_, refl, ap name_in e)
  where
    name_in : Option Block → ℕ
    name_in None = 0
    name_in (Some x) = x.name
place_named at (suc k) (c ∷ bs) b e = place_named (at + c.len) k bs b e

-- an item that is laid last is the last of its block
ends_block : (c : Core) → Tiled c → (a : List Item) (i : Item) (k : ℕ) → c.items ≡ a ++ (i ∷ []) → i.block ≡ suc k → i.start + length i.bytes ≡ len_at k c.blocks
ends_block c t a i k e q = omega (arith, tile_rest 0 (len_at k c.blocks) (items_in (suc k) a) i (items_in (suc k) []) (own_tile c t a i [] k e q), nothing)
  where
    nothing : length (bytes_in (items_in (suc k) [])) ≡ 0
    nothing = unfold joined items_in in refl

-- "The root is laid last; it need not start its block."
pub root_last_law : {alone : Bool} (T S : Bytes) (work : ℕ) (l : Laid) → Made alone T S work l → RootLast alone T l (read_back l)
unfolding read_back
root_last_law {alone} T S work l m =
    let c = l.state.core in
    let o = last_laid T S work l m in
    let before : Tiled o.earlier.core = write_tiled (env_of T m.schema work) (row T 0).a m.def (fields_of T (row T 0)) o.bytes o.earlier m.def_is o.written in
    let a = root_added T S work l m in
    let e = a.lays in
    let i = e.item in
    let k = e.before in
    let q : i.block ≡ suc k = e.number in
    let (b, nb, nm) = place_named 16 k c.blocks e.block e.filed in
    let says : pointer_block i.pointer ≡ suc k = says_block i a.formed a.most ∙ q in
    let root : pointer_block l.pointer ≡ suc k = ap pointer_block (sym e.pointer) ∙ says in
    let ends : pointer_start i.pointer + length i.bytes ≡ b.length' =
    ap (λ n. n + length i.bytes) (says_start i a.formed a.most) ∙ ends_block c (tiled T S work l m) o.earlier.core.items i k e.laid q
    ∙ sym (place_length 16 k c.blocks b nb) in
    record {
      earlier = o.earlier.core.items;
      item = i;
      block = b;
      last = e.laid;
      pointer = sym e.pointer;
      number = ap pointer_block (sym e.pointer);
      found = subst (λ n. numbered (places_from 16 c.blocks) n ≡ Some b) (sym root) nb;
      named = nm ∙ e.named ∙ (named_winning m.schema).structs (row T 0).a m.def m.def_is;
      ends = ends;
      apart = λ h. apart_law l m.def.name o.bytes o.earlier before (subst (λ w. lay_item w m.def.name o.bytes o.earlier ≡ done l.pointer l.state) h o.lays) a b ends;
    }
