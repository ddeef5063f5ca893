-- Demand 3 holds of every pack that is built: `every_pack`.
-- Assumes nothing.
use Prim.Native.Nat.{ℕ, ◌≤◌}
use native.Mathlib.Omega.{arith}
use mathlib.Core.Path.{◌≡◌, refl, sym, ◌∙◌, ap, subst}
use mathlib.Core.Bool.{Bool}
use lib.ListN.{length, take}
use lib.Seq.{take-append_seam}
use Rattle.numbers.specs.Words.{Bytes, Octets}
use Rattle.numbers.specs.Result.{Result, ok, refused}
use Rattle.schema.specs.Defs.{winning}
use Rattle.layout.specs.Assemble.{used_of}
use Rattle.layout.specs.Build.{Laid, Built, layout, packed, build, Answer, success, refusal, afterwards, build_pso}
use Rattle.layout.specs.Demand3.{read_back, CarriesUsed, Demand3, EveryPack}
use Rattle.layout.proofs.Made.{env_of, made, built, then_ok}
use Rattle.layout.proofs.Tiling.{tiled}
use Rattle.layout.proofs.Places.{blocks_tiled, items_tiled, items_stand_law}
use Rattle.layout.proofs.Sizes.{sizes}
use Rattle.layout.proofs.Slots.{slots}
use Rattle.layout.proofs.Join.{parts_join_law}
use Rattle.layout.proofs.Stay.{laid_stays_law}
use Rattle.layout.proofs.Root.{root_last_law}
use Rattle.layout.proofs.Uses.{carries_used_law}
use Rattle.layout.proofs.ReadBack.{reads, reads_used, data_at_front_law, data_first_law}
use Rattle.layout.proofs.Rebuild.{rebuilds}

-- of the file of a layout
laid_holds : {alone : Bool} (T S : Bytes) (work out records : ℕ) (l : Laid) → Octets S → layout alone T S work records ≡ ok l
    → length (packed l).file ≤ out → length (packed l).file ≤ 16777216 → Demand3 alone T S work out records (packed l).file
unfolding read_back
laid_holds T S work out records l o e short small =
    let m = made T S work records l e in
    let c = l.state.core in
    let t = tiled T S work l m in
    record {
      laid = l;
      layout_gives = e;
      schema = m.schema;
      schema_gives = m.schema_is;
      read = read_back l;
      accepts = reads T S work l m o small;
      reads_laid = refl;
      data_at_front = data_at_front_law T S work l m o small;
      data_first = data_first_law T S work l m o small;
      blocks_tile = blocks_tiled c t;
      items_tile = items_tiled c t;
      items_stand = items_stand_law c t (read_back l) refl refl;
      root_def = m.def;
      root_found = m.def_is;
      ran = m.ran;
      slots_point = slots (env_of T m.schema work);
      structs_sized = sizes (env_of T m.schema work);
      parts_join = parts_join_law (env_of T m.schema work);
      laid_stays = laid_stays_law (env_of T m.schema work);
      root_last = root_last_law T S work l m;
      carries_used = subst (λ L. CarriesUsed (winning m.schema) l.state.uses (used_of L c)) (sym m.defs_are) (carries_used_law T S work l m);
      rebuilds = rebuilds T S work out l m (reads_used T S work l m o small) short small;
    }

-- of what was built
built_holds : {alone : Bool} (T S : Bytes) (work out records : ℕ) (b : Built) → Octets S → build alone T S work out records ≡ ok b → Demand3 alone T S work out records b.file
unfolding build
built_holds {alone} T S work out records b o f =
    let (l, e, g) = then_ok (layout alone T S work records) _ b f in
    let (q, short, small) = built alone T S work out records l b e f in
    subst (λ x. Demand3 alone T S work out records x.file) q (laid_holds T S work out records l o e short small)

-- a call that answers success has built
succeeded : (work : ℕ) (out : Bytes) (records n m : ℕ) (r : Result Built) → (afterwards work out records r).answer ≡ success n m
    → (b : Built) × (r ≡ ok b) × (length b.file ≡ n) × (take n (afterwards work out records r).output ≡ b.file)
unfolding afterwards
succeeded work out records n m (ok b) e = let q : length b.file ≡ n = ap length_in e in (b, refl, q, rw (← q) (take-append_seam b.file _))
  where
    length_in : Answer → ℕ
    length_in (success k j) = k
    length_in (refusal k) = 0
succeeded work out records n m (refused k) e = let z : ◌≡◌ {A = ℕ} 0 1 = cc in absurd (omega arith)

-- demand 3
pub every_pack : EveryPack
unfolding build_pso
every_pack alone T S work out records n m o e =
    let (b, f, q, g) = succeeded work out records n m (build alone T S work (length out) records) e in
    (ap length g ∙ q, subst (λ F. Demand3 alone T S work (length out) records F) (sym g) (built_holds T S work (length out) records b o f))
