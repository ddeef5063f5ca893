-- Every pack that is built, as the library's functions answer of it: `every_built_pack`. Assumes nothing.
use Rattle.std.specs.Prelude.{Bool, Option, Some, None}
use Prim.Native.Nat.{zero, ℕ, suc, ◌+◌, ◌<◌}
use native.Mathlib.Omega.{arith}
use mathlib.Core.Path.{◌≡◌, refl, sym, ap, ◌∙◌, subst}
use mathlib.Core.List.{List, [], ◌∷◌, ◌++◌}
use lib.ListN.{length, take, drop, take-append-drop}
use Rattle.numbers.specs.Words.{Bytes}
use Rattle.numbers.specs.Result.{Result, ok, refused, nth}
use Rattle.schema.specs.Defs.{winning}
use Rattle.pso.specs.Reader as R
use Rattle.pso.specs.Blocks.{numbered}
use Rattle.pso.proofs.Given.{parsed}
use Rattle.layout.specs.State.{Item, Block}
use Rattle.layout.specs.Assemble.{items_in}
use Rattle.layout.specs.Build.{Built, success, build, afterwards, build_pso}
use Rattle.layout.specs.Demand3 as D
use Rattle.layout.proofs.Places.{places_length}
use Rattle.layout.proofs.EveryPack.{every_pack}
use Rattle.layout.proofs.Refusals.{Among, build_among}
use Rattle.sandvurek.specs.Exports.{outcome_is, outcome_of, reading_is, reading_of, block_is, block_of}
use Rattle.sandvurek.specs.declared.Block as E
use Rattle.sandvurek.specs.declared.Reading.{Reading}
use Rattle.pso_laws.specs.Packs.{file_in, BlocksFollow, StandsIn, RootEnds, GivesAgain, Pack, EveryBuiltPack}
use Rattle.pso_laws.proofs.Lists.{part, nth_past, every_map}
use Rattle.pso_laws.proofs.Looked.{struct_by, enum_by}

-- a file that the reader accepts

module _ (F : Bytes) (p : R.Pso) (e : R.parse_pso F ≡ ok p) where
  reading : reading_of F ≡ reading_is F (ok p)
  reading = ap (reading_is F) e

  block : (k : ℕ) → block_of F k ≡ block_is (numbered p.blocks k)
  block k = ap (λ (l : List R.Block). block_is (numbered l k)) (sym (parsed F p e).blocks)

  block_is_law : (k : ℕ) (b : R.Block) → numbered p.blocks k ≡ Some b → block_of F k ≡ block_is (Some b)
  block_is_law k b q = block k ∙ ap block_is q

  -- what is found under a number is a block of the file
  found_is_law : (k : ℕ) (Q : E.Block → Type 0) → ((b : R.Block) → numbered p.blocks k ≡ Some b → Q (block_is (Some b))) → (block_of F k).found ≡ 1 → Q (block_of F k)
  found_is_law k Q f h = subst Q (sym g) (go (numbered p.blocks k) refl (ap (λ (b : E.Block). b.found) (sym g) ∙ h))
    where
      g : block_of F k ≡ block_is (numbered p.blocks k)
      g = block k

      go : (o : Option R.Block) → numbered p.blocks k ≡ o → (block_is o).found ≡ 1 → Q (block_is o)
      go (Some b) q h = f b q
      go None q h = absurd (omega (arith, h))

  past_last : (k : ℕ) → length p.blocks < k → (block_of F k).found ≡ 0
  past_last zero h = elim h [ ]
  past_last (suc k) h = ap (λ (b : E.Block). b.found) (block (suc k) ∙ ap block_is (nth_past p.blocks k h))

  -- an item that stands in the data stands in a file that begins with the data
  stands : take (length p.data') F ≡ p.data' → (i : Item) → D.Stands p i → StandsIn F i
  stands front i s =
      let k = D.pointer_block i.pointer in
      let b = block_is_law k s.block s.found in
      let at = s.block.place + D.pointer_start i.pointer in
      let n = length i.bytes in
      let whole : p.data' ++ drop (length p.data') F ≡ F = ap (◌++ drop (length p.data') F) (sym front) ∙ take-append-drop (length p.data') F in
      let there : take n (drop at F) ≡ i.bytes
      = ap (λ (l : Bytes). take n (drop at l)) (sym whole) ∙ part n at p.data' (drop (length p.data') F) (ap length s.bytes) ∙ s.bytes in
      record {
        number = s.number;
        start = s.start;
        found = ap (λ (c : E.Block). c.found) b;
        bytes = subst (λ (c : E.Block). take n (drop (c.place + D.pointer_start i.pointer) F) ≡ i.bytes) (sym b) there;
      }

-- the blocks from number k on
follow : (F : Bytes) (k at end : ℕ) (bs : List Block) → ((j : ℕ) → block_of F (suc (k + j)) ≡ block_is (nth (D.places_from at bs) j)) → D.BlocksTile at (D.places_from at bs) end
    → BlocksFollow F (suc k) at bs end
unfolding nth D.places_from
follow F k at end [] h t = t
follow F k at end (b ∷ bs) h t =
    let z : k + 0 ≡ k = omega arith in (
      ap (λ (x : ℕ). block_of F (suc x)) (sym z) ∙ h 0,
      follow F (suc k) (at + b.len) end bs
          (λ j.
          let q : suc k + j ≡ k + suc j = omega arith in
          ap (λ (x : ℕ). block_of F (suc x)) q ∙ h (suc j)) t.1,
    )

-- demand 3 in these words
module _ (alone : Bool) (T S : Bytes) (work out records : ℕ) (F : Bytes) (d : D.Demand3 alone T S work out records F) where
  root_ends_law : RootEnds alone T F d.laid
  root_ends_law =
      let x = d.root_last in
      let e = reading F d.read d.accepts in
      let n : (reading_of F).root ≡ d.read.root = ap (λ (q : Reading). q.root) e in
      let b : block_of F (reading_of F).root ≡ block_is (Some x.block) = ap (block_of F) n ∙ block_is_law F d.read d.accepts d.read.root x.block x.found in
      record {
        earlier = x.earlier;
        root = x.item;
        last = x.last;
        pointer = x.pointer;
        number = n ∙ x.number;
        found = ap (λ (c : E.Block). c.found) b;
        named = ap (λ (c : E.Block). c.name) b ∙ x.named;
        ends = x.ends ∙ sym (ap (λ (c : E.Block). c.length) b);
        apart = λ h.
            let y = x.apart h in
            record {
              pointer = y.number ∙ sym n;
              last = n ∙ y.last ∙ sym (ap (λ (q : Reading). q.blocks) e);
              only = ap (λ (k : ℕ). items_in k d.laid.state.core.items) n ∙ y.only;
              all = y.all ∙ sym (ap (λ (c : E.Block). c.length) b);
            };
      }

  gives_again_law : GivesAgain alone T F work out
  gives_again_law =
      let x = d.rebuilds in
      record {
        distinct = x.distinct;
        answers = λ buffer records l h. ap outcome_is (x.answers buffer records l h);
        same = λ buffer records l h. ap (λ a. take (outcome_is a).length (build_pso alone T F work buffer records).output) (x.answers buffer records l h) ∙ x.same buffer records l h;
        fewer = λ buffer records l h. ap outcome_is (x.fewer buffer records l h);
      }

  in_words : Pack alone T S work out records F
  unfolding D.read_back
  in_words =
      let a = d.accepts in
      let e = reading F d.read a in
      let bs = d.laid.state.core.blocks in
      let places : d.read.blocks ≡ D.places_from 16 bs = ap (λ (p : R.Pso). p.blocks) d.reads_laid in
      let many : (reading_of F).blocks ≡ length d.read.blocks = ap (λ (q : Reading). q.blocks) e in
      record {
        laid = d.laid;
        layout_gives = d.layout_gives;
        schema = d.schema;
        schema_gives = d.schema_gives;
        accepts = ap (λ (q : Reading). q.code) e;
        read = d.read;
        reads = a;
        root = ap (λ (q : Reading). q.root) e ∙ ap (λ (p : R.Pso). p.root) d.reads_laid;
        data_at_front = ap (λ (q : Reading). q.data_at) e ∙ d.data_at_front;
        blocks = many ∙ ap length places ∙ places_length 16 bs;
        no_other = λ k h. past_last F d.read a k (omega (arith, many, h));
        from_one = refl;
        blocks_follow =
            follow F 0 16 (reading_of F).data_length bs
            (λ j.
            let z : 0 + j ≡ j = omega arith in
            ap (λ (x : ℕ). block_of F (suc x)) z ∙ block F d.read a (suc j) ∙ ap (λ (l : List R.Block). block_is (nth l j)) places)
            (subst (λ (n : ℕ). D.BlocksTile 16 (D.places_from 16 bs) n) (sym (ap (λ (q : Reading). q.data_length) e))
            (subst (λ (l : List R.Block). D.BlocksTile 16 l (length d.read.data')) places d.blocks_tile));
        items_follow = λ k. found_is_law F d.read a k (λ (b : E.Block). D.ItemsTile 0 (items_in k d.laid.state.core.items) b.length) (λ b q. d.items_tile k b q);
        items_stand = every_map (D.Stands d.read) (StandsIn F) (stands F d.read a d.data_first) d.laid.state.core.items d.items_stand;
        root_def = d.root_def;
        root_found = d.root_found;
        ran = d.ran;
        slots_point = d.slots_point;
        structs_sized = d.structs_sized;
        parts_join = d.parts_join;
        laid_stays = d.laid_stays;
        root_ends = root_ends_law;
        once = d.carries_used;
        structs = λ name. struct_by F d.read a name (winning d.schema) d.laid.state.uses d.carries_used;
        enums = λ name. enum_by F d.read a name (winning d.schema) d.laid.state.uses d.carries_used;
        gives_again = gives_again_law;
      }

-- code 0 is success: 0 is no refusal's number
succeeds : (work : ℕ) (out : Bytes) (records : ℕ) (r : Result Built) → Among 1 14 r → (outcome_is (afterwards work out records r).answer).code ≡ 0
    → (m : ℕ) × ((afterwards work out records r).answer ≡ success (outcome_is (afterwards work out records r).answer).length m)
unfolding afterwards Among
succeeds work out records (ok b) h e = (length b.remarks, refl)
succeeds work out records (refused n) h e = absurd (omega (arith, h.0, e))

-- the theorem
pub every_built_pack : EveryBuiltPack
unfolding build_pso
every_built_pack alone T S work out records o e =
    let (m, q) = succeeds work out records (build alone T S work (length out) records) (build_among alone T S work (length out) records) e in
    let (n, d) = every_pack alone T S work out records (outcome_of (build_pso alone T S work out records)).length m o q in
    (n, in_words alone T S work (length out) records (file_in (build_pso alone T S work out records)) d)
