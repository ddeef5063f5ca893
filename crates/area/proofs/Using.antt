-- A definition is used. Assumes nothing.
use Rattle.std.specs.Prelude.{is_some}
use mathlib.Core.Path.{◌≡◌, refl, sym, ap, ◌∙◌}
use mathlib.Core.Bool.{Bool, true, false}
use mathlib.Core.List.{List, [], ◌∷◌, ◌++◌}
use Prim.Native.Nat.{ℕ, ◌+◌, ◌-◌, ◌*◌, ◌^◌, ◌≤◌, ◌<◌}
use native.Mathlib.Omega.{arith}
use lib.ListN.{length, length-append, length-map}
use borrow.Author.Tests.{lt-leb}
use Rattle.numbers.specs.Words.{Bytes, words, bytes_of, over, Stands, Below}
use Rattle.numbers.proofs.Bytes.{length_words, every_append}
use Rattle.numbers.proofs.Laws.{length_bytes}
use Rattle.schema.specs.Defs.{Schema, struct_name, enum_name, winning, index_entries}
use Rattle.layout.specs.State.{Core, Uses, State, contains, insert}
use Rattle.layout.specs.Assemble.{found, used_of}
use Rattle.layout.specs.Always.{Known}
use Rattle.layout.proofs.Uses.{once_insert, known_insert, names_found}
use Rattle.layout.proofs.Named.{named_winning}
use Rattle.layout.proofs.Carried.{carried_entries}
use Rattle.area.specs.declared.Round.{Round}
use Rattle.area.specs.declared.Progress.{Progress}
use Rattle.area.specs.Segments.{Segment, flat, rooms}
use Rattle.area.specs.Kept.{kept, rows_bytes}
use Rattle.area.specs.Rows.{names_in}
use Rattle.area.specs.Area.{rows_of, encode, stack_at, segments, Rep, with_used, started_in, used_in}
use Rattle.area.specs.Posts.{Safe, inserted_in, Inserts, Marks}
use Rattle.area.proofs.Flat as flat
use Rattle.area.proofs.Names.{names_stand, words_snoc, insert_there, insert_new}

-- used names are no more than index entries
few_names : (S : Schema) (c : Core) → Known (winning S) c → length c.structs + length c.enums ≤ index_entries S
unfolding used_of
few_names S c k =
    let w = named_winning S in
    let a : length (found (winning S).struct c.structs) ≡ length c.structs =
    sym (length-map (found (winning S).struct c.structs) struct_name) ∙ ap length (names_found struct_name (winning S).struct w.structs c.structs k.structs_known) in
    let b : length (found (winning S).enum c.enums) ≡ length c.enums =
    sym (length-map (found (winning S).enum c.enums) enum_name) ∙ ap length (names_found enum_name (winning S).enum w.enums c.enums k.enums_known) in
    omega (arith, carried_entries S c k)

-- a segment's names with one more, unless it is among them
record Inserted (xs ys : List Segment) (room x : ℕ) (ns : List ℕ) (r : ℕ) (w' : Bytes) : Type 0 where
  pub count : r ≡ length (insert x ns)
  pub names : Below (insert x ns)
  pub work : w' ≡ flat (xs ++ ((4 * room, words (insert x ns)) ∷ ys))

-- a segment of names between others
module _ (xs ys : List Segment) (room at count : ℕ) (ns : List ℕ) (w : Bytes) (work : w ≡ flat (xs ++ ((4 * room, words ns) ∷ ys))) (place : rooms xs ≡ at)
    (many : count ≡ length ns) (fits : count ≤ room) (below : Below ns) where
  names_are : names_in w at count ≡ ns
  names_are =
      let st : Stands w at (words ns) = rw work (flat.holds xs ys (4 * room) (words ns) at (omega (arith, length_words ns)) place) in
      ap (names_in w at) many ∙ names_stand w at ns below st

  inserted : (x r : ℕ) (w' : Bytes) → x < 256 ^ 4 → Inserts at count room x w r w' → length (insert x ns) ≤ room → Inserted xs ys room x ns r w'
  unfolding inserted_in
  inserted x r w' h i l = go (contains x ns) refl
    where
      go : (b : Bool) → contains x ns ≡ b → Inserted xs ys room x ns r w'
      go true e =
          let f : ◌≡◌ {A = ℕ × Bytes} (r, w') (count, w) = i.exact ∙ rw (ap (contains x) names_are ∙ e) in
          let g = insert_there x ns e in
          record { count = ap (λ y. y.0) f ∙ many ∙ ap length (sym g); names = rw g below; work = rw g (ap (λ y. y.1) f ∙ work) }
      go false e =
          let g = insert_new x ns e in
          let k : length (insert x ns) ≡ length ns + 1 = ap length g ∙ length-append ns (x ∷ []) in
          let f : ◌≡◌ {A = ℕ × Bytes} (r, w') (count + 1, over w (at + 4 * count) (bytes_of 4 x)) = i.exact ∙ rw (ap (contains x) names_are ∙ e, lt-leb room count (omega arith)) in
          record {
            count = omega (arith, ap (λ y. y.0) f);
            names = rw g (every_append (λ w. w < 256 ^ 4) ns (x ∷ []) below (h, tt));
            work =
                ap (λ y. y.1) f ∙ ap (λ (y : Bytes). over y (at + 4 * count) (bytes_of 4 x)) work
                ∙ flat.append xs ys (4 * room) (words ns) (bytes_of 4 x) (at + 4 * count) (omega (arith, length_words ns, length_bytes 4 x)) (omega (arith, length_words ns))
                ∙ ap (λ (y : Bytes). flat (xs ++ ((4 * room, y) ∷ ys))) (sym (words_snoc ns x) ∙ ap words (sym g));
          }

-- the core with other used names
abbrev used_core : Core → List ℕ → List ℕ → Core
used_core c ss es = record { items = c.items; blocks = c.blocks; structs = ss; enums = es }

module _ (R : Round) (n : ℕ) (p : Progress) (w : Bytes) (safe : Safe R n p) where
  rep_used : (S : Schema) (s : State) (σ : Bytes) (ss es : List ℕ) (u : Uses) (a b : ℕ) (w' : Bytes) → Rep S R n s σ p w → a ≡ length ss → b ≡ length es → Below ss → Below es
      → Known (winning S) (used_core s.core ss es) → w' ≡ flat (segments R n (used_core s.core ss es) (kept R.skip s.events).rows σ)
      → Rep S R n (record { core = used_core s.core ss es; charge = s.charge; events = s.events; uses = u }) σ (with_used p a b) w'
  rep_used S s σ ss es u a b w' q ea eb bs be k f = record {
    work = f;
    blocks = q.blocks;
    rows = q.rows;
    structs = ea;
    enums = eb;
    end = q.end;
    top = q.top;
    charge = q.charge;
    seen = q.seen;
    next = q.next;
    tiny = q.tiny;
    small = q.small;
    struct_names = bs;
    enum_names = be;
    known = k;
    entries = q.entries;
  }

  marks : (known : Schema → Bool) (to : State → State) (a b : ℕ) (w' : Bytes) → a ≤ R.entries → b ≤ R.entries
      → ((S : Schema) (s : State) (σ : Bytes) → known S ≡ true → Rep S R n s σ p w → Rep S R n (to s) σ (with_used p a b) w')
      → Marks R n p w known to (with_used p a b) w'
  marks known to a b w' ha hb f = record { blocks = refl; rows = refl; end = refl; top = refl; charge = refl; seen = refl; next = refl; structs = ha; enums = hb; says = f }

  pub use_struct_law : (x r : ℕ) (w' : Bytes) → x < 256 ^ 4 → Inserts 65536 p.structs R.entries x w r w'
      → Marks R n p w (λ S. is_some ((winning S).struct x)) (started_in x) (with_used p r p.enums) w'
  use_struct_law x r w' h i = marks (λ S. is_some ((winning S).struct x)) (started_in x) r p.enums w' i.few safe.enums says
    where
      says : (S : Schema) (s : State) (σ : Bytes) → is_some ((winning S).struct x) ≡ true → Rep S R n s σ p w → Rep S R n (started_in x s) σ (with_used p r p.enums) w'
      says S s σ k q =
          let c = s.core in
          let z : Known (winning S) (started_in x s).core =
          record {
            structs_once = once_insert x c.structs q.known.structs_once;
            enums_once = q.known.enums_once;
            structs_known = known_insert (winning S).struct x c.structs k q.known.structs_known;
            enums_known = q.known.enums_known;
          } in
          let g =
          inserted ((32768, rows_of c.blocks) ∷ (16384, rows_bytes (kept R.skip s.events).rows) ∷ (16384, []) ∷ [])
          ((4 * R.entries, words c.enums) ∷ (R.cap, encode c.items) ∷ (n - stack_at R, σ) ∷ []) R.entries 65536 p.structs c.structs w q.work (omega arith) q.structs safe.structs
          q.struct_names x r w' h i (omega (arith, few_names S (started_in x s).core z, q.entries)) in
          rep_used S s σ (insert x c.structs) c.enums (started_in x s).uses r p.enums w' q g.count q.enums g.names q.enum_names z g.work

  pub use_enum_law : (x r : ℕ) (w' : Bytes) → x < 256 ^ 4 → Inserts (65536 + 4 * R.entries) p.enums R.entries x w r w'
      → Marks R n p w (λ S. is_some ((winning S).enum x)) (used_in x) (with_used p p.structs r) w'
  use_enum_law x r w' h i = marks (λ S. is_some ((winning S).enum x)) (used_in x) p.structs r w' safe.structs i.few says
    where
      says : (S : Schema) (s : State) (σ : Bytes) → is_some ((winning S).enum x) ≡ true → Rep S R n s σ p w → Rep S R n (used_in x s) σ (with_used p p.structs r) w'
      says S s σ k q =
          let c = s.core in
          let z : Known (winning S) (used_in x s).core =
          record {
            structs_once = q.known.structs_once;
            enums_once = once_insert x c.enums q.known.enums_once;
            structs_known = q.known.structs_known;
            enums_known = known_insert (winning S).enum x c.enums k q.known.enums_known;
          } in
          let g =
          inserted ((32768, rows_of c.blocks) ∷ (16384, rows_bytes (kept R.skip s.events).rows) ∷ (16384, []) ∷ (4 * R.entries, words c.structs) ∷ [])
          ((R.cap, encode c.items) ∷ (n - stack_at R, σ) ∷ []) R.entries (65536 + 4 * R.entries) p.enums c.enums w q.work (omega arith) q.enums safe.enums
          q.enum_names x r w' h i (omega (arith, few_names S (used_in x s).core z, q.entries)) in
          rep_used S s σ c.structs (insert x c.enums) (used_in x s).uses p.structs r w' q q.structs g.count q.struct_names g.names z g.work
