-- A run of the layout: the empty work area, the root's structure, its item. Assumes nothing.
use Rattle.std.specs.Prelude.{Some, Bool}
use mathlib.Core.Path.{◌≡◌, refl, sym, ap, ◌∙◌}
use mathlib.Core.List.{List, [], ◌∷◌, ◌++◌}
use Prim.Native.Nat.{ℕ, ◌+◌, ◌-◌, ◌*◌}
use native.Mathlib.Omega.{arith}
use lib.ListN.{length}
use Rattle.numbers.specs.Words.{Bytes, words, zeros}
use Rattle.numbers.specs.Result.{ok}
use Rattle.value.specs.Rows.{row, fields_of}
use Rattle.schema.specs.Defs.{Schema, StructDef, Lookup, winning, index_entries}
use Rattle.schema.specs.Psch.{schema_of, struct_here}
use Rattle.schema.specs.Index.{last_place}
use Rattle.definitions.proofs.Finds.{winning_struct}
use Rattle.layout.specs.State.{Out, done, stop, after, bind, empty_state, contains, lay_item}
use Rattle.layout.specs.Demand3.{count}
use Rattle.layout.specs.Always.{Known}
use Rattle.layout.specs.Write.{write, root}
use Rattle.area.specs.declared.Round.{Round}
use Rattle.area.specs.declared.Progress.{Progress}
use Rattle.area.specs.Area.{rows_of, encode, stack_at, Rep, env_of}
use Rattle.area.specs.Kept.{kept, meets, rows_bytes}
use Rattle.area.specs.Posts.{Ans, gives, refuses, Meets, LaysItem}
use Rattle.assemble.proofs.Wiping.{bare_zeros}
use Rattle.cells.specs.declared.defs.Def.{Def}
use Rattle.cells.specs.Names.{def_of}
use Rattle.members.specs.Names.{defined_at}
use Rattle.writers.specs.Posts.{Named, deeper, Pushes}
use Rattle.rounds.specs.Run.{Roomy, Runs, beginning_of}

-- nothing is used
known_none : (L : Lookup) → Known L empty_state.core
unfolding contains count
known_none L =
    record {
      structs_once = λ x. refl;
      enums_once = λ x. refl;
      structs_known = λ x e. absurd (let z : ◌≡◌ {A = ℕ} 0 1 = cc in omega arith);
      enums_known = λ x e. absurd (let z : ◌≡◌ {A = ℕ} 0 1 = cc in omega arith);
    }

-- zeros are the empty state
pub rep_empty : (S : Schema) (R : Round) (n : ℕ) → Roomy R n → index_entries S ≡ R.entries → Rep S R n empty_state [] (beginning_of R) (zeros n)
unfolding kept meets rows_of rows_bytes words encode
rep_empty S R n h e =
    let cs : List ℕ = 32768 ∷ 16384 ∷ 16384 ∷ (4 * R.entries) ∷ (4 * R.entries) ∷ R.cap ∷ (n - stack_at R) ∷ [] in
    let z : 32768 + (16384 + (16384 + (4 * R.entries + (4 * R.entries + (R.cap + (n - stack_at R + 0)))))) ≡ n = omega (arith, h.1) in
    record {
      work = ap zeros (sym z) ∙ sym (bare_zeros cs);
      blocks = refl;
      rows = refl;
      structs = refl;
      enums = refl;
      end = omega arith;
      top = omega arith;
      charge = refl;
      seen = refl;
      next = refl;
      tiny = tt;
      small = tt;
      struct_names = tt;
      enum_names = tt;
      known = known_none (winning S);
      entries = sym e;
    }

-- the root's definition, as the code has it
pub root_def_law : (F : Bytes) (S : Schema) (name place : ℕ) → schema_of F ≡ ok S → last_place F 0 name ≡ Some place → (winning S).struct name ≡ Some (def_of F (defined_at F name place))
unfolding def_of struct_here
root_def_law F S name place e f = winning_struct F name (Some place) S e (sym f)

-- what the root's structure and its item give
module _ (alone : Bool) (T F : Bytes) (R : Round) (n : ℕ) (w : Bytes) (d : Def) where
  module _ (room : Roomy R n) (zero : w ≡ zeros n) (wins : (S : Schema) → schema_of F ≡ ok S → (winning S).struct d.name ≡ Some (def_of F d)) where
    -- what is asked of the structure's writer
    known : (S : Schema) → schema_of F ≡ ok S → Named F d S
    known S e = record { of = e; winner = wins S e }

    at_root : (S : Schema) (e : StructDef) → schema_of F ≡ ok S → (winning S).struct d.name ≡ Some e → def_of F d ≡ e
    at_root S e f g = let z : Some (def_of F d) ≡ Some e = sym (wins S f) ∙ g in cc

    -- the structure is refused
    pub root_refused : (k : ℕ) (t : Progress) (v : Bytes) → Pushes (Named F d) R n (beginning_of R) w d.size (λ S. deeper T R 96 S (def_of F d) (fields_of T (row T 0))) (refuses k t) v
        → Runs alone T F R n d.name (refuses k t) v
    unfolding root bind after
    root_refused k t v x =
        record {
          says = λ S e f g h.
              rw (← (at_root S e f h))
              (go S (write (env_of T S R) 96 32 (def_of F d) (fields_of T (row T 0)) empty_state) (x.says S (known S f) empty_state [] (rw zero (rep_empty S R n room g))));
        }
      where
        go : (S : Schema) (o : Out Bytes) → Meets S R n (λ b. [] ++ b) (λ b (x : Unit {0}). length b ≡ d.size) o (refuses k t) v
            → Meets S R n (λ (_ : ℕ). []) (λ (a x : ℕ). a ≡ x) (after o (λ bs. lay_item alone (def_of F d).name bs)) (refuses k t) v
        go S (done b s) m = absurd m
        go S (stop j es) m = m

    -- its item is laid, or refused
    pub root_laid : (t : Progress) (v : Bytes) (r : Ans ℕ) (u : Bytes)
        → Pushes (Named F d) R n (beginning_of R) w d.size (λ S. deeper T R 96 S (def_of F d) (fields_of T (row T 0))) (gives (tt {0}) t) v
        → LaysItem alone R n t v d.name d.size r u → Runs alone T F R n d.name r u
    unfolding root bind after def_of
    root_laid t v r u x y =
        record {
          says = λ S e f g h.
              rw (← (at_root S e f h))
              (go S (write (env_of T S R) 96 32 (def_of F d) (fields_of T (row T 0)) empty_state) (x.says S (known S f) empty_state [] (rw zero (rep_empty S R n room g))));
        }
      where
        go : (S : Schema) (o : Out Bytes) → Meets S R n (λ b. [] ++ b) (λ b (x : Unit {0}). length b ≡ d.size) o (gives (tt {0}) t) v
            → Meets S R n (λ (_ : ℕ). []) (λ (a x : ℕ). a ≡ x) (after o (λ bs. lay_item alone d.name bs)) r u
        go S (done b s) m = y.says S s [] b m.1 m.0
        go S (stop j es) m = absurd m
