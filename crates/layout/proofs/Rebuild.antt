-- The rebuild: a built file, as the schema file, gives itself again.
-- Assumes nothing.
use Rattle.std.specs.Prelude.{Some, None}
use Prim.Native.Nat.{ℕ, ◌≤◌, ◌<◌}
use native.Mathlib.Omega.{arith}
use native.Mathlib.Nat.{le_refl}
use mathlib.Core.Path.{◌≡◌, refl, sym, ◌∙◌, ap, subst}
use mathlib.Core.Logic.{◌⊎◌, inl, inr}
use mathlib.Core.Bool.{false, Bool}
use lib.ListN.{length, take}
use lib.Seq.{take-append_seam}
use borrow.Author.Tests.{ltb-false, le-ltb}
use Rattle.numbers.specs.Words.{Bytes}
use Rattle.numbers.specs.Result.{Result, ok, refused, and_then}
use Rattle.value.specs.Rows.{Fields, row, fields_of}
use Rattle.schema.specs.Defs.{Schema, Lookup, StructDef, winning, index_entries}
use Rattle.schema.specs.Psch.{schema_of}
use Rattle.layout.specs.State.{Core, State, Env, Out, done, stop, ret, if_m, thin, contains, empty_state}
use Rattle.layout.specs.Members.{need}
use Rattle.layout.specs.Write.{map_of, map_member, root}
use Rattle.layout.specs.Assemble.{used_of, file_of}
use Rattle.layout.specs.Build.{Laid, Built, work_need, cap_of, packed, build, success, refusal, afterwards, build_pso}
use Rattle.layout.specs.Demand3.{Rebuilds, NoMapLost}
use Rattle.layout.proofs.Keep.{always, Okay}
use Rattle.layout.proofs.Named.{Named, named_winning}
use Rattle.layout.proofs.Made.{Made, env_of, makes, too_few_law, builds}
use Rattle.layout.proofs.Uses.{known}
use Rattle.layout.proofs.Carried.{carried_structs, carried_enums, carried_file, carried_entries}
use Rattle.layout.proofs.Follow.{Ends, Follows, Tells}
use Rattle.layout.proofs.Fewer.{Rel, Inside, Fewer, second}
use Rattle.layout.proofs.FewerWriters.{s_root, t_root}

-- no map can be lost
pub no_map_lost : NoMapLost
unfolding map_member map_of need if_m ret
no_map_lost E w d e v buf s sub fit kind empty = rw (sub, fit, kind, empty)

-- the run again, with fewer definitions

-- the second run: its root is defined, it ends with the pointer p, its state is related to the first run's
pub record Again (alone : Bool) (E' : Env) (n : ℕ) (d : StructDef) (fs : Fields) (t₀ : State) (p : ℕ) (s : State) : Type 0 where
  pub state : State
  pub kept : E'.defs.struct n ≡ Some d
  pub ran : root E' alone d fs t₀ ≡ done p state
  pub related : Rel s state

module _ (alone : Bool) (R : Fewer) (n : ℕ) (d : StructDef) (fs : Fields) (q : R.first.defs.struct n ≡ Some d) (s₀ t₀ : State) (start : Rel s₀ t₀)
    (p : ℕ) (s : State) (ran : root R.first alone d fs s₀ ≡ done p s) (end : Inside R.used s) where
  -- "7 no": the root is used
  root_kept : R.defs.struct n ≡ Some d
  unfolding Tells
  root_kept = go (R.structs_agree n)
    where
      go : (R.defs.struct n ≡ R.first.defs.struct n) ⊎ ((R.defs.struct n ≡ None) × (contains n R.used.structs ≡ false)) → R.defs.struct n ≡ Some d
      go (inl e) = e ∙ q
      go (inr e) = absurd (subst (Okay (always (λ t. Inside R.used t → ⊥))) ran (t_root R alone n d fs q e.1 s₀) end)

  -- the second run ends with the same pointer and the same core, and is charged no more; events are not related
  pub run_again : Again alone (second R) n d fs t₀ p s
  run_again = go (root (second R) alone d fs t₀) refl (subst (λ o. Follows Rel (Inside R.used) o (root (second R) alone d fs t₀)) ran sim end)
    where
      sim : Follows Rel (Inside R.used) (root R.first alone d fs s₀) (root (second R) alone d fs t₀)
      sim = (s_root R alone n d fs q root_kept).follows s₀ t₀ start

      go : (o : Out ℕ) → root (second R) alone d fs t₀ ≡ o → Ends Rel p s o → Again alone (second R) n d fs t₀ p s
      go (stop x es) f w = absurd w
      go (done r t) f w = record { state = t; kept = root_kept; ran = f ∙ ap (λ z. done z t) (sym w.0); related = w.1 }

-- "9 no": the cap is no smaller
cap_larger : (work i j : ℕ) → j ≤ i → cap_of work i ≤ cap_of work j
unfolding cap_of
cap_larger work i j h = omega (arith, h)

-- F, as a schema file, holds the used definitions of the layout l
module _ {alone : Bool} (T S : Bytes) (work : ℕ) (l : Laid) (m : Made alone T S work l) (F : Bytes) (reads : schema_of F ≡ ok (used_of (winning m.schema) l.state.core)) where
  abbrev c : Core
  c = l.state.core

  abbrev L : Lookup
  L = winning m.schema

  abbrev K' : Schema
  K' = used_of L c

  names : Named L
  names = named_winning m.schema

  -- "12 no": F has no more index entries than S
  fewer_entries : index_entries K' ≤ index_entries m.schema
  fewer_entries = carried_entries m.schema c (known T S work l m)

  abbrev runs : Fewer
  runs =
      record {
        first = env_of T m.schema work;
        named = names;
        defs = winning K';
        cap = cap_of work (index_entries K');
        larger = cap_larger work (index_entries m.schema) (index_entries K') fewer_entries;
        used = c;
        structs_agree = carried_structs L names c;
        enums_agree = carried_enums L names c;
      }

  again : Again alone (env_of T K' work) (row T 0).a m.def (fields_of T (row T 0)) empty_state l.pointer l.state
  again =
      run_again alone runs (row T 0).a m.def (fields_of T (row T 0)) m.def_is empty_state empty_state (record { same = refl; less = le_refl _ }) l.pointer l.state m.ran
      (record { structs = λ x h. h; enums = λ x h. h })

  -- what the rebuild lays
  pub laid_again : Laid
  laid_again = record { state = again.state; pointer = l.pointer; defs = winning K' }

  pub made_again : Made alone T F work laid_again
  unfolding laid_again
  made_again =
      record {
        schema = K';
        def = m.def;
        sheet_ok_law = m.sheet_ok_law;
        schema_is = reads;
        defs_are = refl;
        def_is = again.kept;
        room = le-ltb work (work_need (index_entries K')) (room_again (index_entries K') fewer_entries);
        ran = again.ran;
      }
    where
      room_again : (j : ℕ) → j ≤ index_entries m.schema → work_need j ≤ work
      room_again j h = let r : work_need (index_entries m.schema) ≤ work = ltb-false work (work_need (index_entries m.schema)) m.room in omega (arith, h, r)

  -- the same file: "13 no"
  pub packed_again : (packed laid_again).file ≡ (packed l).file
  unfolding laid_again packed
  packed_again =
      ap (file_of (winning K') l.pointer) (sym again.related.same) ∙ carried_file L names c l.pointer ∙ ap (λ X. file_of X l.pointer c) (sym m.defs_are)

-- what the call answers where building gives a file, or a refusal

answers : (work : ℕ) (buffer : Bytes) (records : ℕ) (b : Built) (r : Result Built) → r ≡ ok b → (afterwards work buffer records r).answer ≡ success (length b.file) (length b.remarks)
unfolding afterwards
answers work buffer records b r e = rw e refl

front : (work : ℕ) (buffer : Bytes) (records : ℕ) (b : Built) (r : Result Built) → r ≡ ok b → take (length b.file) (afterwards work buffer records r).output ≡ b.file
unfolding afterwards
front work buffer records b r e = rw e (take-append_seam b.file _)

refuses : (work : ℕ) (buffer : Bytes) (records k : ℕ) (r : Result Built) → r ≡ refused k → (afterwards work buffer records r).answer ≡ refusal k
unfolding afterwards
refuses work buffer records k r e = rw e refl

-- where building from T and S gives F, building from T and F gives F, with as many records as the rebuild has distinct remarks
pub rebuilds : {alone : Bool} (T S : Bytes) (work out : ℕ) (l : Laid) (m : Made alone T S work l) → schema_of (packed l).file ≡ ok (used_of l.defs l.state.core)
    → length (packed l).file ≤ out → length (packed l).file ≤ 16777216 → Rebuilds alone T (packed l).file work out
unfolding build_pso
rebuilds {alone} T S work out l m reads short small =
    record {
      distinct = length (thin n.state.events);
      answers = λ buffer records e h. answers work buffer records built _ (builds_again buffer records e h);
      same = λ buffer records e h. front work buffer records built _ (builds_again buffer records e h);
      fewer = λ buffer records e h. refuses work buffer records 14 _ (too_few_built buffer records h);
    }
  where
    F : Bytes
    F = (packed l).file

    reads' : schema_of F ≡ ok (used_of (winning m.schema) l.state.core)
    reads' = reads ∙ ap (λ L. ok (used_of L l.state.core)) m.defs_are

    n : Laid
    n = laid_again T S work l m F reads'

    same_file : (packed n).file ≡ F
    same_file = packed_again T S work l m F reads'

    built : Built
    built = record { file = F; remarks = thin n.state.events }

    is_built : packed n ≡ built
    is_built = unfold packed in ap (λ G. record { file = G; remarks = thin n.state.events }) same_file

    builds_again : (buffer : Bytes) (records : ℕ) → length buffer ≡ out → length (thin n.state.events) ≤ records → build alone T F work (length buffer) records ≡ ok built
    builds_again buffer records e h =
        builds alone T F work (length buffer) records n (makes T F work records n (made_again T S work l m F reads') h)
        (subst (λ G. length G ≤ length buffer) (sym same_file) (subst (λ k. length F ≤ k) (sym e) short)) (subst (λ G. length G ≤ 16777216) (sym same_file) small)
        ∙ ap ok is_built

    too_few_built : (buffer : Bytes) (records : ℕ) → records < length (thin n.state.events) → build alone T F work (length buffer) records ≡ refused 14
    too_few_built buffer records h = unfold build and_then in (rw (too_few_law T F work records n (made_again T S work l m F reads') h))
