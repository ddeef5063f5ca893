-- What was laid stays: items are only added, blocks keep their numbers and names: `laid_stays_law`.
-- Assumes nothing.
use Rattle.std.specs.Prelude.{Option, Some, Bool}
use Prim.Native.Nat.{ℕ}
use mathlib.Core.Path.{◌≡◌}
use mathlib.Core.List.{List}
use Rattle.numbers.specs.Words.{Bytes}
use Rattle.value.specs.Rows.{Fields}
use Rattle.schema.specs.Defs.{StructDef, Member}
use Rattle.layout.specs.State.{Core, Env, Out, done, stop, M, use_struct_c, use_enum_c, lay_item_c, lay_item}
use Rattle.layout.specs.Kinds
use Rattle.layout.specs.Runs.{run, struct_element, elements, element_run}
use Rattle.layout.specs.Write.{writers, pair_element, write}
use Rattle.layout.specs.Slots.{Further}
use Rattle.layout.specs.Parts.{Stays, OnlyAdds, LaidStays}
use Rattle.layout.proofs.Keep.{Claim, Okay, Keeps, k_ret, k_bind, k_if, r_keeps}
use Rattle.layout.proofs.Writers.{Prims, k_says, k_elements, k_run, k_element_run, k_text_element, k_pointer_element, k_member, k_members, k_write, k_root}
use Rattle.layout.proofs.Laying.{further_same, further_then, further_file}
use Rattle.layout.proofs.CoreOnly.{Any, on_core, c_remark, c_pay, c_core, c_use_struct, c_use_enum, lay_item_c_ok}

-- the claim that what stood in c stands
abbrev pub standing : Core → Claim
standing c = on_core Any (Further c)

stay_item : (alone : Bool) (a : Core) (n : ℕ) (bs : Bytes) → Keeps (standing a) (lay_item alone n bs)
unfolding lay_item
stay_item alone a n bs =
    c_core Any (Further a) (lay_item_c alone n bs) 10 (λ c q. lay_item_c_ok Any (Further a) alone n bs c (λ x y. further_then a c _ q (further_file alone bs n c)))

pub stay_prims : (E : Env) (a : Core) → Prims E (standing a)
unfolding use_struct_c use_enum_c
stay_prims E a =
    record {
      starts = λ d. Unit {0};
      refusable = λ n s x y q. tt;
      remark_keeps = c_remark Any (Further a);
      pay_keeps = c_pay Any (Further a) E;
      struct_keeps = λ d u. c_use_struct Any (Further a) d.name (λ c q. record { more_items = q.more_items; items = q.items; more_blocks = q.more_blocks; blocks = q.blocks });
      enum_keeps = λ n e. c_use_enum Any (Further a) n (λ c q. record { more_items = q.more_items; items = q.items; more_blocks = q.more_blocks; blocks = q.blocks });
      add_keeps = λ alone n bs u. stay_item alone a n bs;
      found = λ n d e. (tt, tt);
      named = λ d u. tt;
      small = λ n h. tt;
    }

-- a structure of any definition may be started
any_start : (E : Env) (a : Core) (d : StructDef) → (stay_prims E a).starts d
unfolding stay_prims
any_start E a d = tt

-- what keeps the claim, whatever stood, only adds
pub only_adds : {A : Type 0} (m : M A) → ((a : Core) → Keeps (standing a) m) → OnlyAdds m
unfolding Keeps
only_adds {A = A} m h s = go (m s) (h s.core s (further_same s.core))
  where
    go : (o : Out A) → Okay (standing s.core) o → Stays s.core o
    go (done x t) q = q
    go (stop n es) q = tt

-- and the other way round
kept : {A : Type 0} (m : M A) → OnlyAdds m → (a : Core) → Keeps (standing a) m
unfolding Keeps
kept {A = A} m h a s q = go (m s) (h s)
  where
    go : (o : Out A) → Stays s.core o → Okay (standing a) o
    go (done x t) r = further_then a s.core t.core q r
    go (stop n es) r = tt

module _ (E : Env) where
  stay_write : (a : Core) (fuel left : ℕ) (d : StructDef) (fs : Fields) → Keeps (standing a) (write E fuel left d fs)
  stay_write a fuel left d fs = k_write E (standing a) (stay_prims E a) fuel left d fs (any_start E a d)

  stay_inner : (a : Core) (fuel left n : ℕ) (d : StructDef) (fs : Fields) → E.defs.struct n ≡ Some d → Keeps (standing a) (write E fuel left d fs)
  stay_inner a fuel left n d fs q = stay_write a fuel left d fs

  stay_element : (a : Core) (fuel left : ℕ) (d : StructDef) (e : Member) (i : StructDef) (r : ℕ) → Keeps (standing a) (struct_element E (write E fuel left) d e i r)
  unfolding struct_element
  stay_element a fuel left d e i r =
      k_bind (standing a) _ _ (k_if (standing a) _ _ _ (k_ret (standing a) tt) (k_says E (standing a) (stay_prims E a) d e 9 0))
      (λ u. k_bind (standing a) _ _ (stay_write a fuel left i _) (λ bs. k_ret (standing a) _))

  stay_pair : (a : Core) (fuel left : ℕ) (i : StructDef) (p : ℕ × ℕ) → Keeps (standing a) (pair_element E (write E fuel left) i p)
  unfolding pair_element
  stay_pair a fuel left i p = k_bind (standing a) _ _ (stay_write a fuel left i _) (λ bs. k_ret (standing a) _)

  -- the elements of a run one after the other
  each : {X : Type 0} (f : X → M (Option Bytes)) (xs : List X) → ((x : X) → OnlyAdds (f x)) → OnlyAdds (elements f xs)
  each f xs h = only_adds _ (λ a. k_elements E (standing a) (stay_prims E a) f xs (λ x. kept (f x) (h x) a))

  -- an array's run, a map's pairs
  pub run_adds : (fuel left : ℕ) (d : StructDef) (e x : Member) (k : Kinds.Kind) (rs : List ℕ) → OnlyAdds (element_run E (write E fuel left) d e x k rs)
  run_adds fuel left d e x k rs =
      only_adds _ (λ a. r_keeps (standing a) _ (k_element_run E (standing a) (stay_prims E a) (write E fuel left) (stay_inner a fuel left) d e x k rs))

  pub pairs_add : (fuel left n : ℕ) (i : StructDef) (ps : List (ℕ × ℕ)) → OnlyAdds (run E i.size n (pair_element E (write E fuel left) i) ps)
  pairs_add fuel left n i ps = only_adds _ (λ a. r_keeps (standing a) _ (k_run E (standing a) (stay_prims E a) i.size n _ ps tt (λ p. stay_pair a fuel left i p)))

  pub laid_stays_law : LaidStays E
  laid_stays_law =
      record {
        member = λ fuel left d e k v buf. only_adds _ (λ a. k_member E (standing a) (stay_prims E a) (writers (write E fuel) left) (stay_inner a fuel left) (stay_inner a fuel 32) d e k v buf);
        members = λ fuel left d fs es buf. only_adds _ (λ a. k_members E (standing a) (stay_prims E a) (writers (write E fuel) left) (stay_inner a fuel left) (stay_inner a fuel 32) d fs es buf);
        text = λ sub r. only_adds _ (λ a. k_text_element E (standing a) (stay_prims E a) (write E 0 0) (stay_inner a 0 0) sub r);
        pointer = λ fuel left d e ref r. only_adds _ (λ a. k_pointer_element E (standing a) (stay_prims E a) (write E fuel left) (stay_inner a fuel left) d e ref r);
        structure = λ fuel left d e i r. only_adds _ (λ a. stay_element a fuel left d e i r);
        pair = λ fuel left i p. only_adds _ (λ a. stay_pair a fuel left i p);
        elements_behind = each;
        pairs_behind = each;
        item = λ alone n bs. only_adds _ (λ a. stay_item alone a n bs);
        whole = λ fuel left d fs. only_adds _ (λ a. stay_write a fuel left d fs);
        root = λ alone d fs. only_adds _ (λ a. k_root E (standing a) (stay_prims E a) alone d fs (any_start E a d));
      }
