-- What is chosen before a structure is written. Assumes nothing.
use Rattle.std.specs.Prelude.{Option, Some, None, is_some, option_map}
use mathlib.Core.Path.{◌≡◌, sym, ap, ◌∙◌}
use Rattle.std.specs.Option.{option_or}
use Rattle.std.proofs.lemmas.Option.{same_Some}
use mathlib.Core.Bool.{Bool, true, false, cond, false≢true}
use Prim.Native.Nat.{ℕ, ◌+◌, ◌*◌, ◌%◌, ◌≤◌, ◌<◌}
use native.Mathlib.Omega.{arith}
use borrow.Author.Tests.{lt-ltb, le-ltb}
use lib.Dec.{ltb}
use Rattle.numbers.specs.Words.{Bytes}
use Rattle.numbers.specs.Result.{ok, nth}
use Rattle.value.specs.Rows.{Row}
use Rattle.schema.specs.Defs
use Rattle.schema.specs.Defs.{Schema, winning}
use Rattle.schema.specs.Psch.{schema_of, member_at}
use Rattle.definitions.specs.Answers.{member_is}
use Rattle.definitions.specs.declared.members.Member as coded
use Rattle.layout.specs.Runs.{own_type}
use Rattle.layout.specs.Write.{array_info}
use Rattle.layout.proofs.Named.{named_winning}
use Rattle.area.specs.declared.Round.{Round}
use Rattle.area.specs.Area.{env_of}
use Rattle.cells.specs.declared.defs.Def.{Def}
use Rattle.cells.specs.Names.{def_of, member_of}
use Rattle.members.specs.Names.{looked_is, looked_up}
use Rattle.choices.specs.Sources.{own_up, Owned}
use Rattle.choices.proofs.Nths.{count_members, nth_read, nth_past}

-- ---- an element descriptor
module _ (F : Bytes) (d : Def) (m : coded.Member) where
  abbrev low : ℕ
  low = m.reference % 65536

  abbrev less : ℕ
  less = m.reference % 4096

  abbrev there : ℕ → Option Defs.Member
  there k = nth (def_of F d).members k

  by_low : (b : Bool) → ltb low d.count ≡ b → array_info (def_of F d) (member_of m) ≡ there (cond b low less)
  unfolding array_info
  by_low b e = ap (λ (k : ℕ). there (cond (ltb low k) low less)) (count_members F d) ∙ ap (λ (x : Bool). there (cond x low less)) e

  -- by the low 16 bits
  pub info_low : (x : coded.Member) → low < d.count → x ≡ member_is (member_at F (d.place + 12 + 12 * low)) → option_map member_of (Some x) ≡ array_info (def_of F d) (member_of m)
  info_low x t e = sym (by_low true (lt-ltb low d.count t) ∙ nth_read F d low x e t)

  -- by the low 12 bits
  pub info_less : (x : coded.Member) → d.count ≤ low → less < d.count → x ≡ member_is (member_at F (d.place + 12 + 12 * less))
      → option_map member_of (Some x) ≡ array_info (def_of F d) (member_of m)
  info_less x f t e = sym (by_low false (le-ltb low d.count f) ∙ nth_read F d less x e t)

  -- there is none
  pub info_none : d.count ≤ low → d.count ≤ less → option_map member_of None ≡ array_info (def_of F d) (member_of m)
  info_none f g = sym (by_low false (le-ltb low d.count f) ∙ nth_past F d less g)

-- ---- a row's own type
own_is : (S : Schema) (T : Bytes) (R : Round) (v : Row) (ref : ℕ) (o : Option Defs.StructDef) → (winning S).struct v.a ≡ o → own_type (env_of T S R) v ref ≡ cond (is_some o) v.a ref
unfolding own_type
own_is S T R v ref o e = ap (λ (x : Option Defs.StructDef). cond (is_some x) v.a ref) e

-- a definition that is found has the name that was looked up
pub looked_name : (F : Bytes) (S : Schema) (name : ℕ) (d : Def) → (winning S).struct name ≡ Some (def_of F d) → d.name ≡ name
unfolding def_of
looked_name F S name d e = (named_winning S).structs name (def_of F d) e

module _ (F : Bytes) (v : Row) (ref : ℕ) where
  abbrev Looks : ℕ → Option Def → Type 0
  Looks name r = (S : Schema) → schema_of F ≡ ok S → (winning S).struct name ≡ looked_is F r

  -- the schema has a structure of the row's own type
  pub own_here : (r : Option Def) → is_some r ≡ true → r ≡ looked_up F v.a → Looks v.a r → record { value : r ≡ own_up F v ref; owned : Owned F v ref r }
  own_here None h q g = absurd (false≢true h)
  own_here (Some d) h q g =
      record {
        value = ap (λ (x : Option Def). option_or x (looked_up F ref)) q;
        owned =
            record {
              winner = λ S T R o. ap (λ (k : ℕ). (winning S).struct k) (own_is S T R v ref (Some (def_of F d)) (g S o)) ∙ g S o;
              missing = λ S T R o f. absurd (let z : ◌≡◌ {A = ℕ} 0 1 = cc in omega arith);
              name = λ S T R k o f. own_is S T R v ref (Some (def_of F d)) (g S o) ∙ sym (looked_name F S v.a d (g S o)) ∙ ap (λ (x : Def). x.name) (same_Some d k f);
            };
      }

  -- it has none: the reference
  pub own_reference : (r q : Option Def) → is_some r ≡ false → r ≡ looked_up F v.a → q ≡ looked_up F ref → Looks v.a r → Looks ref q → record { value : q ≡ own_up F v ref; owned : Owned F v ref q }
  own_reference (Some d) q h e k g f = absurd (false≢true (sym h))
  own_reference None q h e k g f =
      record {
        value = k ∙ ap (λ (x : Option Def). option_or x (looked_up F ref)) e;
        owned =
            record {
              winner = λ S T R o. ap (λ (k : ℕ). (winning S).struct k) (is S T R o) ∙ f S o;
              missing = λ S T R o z. is S T R o;
              name = λ S T R k o z. is S T R o ∙ sym (looked_name F S ref k (f S o ∙ ap (looked_is F) z));
            };
      }
    where
      is : (S : Schema) (T : Bytes) (R : Round) → schema_of F ≡ ok S → own_type (env_of T S R) v ref ≡ ref
      is S T R o = own_is S T R v ref None (g S o)
