-- What the look-ups find in a file that the reader accepts. Assumes nothing.
use Rattle.std.specs.Prelude.{Option, Some, None, option_map}
use Prim.Native.Nat.{ℕ, zero, suc, ◌+◌, ◌*◌}
use native.Mathlib.Omega.{arith}
use mathlib.Core.Path.{◌≡◌, refl, sym, ap, ◌∙◌, subst}
use lib.ListN.{length}
use Rattle.numbers.specs.Words.{Bytes, read_at}
use Rattle.numbers.specs.Result.{ok, nth}
use Rattle.schema.specs.Defs.{Member, leading}
use Rattle.schema.specs.Psch.{member_at, members_at, entries_at, struct_here, enum_here}
use Rattle.schema.specs.Index.{first_place}
use Rattle.schema.specs.declared.kind.Kind.TheVariants.{Structure, Enum}
use Rattle.definitions.proofs.Finds.{leading_struct, leading_enum}
use Rattle.pso.specs.Reader.{Pso, parse_pso}
use Rattle.pso.specs.Answers.{definition_at}
use Rattle.pso.proofs.Given.{parsed}
use Rattle.sandvurek.specs.Exports.{definition_is, structure_of, enum_of, member_is, IsStruct, IsEnum, StructIs, EnumIs}
use Rattle.sandvurek.specs.declared.Definition.{Definition}

-- members and entries by number

members_length : (F : Bytes) (n at : ℕ) → length (members_at F n at) ≡ n
unfolding members_at
members_length F zero at = refl
members_length F (suc n) at = ap suc (members_length F n (at + 12))

nth_member : (F : Bytes) (n at k : ℕ) (m : Member) → nth (members_at F n at) k ≡ Some m → member_at F (at + 12 * k) ≡ m
unfolding members_at nth
nth_member F zero at k m e = absurd (let z : ◌≡◌ {A = ℕ} 0 1 = cc in omega arith)
nth_member F (suc n) at zero m e =
    let p : at + 12 * 0 ≡ at = omega arith in
    let q : member_at F at ≡ m = cc in
    ap (member_at F) p ∙ q
nth_member F (suc n) at (suc k) m e =
    let p : at + 12 * suc k ≡ at + 12 + 12 * k = omega arith in
    ap (member_at F) p ∙ nth_member F n (at + 12) k m e

entries_length : (F : Bytes) (n at : ℕ) → length (entries_at F n at) ≡ n
unfolding entries_at
entries_length F zero at = refl
entries_length F (suc n) at = ap suc (entries_length F n (at + 8))

nth_entry : (F : Bytes) (n at k : ℕ) (e : ℕ × ℕ) → nth (entries_at F n at) k ≡ Some e → (read_at 4 F (at + 8 * k), read_at 4 F (at + 8 * k + 4)) ≡ e
unfolding entries_at nth
nth_entry F zero at k x e = absurd (let z : ◌≡◌ {A = ℕ} 0 1 = cc in omega arith)
nth_entry F (suc n) at zero x e =
    let p : at + 8 * 0 ≡ at = omega arith in
    let q : (read_at 4 F at, read_at 4 F (at + 4)) ≡ x = cc in
    ap (λ (y : ℕ). (read_at 4 F y, read_at 4 F (y + 4))) p ∙ q
nth_entry F (suc n) at (suc k) x e =
    let p : at + 8 * suc k ≡ at + 8 + 8 * k = omega arith in
    ap (λ (y : ℕ). (read_at 4 F y, read_at 4 F (y + 4))) p ∙ nth_entry F n (at + 8) k x e

-- what stands at a place

struct_here_law : (F : Bytes) (x at : ℕ) → IsStruct F (definition_is (definition_at F Structure (Some at))) (struct_here F x at)
unfolding struct_here
struct_here_law F x at =
    record {
      found = refl;
      unknown = refl;
      size = refl;
      count = sym (members_length F (read_at 2 F (at + 2)) (at + 12));
      members = λ k m q. ap member_is (nth_member F (read_at 2 F (at + 2)) (at + 12) k m q);
    }

enum_here_law : (F : Bytes) (x at : ℕ) → IsEnum F (definition_is (definition_at F Enum (Some at))) (enum_here F x at)
unfolding enum_here
enum_here_law F x at =
    record {
      found = refl;
      count = sym (entries_length F (read_at 3 F (at + 1)) (at + 4));
      entries = λ k y q. ap (λ (z : ℕ × ℕ). record { name = z.0; value = z.1 }) (nth_entry F (read_at 3 F (at + 1)) (at + 4) k y q);
    }

struct_at : (F : Bytes) (x : ℕ) (o : Option ℕ) → StructIs F (definition_is (definition_at F Structure o)) (option_map (struct_here F x) o)
struct_at F x (Some at) = struct_here_law F x at
struct_at F x None = refl

enum_at : (F : Bytes) (x : ℕ) (o : Option ℕ) → EnumIs F (definition_is (definition_at F Enum o)) (option_map (enum_here F x) o)
enum_at F x (Some at) = enum_here_law F x at
enum_at F x None = refl

-- the first definition of a name is what is found
module _ (F : Bytes) (p : Pso) (e : parse_pso F ≡ ok p) (x : ℕ) where
  pub struct_found_law : StructIs F (structure_of F x) ((leading p.schema).struct x)
  struct_found_law =
      subst (StructIs F (structure_of F x))
      (sym (leading_struct F x (first_place F 0 x) p.schema (parsed F p e).schema refl))
      (struct_at F x (first_place F 0 x))

  pub enum_found_law : EnumIs F (enum_of F x) ((leading p.schema).enum x)
  enum_found_law =
      subst (EnumIs F (enum_of F x))
      (sym (leading_enum F x (first_place F 1 x) p.schema (parsed F p e).schema refl))
      (enum_at F x (first_place F 1 x))

-- of any file, and of one that the reader accepts
pub struct_told : (F : Bytes) (x : ℕ) (r : Definition) → r ≡ structure_of F x
    → (r ≡ structure_of F x) × ((p : Pso) → parse_pso F ≡ ok p → StructIs F r ((leading p.schema).struct x))
struct_told F x r e = (e, λ p q. subst (λ (d : Definition). StructIs F d ((leading p.schema).struct x)) (sym e) (struct_found_law F p q x))

pub enum_told : (F : Bytes) (x : ℕ) (r : Definition) → r ≡ enum_of F x → (r ≡ enum_of F x) × ((p : Pso) → parse_pso F ≡ ok p → EnumIs F r ((leading p.schema).enum x))
enum_told F x r e = (e, λ p q. subst (λ (d : Definition). EnumIs F d ((leading p.schema).enum x)) (sym e) (enum_found_law F p q x))
