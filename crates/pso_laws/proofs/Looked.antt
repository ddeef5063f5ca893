-- By name, a pack gives the used definitions and no others. Assumes nothing.
use Rattle.std.specs.Prelude.{Some}
use Prim.Native.Nat.{ℕ}
use mathlib.Core.Path.{◌≡◌, sym, ap, ◌∙◌, subst}
use mathlib.Core.Bool.{Bool, true, false}
use mathlib.Core.List.{map}
use Rattle.numbers.specs.Words.{Bytes}
use Rattle.numbers.specs.Result.{ok}
use Rattle.schema.specs.Defs.{Lookup, struct_name, enum_name, leading}
use Rattle.pso.specs.Reader.{Pso, parse_pso}
use Rattle.layout.specs.State.{Uses, contains}
use Rattle.layout.specs.Demand3.{tally, count, CarriesUsed}
use Rattle.sandvurek.specs.Exports.{structure_of, enum_of, StructIs, EnumIs}
use Rattle.sandvurek.proofs.Looked.{struct_found_law, enum_found_law}
use Rattle.pso_laws.specs.Packs.{StructBy, EnumBy}
use Rattle.pso_laws.proofs.Lists.{first_some, first_none}

module _ (F : Bytes) (p : Pso) (e : parse_pso F ≡ ok p) (x : ℕ) (L : Lookup) (u : Uses) (c : CarriesUsed L u p.schema) where
  pub struct_by : StructBy L F x (contains x u.started)
  unfolding leading
  struct_by = go (contains x u.started) (c.structs x)
    where
      go : (b : Bool) → count x (map struct_name p.schema.structs) ≡ tally b → StructBy L F x b
      go true k =
          let r = first_some struct_name (λ d. L.struct d.name ≡ Some d) x p.schema.structs c.struct_defs k in
          (r.value, ap L.struct (sym r.named) ∙ r.holds, subst (StructIs F (structure_of F x)) r.is (struct_found_law F p e x))
      go false k = subst (StructIs F (structure_of F x)) (first_none struct_name (λ d. L.struct d.name ≡ Some d) x p.schema.structs k) (struct_found_law F p e x)

  pub enum_by : EnumBy L F x (contains x u.enums)
  unfolding leading
  enum_by = go (contains x u.enums) (c.enums x)
    where
      go : (b : Bool) → count x (map enum_name p.schema.enums) ≡ tally b → EnumBy L F x b
      go true k =
          let r = first_some enum_name (λ d. L.enum d.name ≡ Some d) x p.schema.enums c.enum_defs k in
          (r.value, ap L.enum (sym r.named) ∙ r.holds, subst (EnumIs F (enum_of F x)) r.is (enum_found_law F p e x))
      go false k = subst (EnumIs F (enum_of F x)) (first_none enum_name (λ d. L.enum d.name ≡ Some d) x p.schema.enums k) (enum_found_law F p e x)
