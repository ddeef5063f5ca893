-- The blocks of a layout: 4,095 at most, each with a name of 4 bytes.
-- Assumes nothing.
use Prim.Native.Nat.{ℕ, suc, ◌-◌, ◌≤◌}
use native.Mathlib.Omega.{arith}
use mathlib.Core.Path.{subst}
use mathlib.Core.List.{List, [], ◌∷◌}
use mathlib.Core.Bool.{Bool}
use lib.ListN.{length}
use borrow.Author.Tests.{leb-true}
use Rattle.numbers.specs.Words.{Bytes, Octets}
use Rattle.schema.proofs.Bounds.{Fits, winning_fits}
use Rattle.layout.specs.State.{Block, Core, Env, spot, file, use_struct_c, use_enum_c}
use Rattle.layout.specs.Build.{Laid}
use Rattle.layout.specs.Always.{Short, ShortNames}
use Rattle.layout.proofs.Writers.{Prims}
use Rattle.layout.proofs.CoreOnly.{Allows, on_core, core_prims}
use Rattle.layout.proofs.Tiling.{spot_case}
use Rattle.layout.proofs.Named.{Named, named_winning}
use Rattle.layout.proofs.Made.{Made, env_of, reached}

pub record Numbered (c : Core) : Type 0 where
  pub names : ShortNames c.blocks
  pub most : length c.blocks ≤ 4095

-- where an item goes

spot_most : (alone : Bool) (n need : ℕ) (bs : List Block) (k : ℕ) → length bs ≤ k → suc (spot alone n need bs).before ≤ k → length (spot alone n need bs).blocks ≤ k
spot_most alone n need [] k h g = unfold spot in omega (arith, g)
spot_most alone n need (b ∷ bs) k h g =
    spot_case alone (λ p. suc p.before ≤ k → length p.blocks ≤ k) n need b bs (λ q. omega (arith, h))
    (λ q. omega (arith, spot_most alone n need bs (k - 1) (omega (arith, h)) (omega (arith, q)), h, q)) g

spot_names : (alone : Bool) (n need : ℕ) (bs : List Block) → Short n → ShortNames bs → ShortNames (spot alone n need bs).blocks
spot_names alone n need [] h f = unfold spot in (h, tt)
spot_names alone n need (b ∷ bs) h f = spot_case alone (λ p. ShortNames p.blocks) n need b bs (h, f.1) (f.0, spot_names alone n need bs h f.1)

-- names

short : (E : Env) → Fits E.defs → Named E.defs → Allows E Short
short E f w = record { found = λ n d e. subst Short (w.structs n d e) (f.structs n d e).name; named = λ d k. (f.structs k.0 d k.1).name; small = λ n h. omega (arith, h) }

numbered_prims : (E : Env) → Fits E.defs → Named E.defs → Prims E (on_core Short Numbered)
unfolding use_struct_c use_enum_c file
numbered_prims E f w =
    core_prims Short Numbered E (short E f w) (λ d c k q. record { names = q.names; most = q.most }) (λ n c e q. record { names = q.names; most = q.most })
    (λ alone n bs c h a b q.
    record { names = spot_names alone n (length bs) c.blocks h q.names; most = spot_most alone n (length bs) c.blocks 4095 q.most (leb-true _ _ a) })

-- of every layout
pub numbered : {alone : Bool} (T S : Bytes) (work : ℕ) (l : Laid) → Made alone T S work l → Octets S → Numbered l.state.core
numbered T S work l m o =
    reached T S work l m (on_core Short Numbered) (numbered_prims (env_of T m.schema work) (winning_fits S m.schema o m.schema_is) (named_winning m.schema))
    (record { names = tt; most = omega arith })
