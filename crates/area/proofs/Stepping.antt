-- Steps of an area, one after the other. Assumes nothing.
use mathlib.Core.Path.{subst, ◌∙◌}
use Prim.Native.Nat.{ℕ}
use Rattle.std.specs.Prelude.{Result, Ok}
use Rattle.numbers.specs.Words.{Bytes}
use Rattle.numbers.specs.declared.refusal.Refusal.{Refusal}
use Rattle.area.specs.declared.Round.{Round}
use Rattle.area.specs.declared.Progress.{Progress}
use Rattle.area.specs.declared.Area.{Area}
use Rattle.area.specs.Posts.{Ans, gives, answered}
use Rattle.area.specs.Steps.{size, Same, Step, Change}

-- an area is the same after two steps
pub same_then : {a b c : Area} → Same a b → Same b c → Same a c
same_then h k = record { bytes = k.bytes ∙ h.bytes; size = k.size ∙ h.size; round = k.round ∙ h.round }

-- what the second step did, with the round and the length of the first area
pub step_then : {X : Type 0} {D : Round → ℕ → Progress → Bytes → Ans X → Bytes → Type 0} {a b c : Area} {r : Result X Refusal} → Same a b → Step D b r c
    → D a.round (size a) b.progress b.bytes.now (answered r c.progress) c.bytes.now
step_then {X} {D} {a} {b} {c} {r} h s =
    subst (λ (R : Round). D R (size a) b.progress b.bytes.now (answered r c.progress) c.bytes.now) h.round
    (subst (λ (n : ℕ). D b.round n b.progress b.bytes.now (answered r c.progress) c.bytes.now) h.size s.did)

-- .. of a step that is never refused
pub change_then : {D : Round → ℕ → Progress → Bytes → Progress → Bytes → Type 0} {a b c : Area} → Same a b → Change D b c
    → D a.round (size a) b.progress b.bytes.now c.progress c.bytes.now
change_then {D} {a} {b} {c} h s =
    subst (λ (R : Round). D R (size a) b.progress b.bytes.now c.progress c.bytes.now) h.round
    (subst (λ (n : ℕ). D b.round n b.progress b.bytes.now c.progress c.bytes.now) h.size s.did)

-- what a step did says E
pub also : {X : Type 0} {D E : Round → ℕ → Progress → Bytes → Ans X → Bytes → Type 0} {a b : Area} {r : Result X Refusal} → Step D a r b
    → (D a.round (size a) a.progress a.bytes.now (answered r b.progress) b.bytes.now → E a.round (size a) a.progress a.bytes.now (answered r b.progress) b.bytes.now) → Step E a r b
also e f = record { same = e.same; did = f e.did }

-- .. of a step that is never refused
pub also_ok : {X : Type 0} {D : Round → ℕ → Progress → Bytes → Progress → Bytes → Type 0} {E : Round → ℕ → Progress → Bytes → Ans X → Bytes → Type 0} {a b : Area} {x : X} → Change D a b
    → (D a.round (size a) a.progress a.bytes.now b.progress b.bytes.now → E a.round (size a) a.progress a.bytes.now (gives x b.progress) b.bytes.now) → Step E a (Ok x) b
also_ok e f = record { same = e.same; did = f e.did }
