-- `cells::plan::plan_of` meets its contract. Assumes nothing.
use mathlib.Core.Path.{◌≡◌, refl, sym, ap}
use mathlib.Core.Logic.{inl, inr, ⊎_elim}
use native.Mathlib.Omega.{arith}
use Rattle.layout.specs.Kinds
use Rattle.layout.specs.Kinds.{kind_of}
use Rattle.cells.proofs.Kinding.{one_byte, two_bytes, four_bytes, threes, fours, left_out, no_other_law}
use Rattle.cells.proofs.Planning.{plan_scalar, plan_text, plan_enum, plan_flags, plan_left, plan_other}
use Rattle.cells.proofs.plan.plan_of.Goals as goal
use Rattle.cells.proofs.plan.plan_of.Goals.{in-16-1, in-30-1, in_default+else-ty-lt3+then-ty-lt5, in_default+else-ty-lt3+else-ty-lt5+else-ty-lt7+then-ty-lt14}

pub returns-in-7 : goal.returns-in-7
unfolding kind_of
returns-in-7 c =
    let a = c.args in plan_scalar a.schema.now a.d a.m _ (ap kind_of (sym c.in-7.is)) Kinds.single _ refl tt refl (omega arith) refl

pub returns-in-8 : goal.returns-in-8
unfolding kind_of
returns-in-8 c =
    let a = c.args in plan_scalar a.schema.now a.d a.m _ (ap kind_of (sym c.in-8.is)) (Kinds.vector 2) _ refl (omega arith, omega arith) refl (omega arith) c.vector.ensures

pub returns-in-9 : goal.returns-in-9
unfolding kind_of
returns-in-9 c =
    let a = c.args in plan_scalar a.schema.now a.d a.m _ (threes a.m.kind c.in-9.is) (Kinds.vector 3) _ refl (omega arith, omega arith) refl (omega arith) c.vector-in-9.ensures

pub returns-in-10 : goal.returns-in-10
unfolding kind_of
returns-in-10 c =
    let a = c.args in plan_scalar a.schema.now a.d a.m _ (fours a.m.kind c.in-10.is) (Kinds.vector 4) _ refl (omega arith, omega arith) refl (omega arith) c.vector-in-10.ensures

pub returns-in-11 : goal.returns-in-11
unfolding kind_of
returns-in-11 c =
    let a = c.args in plan_text a.schema.now a.d a.m _ (ap kind_of (sym c.in-11.is)) _ refl (c.text.ensures a.schema.now a.d)

pub returns-in-14 : goal.returns-in-14
unfolding kind_of
returns-in-14 c =
    let a = c.args in rw c.ok_or.ensures.value (plan_enum a.schema.now a.d a.m _ (ap kind_of (sym c.in-14.is)) _ _ _ refl c.enum_size-size.ensures.0 c.enum_size-size.ensures.1 c.named-name.ensures)

pub returns-in-15 : goal.returns-in-15
unfolding kind_of
returns-in-15 c =
    let a = c.args in rw c.ok_or-in-15.ensures.value (plan_flags a.schema.now a.d a.m _ (ap kind_of (sym c.in-15.is)) _ _ _ _ refl c.reference_at-reference.ensures c.enum_size-size-in-15.ensures.0 c.enum_size-size-in-15.ensures.1 c.named-name-in-15.ensures)

pub returns-in-32 : goal.returns-in-32
unfolding kind_of
returns-in-32 c =
    let a = c.args in plan_scalar a.schema.now a.d a.m _ (ap kind_of (sym c.in-32.is)) (Kinds.integer 8) _ refl (omega arith) refl (omega arith) c.whole.ensures

pub returns-in-0-to-2 : goal.returns-in-0-to-2
unfolding kind_of
returns-in-0-to-2 c =
    let a = c.args in plan_scalar a.schema.now a.d a.m _ (one_byte a.m.kind c.in-0-to-2.if-ty-lt3-own.true) (Kinds.integer 1) _ refl (omega arith) refl (omega arith) c.whole-in-0-to-2.ensures

pub returns-in-5 : goal.returns-in-5
unfolding kind_of
returns-in-5 c =
    let a = c.args in plan_scalar a.schema.now a.d a.m _ (four_bytes a.m.kind c.in-5.if-ty-lt5-own.false c.in-5.if-ty-lt7-own.true) (Kinds.integer 4) _ refl (omega arith) refl (omega arith) c.whole-in-5.ensures

pub returns-in_default : goal.returns-in_default
unfolding kind_of
returns-in_default c =
    let a = c.args in
    let r = c.in_default.in_default-own.rest in
    let l = c.in_default.if-ty-lt14-own.false in
    rw c.from.ensures
    (plan_other a.schema.now a.d a.m _
    (no_other_law a.m.kind c.in_default.if-ty-lt7-own.false r.0.0.0.0.0.0.0.0.0.1 r.0.0.0.0.0.0.0.0.1 r.0.0.0.0.0.0.0.1 r.0.0.0.0.0.0.1 r.0.0.0.0.0.1 r.0.0.0.0.1
    (λ q. omega (arith, l, q)) (λ q. omega (arith, l, q)) r.0.0.1 r.0.1 r.0.0.0.1 r.1)
    refl)

pub returns-in-12 : goal.returns-in-12
unfolding kind_of
returns-in-12 c =
    let a = c.args in
    elim c.in-12-1.branch [
      | in-16-1 w ↦ let e : a.m.kind ≡ 16 = omega arith in plan_left a.schema.now a.d a.m _ (ap kind_of (sym e)) (inr (inr refl))
      | in_default+else-ty-lt3+else-ty-lt5+else-ty-lt7+then-ty-lt14 w ↦
          ⊎_elim (λ q. plan_left a.schema.now a.d a.m _ (ap kind_of (sym q)) (inl refl)) (λ q. plan_left a.schema.now a.d a.m _ (ap kind_of (sym q)) (inr (inl refl)))
          (left_out a.m.kind (omega arith) (omega arith) (λ q. omega (arith, q)) (λ q. omega (arith, q)) (λ q. omega (arith, q)) (λ q. omega (arith, q)) (λ q. omega (arith, q)))
    ]

pub returns-in-3 : goal.returns-in-3
unfolding kind_of
returns-in-3 c =
    let a = c.args in plan_scalar a.schema.now a.d a.m _ (elim c.in-3-1.branch [ in-30-1 w ↦ let e : a.m.kind ≡ 30 = omega arith in ap kind_of (sym e) | in_default+else-ty-lt3+then-ty-lt5 w ↦ two_bytes a.m.kind (omega arith) (omega arith) ]) (Kinds.integer 2) _ refl (omega arith) refl (omega arith) c.whole-in-3.ensures
