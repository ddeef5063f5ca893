-- Records that become zero, one after the other.
use mathlib.Core.Path.{◌≡◌, refl, sym, ap, ◌∙◌}
use Prim.Native.Nat.{ℕ, ◌<◌, ◌≤◌, ◌+◌, ◌-◌}
use native.Mathlib.Numerals.{add-one}
use native.Mathlib.Omega.{arith}
use mathlib.Core.List.{[], ◌∷◌, ◌++◌, List, append_assoc, append-nil}
use lib.ListN.{length, set, take, replicate, length-append, replicate-append-replicate}
use lib.Seq.{take_all, take-suc-set, length-take-le}
use Rattle.layout.specs.Build.{zero_remark, filled}
use Rattle.layout.specs.declared.Remark.{Remark}

-- a record of zeros
pub zero_is : (r : Remark) → (r.kind ≡ 0) × ((r.structure ≡ 0) × ((r.member ≡ 0) × (r.detail ≡ 0))) → r ≡ zero_remark
zero_is r h = rw (h.0, h.1.0, h.1.1.0, h.1.1.1) refl

-- one more zero
pub one_zero : (n i : ℕ) (zs : List Remark) → length zs ≡ n → i < n → filled n (take (i + 1) (set zs i zero_remark)) ≡ filled n (take i zs)
unfolding filled
one_zero n i zs l h =
    let xs : List Remark = take i zs in
    let lx : length xs ≡ i = length-take-le i zs (omega (arith, l, h)) in
    let e : take (i + 1) (set zs i zero_remark) ≡ xs ++ (zero_remark ∷ []) = ap (λ (j : ℕ). take j (set zs i zero_remark)) (add-one i) ∙ take-suc-set zs i zero_remark (omega (arith, l, h)) in
    let m : 1 + (n - length (xs ++ (zero_remark ∷ []))) ≡ n - length xs = omega (arith, length-append xs (zero_remark ∷ []), lx, h) in
    ap (λ (ys : List Remark). ys ++ replicate (n - length ys) zero_remark) e ∙ append_assoc xs (zero_remark ∷ []) (replicate (n - length (xs ++ (zero_remark ∷ []))) zero_remark)
    ∙ ap (λ (ys : List Remark). xs ++ ys) (replicate-append-replicate 1 (n - length (xs ++ (zero_remark ∷ []))) zero_remark ∙ ap (λ (k : ℕ). replicate k zero_remark) m)

-- none is left
pub no_more_zeros : (n i : ℕ) (zs : List Remark) → length zs ≡ n → n ≤ i → zs ≡ filled n (take i zs)
unfolding filled
no_more_zeros n i zs l h =
    let z : n - length zs ≡ 0 = omega (arith, l) in
    sym (append-nil zs) ∙ ap (λ (k : ℕ). zs ++ replicate k zero_remark) (sym z) ∙ ap (λ (ys : List Remark). ys ++ replicate (n - length ys) zero_remark) (sym (take_all i zs (omega (arith, l, h))))
