-- n things of one size, one behind the other: members, entries, rows. Assumes nothing.
use mathlib.Core.Path.{◌≡◌, refl, sym, ap, ap₂, ◌∙◌}
use mathlib.Core.List.{List, [], ◌∷◌}
use Prim.Native.Nat.{ℕ, zero, suc, ◌+◌, ◌-◌, ◌*◌, ◌<◌}
use native.Mathlib.Omega.{arith}
use lib.ListN.{length, drop}

-- what f reads at `at`, at + size, ..
abbrev pub series : {A : Type 0} → (ℕ → A) → ℕ → ℕ → ℕ → List A
series f size zero at = []
series f size (suc n) at = f at ∷ series f size n (at + size)

module _ {A : Type 0} (f : ℕ → A) (size : ℕ) where
  pub series_length : (n at : ℕ) → length (series f size n at) ≡ n
  series_length zero at = refl
  series_length (suc n) at = ap suc (series_length n (at + size))

  -- from number k on
  pub series_drop : (n at k : ℕ) → drop k (series f size n at) ≡ series f size (n - k) (at + size * k)
  series_drop n at zero =
      let e : n - 0 ≡ n = omega arith in
      let p : at + size * 0 ≡ at = omega arith in
      rw (e, p)
  series_drop zero at (suc k) =
      let e : 0 - suc k ≡ 0 = omega arith in
      rw e
  series_drop (suc n) at (suc k) =
      let e : suc n - suc k ≡ n - k = omega arith in
      let p : at + size * suc k ≡ at + size + size * k = omega arith in
      series_drop n (at + size) k ∙ rw (e, p)

  pub series_cons : (n at k : ℕ) → k < n → drop k (series f size n at) ≡ f (at + size * k) ∷ drop (suc k) (series f size n at)
  series_cons n at k h =
      let e : n - k ≡ suc (n - suc k) = omega arith in
      let p : at + size * k + size ≡ at + size * suc k = omega arith in
      series_drop n at k ∙ ap (λ (x : ℕ). series f size x (at + size * k)) e ∙ ap (λ (x : ℕ). f (at + size * k) ∷ series f size (n - suc k) x) p
      ∙ ap (f (at + size * k) ∷◌) (sym (series_drop n at (suc k)))

-- read by f at one place and by g at another
pub series_same : {A : Type 0} (f g : ℕ → A) (size n at to : ℕ) → ((i : ℕ) → i < n → f (at + size * i) ≡ g (to + size * i)) → series f size n at ≡ series g size n to
series_same f g size zero at to h = refl
series_same f g size (suc n) at to h =
    ap₂ ◌∷◌ here
    (series_same f g size n (at + size) (to + size) λ i l.
    let p : at + size + size * i ≡ at + size * suc i = omega arith in
    let q : to + size + size * i ≡ to + size * suc i = omega arith in
    ap f p ∙ h (suc i) (omega arith) ∙ ap g (sym q))
  where
    here : f at ≡ g to
    here =
        let p : at + size * 0 ≡ at = omega arith in
        let q : to + size * 0 ≡ to = omega arith in
        ap f (sym p) ∙ h 0 (omega arith) ∙ ap g q
