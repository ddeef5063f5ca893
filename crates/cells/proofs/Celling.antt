-- What is stored in a cell. Assumes nothing.
use Rattle.std.specs.Prelude.{Option, Some, None, is_some, unwrap_or, option_map, Ok, Err}
use Prim.Native.Nat.{ℕ, zero, suc, ◌+◌, ◌-◌, ◌≤◌}
use native.Mathlib.Omega.{arith}
use mathlib.Core.Path.{◌≡◌, refl, sym}
use mathlib.Core.Bool.{Bool, true, false, not}
use mathlib.Core.List.{[], ◌∷◌}
use lib.ListN.{length, take}
use Rattle.numbers.specs.Words.{Bytes, over}
use Rattle.coerce.specs.Numbers.{fit_or}
use Rattle.coerce.specs.declared.misfit.Misfit.TheVariants.{Unfit}
use Rattle.layout.proofs.Fewer.{over_nil}
use Rattle.coerce.specs.Answer.{nothing}
use Rattle.cells.specs.Cells.{Puts}

-- ---- texts
pub take_fits : (n : ℕ) (t : Bytes) → length (take n t) ≤ n
take_fits zero t = omega arith
take_fits (suc n) [] = omega arith
take_fits (suc n) (b ∷ t) = omega (arith, take_fits n t)

pub text_room : (t s : Bytes) (off len n : ℕ) → s ≡ take (len - 1) t → off + len ≤ n → off + length s ≤ n
text_room t s off len n e h = rw e (omega (arith, take_fits (len - 1) t))

module _ (len : ℕ) (b : Bytes) (off : ℕ) where
  pub no_text : (o : Option Bytes) (r : Bool) → r ≡ is_some o → not r ≡ true → Puts (fit_or (option_map (take (len - 1)) o) (Err Unfit)) b off (Err Unfit) b
  no_text None r e h = (refl, refl)
  no_text (Some t) r e h =
      let f : not true ≡ true = rw (e) at h in
      let z : ◌≡◌ {A = ℕ} 0 1 = cc in
      absurd (omega arith)

  pub text_stored : (o : Option Bytes) (r : Bool) (t s c : Bytes) → r ≡ is_some o → not r ≡ false → t ≡ unwrap_or o nothing → s ≡ take (len - 1) t → c ≡ over b off s
      → Puts (fit_or (option_map (take (len - 1)) o) (Err Unfit)) b off (Ok tt) c
  text_stored None r t s c e h q f g =
      let f : not false ≡ false = rw (e) at h in
      let z : ◌≡◌ {A = ℕ} 0 1 = cc in
      absurd (omega arith)
  text_stored (Some x) r t s c e h q f g = rw (← q, ← f) g

  pub text_empty : (o : Option Bytes) (r : Bool) → r ≡ is_some o → not r ≡ false → len ≤ 0 → Puts (fit_or (option_map (take (len - 1)) o) (Err Unfit)) b off (Ok tt) b
  text_empty None r e h l =
      let f : not false ≡ false = rw (e) at h in
      let z : ◌≡◌ {A = ℕ} 0 1 = cc in
      absurd (omega arith)
  text_empty (Some x) r e h l =
      let k : len - 1 ≡ 0 = omega arith in
      rw (k) (sym (over_nil b off))
