-- What a `?` returns, where the caller's errors are the callee's; and what `ok_or` gives. Assumes nothing.
use Rattle.std.specs.Prelude.{Option, Some, None, Result, Ok, Err}
use Rattle.std.specs.Option.{ok_or}
use Rattle.std.specs.Result.{IsErrAnd}
use mathlib.Core.Path.{◌≡◌, refl, ap, sym}

pub passed_on : {A E : Type 0} (r : Result A E) (e : E) → IsErrAnd r (λ y. y ≡ e) → Err e ≡ r
passed_on (Ok a) e h = elim h [ ]
passed_on (Err y) e h = ap Err (sym h)

pub ok_or_none : {A E : Type 0} (o : Option A) (d e : E) → Err e ≡ ok_or o d → (o ≡ None) × (e ≡ d)
ok_or_none (Some a) d e h = cc
ok_or_none None d e h = (refl, cc)
