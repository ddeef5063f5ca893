-- `area::Area::use_enum` meets its contract. Assumes nothing.
use mathlib.Core.Path.{ap}
use Prim.Native.Nat.{ℕ}
use native.Mathlib.Omega.{arith}
use lib.ListN.{length}
use borrow.Author.Rules.{rules}
use Rattle.numbers.specs.Words.{Bytes}
use Rattle.area.specs.Area.{with_used}
use Rattle.area.proofs.Using.{use_enum_law}
use Rattle.area.proofs.Area.use_enum.Goals as goal

pub returns : goal.returns
returns c =
    let a = c.args.self.now in
    let p = a.progress in
    record {
      same = record { bytes = search rules; size = search rules; round = search rules };
      did = record {
        marks = use_enum_law a.round (length a.bytes.now) p a.bytes.now a.safe c.args.name c.insert-self.result c.insert-self.new.work (omega arith) c.insert-self.ensures;
        exact = ap (λ (i : ℕ × Bytes). (with_used p p.structs i.0, i.1)) c.insert-self.ensures.exact;
      };
    }
