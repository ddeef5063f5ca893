-- `psch::Used::put` meets its contract. Assumes nothing.
use Prim.Native.Nat.{◌/◌}
use mathlib.Core.Path.{◌∙◌}
use lib.ListN.{length}
use native.Mathlib.Omega.{arith}
use Rattle.psch.proofs.Listing.{length_names, names_turn, names_none, put_last, put_turn, put_again}
use Rattle.psch.proofs.Used.put.Goals as goal

pub put_record-at-requires : goal.put_record-at-requires
put_record-at-requires c =
    let w = c.args.self.now.names.now in
    let l = c.loop-k in
    let s = c.in-Some.ensures.steps in
    let t = put_turn _ _ _ _ _ _ (omega (arith, c.requires.room, length_names w 0 (length w / 4))) c.requires.ends.0 _ _ _ _ l.invariant.1 c.read-name.result _
    (names_turn _ _ _ c.read-name.result s.0.1.0 (s.0.1.1 ∙ l.invariant.0) c.read-name.ensures) in
    record { stored = t.0; index_bound = (omega (arith, t.1.0, s.1), t.1.1, omega (arith, t.1.2, c.requires.ends.1)) }

pub loop-k-preserved : goal.loop-k-preserved
loop-k-preserved c =
    let w = c.args.self.now.names.now in
    let l = c.loop-k in
    let s = c.in-Some.ensures.steps in
    let r = c.put_record-at in (
      s.0.0 ∙ l.invariant.0,
      rw s.2 (put_again _ _ _ _ _ _ (omega (arith, c.requires.room, length_names w 0 (length w / 4))) c.requires.ends.0 _ _ _ _ l.invariant.1
          c.read-name.result _ (names_turn _ _ _ c.read-name.result s.0.1.0 (s.0.1.1 ∙ l.invariant.0) c.read-name.ensures) r.new.out r.result r.auto.out r.ensures.0 (rw s.1 at r.ensures.1)),
    )

pub returns : goal.returns
returns c =
    let w = c.args.self.now.names.now in
    let l = c.loop-k in
    let s = c.in-None.ensures.steps in
    put_last _ _ _ _ _ _ (omega (arith, c.requires.room, length_names w 0 (length w / 4))) c.requires.ends.0 _ _ _ _ l.invariant.1
    (names_none _ (omega (arith, s.0.1.0, l.invariant.0)))
