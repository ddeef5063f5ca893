-- `assemble::file::put_file` meets its contract. Assumes nothing.
use mathlib.Core.Path.{◌≡◌, refl, ap}
use Prim.Native.Nat.{◌-◌}
use native.Mathlib.Omega.{arith}
use borrow.Rule.Slice.PartMut.{put_mid}
use lib.ListN.{length, take, drop, length-drop}
use lib.Seq.{length-take-le}
use Rattle.assemble.proofs.Filing.{whole, stored, rest_fits, rest_small, file_put}
use Rattle.assemble.proofs.file.put_file.Goals as goal

pub assemble_area-end-requires : goal.assemble_area-end-requires
assemble_area-end-requires c =
    let g = c.requires in
    let f = g.fitting in
    record { core = g.state.core; held = whole c.args.area.now.safe f }

pub slice_bounds-put_schema-count : goal.slice_bounds-put_schema-count
slice_bounds-put_schema-count c =
    let g = c.requires in
    let f = g.fitting in
    let W = whole c.args.area.now.safe f in
    omega (arith, (c.assemble_area-end.ensures.whole g.state.core W).2, W.fits, c.assemble_area-end.auto.out)

pub slice_bounds-put_schema-start : goal.slice_bounds-put_schema-start
slice_bounds-put_schema-start c =
    let g = c.requires in
    let f = g.fitting in
    let W = whole c.args.area.now.safe f in
    omega (arith, (c.assemble_area-end.ensures.whole g.state.core W).2, W.fits, c.assemble_area-end.auto.out)

pub put_schema-requires : goal.put_schema-requires
put_schema-requires c =
    let h = c.args.area.now.safe in
    let g = c.requires in
    let f = g.fitting in
    let m = c.assemble_area-end in
    let e = m.ensures.whole g.state.core (whole h f) in
    let n = length m.new.out - m.result in
    let r = rest_fits h f c.args.out.now e.0 e.1 e.2 in
    let lt : length (take n (drop m.result m.new.out)) ≡ n = length-take-le n (drop m.result m.new.out) (omega (arith, length-drop m.result m.new.out)) in
    rw (m.ensures.same.round, m.ensures.progress)
    record { all_stored = stored h f c.args.out.now e.0 e.1 e.2; size = (omega (arith, r, lt, m.auto.out), rest_small h f c.args.out.now e.0 e.1 e.2) }

pub returns-clause-file : goal.returns-clause-file
returns-clause-file c =
    λ S s σ f.
    let h = c.args.area.now.safe in
    let m = c.assemble_area-end in
    let e = m.ensures.whole s.core (whole h f) in
    let q = rw (m.ensures.same.round, m.ensures.progress) at c.put_schema.ensures in
    (file_put h f c.args.out.now e.0 e.1 e.2 _ refl m.auto.out (ap (put_mid m.result (length m.new.out - m.result) m.new.out) q), e.1)
