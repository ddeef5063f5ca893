-- `runs::plain_element_run` meets its contract. Assumes nothing.
use mathlib.Core.Path.{◌≡◌, refl, sym, ap, ◌∙◌}
use mathlib.Core.Bool.{true}
use mathlib.Core.Logic.{◌⊎◌, inl, inr}
use native.Mathlib.Omega.{arith}
use lib.ListN.{length}
use Rattle.value.specs.Rows.{rows_from}
use Rattle.layout.specs.Kinds
use Rattle.cells.specs.declared.kinds.Kind.{Kind}
use Rattle.cells.specs.declared.kinds.Kind.TheVariants as K
use Rattle.cells.specs.Names.{kind_is}
use Rattle.cells.proofs.Kinding.{integer_few, vector_few}
use Rattle.runs.proofs.Elements.{vector_room, plain_scalar, plain_text, plain_enum, plain_structure, plain_strange, is_strange}
use Rattle.area.proofs.Stepping.{also}
use Rattle.runs.proofs.plain_element_run.Goals as goal

pub overflow_cast-k : goal.overflow_cast-k
overflow_cast-k c =
    record { fits = omega (arith, integer_few c.args.x.kind c.in-Integer.k c.kind_of.result c.kind_of.ensures c.in-Integer.is) }

pub cell_run-requires : goal.cell_run-requires
cell_run-requires c =
    (integer_few c.args.x.kind c.in-Integer.k c.kind_of.result c.kind_of.ensures c.in-Integer.is, omega arith)

pub cell_run-requires-in-Vector : goal.cell_run-requires-in-Vector
cell_run-requires-in-Vector c =
    let v = vector_few c.args.x.kind c.in-Vector.k c.kind_of.result c.kind_of.ensures c.in-Vector.is in
    (v, vector_room c.in-Vector.k c.vector_stride.result v.1 c.vector_stride.ensures)

pub returns-in-Integer : goal.returns-in-Integer
returns-in-Integer c =
    let g = c.args in
    let t = g.at.now in
    let a = g.area.now in
    also c.cell_run.ensures (λ h. plain_scalar a.round (length a.bytes.now) a.progress a.bytes.now g.sheet.now g.schema.now t.structure t.member g.x (rows_from g.rows.first g.rows.count) (Kinds.integer c.in-Integer.k) c.in-Integer.k c.integer_block-block.result _ _ (sym c.kind_of.ensures ∙ ap kind_is c.in-Integer.is) refl c.integer_block-block.ensures h)

pub returns-in-Single : goal.returns-in-Single
returns-in-Single c =
    let g = c.args in
    let t = g.at.now in
    let a = g.area.now in
    also c.cell_run-in-Single.ensures (λ h. plain_scalar a.round (length a.bytes.now) a.progress a.bytes.now g.sheet.now g.schema.now t.structure t.member g.x (rows_from g.rows.first g.rows.count) Kinds.single 4 7 _ _ (sym c.kind_of.ensures ∙ ap kind_is c.in-Single.is) refl refl h)

pub returns-in-Vector : goal.returns-in-Vector
returns-in-Vector c =
    let g = c.args in
    let t = g.at.now in
    let a = g.area.now in
    also c.cell_run-in-Vector.ensures (λ h. plain_scalar a.round (length a.bytes.now) a.progress a.bytes.now g.sheet.now g.schema.now t.structure t.member g.x (rows_from g.rows.first g.rows.count) (Kinds.vector c.in-Vector.k) c.vector_stride.result 1 _ _ (sym c.kind_of.ensures ∙ ap kind_is c.in-Vector.is) c.vector_stride.ensures refl h)

pub returns-in-Text : goal.returns-in-Text
returns-in-Text c =
    let g = c.args in
    let t = g.at.now in
    let a = g.area.now in
    record {
      same = (c.text_run.ensures g.schema.now).same;
      did = plain_text a.round (length a.bytes.now) a.progress a.bytes.now g.sheet.now g.schema.now t.structure t.member g.x (rows_from g.rows.first g.rows.count) _ _ (sym c.kind_of.ensures ∙ ap kind_is c.in-Text.is) (c.text_run.ensures g.schema.now).did;
    }

pub returns-in-Enumeration : goal.returns-in-Enumeration
returns-in-Enumeration c =
    let g = c.args in
    let t = g.at.now in
    let a = g.area.now in
    also c.enum_run.ensures (λ h. plain_enum a.round (length a.bytes.now) a.progress a.bytes.now g.sheet.now g.schema.now t.structure t.member g.x (rows_from g.rows.first g.rows.count) _ _ (sym c.kind_of.ensures ∙ ap kind_is c.in-Enumeration.is) h)

pub returns-in-Structure : goal.returns-in-Structure
returns-in-Structure c =
    let g = c.args in
    let t = g.at.now in
    let a = g.area.now in
    record {
      same = record { bytes = refl; size = refl; round = refl };
      did = plain_structure a.round (length a.bytes.now) a.progress a.bytes.now g.sheet.now g.schema.now t.structure t.member g.x (rows_from g.rows.first g.rows.count) a.safe (sym c.kind_of.ensures ∙ ap kind_is c.in-Structure.is);
    }

-- the kinds that no run has
strange : (k : Kind) → (k ≡ K.Array) ⊎ ((k ≡ K.Flags) ⊎ ((k ≡ K.Map) ⊎ (k ≡ K.Other))) → is_strange (kind_is k) ≡ true
strange k (inl e) = rw e refl
strange k (inr (inl e)) = rw e refl
strange k (inr (inr (inl e))) = rw e refl
strange k (inr (inr (inr e))) = rw e refl

pub returns-in-Array : goal.returns-in-Array
returns-in-Array c =
    let g = c.args in
    let t = g.at.now in
    let a = g.area.now in
    let y = c.stop_run.ensures.yields g.schema.now in
    record {
      same = y.same;
      did = plain_strange a.round (length a.bytes.now) a.progress a.bytes.now g.sheet.now g.schema.now t.structure t.member g.x (rows_from g.rows.first g.rows.count) (kind_is c.kind_of.result) _ _ (sym c.kind_of.ensures)
          (strange c.kind_of.result c.in-Array.is) (rw (c.into.ensures, c.from.ensures) at y.did);
    }
