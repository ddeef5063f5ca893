-- `cells::kinds::type_number` meets its contract. Assumes nothing.
use native.Mathlib.Omega.{arith}
use Rattle.cells.specs.declared.kinds.Kind.TheVariants as K
use Rattle.cells.proofs.Kinding.{vector_few, number_of, number_zero}
use Rattle.cells.proofs.kinds.type_number.Goals as goal

pub returns-then-ty-eq0 : goal.returns-then-ty-eq0
returns-then-ty-eq0 c = number_zero c.args.ty c.if-ty-eq0.true

pub overflow_cast-result : goal.overflow_cast-result
overflow_cast-result c = omega (arith, (vector_few c.args.ty c.in-Vector.n _ c.kind_of.ensures c.in-Vector.is).1)

pub overflow_add-result : goal.overflow_add-result
overflow_add-result c = omega (arith, (vector_few c.args.ty c.in-Vector.n _ c.kind_of.ensures c.in-Vector.is).1)

pub returns-in-Integer : goal.returns-in-Integer
returns-in-Integer c = number_of c.args.ty (K.Integer c.in-Integer.field-0) _ c.if-ty-eq0.false c.kind_of.ensures c.in-Integer.is

pub returns-in-Single : goal.returns-in-Single
returns-in-Single c = number_of c.args.ty K.Single _ c.if-ty-eq0.false c.kind_of.ensures c.in-Single.is

pub returns-in-Vector : goal.returns-in-Vector
returns-in-Vector c = number_of c.args.ty (K.Vector c.in-Vector.n) _ c.if-ty-eq0.false c.kind_of.ensures c.in-Vector.is

pub returns-in-Text : goal.returns-in-Text
returns-in-Text c = number_of c.args.ty K.Text _ c.if-ty-eq0.false c.kind_of.ensures c.in-Text.is

pub returns-in-Enumeration : goal.returns-in-Enumeration
returns-in-Enumeration c = number_of c.args.ty K.Enumeration _ c.if-ty-eq0.false c.kind_of.ensures c.in-Enumeration.is

pub returns-in-Flags : goal.returns-in-Flags
returns-in-Flags c = number_of c.args.ty K.Flags _ c.if-ty-eq0.false c.kind_of.ensures c.in-Flags.is

pub returns-in-Structure : goal.returns-in-Structure
returns-in-Structure c = number_of c.args.ty K.Structure _ c.if-ty-eq0.false c.kind_of.ensures c.in-Structure.is

pub returns-in-Array : goal.returns-in-Array
returns-in-Array c = number_of c.args.ty K.Array _ c.if-ty-eq0.false c.kind_of.ensures c.in-Array.is

pub returns-in-Map : goal.returns-in-Map
returns-in-Map c = number_of c.args.ty K.Map _ c.if-ty-eq0.false c.kind_of.ensures c.in-Map.is

pub returns-in-Other : goal.returns-in-Other
returns-in-Other c = number_of c.args.ty K.Other _ c.if-ty-eq0.false c.kind_of.ensures c.in-Other.is
