-- `cells::kinds::kind_of` meets its contract. Assumes nothing.
use mathlib.Core.Path.{refl}
use Rattle.layout.specs.Kinds.{kind_of}
use Rattle.cells.proofs.Kinding.{one_byte, two_bytes, four_bytes, threes, fours, no_other_law}
use Rattle.cells.proofs.kinds.kind_of.Goals as goal

pub returns-in-7 : goal.returns-in-7
unfolding kind_of
returns-in-7 c = rw c.in-7.is refl

pub returns-in-8 : goal.returns-in-8
unfolding kind_of
returns-in-8 c = rw c.in-8.is refl

pub returns-in-9 : goal.returns-in-9
unfolding kind_of
returns-in-9 c = threes c.args.ty c.in-9.is

pub returns-in-10 : goal.returns-in-10
unfolding kind_of
returns-in-10 c = fours c.args.ty c.in-10.is

pub returns-in-11 : goal.returns-in-11
unfolding kind_of
returns-in-11 c = rw c.in-11.is refl

pub returns-in-12 : goal.returns-in-12
unfolding kind_of
returns-in-12 c = rw c.in-12.is refl

pub returns-in-13 : goal.returns-in-13
unfolding kind_of
returns-in-13 c = rw c.in-13.is refl

pub returns-in-14 : goal.returns-in-14
unfolding kind_of
returns-in-14 c = rw c.in-14.is refl

pub returns-in-15 : goal.returns-in-15
unfolding kind_of
returns-in-15 c = rw c.in-15.is refl

pub returns-in-16 : goal.returns-in-16
unfolding kind_of
returns-in-16 c = rw c.in-16.is refl

pub returns-in-32 : goal.returns-in-32
unfolding kind_of
returns-in-32 c = rw c.in-32.is refl

pub returns-in-0-to-2 : goal.returns-in-0-to-2
unfolding kind_of
returns-in-0-to-2 c = one_byte c.args.ty c.in-0-to-2.if-ty-lt3-own.true

pub returns-in-5 : goal.returns-in-5
unfolding kind_of
returns-in-5 c = four_bytes c.args.ty c.in-5.if-ty-lt5-own.false c.in-5.if-ty-lt7-own.true

pub returns-in_default : goal.returns-in_default
unfolding kind_of
returns-in_default c =
    let m = c.in_default.in_default-own.rest in
    no_other_law c.args.ty c.in_default.if-ty-lt7-own.false m.0.0.0.0.0.0.0.0.0.0.0.1 m.0.0.0.0.0.0.0.0.0.0.1 m.0.0.0.0.0.0.0.0.0.1
    m.0.0.0.0.0.0.0.0.1 m.0.0.0.0.0.0.0.1 m.0.0.0.0.0.0.1 m.0.0.0.0.0.1 m.0.0.0.0.1 m.0.0.0.1 m.0.0.1 m.0.1 m.1

pub returns-in-3 : goal.returns-in-3
unfolding kind_of
returns-in-3 c = rw c.in-3.is refl

pub returns-in-3-2 : goal.returns-in-3-2
unfolding kind_of
returns-in-3-2 c = two_bytes c.args.ty c.in-3.if-ty-lt3-own.false c.in-3.if-ty-lt5-own.true
