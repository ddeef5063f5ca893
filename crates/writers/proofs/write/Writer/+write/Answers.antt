-- The cycle of calls of the writers meets its contracts: each answer stands in the file of its functions. Assumes nothing.
use Rattle.writers.proofs.write.Writer.+write.Goals as goal
mod Structures
mod Members
mod Arrays
mod Runs
mod Maps

-- `write_struct`.

pub write_struct-returns-then-self-eq0 : goal.write_struct-returns-then-self-eq0
write_struct-returns-then-self-eq0 = Structures.write_struct-returns-then-self-eq0

pub write_struct-returns-in_err-pay : goal.write_struct-returns-in_err-pay
write_struct-returns-in_err-pay = Structures.write_struct-returns-in_err-pay

pub write_struct-loop-k-init : goal.write_struct-loop-k-init
write_struct-loop-k-init = Structures.write_struct-loop-k-init

pub write_struct-loop-k-preserved-then-member-eq-ARRAYINFO : goal.write_struct-loop-k-preserved-then-member-eq-ARRAYINFO
write_struct-loop-k-preserved-then-member-eq-ARRAYINFO = Structures.write_struct-loop-k-preserved-then-member-eq-ARRAYINFO

pub write_struct-loop-k-preserved : goal.write_struct-loop-k-preserved
write_struct-loop-k-preserved = Structures.write_struct-loop-k-preserved

pub write_struct-returns-in_err-write_member : goal.write_struct-returns-in_err-write_member
write_struct-returns-in_err-write_member = Structures.write_struct-returns-in_err-write_member

pub write_struct-returns : goal.write_struct-returns
write_struct-returns = Structures.write_struct-returns

-- `write_member`.

pub write_member-returns-in-12 : goal.write_member-returns-in-12
write_member-returns-in-12 = Members.write_member-returns-in-12

pub write_member-returns-in-13 : goal.write_member-returns-in-13
write_member-returns-in-13 = Members.write_member-returns-in-13

pub write_member-returns-in-16 : goal.write_member-returns-in-16
write_member-returns-in-16 = Members.write_member-returns-in-16

pub write_member-returns-in_default : goal.write_member-returns-in_default
write_member-returns-in_default = Members.write_member-returns-in_default

-- `write_structure`.

pub write_structure-returns-then-not-is_struct_value : goal.write_structure-returns-then-not-is_struct_value
write_structure-returns-then-not-is_struct_value = Members.write_structure-returns-then-not-is_struct_value

pub write_structure-returns-then-at-eq0 : goal.write_structure-returns-then-at-eq0
write_structure-returns-then-at-eq0 = Members.write_structure-returns-then-at-eq0

pub write_structure-returns : goal.write_structure-returns
write_structure-returns = Members.write_structure-returns

-- `write_inline`.

pub write_inline-returns-in_default : goal.write_inline-returns-in_default
write_inline-returns-in_default = Members.write_inline-returns-in_default

pub write_inline-returns-then-not-fits : goal.write_inline-returns-then-not-fits
write_inline-returns-then-not-fits = Members.write_inline-returns-then-not-fits

pub write_inline-returns-in_err-write_struct : goal.write_inline-returns-in_err-write_struct
write_inline-returns-in_err-write_struct = Members.write_inline-returns-in_err-write_struct

pub write_inline-returns : goal.write_inline-returns
write_inline-returns = Members.write_inline-returns

-- `write_pointed`.

pub write_pointed-returns-then-not-fits : goal.write_pointed-returns-then-not-fits
write_pointed-returns-then-not-fits = Members.write_pointed-returns-then-not-fits

pub write_pointed-returns-in_default : goal.write_pointed-returns-in_default
write_pointed-returns-in_default = Members.write_pointed-returns-in_default

pub write_pointed-returns-then-not-is : goal.write_pointed-returns-then-not-is
write_pointed-returns-then-not-is = Members.write_pointed-returns-then-not-is

pub write_pointed-returns-in_err-x : goal.write_pointed-returns-in_err-x
write_pointed-returns-in_err-x = Members.write_pointed-returns-in_err-x

pub write_pointed-returns-in_default-2 : goal.write_pointed-returns-in_default-2
write_pointed-returns-in_default-2 = Members.write_pointed-returns-in_default-2

pub write_pointed-returns-in-Some-2 : goal.write_pointed-returns-in-Some-2
write_pointed-returns-in-Some-2 = Members.write_pointed-returns-in-Some-2

-- `point_to`.

pub point_to-returns-in_default : goal.point_to-returns-in_default
point_to-returns-in_default = Members.point_to-returns-in_default

pub point_to-returns-in_err-write_struct : goal.point_to-returns-in_err-write_struct
point_to-returns-in_err-write_struct = Members.point_to-returns-in_err-write_struct

pub point_to-returns-in_err-x : goal.point_to-returns-in_err-x
point_to-returns-in_err-x = Members.point_to-returns-in_err-x

pub point_to-returns : goal.point_to-returns
point_to-returns = Members.point_to-returns

-- `write_array`.

pub write_array-returns-in_default : goal.write_array-returns-in_default
write_array-returns-in_default = Arrays.write_array-returns-in_default

pub write_array-returns-then-not-is_array_value : goal.write_array-returns-then-not-is_array_value
write_array-returns-then-not-is_array_value = Arrays.write_array-returns-then-not-is_array_value

pub write_array-returns-then-by_pointer : goal.write_array-returns-then-by_pointer
write_array-returns-then-by_pointer = Arrays.write_array-returns-then-by_pointer

pub write_array-returns : goal.write_array-returns
write_array-returns = Arrays.write_array-returns

-- `write_laid`.

pub write_laid-returns-then-not-fits : goal.write_laid-returns-then-not-fits
write_laid-returns-then-not-fits = Arrays.write_laid-returns-then-not-fits

pub write_laid-returns-then-rows-eq0 : goal.write_laid-returns-then-rows-eq0
write_laid-returns-then-rows-eq0 = Arrays.write_laid-returns-then-rows-eq0

pub write_laid-returns-in_err-block : goal.write_laid-returns-in_err-block
write_laid-returns-in_err-block = Arrays.write_laid-returns-in_err-block

pub write_laid-returns-in_default : goal.write_laid-returns-in_default
write_laid-returns-in_default = Arrays.write_laid-returns-in_default

pub write_laid-returns : goal.write_laid-returns
write_laid-returns = Arrays.write_laid-returns

-- `write_embedded`.

pub write_embedded-returns-in_err-element_run : goal.write_embedded-returns-in_err-element_run
write_embedded-returns-in_err-element_run = Arrays.write_embedded-returns-in_err-element_run

pub write_embedded-returns-else-is_some : goal.write_embedded-returns-else-is_some
write_embedded-returns-else-is_some = Arrays.write_embedded-returns-else-is_some

pub write_embedded-returns-then-is_some : goal.write_embedded-returns-then-is_some
write_embedded-returns-then-is_some = Arrays.write_embedded-returns-then-is_some

-- `element_run`.

pub element_run-returns-then-x-ne12 : goal.element_run-returns-then-x-ne12
element_run-returns-then-x-ne12 = Arrays.element_run-returns-then-x-ne12

pub element_run-returns-then-x-eq3 : goal.element_run-returns-then-x-eq3
element_run-returns-then-x-eq3 = Arrays.element_run-returns-then-x-eq3

pub element_run-returns-in_default : goal.element_run-returns-in_default
element_run-returns-in_default = Arrays.element_run-returns-in_default

pub element_run-returns : goal.element_run-returns
element_run-returns = Arrays.element_run-returns

-- `pointer_run`.

pub pointer_run-loop-k-init : goal.pointer_run-loop-k-init
pointer_run-loop-k-init = Runs.pointer_run-loop-k-init

pub pointer_run-invariant_of-area : goal.pointer_run-invariant_of-area
pointer_run-invariant_of-area = Runs.pointer_run-invariant_of-area

pub pointer_run-loop-k-preserved-then-not-is : goal.pointer_run-loop-k-preserved-then-not-is
pointer_run-loop-k-preserved-then-not-is = Runs.pointer_run-loop-k-preserved-then-not-is

pub pointer_run-point_to-requires : goal.pointer_run-point_to-requires
pointer_run-point_to-requires = Runs.pointer_run-point_to-requires

pub pointer_run-returns-in_err-x : goal.pointer_run-returns-in_err-x
pointer_run-returns-in_err-x = Runs.pointer_run-returns-in_err-x

pub pointer_run-loop-k-preserved : goal.pointer_run-loop-k-preserved
pointer_run-loop-k-preserved = Runs.pointer_run-loop-k-preserved

pub pointer_run-returns-in_err-pay : goal.pointer_run-returns-in_err-pay
pointer_run-returns-in_err-pay = Runs.pointer_run-returns-in_err-pay

pub pointer_run-returns : goal.pointer_run-returns
pointer_run-returns = Runs.pointer_run-returns

-- `struct_run`.

pub struct_run-loop-k-init : goal.struct_run-loop-k-init
struct_run-loop-k-init = Runs.struct_run-loop-k-init

pub struct_run-note-requires : goal.struct_run-note-requires
struct_run-note-requires = Runs.struct_run-note-requires

pub struct_run-loop-k-preserved : goal.struct_run-loop-k-preserved
struct_run-loop-k-preserved = Runs.struct_run-loop-k-preserved

pub struct_run-returns-in_err-pay : goal.struct_run-returns-in_err-pay
struct_run-returns-in_err-pay = Runs.struct_run-returns-in_err-pay

pub struct_run-returns-in_err-write_struct : goal.struct_run-returns-in_err-write_struct
struct_run-returns-in_err-write_struct = Runs.struct_run-returns-in_err-write_struct

pub struct_run-returns : goal.struct_run-returns
struct_run-returns = Runs.struct_run-returns

-- `write_map`.

pub write_map-returns-then-sub-ne1 : goal.write_map-returns-then-sub-ne1
write_map-returns-then-sub-ne1 = Maps.write_map-returns-then-sub-ne1

pub write_map-returns-then-not-fits : goal.write_map-returns-then-not-fits
write_map-returns-then-not-fits = Maps.write_map-returns-then-not-fits

pub write_map-returns-then-not-is-2 : goal.write_map-returns-then-not-is-2
write_map-returns-then-not-is-2 = Maps.write_map-returns-then-not-is-2

pub write_map-returns-then-count-eq0 : goal.write_map-returns-then-count-eq0
write_map-returns-then-count-eq0 = Maps.write_map-returns-then-count-eq0

pub write_map-returns : goal.write_map-returns
write_map-returns = Maps.write_map-returns

-- `pairs`.

pub pairs-returns-in_default : goal.pairs-returns-in_default
pairs-returns-in_default = Maps.pairs-returns-in_default

pub pairs-returns-in_err-block : goal.pairs-returns-in_err-block
pairs-returns-in_err-block = Maps.pairs-returns-in_err-block

pub pairs-returns-in_default-2 : goal.pairs-returns-in_default-2
pairs-returns-in_default-2 = Maps.pairs-returns-in_default-2

pub pairs-returns : goal.pairs-returns
pairs-returns = Maps.pairs-returns
