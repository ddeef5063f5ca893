-- `psch::put_definition` meets its contract. Assumes nothing.
use Rattle.numbers.proofs.Bytes.{octets}
use Rattle.psch.proofs.Bodies.{enum_written, struct_written}
use Rattle.psch.proofs.put_definition.Goals as goal

pub returns-in-Enum : goal.returns-in-Enum
returns-in-Enum c =
    let a = c.args in
    enum_written a.schema.now (octets a.schema.now (λ i. (c.shared_slice_known-1.given i).fits)) a.place a.len a.to a.kind c.in-Enum.is c.requires.lies c.requires.len_value.0
    a.out.now c.copy_part-in-Enum.new.out c.copy_part-in-Enum.ensures

pub returns-in-Structure : goal.returns-in-Structure
returns-in-Structure c =
    let a = c.args in
    struct_written a.schema.now (octets a.schema.now (λ i. (c.shared_slice_known-1.given i).fits)) a.place a.len a.to a.kind c.in-Structure.is c.requires.lies c.requires.len_value.0
    a.out.now c.copy_part.new.out c.write.new.s c.copy_part-in-Structure.new.out c.requires.len_value.1
    c.copy_part.ensures c.write.ensures c.copy_part-in-Structure.ensures
