-- The number of a remark's kind.
use Rattle.std.specs.Prelude.{ℕ}
use Rattle.area.specs.declared.fault.Fault.{Fault}
use Rattle.area.specs.declared.fault.Fault.TheVariants as F

-- "Kinds: 1 member doesn't fit (structure size); 2 wrong value (`type_name`, 1 boolean to 12 map in its order); 3 string subtype;
-- 4 no structure definition (hash); 5 no ARRAYINFO; 6 map subtype; 7 no pair definition (hash); 8 no element definition (hash);
-- 9 element no structure; 10 zero-length strings; 11 string array subtype; 12 element type; 13 member type. Detail is what stands in brackets;
-- for 3, 6 and 11 the subtype, for 12 and 13 the type byte; for 5, 9 and 10 it is 0."
abbrev pub fault_number : Fault → ℕ
fault_number F.MemberSize = 1
fault_number F.WrongValue = 2
fault_number F.StringSubtype = 3
fault_number F.NoStructure = 4
fault_number F.NoArrayInfo = 5
fault_number F.MapSubtype = 6
fault_number F.NoPair = 7
fault_number F.NoElement = 8
fault_number F.ElementValue = 9
fault_number F.ZeroLengthStrings = 10
fault_number F.StringArraySubtype = 11
fault_number F.ElementType = 12
fault_number F.MemberType = 13
