-- Laws of the writers.
pub mod Children
pub mod Filled
pub mod Fillings
pub mod Pairing
pub mod Inlines
pub mod Pointers
pub mod Kindly
pub mod Starting
pub mod Structs
pub mod StructRuns
pub mod PointerRuns
