-- Laws of members.
pub mod Looking
pub mod Filling
pub mod Slotting
pub mod PointerMembers
