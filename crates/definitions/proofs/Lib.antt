-- The laws that belong to no one function.
pub mod Fields
pub mod Named
pub mod Finds
pub mod Seek
pub mod Inside
