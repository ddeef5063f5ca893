-- The laws that belong to no one function.
pub mod Mono
pub mod Finding
pub mod Splits
pub mod Marks
