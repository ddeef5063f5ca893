-- The laws that belong to no one function.
pub mod Units
pub mod Best
pub mod Ratio
pub mod Nearest
pub mod Signs
pub mod Trunc
pub mod Exact
pub mod Rest
pub mod Unique
pub mod Integers
