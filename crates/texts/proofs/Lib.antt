-- The laws that belong to no one function.
pub mod Ends
pub mod Letters
pub mod Digits
pub mod Decimals
pub mod Grammar
pub mod Splits
pub mod First
