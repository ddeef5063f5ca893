-- Signed views, f32 against IEEE 754, whole numbers and decimals as text.
pub mod Signed
pub mod Single
pub mod Round
pub mod Decimal
pub mod Trunc
pub mod Radix
