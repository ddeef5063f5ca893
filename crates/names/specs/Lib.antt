-- Coercion (coerce.rs): a row read as a hash, as an enum's value, as flag bits.
pub mod Names
pub mod Answer
pub mod Entries
