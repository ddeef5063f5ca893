-- Answers as codes with values.
pub mod Codes
