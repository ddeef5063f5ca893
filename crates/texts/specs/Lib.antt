-- Texts: trimming, parts, words, the grammar of floats and that of decimals.
pub mod Text
pub mod Float
pub mod Decimal
