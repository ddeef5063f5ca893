-- The loops of the comparisons.
pub mod Judging
