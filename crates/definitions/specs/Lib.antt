-- Definitions one at a time: what is found by name, and what stands at a place.
pub mod Answers
