-- Laws of the work area.
pub mod Over
pub mod Flat
pub mod Anys
pub mod Remarks
pub mod Names
pub mod Spots
pub mod Reps
pub mod Lending
pub mod Noting
pub mod Using
pub mod Laying
pub mod Placing
pub mod Stepping
