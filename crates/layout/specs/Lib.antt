-- Laying a pack (pso_write.rs), and what holds of every pack (demand 3).
pub mod State
pub mod Kinds
pub mod Members
pub mod Runs
pub mod Write
pub mod Fuel
pub mod Assemble
pub mod Build
pub mod Slots
pub mod Parts
pub mod Demand3
pub mod Always
pub mod Ways
pub mod Eval
