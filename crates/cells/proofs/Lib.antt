-- Laws of cells and plans.
pub mod Kinding
pub mod Celling
pub mod References
pub mod Choosing
pub mod Planning
