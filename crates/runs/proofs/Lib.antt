-- Laws of runs.
pub mod Loops
pub mod CellRuns
pub mod Elements
