-- The work area: its segments, what they hold of the layout's state, and what the writers' contracts say of them.
pub mod Fault
pub mod Segments
pub mod Kept
pub mod Rows
pub mod Area
pub mod Posts
pub mod Steps
