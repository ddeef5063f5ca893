-- The writers of structures: what the contracts say.
pub mod Posts
pub mod Steps
