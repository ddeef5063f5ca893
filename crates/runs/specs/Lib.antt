-- Runs whose elements lead to no structure: what the contracts say.
pub mod Posts
pub mod Steps
