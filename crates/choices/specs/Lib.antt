-- What is chosen before a structure is written: where values come from, and what the contracts say.
pub mod Items
pub mod Sources
pub mod Posts
pub mod Steps
