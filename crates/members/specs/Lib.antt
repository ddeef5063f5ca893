-- Members that lead to no structure: what a name stands for, and what the contracts say.
pub mod Names
pub mod Posts
pub mod Steps
