-- What the answers of the replay say.
pub mod Judge
