-- Laws of the rounds.
pub mod Thinning
pub mod Accounts
pub mod Standings
pub mod Merges
pub mod Judging
pub mod Taking
pub mod Openings
pub mod Roots
