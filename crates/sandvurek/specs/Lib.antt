-- What the library's functions answer.
pub mod Exports
