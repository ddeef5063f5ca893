-- Laws of the choices.
pub mod Nths
pub mod Naming
pub mod Meeting
pub mod Choosing
pub mod Lodging
pub mod Embedding
