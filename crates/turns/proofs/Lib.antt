-- Laws of the turns and of the end.
pub mod Passing
pub mod Turning
pub mod Endings
