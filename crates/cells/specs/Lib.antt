-- What a member's place holds: the code's values in the terms of the definitions, cells and plans.
pub mod Names
pub mod Cells
pub mod Plans
