-- The value sheet's layout: refusals 1, 2 and 3.
pub mod Layout
pub mod Answer
