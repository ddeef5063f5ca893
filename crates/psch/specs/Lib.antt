-- PSCH: what its functions say.
pub mod Used
