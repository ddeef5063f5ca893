-- Laws of PSCH: heads of sections, a definition's bytes, the loops over the used names, the section; what is found lies in the schema file.
pub mod Sections
pub mod Bodies
pub mod Listing
pub mod Lying
pub mod Schemas
