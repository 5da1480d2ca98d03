-- The rules for what is left of an instruction to do.
pub mod Shifting
pub mod Testing
pub mod Soundness
pub mod Listing
pub mod Sorting
pub mod Suffixing
pub mod Fetching
