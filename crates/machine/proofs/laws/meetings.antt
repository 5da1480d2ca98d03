-- Footprints as masks and ranges say what the places say: so does the test whether two of them meet.
pub mod Masks
pub mod Ranges
pub mod Masking
pub mod Meeting
pub mod Rules
