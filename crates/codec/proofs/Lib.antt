-- The laws of the codec, in the order in which they build on each other; its theorems are in Theorems, Exactly, Headings, Sixes,
-- OpcodeBytes, Example and Allowed.
pub mod Tests
pub mod Joined
pub mod Sizes
pub mod Bytes
pub mod FormNumbers
pub mod Readers
pub mod Given
pub mod Entries
pub mod Steps
pub mod Judging
pub mod OurTable
pub mod Facts
pub mod Checks
pub mod Puts
pub mod Spelling
pub mod ReadingBack
pub mod Ranges
pub mod Theorems
pub mod Completing
pub mod Exactly
pub mod Headings
pub mod Sixes
pub mod OpcodeBytes
pub mod Example
pub mod Allowed
