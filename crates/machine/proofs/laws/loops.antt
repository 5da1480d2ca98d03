-- The rules for the instructions of loops.
pub mod Looping
