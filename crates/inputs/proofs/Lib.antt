-- The law of several reads, for all that read in a loop, and what two answers at one input have in common.
pub mod Allowed
pub mod Readings
