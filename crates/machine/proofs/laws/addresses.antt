-- The rules for addresses.
pub mod Addressing
