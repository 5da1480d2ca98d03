-- The rules for whether reading reaches a jump.
pub mod Reaching
