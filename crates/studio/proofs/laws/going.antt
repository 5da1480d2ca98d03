-- The rules for a run that goes on.
pub mod Continuing
