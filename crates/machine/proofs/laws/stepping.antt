-- The rules for one step over lent registers.
pub mod Advancing
