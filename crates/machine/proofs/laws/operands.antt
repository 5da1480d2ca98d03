-- The rules for where an operand is, by the form.
pub mod Locating
