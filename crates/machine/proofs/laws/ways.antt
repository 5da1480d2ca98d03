-- The rules for the ways of the forms.
pub mod Numbering
