-- The definition: what is printed of a page file.
pub mod Page
