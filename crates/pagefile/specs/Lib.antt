-- The definitions: what a page file is, and how one is parsed.
pub mod Fields
pub mod Parsing
