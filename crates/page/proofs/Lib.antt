-- The laws: that a text is written whole, and that what was read has the file's text.
pub mod Texts
pub mod Files
