-- The definitions: characters, the text line by line, and what a lent buffer gets of it; then the words of private contracts.
pub mod Characters
pub mod Lines
pub mod Printing
pub mod inner
