-- The definitions of the codec, in the order in which they build on each other; then the words of private contracts.
pub mod Refusals
pub mod Answers
pub mod Forms
pub mod Contents
pub mod Opcodes
pub mod Table
pub mod Operands
pub mod Reader
pub mod Reads
pub mod Reasons
pub mod Finding
pub mod Fits
pub mod Writes
pub mod inner
