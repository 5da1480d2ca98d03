-- The definitions: a number and its bytes, a number in a buffer; then the words of private contracts.
pub mod Number
pub mod Buffer
pub mod inner
