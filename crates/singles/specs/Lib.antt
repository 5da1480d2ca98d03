-- The definitions: how a half is sorted, the manuals' tables, what each instruction leaves, and worked examples; then the words of private contracts.
pub mod Ranges
pub mod Tables
pub mod Siblings
pub mod Illustrations
pub mod inner
