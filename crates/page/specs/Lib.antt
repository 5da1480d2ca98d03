-- What the page program prints.
pub mod Prints
