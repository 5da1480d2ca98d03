-- Reading and gathering at once.
pub mod Finding
pub mod Operands
pub mod Working
pub mod Joining
