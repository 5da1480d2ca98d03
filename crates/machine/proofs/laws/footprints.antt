-- The rules for the footprint that the code makes.
pub mod Registers
pub mod Reaching
pub mod ByWay
pub mod Suffixing
pub mod Forms
pub mod Tests
