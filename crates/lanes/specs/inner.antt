-- The words of private contracts: nobody has to believe them.
pub mod Widths
pub mod EveryLane
pub mod Turns
