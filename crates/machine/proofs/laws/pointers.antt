-- Where operands in memory start.
pub mod Pointing
