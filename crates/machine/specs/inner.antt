-- The words of private contracts: nobody has to believe them.
pub mod Ways
pub mod Spots
pub mod Named
pub mod Works
pub mod Known
pub mod Picks
pub mod Reaches
pub mod Pointers
pub mod Quick
pub mod Opened
pub mod Loops
pub mod Runs
