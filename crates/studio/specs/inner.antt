-- The words of private contracts: nobody has to believe them.
pub mod Meetings
pub mod Parts
