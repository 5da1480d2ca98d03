-- The words of works. Nobody has to believe them: the machine is proved against the manual's.
pub mod Answers
pub mod Bars
pub mod Works
pub mod Siblings
