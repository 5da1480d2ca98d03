-- What the code's types are in the manuals' words: the state of a machine, the paper's answers for a step and a run, footprints as masks and
-- ranges, the machine of a page; then the words of private contracts.
pub mod State
pub mod Steps
pub mod Runs
pub mod Footprints
pub mod Starts
pub mod inner
