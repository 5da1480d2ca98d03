-- The rules for the run, and for the step as a run of one instruction.
pub mod Budgets
pub mod Answering
