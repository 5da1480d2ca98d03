-- The refusals by their numbers.
pub mod Numbers
