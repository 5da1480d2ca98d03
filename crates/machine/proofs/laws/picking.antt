-- The rules for the works that pick lanes.
pub mod Making
