-- The names of the kit that definitions use.
pub mod Names
