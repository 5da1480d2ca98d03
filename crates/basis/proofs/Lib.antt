-- The names of the kit that laws use.
pub mod Names
