-- The laws: no two refusals have one number; and that the contract allows one answer.
pub mod Distinct
pub mod Allowed
