-- The laws: what stands at the front of a list, what remains behind it, the parts of a file; what the definition of a well-formed file means, with the
-- customer's example; and that the contracts allow one answer.
pub mod Fronts
pub mod Places
pub mod Parts
pub mod Written
pub mod Meaning
pub mod Example
pub mod Allowed
