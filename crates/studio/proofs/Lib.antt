-- The theorems: an answer is given exactly where it is due, and the contract allows one. Below them, by module, the laws.
pub mod laws
pub mod Places
pub mod Exactly
pub mod Example
pub mod Allowed
