-- The laws of suffixes; no refusal has number 0; and the theorems that each contract allows one answer.
pub mod Numbered
pub mod Answering
pub mod Allowed
