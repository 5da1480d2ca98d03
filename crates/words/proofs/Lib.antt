-- The laws: of a number and its bytes, of loads and stores; and that the contracts allow one answer.
pub mod Numbers
pub mod Laws
pub mod Placing
pub mod Allowed
