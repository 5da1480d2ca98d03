-- The laws: what is printed of a page, piece by piece; the customer's example; that no text is cut and no run without a jump spent; that the contract
-- allows one answer; and the three demands.
pub mod Playing
pub mod Example
pub mod Whole
pub mod Unspent
pub mod Allowed
pub mod Demands
