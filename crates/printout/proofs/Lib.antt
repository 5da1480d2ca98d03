-- The laws: texts put one after the other, piece by piece; digits, lengths, what a buffer gets, and that none is cut; the customer's example; and
-- that the contracts allow one answer.
pub mod Putting
pub mod Pieces
pub mod Numbers
pub mod Lengths
pub mod Rooms
pub mod Longest
pub mod Example
pub mod Allowed
