-- The laws, each file after what it builds on: of halves, of rounding; of the numbers' values, and that the
-- tables over halves and those over numbers agree; where nothing is left; the illustrations; and the theorems that each contract allows one answer.
pub mod Sorting
pub mod Rounding
pub mod Values
pub mod Agreeing
pub mod Failing
pub mod Illustrations
pub mod Allowed
