-- The laws: of what may be refused, of lists and permutations, of a reordered row, of plans and footprints, of runs and blocks.
pub mod Results
pub mod Membership
pub mod Rows
pub mod Permutation
pub mod Reordering
pub mod Places
pub mod Swapping
pub mod Honest
pub mod Meeting
pub mod Cutting
pub mod Rearranging
pub mod Along
pub mod Endings
pub mod Turning
pub mod Parting
