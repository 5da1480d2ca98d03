-- The manual's rules, each after what it builds on: the state, its places and kinds, where an operand is, what each instruction takes and gives,
-- where a run goes on, one step, the run, footprints; then a word of private contracts.
pub mod State
pub mod Refusals
pub mod Places
pub mod Kinds
pub mod Addresses
pub mod Locations
pub mod Effects
pub mod Instructions
pub mod Jumps
pub mod Steps
pub mod Reasons
pub mod Runs
pub mod Footprints
pub mod inner
