-- The definitions: a result, an order, a plan, a footprint, a run over code bytes, a block; then a word of private contracts.
pub mod Result
pub mod Order
pub mod Plan
pub mod Footprint
pub mod Run
pub mod Block
pub mod inner
