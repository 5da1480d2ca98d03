-- The definitions: lanes, signed numbers, the rule of each family, the operations by name, and worked examples; then the words of private contracts.
pub mod Lane
pub mod Signed
pub mod Rules
pub mod Operations
pub mod Illustrations
pub mod inner
