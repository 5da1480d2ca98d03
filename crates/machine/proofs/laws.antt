-- The laws by the module of the code that they serve.
pub mod meetings
pub mod addresses
pub mod ways
pub mod operands
pub mod pointers
pub mod picking
pub mod gathering
pub mod loops
pub mod quick
pub mod stepping
pub mod running
pub mod footprints
