-- The laws by the module of the code that they serve.
pub mod jumps
pub mod going
pub mod meetings
pub mod whys
