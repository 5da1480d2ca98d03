-- The theorems: the program's footprints say what the places say, and so demand 3 goes by the program's test, over calls of its functions; one
-- number for one refusal; a contract allows one answer; no byte below a floor is changed. Below them, by module, the laws.
pub mod laws
pub mod Positions
pub mod Tested
pub mod Pairs
pub mod Agreeing
pub mod Allowed
pub mod Calls
pub mod Program
pub mod Floors
