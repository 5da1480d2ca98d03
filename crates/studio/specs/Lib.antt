-- The definitions: refusals, where two instructions meet, and why they cannot change places; then the words of private contracts.
pub mod Refusals
pub mod Meetings
pub mod Whys
pub mod Reasons
pub mod inner
