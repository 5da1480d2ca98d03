-- The rules for a question: the run that is watched, and what is answered after it.
pub mod Watching
pub mod Asking
