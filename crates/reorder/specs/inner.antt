-- A word of private contracts and of laws: nobody has to believe it.
pub mod Parts
