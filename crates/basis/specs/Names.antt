-- All that the definitions take from the kit beside the words of its Prelude, but for what a string is made of (printout, Characters.antt).

-- lists: `flatten` puts lists one after another, `sets` puts several values from a place on; `Memᴰ` says that one is among them
pub use mathlib.Core.List.{Memᴰ}
unfoldable pub use mathlib.Core.List.{flatten}
pub use Rattle.std.proofs.lemmas.List.Edits.{sets}
-- a value or none
pub use Rattle.std.proofs.Math.Option.{Option, none, some}
-- numbers bit by bit; integers: the difference of two numbers, tests, and a shift
pub use Rattle.std.specs.Int.Bits.{bit_and, bit_or, bit_xor}
pub use Rattle.std.proofs.Math.IntN.{sub_ℕ}
pub use Rattle.std.specs.Int.Signed.{le_z, lt_z, shr_z}
-- IEEE 754's single-precision numbers: `of_bits` is the number of a pattern, `to_bits` the pattern of a number; `of_int` is an integer as a number,
-- `to_unsigned 64` a number rounded to zero as one of 64 bits, and a negative one as 0; `neg` is its negative; `lt x y` says that x is below y
pub use Rattle.std.specs.Float.{binary32}
unfoldable pub use Rattle.std.specs.Float.Ieee.{of_bits, to_bits, of_int, to_unsigned, neg, lt}
-- strings, and a character's number
pub use Prim.Native.String.{String}
pub use Prim.Native.Char.{code}
