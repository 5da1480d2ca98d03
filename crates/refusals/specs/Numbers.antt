-- The number of each refusal, from the customer's table of them.
use Rattle.std.specs.Prelude.{ℕ}
use Rattle.refusals.specs.declared.Refusal.{Refusal}
use Rattle.refusals.specs.declared.Refusal.TheVariants.{MemoryTooLong, CodeTooLong, CodeEnds, Prefixed, NotListed, NotAllowed, InvalidOpcode, NotAvailable, IsPending, OutsideMemory, NoBytes, BufferEnds, Malformed, OutsideByStack, JumpsOutside, FloorTooHigh, BelowFloor, HalfUnsupported, NumbersWrong, BlockJumps}

abbrev pub number_of : Refusal → ℕ
number_of MemoryTooLong = 1
number_of CodeTooLong = 2
number_of CodeEnds = 3
number_of Prefixed = 4
number_of NotListed = 5
number_of NotAllowed = 6
number_of InvalidOpcode = 7
number_of NotAvailable = 8
number_of IsPending = 9
number_of OutsideMemory = 10
number_of NoBytes = 11
number_of BufferEnds = 12
number_of Malformed = 13
number_of OutsideByStack = 14
number_of JumpsOutside = 19
number_of FloorTooHigh = 20
number_of BelowFloor = 21
number_of HalfUnsupported = 22
number_of NumbersWrong = 29
number_of BlockJumps = 30
