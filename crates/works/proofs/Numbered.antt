-- No refusal has number 0.
use Rattle.std.specs.Prelude.{◌≡◌}
use Rattle.basis.proofs.Names.{arith}
use Rattle.refusals.specs.Numbers.{number_of}
use Rattle.refusals.specs.declared.Refusal.{Refusal}
use Rattle.refusals.specs.declared.Refusal.TheVariants.{MemoryTooLong, CodeTooLong, CodeEnds, Prefixed, NotListed, NotAllowed, InvalidOpcode, NotAvailable, IsPending, OutsideMemory, NoBytes, BufferEnds, Malformed, OutsideByStack, JumpsOutside, FloorTooHigh, BelowFloor, HalfUnsupported, NumbersWrong, BlockJumps}

-- no refusal has number 0
pub numbered : (r : Refusal) → number_of r ≡ 0 → ⊥
numbered MemoryTooLong e = omega arith
numbered CodeTooLong e = omega arith
numbered CodeEnds e = omega arith
numbered Prefixed e = omega arith
numbered NotListed e = omega arith
numbered NotAllowed e = omega arith
numbered InvalidOpcode e = omega arith
numbered NotAvailable e = omega arith
numbered IsPending e = omega arith
numbered OutsideMemory e = omega arith
numbered NoBytes e = omega arith
numbered BufferEnds e = omega arith
numbered Malformed e = omega arith
numbered OutsideByStack e = omega arith
numbered JumpsOutside e = omega arith
numbered FloorTooHigh e = omega arith
numbered BelowFloor e = omega arith
numbered HalfUnsupported e = omega arith
numbered NumbersWrong e = omega arith
numbered BlockJumps e = omega arith
