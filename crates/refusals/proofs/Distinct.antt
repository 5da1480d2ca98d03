-- No two refusals have one number: a number names its refusal.
use Rattle.std.specs.Prelude.{ℕ, ◌≡◌, refl, cond, eqb}
use Rattle.basis.proofs.Names.{ap, sym, ◌∙◌}
use Rattle.refusals.specs.declared.Refusal.{Refusal}
use Rattle.refusals.specs.declared.Refusal.TheVariants.{MemoryTooLong, CodeTooLong, CodeEnds, Prefixed, NotListed, NotAllowed, InvalidOpcode, NotAvailable, IsPending, OutsideMemory, NoBytes, BufferEnds, Malformed, OutsideByStack, JumpsOutside, FloorTooHigh, BelowFloor, HalfUnsupported, NumbersWrong, BlockJumps}
use Rattle.refusals.specs.Numbers.{number_of}

-- the refusal of a number; of one that is no refusal's, the last
pub named : ℕ → Refusal
named n =
    cond (eqb n 1) MemoryTooLong
    (cond (eqb n 2) CodeTooLong
    (cond (eqb n 3) CodeEnds
    (cond (eqb n 4) Prefixed
    (cond (eqb n 5) NotListed
    (cond (eqb n 6) NotAllowed
    (cond (eqb n 7) InvalidOpcode
    (cond (eqb n 8) NotAvailable
    (cond (eqb n 9) IsPending
    (cond (eqb n 10) OutsideMemory
    (cond (eqb n 11) NoBytes
    (cond (eqb n 12) BufferEnds
    (cond (eqb n 13) Malformed
    (cond (eqb n 14) OutsideByStack
    (cond (eqb n 19) JumpsOutside
    (cond (eqb n 20) FloorTooHigh
    (cond (eqb n 21) BelowFloor
    (cond (eqb n 22) HalfUnsupported
    (cond (eqb n 29) NumbersWrong BlockJumps))))))))))))))))))

pub named_number : (r : Refusal) → named (number_of r) ≡ r
unfolding named
named_number MemoryTooLong = refl
named_number CodeTooLong = refl
named_number CodeEnds = refl
named_number Prefixed = refl
named_number NotListed = refl
named_number NotAllowed = refl
named_number InvalidOpcode = refl
named_number NotAvailable = refl
named_number IsPending = refl
named_number OutsideMemory = refl
named_number NoBytes = refl
named_number BufferEnds = refl
named_number Malformed = refl
named_number OutsideByStack = refl
named_number JumpsOutside = refl
named_number FloorTooHigh = refl
named_number BelowFloor = refl
named_number HalfUnsupported = refl
named_number NumbersWrong = refl
named_number BlockJumps = refl

-- so a refusal is known by its number
pub distinct : (r s : Refusal) → number_of r ≡ number_of s → r ≡ s
distinct r s e = sym (named_number r) ∙ ap named e ∙ named_number s
