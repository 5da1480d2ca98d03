-- What is gathered of an instruction that was read.
use Rattle.std.specs.Prelude.{◌≡◌, true, List, ℕ, ◌/◌, ◌%◌, ◌^◌, length}
use Rattle.works.specs.declared.Work.{Work}
use Rattle.machine.specs.declared.known.Known.{Known}
use Rattle.machine.specs.inner.Spots.{other_of, spot_of}
use Rattle.machine.specs.inner.Ways.{has_other, way_of}
use Rattle.machine.specs.inner.Works.{take_work}

-- its form has an operand that may be in memory
abbrev pub HasOther : Known → Type 0
HasOther k = has_other (way_of (k.entry / 2 ^ 24)) ≡ true

-- an operation on its MMX register, with that operand's number
abbrev pub taken : Known → List ℕ → List ℕ → List ℕ → Work
taken k registers integers memory =
    let w = k.instruction.operand in
    take_work registers integers memory (k.entry % 256) w.reg (spot_of integers (length memory) (other_of (k.entry / 2 ^ 24) w)) k.next
