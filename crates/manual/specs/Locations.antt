-- Where an operand is: in a register, in memory, or in the zero mark; and which places it has there.
use Rattle.std.specs.Prelude.{Bool, cond, List, [], ◌∷◌, ℕ, zero, suc, ◌+◌, ◌%◌, eqb, leb, length}
use Rattle.basis.specs.Names.{none, some}
use Rattle.reorder.specs.Result.{Result, done, refused}
use Rattle.codec.specs.Forms.{File, mmx_file, integer_file, Slot, reg, rm, rm/mem, mem, edi, fixed, opcode, zero_slot}
use Rattle.codec.specs.declared.Operand.{Operand}
use Rattle.codec.specs.declared.Instruction.{Instruction}
use Rattle.manual.specs.Refusals.{outside_memory, outside_by_stack}
use Rattle.manual.specs.State.{State}
use Rattle.manual.specs.Places.{Place, mmx, integer, byte, zero_mark}
use Rattle.manual.specs.Addresses.{Address, address_of, is_stack_base, address, address_registers}

-- a register, so many bytes at an address, or the zero mark
pub data Location : Type 0 where
  mmx_register integer_register : ℕ → Location
  memory : Address → ℕ → Location
  zero_operand : Location

abbrev pub register_in : File → ℕ → Location
register_in mmx_file k = mmx_register k
register_in integer_file k = integer_register k

-- the operand that r/m names: a register at mod 11 (`mode` 3), else so many bytes in memory
unfoldable pub rm_of : File → ℕ → Operand → Location
rm_of file size w = cond (eqb w.mode 3) (register_in file w.rm) (memory (address_of w) size)

-- the address in EDI, which is integer register 7
abbrev pub at_edi : Address
at_edi = record { base = some 7; index = none; scale = 0; displacement = 0 }

-- the operand of a slot (where rm must be a register, every other mod is refused by 6; where it must not, mod 11 is; what is fixed is never taken
-- or given)
abbrev pub locate : Instruction → Slot → Location
locate i (reg file) = register_in file i.operand.reg
locate i (rm file) = register_in file i.operand.rm
locate i (rm/mem file size) = rm_of file size i.operand
locate i (mem size) = rm_of mmx_file size i.operand
locate i (edi size) = memory at_edi size
locate i (fixed k) = mmx_register k
locate i (opcode file) = register_in file (i.first % 8)
locate i zero_slot = zero_operand

-- the bytes from an address on, so many: the operand itself never wraps
abbrev pub bytes_from : ℕ → ℕ → List Place
bytes_from a zero = []
bytes_from a (suc size) = byte a ∷ bytes_from (a + 1) size

-- the operand test, in a memory of so many bytes (`room`): all its bytes are below that
abbrev pub lies_inside : ℕ → ℕ → ℕ → Bool
lies_inside room size a = leb (a + size) room

-- the refusal of an operand at an address that misses the memory: 14 where its base register is one of the stack's, else 10
abbrev pub miss_of : Address → ℕ
miss_of a = cond (is_stack_base a.base) outside_by_stack outside_memory

-- its places, or the refusal of a miss
abbrev pub tested : ℕ → ℕ → ℕ → ℕ → Result (List Place)
tested miss room size a = cond (lies_inside room size a) (done (bytes_from a size)) (refused miss)

-- the places of an operand in a state
abbrev pub places_of : State → Location → Result (List Place)
places_of s (mmx_register k) = done (mmx k ∷ [])
places_of s (integer_register k) = done (integer k ∷ [])
places_of s (memory a size) = tested (miss_of a) (length s.memory) size (address s.integers a)
places_of s zero_operand = done (zero_mark ∷ [])

-- the integer registers that decide where it is
abbrev pub registers_behind : Location → List ℕ
registers_behind (mmx_register k) = []
registers_behind (integer_register k) = []
registers_behind (memory a size) = address_registers a
registers_behind zero_operand = []
