-- Where the code finds the operand that r/m names.
use Rattle.std.specs.Prelude.{cond, List, [], ◌∷◌, ℕ, ◌<◌}
use Rattle.reorder.specs.Result.{Result, done, refused}
use Rattle.codec.specs.Forms.{Use, File, mmx_file, Slot, reg, rm, rm/mem, mem, edi, fixed, opcode, zero_slot, memory_size}
use Rattle.codec.specs.Table.{form_of}
use Rattle.codec.specs.declared.Operand.{Operand}
use Rattle.manual.specs.Addresses.{address}
use Rattle.manual.specs.Locations.{Location, mmx_register, integer_register, memory, zero_operand, rm_of, lies_inside, miss_of}
use Rattle.machine.specs.declared.operands.Spot.{Spot}
use Rattle.machine.specs.declared.operands.Spot.TheVariants.{Mmx, Integer, Bytes}

-- the registers that r/m may name, by a form's operands (where the operand is in memory alone, any will do)
abbrev pub file_in : List (Use × Slot) → File
file_in [] = mmx_file
file_in ((how, reg file) ∷ xs) = file_in xs
file_in ((how, rm file) ∷ xs) = file
file_in ((how, rm/mem file size) ∷ xs) = file
file_in ((how, mem size) ∷ xs) = mmx_file
file_in ((how, edi size) ∷ xs) = mmx_file
file_in ((how, fixed k) ∷ xs) = file_in xs
file_in ((how, opcode file) ∷ xs) = file_in xs
file_in ((how, zero_slot) ∷ xs) = file_in xs

-- the operand of r/m, by the form's number
abbrev pub other_of : ℕ → Operand → Location
other_of number w = rm_of (file_in (form_of number).operands) (memory_size (form_of number)) w

-- where an operand is, with these integer registers and so much memory (r/m never names the zero mark)
abbrev pub spot_of : List ℕ → ℕ → Location → Result Spot
spot_of integers room (mmx_register k) = done (Mmx k)
spot_of integers room (integer_register k) = done (Integer k)
spot_of integers room (memory a size) = cond (lies_inside room size (address integers a)) (done (Bytes (address integers a) size)) (refused (miss_of a))
spot_of integers room zero_operand = done (Mmx 0)

-- the register that it names is there
abbrev pub Named : Spot → Type 0
Named (Mmx k) = k < 8
Named (Integer k) = k < 8
Named (Bytes a size) = Unit {0}

abbrev pub NamedIn : Result Spot → Type 0
NamedIn (done x) = Named x
NamedIn (refused n) = Unit {0}
