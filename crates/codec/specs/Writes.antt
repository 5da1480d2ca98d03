-- The bytes of a record, and what the writer answers and leaves in its buffer.
use Rattle.std.specs.Prelude.{ℕ, List, [], ◌∷◌, ◌++◌, cond, leb, length, drop}
use Rattle.words.specs.Number.{bytes}
use Rattle.codec.specs.Refusals.{no_bytes, buffer_ends}
use Rattle.codec.specs.Answers.{Written, wrote, refused_with}
use Rattle.codec.specs.Forms.{Form, has_operand, immediate_size}
use Rattle.codec.specs.Opcodes.{form_for, opcode_bytes}
use Rattle.codec.specs.Operands.{joined, has_sib, displacement_size}
use Rattle.codec.specs.declared.Operand.{Operand}
use Rattle.codec.specs.declared.Instruction.{Instruction}
use Rattle.codec.specs.Fits.{has_bytes}

-- the SIB byte, if there is one
unfoldable pub sib_bytes : Operand → List ℕ
sib_bytes operand =
    cond (has_sib operand.mode operand.rm) (joined operand.scale operand.index operand.base ∷ []) []

-- the displacement, if there is one
unfoldable pub displacement_bytes : Operand → List ℕ
displacement_bytes operand =
    bytes (displacement_size operand.mode operand.rm operand.base) operand.displacement

-- the ModRM byte and both
unfoldable pub operand_bytes : Operand → List ℕ
operand_bytes operand =
    joined operand.mode operand.reg operand.rm ∷ (sib_bytes operand ++ displacement_bytes operand)

-- the operand and the immediate, as the form has them
unfoldable pub parts_bytes : Form → Operand → ℕ → List ℕ
parts_bytes form operand immediate =
    cond (has_operand form) (operand_bytes operand) [] ++ bytes (immediate_size form) immediate

-- the whole instruction
unfoldable pub bytes_of : Instruction → List ℕ
bytes_of instruction =
    opcode_bytes instruction.first instruction.second
    ++ parts_bytes (form_for instruction.first instruction.second) instruction.operand instruction.immediate

-- writing a record at the start of a buffer
unfoldable pub write_to : Instruction → List ℕ → Written
write_to instruction buffer =
    let size = length (bytes_of instruction) in
    cond (has_bytes instruction)
    (cond (leb size (length buffer))
    (wrote size (bytes_of instruction ++ drop size buffer))
    (refused_with buffer_ends buffer))
    (refused_with no_bytes buffer)
