-- Reading with a lent table: the entry of the opcode bytes, the instruction and the position after it, or the refusal's number.
use Rattle.std.specs.Prelude.{ℕ, List, cond, eqb, get_or, drop, Result, Ok, Err}
use Rattle.refusals.specs.declared.Refusal.{Refusal}
use Rattle.refusals.specs.Numbers.{number_of}
use Rattle.codec.specs.Table.{form_in, entry_of_first}
use Rattle.codec.specs.Opcodes.{escape}
use Rattle.codec.specs.Reader.{reads}
use Rattle.codec.specs.Reads.{instruction_reader}
use Rattle.codec.specs.declared.Instruction.{Instruction}
use Rattle.codec.specs.declared.Found.{Found}
use Rattle.codec.specs.Answers.{Decoded, good, refused}

-- a reading, with this entry
abbrev pub found : ℕ → Decoded → Result Found ℕ
found entry (good instruction next) = Ok (record { entry = entry; instruction = instruction; next = next })
found entry (refused refusal) = Err refusal

-- the entry of an instruction's opcode bytes: a table's for the second, or that of a first byte other than 0F
abbrev pub entry_for : List ℕ → Instruction → ℕ
entry_for table instruction =
    cond (eqb instruction.first escape) (get_or table instruction.second 0) (entry_of_first instruction.first)

-- a reading, with that entry
abbrev pub found_in : List ℕ → Decoded → Result Found ℕ
found_in table (good instruction next) = found (entry_for table instruction) (good instruction next)
found_in table (refused refusal) = Err refusal

-- reading at a position of a code by what the table says
unfoldable pub find_with : List ℕ → List ℕ → ℕ → Result Found ℕ
find_with table code at = found_in table (reads (instruction_reader (form_in table)) at (drop at code))

-- the same for each case of the code's answer
abbrev pub paper_of_found : Result Found Refusal → Result Found ℕ
paper_of_found (Ok found) = Ok found
paper_of_found (Err refusal) = Err (number_of refusal)
