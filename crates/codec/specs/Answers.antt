-- What reading and writing come to, in document 01's numbers, and what each case of the code's answers says of it.
use Rattle.std.specs.Prelude.{ℕ, List, Result, Ok, Err}
use Rattle.refusals.specs.declared.Refusal.{Refusal}
use Rattle.refusals.specs.Numbers.{number_of}
use Rattle.codec.specs.declared.Instruction.{Instruction}

-- what reading comes to
pub data Decoded : Type 0 where
  -- the instruction, and how many bytes have been read
  good : Instruction → ℕ → Decoded
  -- the refusal's number
  refused : ℕ → Decoded

-- the paper's answer for each case of the reader's
abbrev pub paper_of_reading : Result (Instruction × ℕ) Refusal → Decoded
paper_of_reading (Ok (instruction, size)) = good instruction size
paper_of_reading (Err refusal) = refused (number_of refusal)

-- what writing comes to, with what is then in the buffer
pub data Written : Type 0 where
  -- the instruction's length
  wrote : ℕ → List ℕ → Written
  -- the refusal's number
  refused_with : ℕ → List ℕ → Written

-- the paper's answer for each case of the writer's
abbrev pub paper_of_writing : Result ℕ Refusal → List ℕ → Written
paper_of_writing (Ok size) buffer = wrote size buffer
paper_of_writing (Err refusal) buffer = refused_with (number_of refusal) buffer
