-- One step at a position of the code, over a floor.
use Rattle.std.specs.Prelude.{cond, List, ℕ, ◌+◌, length}
use Rattle.reorder.specs.Result.{Result, done, refused, case_of}
use Rattle.reorder.specs.Run.{Fetched}
use Rattle.codec.specs.Reads.{read_at}
use Rattle.codec.specs.declared.Instruction.{Instruction}
use Rattle.codec.specs.Answers.{Decoded}
use Rattle.codec.specs.Answers as decoded
use Rattle.manual.specs.Refusals.{memory_too_long, floor_too_high}
use Rattle.manual.specs.State.{State, is_too_long, is_too_high}
use Rattle.manual.specs.Instructions.{execute}
use Rattle.manual.specs.Jumps.{next}

-- what a step comes to
pub data Outcome : Type 0 where
  -- the position of the next instruction, and the state that this one leaves
  completed : ℕ → State → Outcome
  -- the refusal's number, with the position and the state that the step was given
  refused_with : ℕ → ℕ → State → Outcome

-- what the reader found: an instruction and its size, or a refusal
abbrev pub result_of : Decoded → Result (Fetched Instruction)
result_of (decoded.good instruction size) = done (record { instruction = instruction; size = size })
result_of (decoded.refused n) = refused n

-- the instruction at a position, over a floor: 1, 20, then 2 to 6 by the reader
unfoldable pub instruction_at : ℕ → List ℕ → ℕ → State → Result (Fetched Instruction)
instruction_at floor code at s =
    cond (is_too_long s.memory) (refused memory_too_long)
    (cond (is_too_high floor s.memory) (refused floor_too_high)
    (result_of (read_at code at)))

-- what an instruction came to, with where the run goes on: a refusal changes nothing
abbrev pub concluded : ℕ → Result ℕ → State → Result State → Outcome
concluded at further s (done t) = case_of further (λ n. refused_with n at s) (λ position. completed position t)
concluded at further s (refused n) = refused_with n at s

-- 1, 20 and 2 to 6 where there is no instruction, then 7 to 10, 14, 21 and 22 by the instruction, then 19 by where the run goes on
unfoldable pub step_at : ℕ → List ℕ → ℕ → State → Outcome
step_at floor code at s =
    case_of (instruction_at floor code at s) (λ n. refused_with n at s)
    (λ read. concluded at (next (length code) read.instruction s (at + read.size)) s (execute floor read.instruction s))
