-- The run with its budget, over a floor; and whether reading from 0 onward reaches a jump.
use Rattle.std.specs.Prelude.{Bool, not, ◌&&◌, cond, List, ℕ, ltb, length}
use Rattle.reorder.specs.Result.{Result}
use Rattle.reorder.specs.Run.{Fetched, Answer, stopped, run}
use Rattle.reorder.specs.Block.{reaches}
use Rattle.codec.specs.Refusals.{code_too_long}
use Rattle.codec.specs.Reads.{longest_code, read_part}
use Rattle.codec.specs.declared.Instruction.{Instruction}
use Rattle.manual.specs.Refusals.{memory_too_long, floor_too_high}
use Rattle.manual.specs.State.{State, is_too_long, is_too_high}
use Rattle.manual.specs.Instructions.{execute}
use Rattle.manual.specs.Jumps.{is_jump, next}
use Rattle.manual.specs.Steps.{result_of}

-- reading what is left of a code
unfoldable pub read : List ℕ → Result (Fetched Instruction)
read rest = result_of (read_part rest)

-- 1, 20 and 2 first; then, before each instruction: at the code's end done, with nothing left of the budget spent, else a step
unfoldable pub run_of : ℕ → List ℕ → ℕ → State → Answer State
run_of floor code budget s =
    cond (is_too_long s.memory) (stopped memory_too_long 0 0 s)
    (cond (is_too_high floor s.memory) (stopped floor_too_high 0 0 s)
    (cond (ltb longest_code (length code)) (stopped code_too_long 0 0 s)
    (run read (execute floor) next budget code s)))

-- reading from 0 onward reaches a jump: not in a code that is too long, of which reading gives 2 at once
abbrev pub reaches_jump : List ℕ → Bool
reaches_jump code = not (ltb longest_code (length code)) && reaches read is_jump code

-- a block without a jump
abbrev pub has_no_jump : List ℕ → Bool
has_no_jump code = not (reaches_jump code)
