-- The run from a position on, as the loop of the code takes it.
use Rattle.std.specs.Prelude.{List, ℕ}
use Rattle.reorder.specs.Run.{Answer, run_from}
use Rattle.manual.specs.State.{State}
use Rattle.manual.specs.Instructions.{execute}
use Rattle.manual.specs.Jumps.{next}
use Rattle.manual.specs.Runs.{read}

-- over a floor, with what is left of its budget, and the count of instructions completed before the position
unfoldable pub remaining : ℕ → ℕ → List ℕ → ℕ → ℕ → State → Answer State
remaining floor budget code at count s = run_from read (execute floor) next budget code at count s
