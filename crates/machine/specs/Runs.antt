-- The paper's answer for what a run hands back.
use Rattle.std.specs.Prelude.{List, ℕ}
use Rattle.reorder.specs.Run.{Answer, finished, spent, stopped}
use Rattle.manual.specs.State.{State}
use Rattle.machine.specs.declared.End.{End}
use Rattle.machine.specs.declared.End.TheVariants.{Done, Spent, Refused}
use Rattle.machine.specs.declared.Ran.{Ran}
use Rattle.machine.specs.State.{state_of}

-- the paper's answer for each case of a run's end, with the position reached, the count of instructions completed and the state
abbrev pub paper_of_end : End → ℕ → ℕ → State → Answer State
paper_of_end Done at count s = finished at count s
paper_of_end Spent at count s = spent at count s
paper_of_end (Refused n) at count s = stopped n at count s

-- what a run hands back, with what is then in the lent memory
abbrev pub paper_of_run : Ran → List ℕ → Answer State
paper_of_run r memory = paper_of_end r.end r.at r.count (state_of r.machine memory)
