-- A run that is taken in parts, and the footprints that are traced between them.
use Rattle.std.specs.Prelude.{◌≡◌, true, List, ℕ, ◌+◌, ◌≤◌}
use Rattle.reorder.specs.Result.{map_result}
use Rattle.reorder.specs.Run.{Answer}
use Rattle.reorder.specs.inner.Parts as parts
use Rattle.manual.specs.State.{State}
use Rattle.manual.specs.Instructions.{execute}
use Rattle.manual.specs.Jumps.{next}
use Rattle.manual.specs.Runs.{read, run_of, has_no_jump}
use Rattle.manual.specs.Footprints.{footprint_in_run}
use Rattle.machine.specs.declared.Footprint.{Footprint}
use Rattle.refusals.specs.declared.Refusal.{Refusal}
use Rattle.std.specs.Prelude as code
use Rattle.machine.specs.Runs.{paper_of_run}
use Rattle.machine.specs.Footprints.{masked, paper_of_footprint}
use Rattle.studio.specs.declared.whys.Watched.{Watched}
use Rattle.studio.specs.Whys.{budget}

-- a run over floor 0, with so much more of its budget
abbrev pub continued : List ℕ → ℕ → Answer State → Answer State
continued = parts.continued read (execute 0) next

-- what a part of a block's run has come to: the block has no jump, and with so much more of its budget the run is within a question's
pub record Partly (code : List ℕ) (more : ℕ) (answer : Answer State) : Type 0 where
  pub straight : has_no_jump code ≡ true
  pub start : State
  pub given : ℕ
  pub small : given + more ≤ budget
  pub comes : answer ≡ run_of 0 code given start

-- what was traced is the footprint of instruction k
abbrev pub Traces : List ℕ → State → ℕ → code.Result Footprint Refusal → Type 0
Traces code s k traced = paper_of_footprint traced ≡ map_result masked (footprint_in_run 0 code s k)

-- a question's run, with the footprints of two of its instructions
pub record Watches (code : List ℕ) (s : State) (low high : ℕ) (watched : Watched) (memory : List ℕ) : Type 0 where
  pub runs : paper_of_run watched.ran memory ≡ run_of 0 code budget s
  pub first : Traces code s low watched.first
  pub second : Traces code s high watched.second
