-- The paper's answer for what a step hands back.
use Rattle.std.specs.Prelude.{List, ℕ, Result, Ok, Err}
use Rattle.manual.specs.State.{State}
use Rattle.manual.specs.Steps.{Outcome, completed, refused_with}
use Rattle.machine.specs.declared.Stepped.{Stepped}
use Rattle.machine.specs.State.{state_of}

-- the paper's answer for each case of the step's
abbrev pub paper_of_taken : Result (Unit {0}) ℕ → ℕ → State → Outcome
paper_of_taken (Ok u) at s = completed at s
paper_of_taken (Err n) at s = refused_with n at s

-- what a step hands back, with what is then in the lent memory
abbrev pub paper_of_step : Stepped → List ℕ → Outcome
paper_of_step r memory = paper_of_taken r.answer r.at (state_of r.machine memory)
