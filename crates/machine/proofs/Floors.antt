-- No byte below a floor is changed in the memory that is lent: by a call of Machine::run, and by a step that meets its contract.
use Rattle.std.specs.Prelude.{◌≡◌, refl, List, ℕ, take, Result, Ok, Err}
use Rattle.basis.proofs.Names.{sym, ap, ◌∙◌}
use Rattle.reorder.specs.Run.{Answer, state_reached}
use Rattle.manual.specs.State.{State}
use Rattle.manual.specs.Steps.{step_at}
use Rattle.manual.proofs.Floors.{state_after, step_keeps, run_keeps}
use Rattle.machine.specs.declared.Machine.{Machine}
use Rattle.machine.specs.declared.Stepped.{Stepped}
use Rattle.machine.specs.declared.Ran.{Ran}
use Rattle.machine.specs.State.{state_of}
use Rattle.machine.specs.Steps.{paper_of_taken, paper_of_step}
use Rattle.machine.proofs.Calls.{RunCall, run_says}
use Rattle.machine.proofs.Program.{state_handed}

module _ (machine : Machine) (code memory : List ℕ) (floor : ℕ) (after : List ℕ) where
  pub run_keeps_memory : (budget : ℕ) (answer : Ran) → RunCall machine code memory floor budget answer after → take floor after ≡ take floor memory
  run_keeps_memory budget answer call =
      sym (ap (λ (s : State). take floor s.memory) (state_handed answer.end answer.at answer.count (state_of answer.machine after)))
      ∙ ap (λ (a : Answer State). take floor (state_reached a).memory) (run_says machine code memory floor budget answer after call)
      ∙ run_keeps floor code budget (state_of machine memory)

  pub step_keeps_memory : (at : ℕ) (stepped : Stepped) → paper_of_step stepped after ≡ step_at floor code at (state_of machine memory) → take floor after ≡ take floor memory
  step_keeps_memory at stepped contract =
      sym (left stepped.answer) ∙ ap (λ o. take floor (state_after o).memory) contract ∙ step_keeps floor code at (state_of machine memory)
    where
      left : (t : Result (Unit {0}) ℕ) → take floor (state_after (paper_of_taken t stepped.at (state_of stepped.machine after))).memory ≡ take floor after
      left (Ok u) = refl
      left (Err n) = refl
