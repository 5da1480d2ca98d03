-- A run that is watched: its parts, one after the other, are the run; and what is traced at what a part has come to is the footprint of the
-- instruction with that number.
use Rattle.std.specs.Prelude.{◌≡◌, true, List, ℕ, ◌+◌, ◌-◌, ◌≤◌}
use Rattle.basis.proofs.Names.{sym, ap, ap₂, ◌∙◌, arith}
use Rattle.reorder.specs.Result.{map_result}
use Rattle.reorder.specs.Run.{Answer, position_reached, state_reached}
use Rattle.manual.specs.State.{State}
use Rattle.manual.specs.Runs.{run_of, has_no_jump}
use Rattle.manual.specs.Footprints.{footprint_at, footprint_in_run}
use Rattle.manual.proofs.Parting.{run_parted}
use Rattle.machine.specs.declared.Ran.{Ran}
use Rattle.machine.specs.State.{state_of}
use Rattle.machine.specs.Runs.{paper_of_run}
use Rattle.machine.specs.Footprints.{masked, masked_at}
use Rattle.machine.proofs.Program.{position_handed, state_handed}
use Rattle.studio.specs.Whys.{budget}
use Rattle.studio.specs.inner.Parts.{continued, Partly}

module _ (code : List ℕ) (s : State) where
  -- a part of the run, continued to the whole of it
  pub carried_on : (given whole : ℕ) (answer : Answer State) → given ≤ whole → answer ≡ run_of 0 code given s
      → continued code (whole - given) answer ≡ run_of 0 code whole s
  carried_on given whole answer b e =
      ap (continued code (whole - given)) e ∙ sym (run_parted 0 code s given (whole - given)) ∙ ap (λ (n : ℕ). run_of 0 code n s) all
    where
      all : given + (whole - given) ≡ whole
      all = omega arith

  pub a_part : (given whole : ℕ) (answer : Answer State) → has_no_jump code ≡ true → given ≤ whole → whole ≤ budget → answer ≡ run_of 0 code given s
      → Partly code (whole - given) answer
  a_part given whole answer straight b small e = record { straight = straight; start = s; given = given; small = omega arith; comes = e }

  -- the footprint at what a run of k instructions hands back
  pub footprint_there : (k : ℕ) (ran : Ran) (memory : List ℕ) → paper_of_run ran memory ≡ run_of 0 code k s
      → masked_at code ran.at (state_of ran.machine memory) ≡ map_result masked (footprint_in_run 0 code s k)
  unfolding masked_at
  footprint_there k ran memory h =
      let t = state_of ran.machine memory in
      ap (map_result masked)
      (ap₂ (footprint_at 0 code) (sym (position_handed ran.end ran.at ran.count t) ∙ ap position_reached h)
      (sym (state_handed ran.end ran.at ran.count t) ∙ ap state_reached h))
