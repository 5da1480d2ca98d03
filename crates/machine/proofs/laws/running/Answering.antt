-- The step of a machine by value answers as a run of one instruction ended. Rules for `step`.
use Rattle.std.specs.Prelude.{Result, Ok, Err, ◌≡◌, refl, Bool, true, false, cond, List, ℕ, ◌≤◌, ◌<◌, eqb, length}
use Rattle.basis.proofs.Names.{ap, ◌∙◌, arith, rules, ne_eqb, le-ltb, lt-ltb, drop_of_length-le}
use Rattle.reorder.specs.Run.{Answer, finished, spent, stopped, run_from}
use Rattle.codec.specs.Refusals.{code_too_long, code_ends}
use Rattle.codec.specs.Reads.{longest_code, instruction_reader, read_at}
use Rattle.manual.specs.Refusals.{memory_too_long, floor_too_high}
use Rattle.manual.specs.State.{State, longest_memory}
use Rattle.manual.specs.Instructions.{execute}
use Rattle.manual.specs.Jumps.{next}
use Rattle.manual.specs.Steps.{Outcome, completed, refused_with, instruction_at, step_at}
use Rattle.manual.specs.Reasons.{Fits}
use Rattle.manual.specs.Runs.{read}
use Rattle.manual.proofs.Turns.{within_limits, onward, turn}
use Rattle.machine.specs.declared.End.{End}
use Rattle.machine.specs.declared.End.TheVariants.{Done, Spent}
use Rattle.machine.specs.declared.End.TheVariants as end
use Rattle.machine.specs.declared.Machine.{Machine}
use Rattle.machine.specs.declared.Ran.{Ran}
use Rattle.machine.specs.State.{state_of}
use Rattle.machine.specs.Steps.{paper_of_step}
use Rattle.machine.specs.Runs.{paper_of_end, paper_of_run}
use Rattle.machine.specs.inner.Runs.{remaining}

-- how a run of one instruction ended, as the outcome of its step
abbrev taken : Answer State → Outcome
taken (finished at count s) = completed at s
taken (spent at count s) = completed at s
taken (stopped n at count s) = refused_with n at s

module _ (floor : ℕ) (code : List ℕ) (at : ℕ) (k : Machine) (m : List ℕ) where
  -- what is handed back is the step at the position
  abbrev Answers : Result (Unit {0}) ℕ → Machine → ℕ → List ℕ → Type 0
  Answers answer k' next m' = paper_of_step (record { answer = answer; machine = k'; at = next }) m' ≡ step_at floor code at (state_of k m)

  -- the tests of the limits, and of the code's end
  pub step_memory : longest_memory < length m → Answers (Err memory_too_long) k at m
  unfolding step_at instruction_at
  step_memory h = simp (lt-ltb longest_memory (length m) h)

  pub step_floor : length m ≤ longest_memory → length m < floor → Answers (Err floor_too_high) k at m
  unfolding step_at instruction_at
  step_floor h g = simp (le-ltb longest_memory (length m) h, lt-ltb (length m) floor g)

  module _ (memory_fits : length m ≤ longest_memory) (floor_fits : floor ≤ length m) where
    abbrev fits : Fits floor (state_of k m)
    fits = within_limits floor (state_of k m) memory_fits floor_fits

    pub step_code : longest_code < length code → Answers (Err code_too_long) k at m
    unfolding step_at instruction_at read_at
    step_code h = simp (fits.memory_fits, fits.floor_fits, lt-ltb longest_code (length code) h)

    module _ (code_fits : length code ≤ longest_code) where
      pub step_ends : length code ≤ at → Answers (Err code_ends) k at m
      unfolding step_at instruction_at read_at instruction_reader
      step_ends h = simp (fits.memory_fits, fits.floor_fits, le-ltb longest_code (length code) code_fits, drop_of_length-le code h)

      -- a run of one instruction ends as the step
      once : at < length code → taken (remaining floor 1 code at 0 (state_of k m)) ≡ step_at floor code at (state_of k m)
      unfolding remaining
      once h =
          let code_short = le-ltb longest_code (length code) code_fits in
          let more = ne_eqb at (length code) (λ z. omega arith) in
          ap taken (turn floor code at (state_of k m) fits code_short 0 0 more) ∙ by (step_at floor code at (state_of k m))
        where
          either : (t : Bool) (next : ℕ) (s : State) → taken (cond t (finished next 1 s) (spent next 1 s)) ≡ completed next s
          either true next s = refl
          either false next s = refl

          by : (o : Outcome) → taken (onward (run_from read (execute floor) next 0 code) 0 o) ≡ o
          by (completed next s) = either (eqb next (length code)) next s
          by (refused_with n next s) = refl

      -- so the step is what is handed back by how that run ended
      module _ (here : at < length code) (r : Ran) (m' : List ℕ) (run : paper_of_run r m' ≡ remaining floor 1 code at 0 (state_of k m)) where
        by_end : (e : End) → r.end ≡ e → taken (paper_of_end e r.at r.count (state_of r.machine m')) ≡ step_at floor code at (state_of k m)
        by_end e h = ap taken (simp h at run) ∙ once here

        pub step_done : r.end ≡ Done → Answers (Ok tt) r.machine r.at m'
        step_done h = by_end Done h

        pub step_spent : r.end ≡ Spent → Answers (Ok tt) r.machine r.at m'
        step_spent h = by_end Spent h

        pub step_refused : (n : ℕ) → r.end ≡ end.Refused n → Answers (Err n) r.machine r.at m'
        step_refused n h = by_end (end.Refused n) h

pub ruleset answering = (rules, step_memory, step_floor, step_code, step_ends, step_done, step_spent, step_refused)
