-- A run that goes on: where it was spent, the rest of the code is run alone, and its position and count are added.
use Rattle.std.specs.Prelude.{◌≡◌, refl, List, ℕ, ◌+◌, ◌-◌, ◌≤◌, length, take, drop}
use Rattle.basis.proofs.Names.{sym, ap, subst, ◌∙◌, arith, rules, length-drop, take_all}
use Rattle.reorder.proofs.Parting.{counted_from}
use Rattle.manual.specs.State.{State}
use Rattle.manual.specs.Runs.{run_of}
use Rattle.manual.proofs.Bounds.{Bounded, run_bounded}
use Rattle.manual.proofs.Parting.{rest_runs}
use Rattle.machine.specs.declared.End.{End}
use Rattle.machine.specs.declared.End.TheVariants.{Done, Spent, Refused}
use Rattle.machine.specs.declared.Ran.{Ran}
use Rattle.machine.specs.State.{state_of}
use Rattle.machine.specs.Runs.{paper_of_end, paper_of_run}
use Rattle.studio.specs.Whys.{budget}
use Rattle.studio.specs.inner.Parts.{continued, Partly}

-- what a run hands back is within the code and the budget
handed_within : (code : List ℕ) (given : ℕ) (s : State) (ran : Ran) (memory : List ℕ) → paper_of_run ran memory ≡ run_of 0 code given s
    → (ran.at ≤ length code) × (ran.count ≤ given)
handed_within code given s ran memory h = by ran.end (subst (Bounded code given s) (sym h) (run_bounded 0 code given s))
  where
    by : (e : End) → Bounded code given s (paper_of_end e ran.at ran.count (state_of ran.machine memory)) → (ran.at ≤ length code) × (ran.count ≤ given)
    by Done b = (b.position, b.completed_steps)
    by Spent b = (b.position, b.completed_steps)
    by (Refused n) (small, b) = (b.position, b.completed_steps)

-- an answer that is counted on
counted_on : (e : End) (position count at total : ℕ) (s : State) → paper_of_end e (position + at) (count + total) s ≡ counted_from position count (paper_of_end e at total s)
counted_on Done position count at total s = refl
counted_on Spent position count at total s = refl
counted_on (Refused n) position count at total s = refl

module _ (code : List ℕ) (more : ℕ) (ran : Ran) (memory : List ℕ) (partly : Partly code more (paper_of_run ran memory)) where
  -- so far
  within : (ran.at ≤ length code) × (ran.count ≤ partly.given)
  within = handed_within code partly.given partly.start ran memory partly.comes

  pub starts_within : ran.at ≤ length code
  starts_within = within.0

  -- the rest of the code, run alone
  module _ (rest : Ran) (after : List ℕ) (h : paper_of_run rest after ≡ run_of 0 (take (length code - ran.at) (drop ran.at code)) more (state_of ran.machine memory)) where
    ran_on : paper_of_run rest after ≡ run_of 0 (drop ran.at code) more (state_of ran.machine memory)
    ran_on =
        h ∙ ap (λ (bytes : List ℕ). run_of 0 bytes more (state_of ran.machine memory))
        (take_all (length code - ran.at) (drop ran.at code) (omega (arith, length-drop ran.at code)))

    rest_within : (rest.at ≤ length (drop ran.at code)) × (rest.count ≤ more)
    rest_within = handed_within (drop ran.at code) more (state_of ran.machine memory) rest after ran_on

    pub ends_within : ran.at + rest.at ≤ length code
    ends_within = omega (arith, within, rest_within, length-drop ran.at code)

    pub counts_within : ran.count + rest.count ≤ budget
    counts_within = omega (arith, partly.small, within, rest_within)

    pub goes_further : ran.end ≡ Spent
        → paper_of_run (record { end = rest.end; at = ran.at + rest.at; count = ran.count + rest.count; machine = rest.machine }) after ≡ continued code more (paper_of_run ran memory)
    goes_further e =
        counted_on rest.end ran.at ran.count rest.at rest.count (state_of rest.machine after)
        ∙ ap (counted_from ran.at ran.count) ran_on
        ∙ simp e
        (sym (rest_runs 0 code partly.start partly.given ran.at ran.count (state_of ran.machine memory) partly.straight (simp e at (sym partly.comes)) more))

pub ruleset continuing = (rules, starts_within, goes_further)
