-- No run of a page without a jump is spent: the longest code has no more instructions than the budget. So a larger one would print the same.
use Rattle.std.specs.Prelude.{◌≡◌, refl, true, List, ℕ, ◌≤◌}
use Rattle.basis.proofs.Names.{arith}
use Rattle.reorder.specs.Run.{Answer, finished, spent, stopped}
use Rattle.reorder.proofs.Endings.{Ended}
use Rattle.manual.specs.State.{State}
use Rattle.manual.specs.Runs.{run_of, has_no_jump}
use Rattle.manual.proofs.Endings.{never_spent, larger_budget}
use Rattle.machine.specs.State.{state_of}
use Rattle.machine.specs.Starts.{start_of}
use Rattle.pagefile.specs.Parsing.{code_of, mmx_of, integers_of}
use Rattle.player.specs.Page.{budget, run_in}

module _ (memory : List ℕ) (marks : ℕ) (file : List ℕ) (straight : has_no_jump (code_of file) ≡ true) where
  abbrev start : State
  start = state_of (start_of (mmx_of file) (integers_of file) marks) memory

  pub unspent : (at count : ℕ) (t : State) → run_in memory marks file ≡ spent at count t → ⊥
  unfolding run_in
  unspent at count t h = never_spent 0 (code_of file) budget start at count t straight (omega arith) h

  pub any_budget : (more : ℕ) → budget ≤ more → run_of 0 (code_of file) more start ≡ run_in memory marks file
  unfolding run_in
  any_budget more b = larger_budget 0 (code_of file) budget start more b (ended (run_in memory marks file) refl)
    where
      ended : (a : Answer State) → run_in memory marks file ≡ a → Ended a
      ended (finished at count t) h = tt
      ended (spent at count t) h = unspent at count t h
      ended (stopped n at count t) h = tt
