-- The run as the code's loop takes it: what is left of the run after each turn is the whole run, since a turn is a step at its position.
use Rattle.std.specs.Prelude.{Result, Ok, Err, ◌≡◌, Bool, true, false, List, ℕ, zero, suc, ◌-◌, ◌≤◌, ◌<◌, eqb, length}
use Rattle.basis.proofs.Names.{sym, ap, subst, ◌∙◌, sub_self, arith, rules, eq-eqb, ne_eqb, le-ltb, lt-ltb}
use Rattle.reorder.specs.Run.{Answer, finished, spent, run_from}
use Rattle.codec.specs.Reads.{longest_code}
use Rattle.codec.specs.Refusals.{code_too_long}
use Rattle.manual.specs.declared.Marks.{Marks}
use Rattle.manual.specs.Refusals.{memory_too_long, floor_too_high}
use Rattle.manual.specs.State.{State, longest_memory}
use Rattle.manual.specs.Instructions.{execute}
use Rattle.manual.specs.Jumps.{next}
use Rattle.manual.specs.Steps.{completed, refused_with, step_at}
use Rattle.manual.specs.Reasons.{Fits}
use Rattle.manual.specs.Runs.{read, run_of}
use Rattle.manual.proofs.Turns.{within_limits, onward, turn}
use Rattle.manual.proofs.Bounds.{step_within}
use Rattle.machine.specs.declared.End.TheVariants.{Done, Spent, Refused}
use Rattle.machine.specs.declared.Machine.{Machine}
use Rattle.works.specs.declared.performing.Moved.{Moved}
use Rattle.machine.specs.State.{state_of}
use Rattle.machine.specs.Runs.{paper_of_run}
use Rattle.works.specs.Bars.{barred_by}
use Rattle.works.specs.Works.{left}
use Rattle.machine.specs.inner.Works.{machine_of, renewed, outcome_of, Advanced}
use Rattle.machine.specs.inner.Runs.{remaining}

-- the tests of the limits, and then the run from position 0 on
module _ (floor : ℕ) (code : List ℕ) (budget : ℕ) (k : Machine) (m : List ℕ) where
  pub run_memory : longest_memory < length m → paper_of_run (record { end = Refused memory_too_long; at = 0; count = 0; machine = k }) m ≡ run_of floor code budget (state_of k m)
  unfolding run_of
  run_memory h = simp (lt-ltb longest_memory (length m) h)

  pub run_floor : length m ≤ longest_memory → length m < floor → paper_of_run (record { end = Refused floor_too_high; at = 0; count = 0; machine = k }) m ≡ run_of floor code budget (state_of k m)
  unfolding run_of
  run_floor h g = simp (le-ltb longest_memory (length m) h, lt-ltb (length m) floor g)

  module _ (memory_fits : length m ≤ longest_memory) (floor_fits : floor ≤ length m) where
    abbrev fits : Fits floor (state_of k m)
    fits = within_limits floor (state_of k m) memory_fits floor_fits

    pub run_code : longest_code < length code → paper_of_run (record { end = Refused code_too_long; at = 0; count = 0; machine = k }) m ≡ run_of floor code budget (state_of k m)
    unfolding run_of
    run_code h = simp (fits.memory_fits, fits.floor_fits, lt-ltb longest_code (length code) h)

    pub run_whole : (R : Answer State) → length code ≤ longest_code → R ≡ remaining floor budget code 0 0 (state_of k m) → R ≡ run_of floor code budget (state_of k m)
    unfolding run_of remaining
    run_whole R h e = simp (fits.memory_fits, fits.floor_fits, le-ltb longest_code (length code) h) e

-- at the start all of the budget is left
pub run_starts : (floor : ℕ) (code : List ℕ) (at budget : ℕ) (s : State) → remaining floor budget code at (budget - budget) s ≡ remaining floor budget code at 0 s
run_starts floor code at budget s = rw sub_self

-- a run that comes to R, at a turn with so much left of its budget
module _ (floor : ℕ) (code : List ℕ) (at rest budget : ℕ) (R : Answer State) where
  -- the instructions completed
  abbrev count : ℕ
  count = budget - rest

  -- at the code's end, and with nothing left
  module _ (k : Machine) (m : List ℕ) (run : remaining floor rest code at count (state_of k m) ≡ R) where
    pub run_done : length code ≤ at → at ≤ length code → paper_of_run (record { end = Done; at = at; count = count; machine = k }) m ≡ R
    unfolding remaining
    run_done h g = by rest run
      where
        ends : eqb at (length code) ≡ true
        ends = eq-eqb at (length code) (omega arith)

        by : (n : ℕ) → run_from read (execute floor) next n code at count (state_of k m) ≡ R → finished at count (state_of k m) ≡ R
        by zero z = simp ends at z
        by (suc n) z = simp ends at z

    pub run_spent : at < length code → rest ≡ 0 → paper_of_run (record { end = Spent; at = at; count = budget; machine = k }) m ≡ R
    unfolding remaining
    run_spent h e =
        let all : budget ≡ count = omega arith in
        let more : eqb at (length code) ≡ false = ne_eqb at (length code) (λ z. omega arith) in
        ap (λ (n : ℕ). spent at n (state_of k m)) all ∙ (simp more at (subst (λ (n : ℕ). run_from read (execute floor) next n code at count (state_of k m) ≡ R) e run))

  -- a step over lent registers
  module _ (registers integers m : List ℕ) (marks : Marks) (run : remaining floor rest code at count (state_of (machine_of registers integers marks) m) ≡ R)
      (here : at < length code) (within : rest ≤ budget) (unspent : rest ≡ 0 → ⊥) (code_fits : length code ≤ longest_code)
      (m₀ : List ℕ) (kept : length m ≡ length m₀) (memory_fits : length m₀ ≤ longest_memory) (floor_fits : floor ≤ length m₀)
      (answer : Result Moved ℕ) (registers' integers' m' : List ℕ) (bar : ℕ) (barred : bar ≡ barred_by marks)
      (valid zero : Bool) (tag : valid ≡ marks.valid) (mark : zero ≡ marks.zero) (advanced : Advanced answer registers integers bar valid zero code at m floor registers' integers' m') where
    abbrev s : State
    s = state_of (machine_of registers integers marks) m

    -- how the run goes on after it
    abbrev after : ℕ → ℕ → State → Answer State
    after = run_from read (execute floor) next (rest - 1) code

    within_both : Fits floor s
    within_both = within_limits floor s (omega arith) (omega arith)

    turned : onward after count (step_at floor code at s) ≡ R
    unfolding remaining
    turned =
        sym (turn floor code at s within_both (le-ltb longest_code (length code) code_fits) (rest - 1) count (ne_eqb at (length code) (λ z. omega arith)))
        ∙ ap (λ (n : ℕ). run_from read (execute floor) next n code at count s) one ∙ run
      where
        one : suc (rest - 1) ≡ rest
        one = omega (arith, unspent)

    -- it completed
    module _ (moved : Moved) (e : answer ≡ Ok moved) where
      abbrev t : State
      t = state_of (machine_of registers' integers' (renewed marks moved.valid moved.zero)) m'

      completes : completed moved.next t ≡ step_at floor code at s
      completes = ap (λ (a : Result Moved ℕ). outcome_of marks at (left a registers' integers' m')) (sym e) ∙ advanced.ends marks barred tag mark

      pub run_within : moved.next ≤ length code
      run_within = step_within floor code (le-ltb longest_code (length code) code_fits) at moved.next s t within_both (sym completes)

      pub run_on : remaining floor (rest - 1) code moved.next (budget - (rest - 1)) t ≡ R
      unfolding remaining
      run_on = ap (λ (n : ℕ). after moved.next n t) one_more ∙ ap (onward after count) completes ∙ turned
        where
          one_more : budget - (rest - 1) ≡ suc count
          one_more = omega (arith, unspent)

    pub run_refused : (n : ℕ) → answer ≡ Err n
        → paper_of_run (record { end = Refused n; at = at; count = count; machine = machine_of registers' integers' marks }) m' ≡ R
    run_refused n e =
        let refuses : refused_with n at (state_of (machine_of registers' integers' marks) m') ≡ step_at floor code at s =
        ap (λ (a : Result Moved ℕ). outcome_of marks at (left a registers' integers' m')) (sym e) ∙ advanced.ends marks barred tag mark in
        ap (onward after count) refuses ∙ turned

-- the tag mark and the zero mark bar nothing
pub still_barred : (bar : ℕ) (marks : Marks) (tag mark : Bool) → bar ≡ barred_by marks → bar ≡ barred_by (renewed marks tag mark)
unfolding barred_by
still_barred bar marks tag mark h = h

pub ruleset starting = (rules, run_memory, run_floor, run_code, run_whole)

pub ruleset turning = (rules, run_starts, run_spent, run_done, run_within, run_on, still_barred)
