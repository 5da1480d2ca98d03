-- Calls of the program's functions: what was handed in, what was handed back and what is then in the lent memory. That the contract was met is what
-- the proof of each function shows of every call; and such calls can be had.
use Rattle.std.specs.Prelude.{◌≡◌, refl, Bool, List, [], ℕ, Result}
use Rattle.refusals.specs.declared.Refusal.{Refusal}
use Rattle.basis.proofs.Names.{sym, ap, ap₂, ◌∙◌}
use contract.Lifetimes.{Lfts}
use borrow.Fn.Kinds.{Dens, ended_of}
use denote.Triple.Clauses.{AtExit}
use Rattle.std.proofs.Common.{Bor, MutBor}
use Rattle.manual.specs.Runs.{run_of}
use Rattle.machine.specs.declared.Machine.{Machine}
use Rattle.machine.specs.declared.Footprint.{Footprint}
use Rattle.machine.specs.declared.Ran.{Ran}
use Rattle.machine.specs.State.{state_of}
use Rattle.machine.specs.Runs.{paper_of_run}
use Rattle.machine.specs.Footprints.{masked_at, paper_of_footprint, meet}
use Rattle.machine.proofs.Machine.run.Reads as run_reads
use Rattle.machine.proofs.Machine.run.Kinds as run_kinds
use Rattle.machine.proofs.Machine.footprint.Reads as footprint_reads
use Rattle.machine.proofs.Machine.footprint.Kinds as footprint_kinds
use Rattle.machine.proofs.meetings.meets.Reads as meets_reads
use Rattle.machine.proofs.meetings.meets.Kinds as meets_kinds

-- machine.run(code, memory, floor, budget) handed back `answer`, and left `after` in the memory
pub record RunCall (machine : Machine) (code memory : List ℕ) (floor budget : ℕ) (answer : Ran) (after : List ℕ) : Type 1 where
  pub κs : Lfts 2
  pub given : Dens κs run_kinds.ps
  pub exit : AtExit (ended_of 2 run_kinds.ps run_kinds.r) κs
  pub met : run_reads.Post κs given answer exit
  pub with_machine : given.0 ≡ machine
  pub with_code : given.1.0.now ≡ code
  pub with_memory : given.1.1.0.now ≡ memory
  pub with_floor : given.1.1.1.0 ≡ floor
  pub with_budget : given.1.1.1.1.0 ≡ budget
  pub leaves : exit.1.1.0.now ≡ after

-- machine.footprint(code, at, memory) handed back `answer`
pub record FootprintCall (machine : Machine) (code : List ℕ) (at : ℕ) (memory : List ℕ) (answer : Result Footprint Refusal) : Type 1 where
  pub κs : Lfts 2
  pub given : Dens κs footprint_kinds.ps
  pub exit : AtExit (ended_of 2 footprint_kinds.ps footprint_kinds.r) κs
  pub met : footprint_reads.Post κs given answer exit
  pub with_machine : given.0 ≡ machine
  pub with_code : given.1.0.now ≡ code
  pub with_position : given.1.1.0 ≡ at
  pub with_memory : given.1.1.1.0.now ≡ memory

-- meets(first, second) handed back `answer`
pub record MeetsCall (first second : Footprint) (answer : Bool) : Type 1 where
  pub κs : Lfts 0
  pub given : Dens κs meets_kinds.ps
  pub exit : AtExit (ended_of 0 meets_kinds.ps meets_kinds.r) κs
  pub met : meets_reads.Post κs given answer exit
  pub with_first : given.0 ≡ first
  pub with_second : given.1.0 ≡ second

-- what each contract says of its call

pub run_says : (machine : Machine) (code memory : List ℕ) (floor budget : ℕ) (answer : Ran) (after : List ℕ) → RunCall machine code memory floor budget answer after
    → paper_of_run answer after ≡ run_of floor code budget (state_of machine memory)
run_says machine code memory floor budget answer after c =
    ap (paper_of_run answer) (sym c.leaves) ∙ c.met
    ∙ ap₂ (λ (f n : ℕ). run_of f c.given.1.0.now n (state_of c.given.0 c.given.1.1.0.now)) c.with_floor c.with_budget
    ∙ ap (λ (x : List ℕ). run_of floor x budget (state_of c.given.0 c.given.1.1.0.now)) c.with_code
    ∙ ap₂ (λ (m : Machine) (x : List ℕ). run_of floor code budget (state_of m x)) c.with_machine c.with_memory

pub footprint_says : (machine : Machine) (code : List ℕ) (at : ℕ) (memory : List ℕ) (answer : Result Footprint Refusal) → FootprintCall machine code at memory answer
    → paper_of_footprint answer ≡ masked_at code at (state_of machine memory)
footprint_says machine code at memory answer c =
    c.met
    ∙ ap₂ (λ (x : List ℕ) (n : ℕ). masked_at x n (state_of c.given.0 c.given.1.1.1.0.now)) c.with_code c.with_position
    ∙ ap₂ (λ (m : Machine) (x : List ℕ). masked_at code at (state_of m x)) c.with_machine c.with_memory

pub meets_says : (first second : Footprint) (answer : Bool) → MeetsCall first second answer → answer ≡ meet first second
meets_says first second answer c = c.met ∙ ap₂ meet c.with_first c.with_second

-- and a call that hands back what the contract says can be had: a contract that no answer meets would promise anything

-- bytes that are lent
abbrev lent : List ℕ → Bor (List ℕ)
lent bytes = record { ref_ptr = (0, 0); now = bytes }

-- and bytes that are lent to be written
abbrev lent_to_write : List ℕ → MutBor (List ℕ)
lent_to_write bytes = record { ref_ptr = (0, 0); ghost_name = 0; now = bytes }

pub run_there : (machine : Machine) (code memory : List ℕ) (floor budget : ℕ) (answer : Ran) (after : List ℕ)
    → paper_of_run answer after ≡ run_of floor code budget (state_of machine memory) → RunCall machine code memory floor budget answer after
run_there machine code memory floor budget answer after e =
    record {
      κs = ([], ([], tt));
      given = (machine, (lent code, (lent_to_write memory, (floor, (budget, tt)))));
      exit = (machine, (lent code, (lent_to_write after, (floor, (budget, tt)))));
      met = e;
      with_machine = refl;
      with_code = refl;
      with_memory = refl;
      with_floor = refl;
      with_budget = refl;
      leaves = refl;
    }

pub footprint_there : (machine : Machine) (code : List ℕ) (at : ℕ) (memory : List ℕ) (answer : Result Footprint Refusal)
    → paper_of_footprint answer ≡ masked_at code at (state_of machine memory) → FootprintCall machine code at memory answer
footprint_there machine code at memory answer e =
    record {
      κs = ([], ([], tt));
      given = (machine, (lent code, (at, (lent memory, tt))));
      exit = (machine, (lent code, (at, (lent memory, tt))));
      met = e;
      with_machine = refl;
      with_code = refl;
      with_position = refl;
      with_memory = refl;
    }

pub meets_there : (first second : Footprint) → MeetsCall first second (meet first second)
meets_there first second =
    record { κs = tt; given = (first, (second, tt)); exit = (first, (second, tt)); met = refl; with_first = refl; with_second = refl }
