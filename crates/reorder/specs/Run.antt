-- A run over code bytes, for any reader of instructions and any machine that executes them.
use Rattle.std.specs.Prelude.{cond, List, ℕ, zero, suc, ◌+◌, eqb, length, drop}
use Rattle.reorder.specs.Result.{Result, case_of}

-- what reading finds: the instruction, and how many bytes it has
pub record Fetched (I : Type 0) : Type 0 where
  pub instruction : I
  pub size : ℕ

-- how a run ends: the position reached, the count of instructions completed, and the state; stopped has the refusal's number before them
pub data Answer (S : Type 0) : Type 0 where
  finished : ℕ → ℕ → S → Answer S
  spent : ℕ → ℕ → S → Answer S
  stopped : ℕ → ℕ → ℕ → S → Answer S

-- the position and the state that a run has come to, however it ended

abbrev pub position_reached : {S : Type 0} → Answer S → ℕ
position_reached (finished position count s) = position
position_reached (spent position count s) = position
position_reached (stopped n position count s) = position

abbrev pub state_reached : {S : Type 0} → Answer S → S
state_reached (finished position count s) = s
state_reached (spent position count s) = s
state_reached (stopped n position count s) = s

-- `next` says where a run goes on after an instruction: from the code's length, the instruction, the state before it and the position behind it
module _ {S I : Type 0} (read : List ℕ → Result (Fetched I)) (exec : I → S → Result S) (next : ℕ → I → S → ℕ → Result ℕ) where
  -- at the end of the code: finished; else with nothing left of the budget: spent; else a step
  abbrev pub run_from : ℕ → List ℕ → ℕ → ℕ → S → Answer S
  run_from zero code position count s =
      cond (eqb position (length code)) (finished position count s) (spent position count s)
  run_from (suc remaining) code position count s =
      cond (eqb position (length code)) (finished position count s)
      (case_of (read (drop position code)) (λ n. stopped n position count s)
      (λ found. case_of (exec found.instruction s) (λ n. stopped n position count s)
      (λ t. case_of (next (length code) found.instruction s (position + found.size)) (λ n. stopped n position count s)
      (λ further. run_from remaining code further (suc count) t))))

  -- a run starts at position 0
  abbrev pub run : ℕ → List ℕ → S → Answer S
  run budget code s = run_from budget code 0 0 s
