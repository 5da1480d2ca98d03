-- A run is its steps: at its start it is refused by 1, 20 or 2 where its first step is; each turn of it is a step at its position, and the position
-- after that is the one that the step gives.
use Rattle.std.specs.Prelude.{◌≡◌, refl, Bool, true, false, cond, List, ℕ, suc, ◌+◌, ◌≤◌, eqb, ltb, length, drop}
use Rattle.basis.proofs.Names.{ap, ◌∙◌, arith, le-ltb}
use Rattle.reorder.specs.Result.{Result, done, refused, case_of}
use Rattle.reorder.specs.Run.{Fetched, Answer, stopped, run_from, run}
use Rattle.codec.specs.Refusals.{code_too_long}
use Rattle.codec.specs.Reads.{longest_code, read_at}
use Rattle.codec.specs.declared.Instruction.{Instruction}
use Rattle.manual.specs.Refusals.{memory_too_long, floor_too_high}
use Rattle.manual.specs.State.{State, Frozen, frozen, longest_memory, is_too_long, is_too_high}
use Rattle.manual.specs.Instructions.{execute}
use Rattle.manual.specs.Jumps.{next}
use Rattle.manual.specs.Steps.{Outcome, completed, refused_with, concluded, instruction_at, step_at}
use Rattle.manual.specs.Reasons.{Fits}
use Rattle.manual.specs.Runs.{read, run_of}

-- What a run makes of a step: it goes on at the position that the step gives, or stops where the step was refused.
abbrev pub onward : (ℕ → ℕ → State → Answer State) → ℕ → Outcome → Answer State
onward further count (completed at t) = further at (suc count) t
onward further count (refused_with n at t) = stopped n at count t

-- memory and floor within their limits
pub within_limits : (floor : ℕ) (s : State) → length s.memory ≤ longest_memory → floor ≤ length s.memory → Fits floor s
within_limits floor s memory_fits floor_fits =
    record { memory_fits = le-ltb longest_memory (length s.memory) memory_fits; floor_fits = le-ltb (length s.memory) floor floor_fits }

-- floor 0 fits where another does
pub fits_zero : (floor : ℕ) (s : State) → Fits floor s → Fits 0 s
fits_zero floor s fits = record { memory_fits = fits.memory_fits; floor_fits = le-ltb (length s.memory) 0 (omega arith) }

-- where nothing frozen has changed, they still fit
pub still_fits : (floor : ℕ) (s t : State) → frozen t ≡ frozen s → Fits floor s → Fits floor t
still_fits floor s t same fits =
    record {
      memory_fits = ap (λ (f : Frozen). ltb longest_memory f.memory) same ∙ fits.memory_fits;
      floor_fits = ap (λ (f : Frozen). ltb f.memory floor) same ∙ fits.floor_fits;
    }

-- what holds of runs past the tests of their start, and of those that are refused there, as the step is, holds of a block's runs, by their budget
pub of_run : (floor : ℕ) (code : List ℕ) (s : State) (P : (ℕ → Answer State) → Type 0)
    → ((n : ℕ) → step_at floor code 0 s ≡ refused_with n 0 s → P (λ budget. stopped n 0 0 s))
    → (Fits floor s → ltb longest_code (length code) ≡ false → P (λ budget. run read (execute floor) next budget code s))
    → P (λ budget. run_of floor code budget s)
unfolding run_of step_at instruction_at read_at
of_run floor code s P refuses runs =
    tests (is_too_long s.memory) (is_too_high floor s.memory) (ltb longest_code (length code)) refl refl refl
  where
    tests : (a b c : Bool) → is_too_long s.memory ≡ a → is_too_high floor s.memory ≡ b → ltb longest_code (length code) ≡ c
        → P (λ budget. cond a (stopped memory_too_long 0 0 s) (cond b (stopped floor_too_high 0 0 s) (cond c (stopped code_too_long 0 0 s) (run read (execute floor) next budget code s))))
    tests true b c ea eb ec = refuses memory_too_long (simp ea)
    tests false true c ea eb ec = refuses floor_too_high (simp (ea, eb))
    tests false false true ea eb ec = refuses code_too_long (simp (ea, eb, ec))
    tests false false false ea eb ec = runs (record { memory_fits = ea; floor_fits = eb }) ec

-- the tests of a run's start are passed, and the position is not the end
module _ (floor : ℕ) (code : List ℕ) (at : ℕ) (s : State) (fits : Fits floor s) (code_fits : ltb longest_code (length code) ≡ false) where
  pub instruction_here : instruction_at floor code at s ≡ read (drop at code)
  unfolding instruction_at read read_at
  instruction_here = simp (fits.memory_fits, fits.floor_fits, code_fits)

  -- a turn of the run is a step at its position
  pub turn : (remaining count : ℕ) → eqb at (length code) ≡ false
      → run_from read (execute floor) next (suc remaining) code at count s ≡ onward (run_from read (execute floor) next remaining code) count (step_at floor code at s)
  unfolding step_at
  turn remaining count more = simp (more, instruction_here) (reading (read (drop at code)))
    where
      going : (t : State) (o : Result ℕ)
          → case_of o (λ n. stopped n at count s) (λ further. run_from read (execute floor) next remaining code further (suc count) t)
          ≡ onward (run_from read (execute floor) next remaining code) count (concluded at o s (done t))
      going t (refused n) = refl
      going t (done further) = refl

      executing : (further : Result ℕ) (o : Result State)
          → case_of o (λ n. stopped n at count s)
          (λ t. case_of further (λ n. stopped n at count s) (λ position. run_from read (execute floor) next remaining code position (suc count) t))
          ≡ onward (run_from read (execute floor) next remaining code) count (concluded at further s o)
      executing further (refused n) = refl
      executing further (done t) = going t further

      reading : (o : Result (Fetched Instruction))
          → case_of o (λ n. stopped n at count s)
          (λ r. case_of (execute floor r.instruction s) (λ n. stopped n at count s)
          (λ t. case_of (next (length code) r.instruction s (at + r.size)) (λ n. stopped n at count s)
          (λ further. run_from read (execute floor) next remaining code further (suc count) t)))
          ≡ onward (run_from read (execute floor) next remaining code) count
          (case_of o (λ n. refused_with n at s) (λ r. concluded at (next (length code) r.instruction s (at + r.size)) s (execute floor r.instruction s)))
      reading (refused n) = refl
      reading (done r) = executing (next (length code) r.instruction s (at + r.size)) (execute floor r.instruction s)
