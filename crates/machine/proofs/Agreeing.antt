-- What reading, step, run and footprint hand back agrees: one number for one refusal, whichever of them was asked.
use Rattle.std.specs.Prelude.{◌≡◌, refl, List, ℕ, ◌↔◌, Result, Ok, Err}
use Rattle.basis.proofs.Names.{sym, ap, subst, ◌∙◌, false≢true, arith}
use Rattle.reorder.specs.Result.{done, refused, map_result}
use Rattle.reorder.specs.Result as outcome
use Rattle.reorder.specs.Run.{stopped}
use Rattle.reorder.specs.Footprint as places
use Rattle.refusals.specs.declared.Refusal.{Refusal}
use Rattle.refusals.specs.Numbers.{number_of}
use Rattle.codec.specs.declared.Instruction.{Instruction}
use Rattle.codec.specs.Answers.{paper_of_reading}
use Rattle.codec.specs.Reads.{read_at}
use Rattle.codec.specs.declared.Kind.{Kind}
use Rattle.manual.specs.State.{State}
use Rattle.manual.specs.Places.{Place}
use Rattle.manual.specs.Steps.{Outcome, refused_with, instruction_at, step_at}
use Rattle.manual.specs.Reasons.{Fits}
use Rattle.manual.specs.Runs.{run_of}
use Rattle.manual.specs.Footprints.{footprint_at}
use Rattle.manual.proofs.Refusals.{refused_run}
use Rattle.manual.proofs.Uses.{Together, footprint_exactly}
use Rattle.machine.specs.declared.End.{End}
use Rattle.machine.specs.declared.End.TheVariants as end
use Rattle.machine.specs.declared.Footprint.{Footprint}
use Rattle.machine.specs.declared.Stepped.{Stepped}
use Rattle.machine.specs.declared.Ran.{Ran}
use Rattle.machine.specs.State.{state_of}
use Rattle.machine.specs.Steps.{paper_of_taken, paper_of_step}
use Rattle.machine.specs.Runs.{paper_of_end, paper_of_run}
use Rattle.machine.specs.Footprints.{masked, masked_at, paper_of_footprint}

-- a step that is refused by this number was handed back as such
step_refused : (stepped : Stepped) (memory : List ℕ) (n at : ℕ) (s : State) → paper_of_step stepped memory ≡ refused_with n at s → stepped.answer ≡ Err n
step_refused stepped memory n at s e = by stepped.answer e
  where
    by : (a : Result (Unit {0}) ℕ) → paper_of_taken a stepped.at (state_of stepped.machine memory) ≡ refused_with n at s → a ≡ Err n
    by (Ok u) e = absurd (false≢true (cc))
    by (Err m) e = cc

-- where reading is refused, so is the step there, unless the memory is too long or the floor too high
pub reading_as_step : (floor : ℕ) (code memory : List ℕ) (at : ℕ) (refusal : Refusal) (s : State) (r : Result (Instruction × ℕ) Refusal) (stepped : Stepped) → Fits floor s
    → paper_of_reading r ≡ read_at code at → r ≡ Err refusal → paper_of_step stepped memory ≡ step_at floor code at s
    → stepped.answer ≡ Err (number_of refusal)
unfolding instruction_at step_at
reading_as_step floor code memory at refusal s r stepped fits read_is is step =
    step_refused stepped memory (number_of refusal) at s (step ∙ simp (fits.memory_fits, fits.floor_fits, sym read_is ∙ ap paper_of_reading is))

-- one refusal has one number
one_number : (a b : ℕ) (x y : outcome.Result Footprint) → x ≡ refused a → y ≡ refused b → x ≡ y → a ≡ b
one_number a b x y h k e = cc

-- "It has no answer for a step that is refused: that step's refusal is given", over floor 0
pub footprint_as_step : (code memory : List ℕ) (at n : ℕ) (s : State) (stepped : Stepped) (p : Result Footprint Refusal)
    → paper_of_step stepped memory ≡ step_at 0 code at s → paper_of_footprint p ≡ masked_at code at s
    → (stepped.answer ≡ Err n) ↔ ((refusal : Refusal) × ((p ≡ Err refusal) × (number_of refusal ≡ n)))
unfolding masked_at
footprint_as_step code memory at n s stepped p step masked_is =
    by stepped.answer p (footprint_at 0 code at s) (subst (λ (o : Outcome). Together o (footprint_at 0 code at s)) (sym step) (footprint_exactly 0 code at s)) masked_is
  where
    by : (a : Result (Unit {0}) ℕ) (q : Result Footprint Refusal) (o : outcome.Result (places.Footprint Place Kind))
        → Together (paper_of_taken a stepped.at (state_of stepped.machine memory)) o → paper_of_footprint q ≡ map_result masked o
        → (a ≡ Err n) ↔ ((refusal : Refusal) × ((q ≡ Err refusal) × (number_of refusal ≡ n)))
    by (Ok u) (Ok f) o t e = (λ h. absurd (false≢true (cc)), λ h. let same = h.1.0 in absurd (false≢true (cc)))
    by (Ok u) (Err k) (done g) t e = absurd (false≢true (cc))
    by (Ok u) (Err k) (refused j) t e = absurd t
    by (Err m) q (done g) t e = absurd t
    by (Err m) (Ok f) (refused j) t e = absurd (false≢true (cc))
    by (Err m) (Err k) (refused j) t e =
        let number : number_of k ≡ m = omega (arith, one_number _ _ _ _ refl refl e, t) in
        (λ h. let same : m ≡ n = cc in (k, (refl, number ∙ same)), λ h. let same = h.1.0 in let named = h.1.1 in cc)

-- a refused run has come to a step that is refused by the same number
pub run_as_step : (floor : ℕ) (code after kept : List ℕ) (budget n : ℕ) (s : State) (ran : Ran) (stepped : Stepped)
    → paper_of_run ran after ≡ run_of floor code budget s → ran.end ≡ end.Refused n
    → paper_of_step stepped kept ≡ step_at floor code ran.at (state_of ran.machine after)
    → stepped.answer ≡ Err n
run_as_step floor code after kept budget n s ran stepped run_is refusal step =
    let t : State = state_of ran.machine after in
    let stops : run_of floor code budget s ≡ stopped n ran.at ran.count t =
    sym run_is ∙ ap (λ (e : End). paper_of_end e ran.at ran.count t) refusal in
    step_refused stepped kept n ran.at t (step ∙ (refused_run floor code budget n ran.at ran.count s t stops).0)
