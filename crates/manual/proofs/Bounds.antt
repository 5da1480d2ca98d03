-- A run stays within its bounds: its position within the code, its count within the budget, its refusal's number of at most two digits; and it
-- changes nothing that is frozen. By its turns: so does each step. Over floor 0 neither 20 nor 21 is given.
use Rattle.std.specs.Prelude.{◌≡◌, refl, ◌⊎◌, Bool, true, false, cond, List, ℕ, zero, suc, ◌+◌, ◌≤◌, ◌<◌, eqb, ltb, length, drop}
use Rattle.basis.proofs.Names.{sym, ap, subst, ◌∙◌, inl, inr, ⊎_elim, arith, ltb-true, length-drop}
use Rattle.reorder.specs.Run.{Answer, finished, spent, stopped, run_from}
use Rattle.codec.specs.Refusals.{code_too_long, not_allowed}
use Rattle.codec.specs.Reads.{longest_code}
use Rattle.codec.specs.Reasons as codec
use Rattle.manual.specs.Refusals.{memory_too_long, outside_memory, outside_by_stack, jumps_outside, floor_too_high, below_floor, half_unsupported}
use Rattle.manual.specs.State.{State, frozen}
use Rattle.manual.specs.Instructions.{execute}
use Rattle.manual.specs.Jumps.{next}
use Rattle.manual.specs.Steps.{Outcome, completed, refused_with, step_at}
use Rattle.manual.specs.Reasons.{Fits, Reason, one, twenty, reading, seven, eight, nine, ten, fourteen, twenty_one, twenty_two, nineteen}
use Rattle.manual.specs.Runs.{read, run_of}
use Rattle.manual.proofs.Turns.{onward, still_fits, of_run, turn, instruction_here}
use Rattle.manual.proofs.Locality.{local}
use Rattle.manual.proofs.Jumps.{stays_within}
use Rattle.manual.proofs.Refusals.{refused_step, refused_run, step_executed, step_frozen}
use Rattle.manual.proofs.Exactly.{step_exactly}

-- a refusal's number has at most two digits: what is printed of it goes by that (which numbers there are, Exactly.antt says)
abbrev pub greatest_refusal : ℕ
greatest_refusal = 99

-- reading's is 2 to 6
part_small : (s : List ℕ) (n : ℕ) → codec.Reason s n → (code_too_long ≤ n) × (n ≤ not_allowed)
part_small s n (codec.three x) = omega arith
part_small s n (codec.four x) = omega arith
part_small s n (codec.five x) = omega arith
part_small s n (codec.six x) = omega arith

pub reading_small : (code : List ℕ) (at n : ℕ) → codec.ReasonAt code at n → (code_too_long ≤ n) × (n ≤ not_allowed)
reading_small code at n (codec.two h) = omega arith
reading_small code at n (codec.reading h r) = part_small (drop at code) n r

-- those that are no floor's: 1 to 10, 14, 19 and 22
abbrev pub Floorless : ℕ → Type 0
Floorless n = ((memory_too_long ≤ n) × (n ≤ outside_memory)) ⊎ (n ≡ outside_by_stack) ⊎ (n ≡ jumps_outside) ⊎ (n ≡ half_unsupported)

-- a step's is one of these, or 20 or 21 of a floor above 0
reason_number : (floor : ℕ) (code : List ℕ) (at : ℕ) (s : State) (n : ℕ) → Reason floor code at s n
    → Floorless n ⊎ ((floor_too_high ≤ n) × (n ≤ below_floor) × (0 < floor))
reason_number floor code at s n (one h) = inl (inl (omega arith))
reason_number floor code at s n (twenty h g) = inr (omega (arith, ltb-true (length s.memory) floor g))
reason_number floor code at s n (reading h r) = inl (inl (omega (arith, reading_small code at n r)))
reason_number floor code at s n (seven i size h em) = inl (inl (omega arith))
reason_number floor code at s n (eight i size h em ts) = inl (inl (omega arith))
reason_number floor code at s n (nine i size h em ts pending) = inl (inl (omega arith))
reason_number floor code at s n (ten i size h x touches o based) = inl (inl (omega arith))
reason_number floor code at s n (fourteen i size h x touches o based) = inl (inr (inl refl))
reason_number floor code at s n (twenty_one i size h x given b) = inr (omega (arith, b.low))
reason_number floor code at s n (twenty_two i size h above u) = inl (inr (inr (inr refl)))
reason_number floor code at s n (nineteen i size h jump clear astray) = inl (inr (inr (inl refl)))

reason_small : (floor : ℕ) (code : List ℕ) (at : ℕ) (s : State) (n : ℕ) → Reason floor code at s n → n ≤ greatest_refusal
reason_small floor code at s n r =
    ⊎_elim (⊎_elim (λ h. omega arith) (⊎_elim (λ h. omega arith) (⊎_elim (λ h. omega arith) (λ h. omega arith)))) (λ h. omega arith) (reason_number floor code at s n r)

module _ (floor : ℕ) (code : List ℕ) (code_fits : ltb longest_code (length code) ≡ false) where
  -- a completed step leaves a position of the code
  pub step_within : (at further : ℕ) (s t : State) → Fits floor s → step_at floor code at s ≡ completed further t → further ≤ length code
  step_within at further s t fits e =
      let x = step_executed floor code at further s t e in
      let its = local (drop at code) x.found (sym (instruction_here floor code at s fits code_fits) ∙ x.stands) in
      stays_within (length code) x.found.instruction s (at + x.found.size) further (omega (arith, its.some, its.within, length-drop at code)) x.goes_on

-- the bounds of a run's end, from a start with so large a budget
pub record Bounds (code : List ℕ) (budget : ℕ) (start : State) (at count : ℕ) (t : State) : Type 0 where
  pub position : at ≤ length code
  pub completed_steps : count ≤ budget
  pub kept : frozen t ≡ frozen start

abbrev pub Bounded : List ℕ → ℕ → State → Answer State → Type 0
Bounded code budget start (finished at count t) = Bounds code budget start at count t
Bounded code budget start (spent at count t) = Bounds code budget start at count t
Bounded code budget start (stopped n at count t) = (n ≤ greatest_refusal) × Bounds code budget start at count t

module _ (floor : ℕ) (code : List ℕ) (code_fits : ltb longest_code (length code) ≡ false) (budget : ℕ) (start : State) where
  from : (remaining at count : ℕ) (s : State) → count + remaining ≤ budget → Fits floor s → Bounds code budget start at count s
      → Bounded code budget start (run_from read (execute floor) next remaining code at count s)
  from zero at count s most fits b = at_end (eqb at (length code))
    where
      at_end : (t : Bool) → Bounded code budget start (cond t (finished at count s) (spent at count s))
      at_end true = b
      at_end false = b
  from (suc remaining) at count s most fits b =
      at_end (eqb at (length code)) refl (λ at' u fits' b'. from remaining at' (suc count) u (omega arith) fits' b')
    where
      Further : Type 0
      Further =
          (at' : ℕ) (u : State) → Fits floor u → Bounds code budget start at' (suc count) u
          → Bounded code budget start (run_from read (execute floor) next remaining code at' (suc count) u)

      stepping : (o : Outcome) → step_at floor code at s ≡ o → Further → Bounded code budget start (onward (run_from read (execute floor) next remaining code) count o)
      stepping (refused_with n at' u) e further =
          let (same_at, same_state) = refused_step floor code at n at' s u e in
          let given : step_at floor code at s ≡ refused_with n at s = cc in (
            reason_small floor code at s n ((step_exactly floor code at s n).0 given),
            record {
              position = omega (arith, b.position);
              completed_steps = b.completed_steps;
              kept = ap frozen same_state ∙ b.kept;
            },
          )
      stepping (completed at' u) e further =
          let same = step_frozen floor code at at' s u e in
          further at' u (still_fits floor s u same fits)
          (record { position = step_within floor code code_fits at at' s u fits e; completed_steps = omega arith; kept = same ∙ b.kept })

      at_end : (t : Bool) → eqb at (length code) ≡ t → Further → Bounded code budget start (run_from read (execute floor) next (suc remaining) code at count s)
      at_end true e further = rw e b
      at_end false e further = subst (Bounded code budget start) (sym (turn floor code at s fits code_fits remaining count e)) (stepping (step_at floor code at s) refl further)

pub run_bounded : (floor : ℕ) (code : List ℕ) (budget : ℕ) (s : State) → Bounded code budget s (run_of floor code budget s)
run_bounded floor code budget s =
    of_run floor code s (λ runs. Bounded code budget s (runs budget))
    (λ n e. (reason_small floor code 0 s n ((step_exactly floor code 0 s n).0 e), still))
    (λ fits code_fits. from floor code code_fits budget s budget 0 0 s (omega arith) fits still)
  where
    still : Bounds code budget s 0 0 s
    still = record { position = omega arith; completed_steps = omega arith; kept = refl }

-- Over floor 0 a refusal is one of 1 to 10, 14, 19 and 22: neither 20 nor 21 is given

pub step_zero : (code : List ℕ) (at n : ℕ) (s : State) → step_at 0 code at s ≡ refused_with n at s → Floorless n
step_zero code at n s e = ⊎_elim (λ h. h) (λ h. absurd (omega arith)) (reason_number 0 code at s n ((step_exactly 0 code at s n).0 e))

pub run_zero : (code : List ℕ) (budget n at count : ℕ) (s t : State) → run_of 0 code budget s ≡ stopped n at count t → Floorless n
run_zero code budget n at count s t e = step_zero code at n t (refused_run 0 code budget n at count s t e).0
