-- A refused step changes nothing; a refused run keeps what the earlier instructions did, since it stops at a step that is refused.
use Rattle.std.specs.Prelude.{◌≡◌, refl, ◌⊎◌, Bool, true, false, cond, List, ℕ, zero, suc, ◌-◌, ◌≤◌, ◌+◌, eqb, ltb, length}
use Rattle.basis.proofs.Names.{sym, ap, ◌∙◌, inl, inr, false≢true, sub-zero, arith}
use Rattle.reorder.specs.Result.{Result, done, refused, case_of}
use Rattle.reorder.specs.Run.{Fetched, Answer, finished, spent, stopped, run_from, run}
use Rattle.reorder.proofs.Places.{leaves-frozen}
use Rattle.reorder.proofs.Swapping.{completed as planned}
use Rattle.codec.specs.Reads.{longest_code}
use Rattle.codec.specs.declared.Instruction.{Instruction}
use Rattle.manual.specs.State.{State, frozen}
use Rattle.manual.specs.Places.{look, put}
use Rattle.manual.specs.Kinds.{marked, KindsMeet}
use Rattle.manual.specs.Effects.{via, plan}
use Rattle.manual.specs.Instructions.{effect_of, execute}
use Rattle.manual.specs.Jumps.{next}
use Rattle.manual.specs.Steps.{Outcome, completed, refused_with, concluded, instruction_at, step_at}
use Rattle.manual.specs.Reasons.{Fits}
use Rattle.manual.specs.Runs.{read, run_of}
use Rattle.manual.proofs.Laws.{laws}
use Rattle.manual.proofs.Turns.{onward, still_fits, of_run, turn}

-- "A refused step returns the number with the state and position it was given and changes no memory byte."
pub refused_step : (floor : ℕ) (code : List ℕ) (at n at' : ℕ) (s t : State) → step_at floor code at s ≡ refused_with n at' t → (at' ≡ at) × (t ≡ s)
unfolding step_at
refused_step floor code at n at' s t e = reading (instruction_at floor code at s) e
  where
    executing : (further : Result ℕ) (o : Result State) → concluded at further s o ≡ refused_with n at' t → (at' ≡ at) × (t ≡ s)
    executing further (refused m) h = (cc, cc)
    executing (refused m) (done u) h = (cc, cc)
    executing (done position) (done u) h = absurd (false≢true (cc))

    reading : (o : Result (Fetched Instruction))
        → case_of o (λ m. refused_with m at s) (λ r. concluded at (next (length code) r.instruction s (at + r.size)) s (execute floor r.instruction s)) ≡ refused_with n at' t
        → (at' ≡ at) × (t ≡ s)
    reading (refused m) h = (cc, cc)
    reading (done r) h = executing (next (length code) r.instruction s (at + r.size)) (execute floor r.instruction s) h

-- a completed step changes nothing frozen
execute-frozen : (floor : ℕ) (i : Instruction) (s t : State) → execute floor i s ≡ done t → frozen t ≡ frozen s
unfolding execute
execute-frozen floor i s t e =
    let (pl, vs, ep, em, et) = planned look put marked via (plan floor) (effect_of i) s t e in
    ap frozen et ∙ leaves-frozen look put marked frozen KindsMeet laws pl s vs

-- a completed step is an instruction that stands there and completes, and from which a run goes on
pub record Executed (floor : ℕ) (code : List ℕ) (at further : ℕ) (s t : State) : Type 0 where
  pub found : Fetched Instruction
  pub stands : instruction_at floor code at s ≡ done found
  pub executes : execute floor found.instruction s ≡ done t
  pub goes_on : next (length code) found.instruction s (at + found.size) ≡ done further

pub step_executed : (floor : ℕ) (code : List ℕ) (at further : ℕ) (s t : State) → step_at floor code at s ≡ completed further t → Executed floor code at further s t
unfolding step_at
step_executed floor code at further s t e = reading (instruction_at floor code at s) refl e
  where
    executing : (r : Fetched Instruction) → instruction_at floor code at s ≡ done r → (p : Result ℕ) → next (length code) r.instruction s (at + r.size) ≡ p
        → (o : Result State) → execute floor r.instruction s ≡ o → concluded at p s o ≡ completed further t → Executed floor code at further s t
    executing r er p ep (refused m) eo h = absurd (false≢true (cc))
    executing r er (refused m) ep (done u) eo h = absurd (false≢true (cc))
    executing r er (done position) ep (done u) eo h = record { found = r; stands = er; executes = cc; goes_on = cc }

    reading : (o : Result (Fetched Instruction)) → instruction_at floor code at s ≡ o
        → case_of o (λ m. refused_with m at s) (λ r. concluded at (next (length code) r.instruction s (at + r.size)) s (execute floor r.instruction s)) ≡ completed further t
        → Executed floor code at further s t
    reading (refused m) er h = absurd (false≢true (cc))
    reading (done r) er h = executing r er (next (length code) r.instruction s (at + r.size)) refl (execute floor r.instruction s) refl h

pub step_frozen : (floor : ℕ) (code : List ℕ) (at further : ℕ) (s t : State) → step_at floor code at s ≡ completed further t → frozen t ≡ frozen s
step_frozen floor code at further s t e =
    let x = step_executed floor code at further s t e in execute-frozen floor x.found.instruction s t x.executes

module _ (floor : ℕ) (code : List ℕ) (code_fits : ltb longest_code (length code) ≡ false) (n end total : ℕ) (t : State) where
  -- a run that stops has come, by as many steps as it counts, to a step that is refused
  abbrev Kept : ℕ → ℕ → State → Type 0
  Kept at count s =
      (count ≤ total) × (run_from read (execute floor) next (total - count) code at count s ≡ spent end total t) × (step_at floor code end t ≡ refused_with n end t)

  kept : (remaining at count : ℕ) (s : State) → Fits floor s
      → run_from read (execute floor) next remaining code at count s ≡ stopped n end total t → Kept at count s
  kept zero at count s fits h = at_end (eqb at (length code)) h
    where
      at_end : (b : Bool) → cond b (finished at count s) (spent at count s) ≡ stopped n end total t → Kept at count s
      at_end true h = absurd (false≢true (cc))
      at_end false h = absurd (false≢true (cc))
  kept (suc remaining) at count s fits h =
      at_end (eqb at (length code)) refl (λ at' u fits'. kept remaining at' (suc count) u fits') h
    where
      Further : Type 0
      Further =
          (at' : ℕ) (u : State) → Fits floor u → run_from read (execute floor) next remaining code at' (suc count) u ≡ stopped n end total t → Kept at' (suc count) u

      stepping : eqb at (length code) ≡ false → (o : Outcome) → step_at floor code at s ≡ o → Further
          → onward (run_from read (execute floor) next remaining code) count o ≡ stopped n end total t → Kept at count s
      stepping more (refused_with m at' u) e further h =
          let (same_at, same_state) = refused_step floor code at m at' s u e in
          let all : count ≡ total = cc in
          let none : total - count ≡ 0 = omega arith in
          (omega arith, simp (none, more) (cc), cc)
      stepping more (completed at' u) e further h =
          let fits' : Fits floor u = still_fits floor s u (step_frozen floor code at at' s u e) fits in
          let (counted, rest, last) = further at' u fits' h in
          let one : total - count ≡ suc (total - suc count) = omega arith in (
            omega arith,
            ap (λ (k : ℕ). run_from read (execute floor) next k code at count s) one
                ∙ turn floor code at s fits code_fits (total - suc count) count more
                ∙ ap (onward (run_from read (execute floor) next (total - suc count) code) count) e
                ∙ rest,
            last,
          )

      at_end : (b : Bool) → eqb at (length code) ≡ b → Further → run_from read (execute floor) next (suc remaining) code at count s ≡ stopped n end total t → Kept at count s
      at_end true e further h = let over : finished at count s ≡ stopped n end total t = simp e at h in absurd (false≢true (cc))
      at_end false e further h =
          stepping e (step_at floor code at s) refl further (sym (turn floor code at s fits code_fits remaining count e) ∙ h)

-- "A refused run keeps what earlier instructions did": it has come to a step that is refused, in the state that a run with just the budget of
-- those instructions leaves; or it was refused at its start, and nothing has changed.
pub refused_run : (floor : ℕ) (code : List ℕ) (budget n at count : ℕ) (s t : State) → run_of floor code budget s ≡ stopped n at count t
    → (step_at floor code at t ≡ refused_with n at t) × ((run_of floor code count s ≡ spent at count t) ⊎ ((count ≡ 0) × (t ≡ s)))
refused_run floor code budget n at count s t = of_run floor code s Stops at_start further
  where
    Stops : (ℕ → Answer State) → Type 0
    Stops runs =
        runs budget ≡ stopped n at count t → (step_at floor code at t ≡ refused_with n at t) × ((runs count ≡ spent at count t) ⊎ ((count ≡ 0) × (t ≡ s)))

    at_start : (m : ℕ) → step_at floor code 0 s ≡ refused_with m 0 s → Stops (λ k. stopped m 0 0 s)
    at_start m e h = (cc, inr (cc, cc))

    further : Fits floor s → ltb longest_code (length code) ≡ false → Stops (λ k. run read (execute floor) next k code s)
    further fits code_fits h = let (counted, rest, last) = kept floor code code_fits n at count t budget 0 0 s fits h in (last, inl (rw sub-zero at rest))
