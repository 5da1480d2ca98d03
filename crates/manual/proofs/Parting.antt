-- A block's run in parts: with more of its budget it is the run without that, continued; and without a jump, what is more after it was spent is the
-- run of the rest of the code alone, its position and count counted from there on.
use Rattle.std.specs.Prelude.{◌≡◌, refl, true, List, ℕ, ◌+◌, length, drop}
use Rattle.basis.proofs.Names.{subst, ◌∙◌, false≢true, arith, le-ltb, ltb-false, length-drop}
use Rattle.reorder.specs.Run.{spent, run_from}
use Rattle.reorder.specs.inner.Parts.{continued}
use Rattle.reorder.proofs.Parting.{counted_from, parted, ClearFrom, ClearThere, clear_there, rest_alone}
use Rattle.codec.specs.Reads.{longest_code}
use Rattle.manual.specs.State.{State}
use Rattle.manual.specs.Instructions.{execute}
use Rattle.manual.specs.Jumps.{is_jump, next}
use Rattle.manual.specs.Reasons.{Fits}
use Rattle.manual.specs.Runs.{read, run_of, has_no_jump}
use Rattle.manual.proofs.Locality.{local_reader}
use Rattle.manual.proofs.Jumps.{goes_on}
use Rattle.manual.proofs.Turns.{still_fits, of_run}
use Rattle.manual.proofs.Bounds.{Bounds, Bounded, run_bounded}
use Rattle.manual.proofs.Demand3.{straight}

module _ (floor : ℕ) (code : List ℕ) (s : State) (budget : ℕ) where
  pub run_parted : (more : ℕ) → run_of floor code (budget + more) s ≡ continued read (execute floor) next code more (run_of floor code budget s)
  run_parted more =
      of_run floor code s (λ runs. runs (budget + more) ≡ continued read (execute floor) next code more (runs budget)) (λ n e. refl)
      (λ fits code_fits. parted read (execute floor) next code more budget 0 0 s)

  -- the rest of it, where it was spent
  module _ (at count : ℕ) (t : State) (no_jump : has_no_jump code ≡ true) (h : run_of floor code budget s ≡ spent at count t) where
    spent_within : Bounds code budget s at count t
    spent_within = subst (Bounded code budget s) h (run_bounded floor code budget s)

    pub rest_runs : (more : ℕ) → run_from read (execute floor) next more code at count t ≡ counted_from at count (run_of floor (drop at code) more t)
    unfolding run_of
    rest_runs more =
        of_run floor code s
        (λ runs. runs budget ≡ spent at count t → run_from read (execute floor) next more code at count t ≡ counted_from at count (run_of floor (drop at code) more t))
        (λ n e f. absurd (false≢true (cc)))
        (λ fits code_fits ran.
        let clear : ClearFrom read is_jump code at =
        subst (ClearThere read is_jump code) ran
        (clear_there read (execute floor) next is_jump local_reader goes_on code budget 0 0 s (length code, (omega arith, straight code code_fits no_jump))) in
        let there : Fits floor t = still_fits floor s t spent_within.kept fits in
        let fewer = le-ltb longest_code (length (drop at code)) (omega (arith, length-drop at code, ltb-false longest_code (length code) code_fits)) in
        rest_alone read (execute floor) next is_jump local_reader goes_on code at count spent_within.position more t clear
        ∙ simp (there.memory_fits, there.floor_fits, fewer))
        h
