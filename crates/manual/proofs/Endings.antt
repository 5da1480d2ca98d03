-- How a run of a block ends: done means at the code's end, spent means the whole budget; a larger budget changes no run that was not spent, and
-- without a jump a budget of as many as the longest code's bytes is never spent.
use Rattle.std.specs.Prelude.{◌≡◌, refl, true, List, ℕ, ◌+◌, ◌≤◌, ◌<◌, length, drop}
use Rattle.basis.proofs.Names.{sym, subst, ◌∙◌, zero-add, drop-drop, arith, ltb-false}
use Rattle.reorder.specs.Result.{done}
use Rattle.reorder.specs.Run.{Answer, finished, spent, stopped, run_from, run}
use Rattle.reorder.specs.Block.{rearranged}
use Rattle.reorder.proofs.Permutation.{from}
use Rattle.reorder.proofs.Cutting.{Clear, clear_first}
use Rattle.reorder.proofs.Rearranging.{own_order_same}
use Rattle.reorder.proofs.Endings.{by_turns, EndsWell, ends_well, Ended, ended_stays}
use Rattle.codec.specs.Reads.{longest_code}
use Rattle.manual.specs.State.{State}
use Rattle.manual.specs.Instructions.{execute}
use Rattle.manual.specs.Jumps.{is_jump, next}
use Rattle.manual.specs.Runs.{read, run_of, has_no_jump}
use Rattle.manual.proofs.Locality.{local, local_reader}
use Rattle.manual.proofs.Jumps.{goes_on}
use Rattle.manual.proofs.Turns.{of_run}
use Rattle.manual.proofs.Bounds.{Bounds, Bounded, run_bounded}
use Rattle.manual.proofs.Demand3.{fitting, straight}

-- an answer counts at most one instruction for a byte
abbrev Passed : Answer State → Type 0
Passed (finished at count t) = count ≤ at
Passed (spent at count t) = count ≤ at
Passed (stopped n at count t) = count ≤ at

-- where reading reaches no jump
passed : (floor : ℕ) (code : List ℕ) (remaining at count : ℕ) (s : State) (most : ℕ) → Clear read is_jump most (drop at code) → count ≤ at
    → Passed (run_from read (execute floor) next remaining code at count s)
passed floor code =
    by_turns read (execute floor) next code (λ remaining at count s a. (most : ℕ) → Clear read is_jump most (drop at code) → count ≤ at → Passed a)
    (record {
      ends = λ remaining at count s e most clear h. h;
      spends = λ at count s e most clear h. h;
      unread = λ remaining at count n s e er most clear h. h;
      unexecuted = λ remaining at count n s r e er eo most clear h. h;
      astray = λ remaining at count n s t r e er et eo most clear h. h;
      turns = λ remaining at count s t r further a e er et eo rest most clear h.
          let (here, most', behind) = clear_first read is_jump local_reader most (drop at code) r er clear in
          let same : done further ≡ done (at + r.size) = sym eo ∙ goes_on r.instruction here (length code) s (at + r.size) in
          let there : further ≡ at + r.size = cc in
          rest most' (subst (λ (n : ℕ). Clear read is_jump most' (drop n code)) (sym there) (subst (Clear read is_jump most') (drop-drop r.size at code) behind))
          (omega (arith, (local (drop at code) r er).some));
    })

module _ (floor : ℕ) (code : List ℕ) (budget : ℕ) (s : State) where
  well : EndsWell code budget (run_of floor code budget s)
  well =
      of_run floor code s (λ runs. EndsWell code budget (runs budget)) (λ n e. tt)
      (λ fits code_fits. subst (λ (n : ℕ). EndsWell code n (run read (execute floor) next budget code s)) (zero-add budget) (ends_well read (execute floor) next code budget 0 0 s))

  -- done means at the end
  pub done_at_end : (at count : ℕ) (t : State) → run_of floor code budget s ≡ finished at count t → at ≡ length code
  done_at_end at count t h = subst (EndsWell code budget) h well

  -- spent means the whole budget, before the end
  pub spent_whole : (at count : ℕ) (t : State) → run_of floor code budget s ≡ spent at count t → (count ≡ budget) × (at < length code)
  spent_whole at count t h =
      let (all, not_end) = subst (EndsWell code budget) h well in
      let bounds : Bounds code budget s at count t = subst (Bounded code budget s) h (run_bounded floor code budget s) in
      (all, omega (arith, bounds.position, not_end))

  -- an instruction has at least one byte, so without a jump a budget of the longest code's bytes is never spent
  pub never_spent : (at count : ℕ) (t : State) → has_no_jump code ≡ true → longest_code ≤ budget → run_of floor code budget s ≡ spent at count t → ⊥
  never_spent at count t no_jump enough h =
      let (all, before) = spent_whole at count t h in
      let (bytes, fits) = subst Spendable h (of_run floor code s (λ runs. Spendable (runs budget)) (λ n e. tt) (λ fits code_fits. spendable (run read (execute floor) next budget code s) (passed floor code budget 0 0 s (length code) (omega arith, straight code code_fits no_jump) (omega arith)) (ltb-false longest_code (length code) code_fits))) in
      omega arith
    where
      Spendable : Answer State → Type 0
      Spendable (finished at count t) = Unit {0}
      Spendable (spent at count t) = (count ≤ at) × (length code ≤ longest_code)
      Spendable (stopped n at count t) = Unit {0}

      spendable : (a : Answer State) → Passed a → length code ≤ longest_code → Spendable a
      spendable (finished at count t) h fits = tt
      spendable (spent at count t) h fits = (h, fits)
      spendable (stopped n at count t) h fits = tt

  -- a larger budget changes no run that was not spent
  pub larger_budget : (more : ℕ) → budget ≤ more → Ended (run_of floor code budget s) → run_of floor code more s ≡ run_of floor code budget s
  larger_budget more b =
      of_run floor code s (λ runs. Ended (runs budget) → runs more ≡ runs budget) (λ n e ended. refl)
      (λ fits code_fits ended. ended_stays read (execute floor) next code budget 0 0 s more b ended)

  -- the instructions in the order in which they stand are the block
  pub same_order : (end total : ℕ) (t : State) → has_no_jump code ≡ true → run_of floor code budget s ≡ finished end total t → rearranged read code (from 0 total) ≡ code
  same_order end total t no_jump h =
      let (fits, code_fits, ran) = fitting floor code budget end total s t h in
      own_order_same read is_jump local_reader (execute floor) next goes_on code budget end total s t (straight code code_fits no_jump) ran
