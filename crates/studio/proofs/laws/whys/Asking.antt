-- What is answered after a question's run, by how it ended and by what was traced between its parts.
use Rattle.std.specs.Prelude.{◌≡◌, refl, ◌⊎◌, Bool, true, false, not, cond, Option, Result, Ok, Err, List, ℕ, min, ◌≤◌, ◌<◌, ltb, length}
use Rattle.basis.proofs.Names.{sym, inl, inr, ap, ap₂, subst, ◌∙◌, arith, rules, eq-eqb, ne_eqb, le-leb, lt-leb, lt-ltb, le-ltb, or-true, dec_lt, max}
use Rattle.refusals.specs.declared.Refusal.TheVariants.{NumbersWrong, BlockJumps}
use Rattle.reorder.specs.Run.{finished}
use Rattle.manual.specs.State.{State}
use Rattle.manual.specs.Runs.{run_of, reaches_jump, has_no_jump}
use Rattle.manual.specs.Footprints.{footprint_in_run}
use Rattle.manual.proofs.Bounds.{Bounds, Bounded, run_bounded}
use Rattle.machine.specs.declared.End.{End}
use Rattle.machine.specs.declared.End.TheVariants.{Done, Spent}
use Rattle.machine.specs.declared.End.TheVariants as end
use Rattle.machine.specs.declared.Machine.{Machine}
use Rattle.machine.specs.State.{state_of}
use Rattle.machine.specs.Runs.{paper_of_end}
use Rattle.machine.proofs.Positions.{ranged_run}
use Rattle.studio.specs.declared.Meeting as handed
use Rattle.studio.specs.declared.Unanswered.{Unanswered}
use Rattle.studio.specs.declared.Unanswered.TheVariants.{Refused, NotDone}
use Rattle.studio.specs.declared.whys.Watched.{Watched}
use Rattle.studio.specs.Meetings.{paper_of_meeting}
use Rattle.studio.specs.Whys.{budget, Reply, reply_after, meeting_in_run, asked, why_not, paper_of_asked}
use Rattle.studio.specs.inner.Meetings.{meeting_by}
use Rattle.studio.specs.inner.Parts.{Traces, Watches}
use Rattle.studio.proofs.laws.meetings.Listing.{meeting_listed}

module _ (code : List ℕ) (s : State) (low high near far : ℕ) (low_within : near ≡ min low budget) (high_within : far ≡ min high budget)
    (w : Watched) (m : List ℕ) (watched : Watches code s near far w m) where
  -- this answer is handed back, with the machine as the run left it
  abbrev Answers : Result (Option handed.Meeting) Unanswered → Type 0
  Answers why = paper_of_asked (record { why = why; machine = w.ran.machine }) m ≡ asked code low high s

  -- the run by how it ended
  ran : (e : End) → w.ran.end ≡ e → run_of 0 code budget s ≡ paper_of_end e w.ran.at w.ran.count (state_of w.ran.machine m)
  ran e h = sym watched.runs ∙ ap (λ (x : End). paper_of_end x w.ran.at w.ran.count (state_of w.ran.machine m)) h

  -- where it is not done
  pub asked_undone : (e : End) → w.ran.end ≡ e → (e ≡ Done → ⊥) → Answers (Err (NotDone e w.ran.at w.ran.count))
  unfolding asked
  asked_undone Done h other = absurd (other refl)
  asked_undone Spent h other = sym (ap (reply_after code low high s) (ran Spent h))
  asked_undone (end.Refused n) h other = sym (ap (reply_after code low high s) (ran (end.Refused n) h))

  module _ (h : w.ran.end ≡ Done) where
    after : asked code low high s ≡ reply_after code low high s (finished w.ran.at w.ran.count (state_of w.ran.machine m))
    unfolding asked
    after = ap (reply_after code low high s) (ran Done h)

    -- two equal numbers, or one that is not below the count
    pub asked_wrong : (low ≡ high) ⊎ ((low ≡ high → ⊥) × (w.ran.count ≤ high)) → Answers (Err (Refused NumbersWrong))
    asked_wrong (inl same) = sym (after ∙ simp (eq-eqb low high same))
    asked_wrong (inr (other, past)) = sym (after ∙ simp (le-leb w.ran.count high past, or-true))

    bounds : Bounds code budget s w.ran.at w.ran.count (state_of w.ran.machine m)
    bounds = subst (Bounded code budget s) (ran Done h) (run_bounded 0 code budget s)

    pub asked_met : (low ≡ high → ⊥) × (high < w.ran.count) → low ≤ high → (met : Option handed.Meeting)
        → paper_of_meeting met ≡ meeting_by (length s.memory) w.first w.second → Answers (Ok met)
    asked_met (other, below) ordered met found =
        let near_is : near ≡ low = omega (arith, bounds.completed_steps) in
        let far_is : far ≡ high = omega (arith, bounds.completed_steps) in
        let low_below : low < w.ran.count = omega arith in
        let meets : meeting_in_run code low high s ≡ paper_of_meeting met =
        sym (found ∙ meeting_listed (length s.memory) (footprint_in_run 0 code s low) (footprint_in_run 0 code s high) w.first w.second
        (ranged_run 0 code s low) (ranged_run 0 code s high)
        (subst (λ (k : ℕ). Traces code s k w.first) near_is watched.first) (subst (λ (k : ℕ). Traces code s k w.second) far_is watched.second)) in
        sym (after ∙ simp (ne_eqb low high other, lt-leb w.ran.count low low_below, lt-leb w.ran.count high below, meets))

pub ruleset asking = (rules, asked_undone, asked_wrong, asked_met)

-- 30, and the numbers in either order
module _ (code : List ℕ) (first second : ℕ) (k : Machine) (m : List ℕ) (jumps : Bool) (reached : jumps ≡ reaches_jump code) where
  pub why_jumps : jumps ≡ true → paper_of_asked (record { why = Err (Refused BlockJumps); machine = k }) m ≡ why_not code first second (state_of k m)
  unfolding why_not
  why_jumps e = sym (simp (← reached, e))

  pub no_jump : jumps ≡ false → has_no_jump code ≡ true
  no_jump e = ap not (sym reached ∙ e)

  module _ (straight : jumps ≡ false) (R : Reply) where
    pub why_sorted : R ≡ asked code (min first second) (max first second) (state_of k m) → R ≡ why_not code first second (state_of k m)
    unfolding why_not
    why_sorted e = e ∙ sym (simp (← reached, straight) (by (dec_lt first second)))
      where
        by : Dec (first < second) → cond (ltb first second) (asked code first second (state_of k m)) (asked code second first (state_of k m))
            ≡ asked code (min first second) (max first second) (state_of k m)
        by (yes h) =
            let low : first ≡ min first second = omega arith in
            let high : second ≡ max first second = omega arith in
            simp (lt-ltb first second h) (ap₂ (λ i j. asked code i j (state_of k m)) low high)
        by (no h) =
            let low : second ≡ min first second = omega arith in
            let high : first ≡ max first second = omega arith in
            simp (le-ltb first second (omega arith)) (ap₂ (λ i j. asked code i j (state_of k m)) low high)

pub ruleset choosing = (rules, why_jumps, no_jump, why_sorted)
