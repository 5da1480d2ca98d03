-- How a run ends: done at the code's end, spent with its whole budget before it; and a larger budget changes no run that was not spent. By
-- induction over a run's turns, said once.
use Rattle.std.specs.Prelude.{◌≡◌, refl, List, ℕ, zero, suc, ◌+◌, ◌≤◌, length, drop}
use Rattle.basis.proofs.Names.{sym, subst, add-zero, ℕ_discrete, arith, eq-eqb, ne_eqb}
use Rattle.reorder.specs.Result.{Result, done, refused}
use Rattle.reorder.specs.Run.{Fetched, Answer, finished, spent, stopped, run_from}

-- what an answer says of its position and count, where a run may count so far
abbrev pub EndsWell : {S : Type 0} → List ℕ → ℕ → Answer S → Type 0
EndsWell code most (finished at count t) = at ≡ length code
EndsWell code most (spent at count t) = (count ≡ most) × ¬ (at ≡ length code)
EndsWell code most (stopped n at count t) = Unit {0}

-- it was not spent
abbrev pub Ended : {S : Type 0} → Answer S → Type 0
Ended (finished at count t) = Unit {0}
Ended (spent at count t) = ⊥
Ended (stopped n at count t) = Unit {0}

module _ {S I : Type 0} (read : List ℕ → Result (Fetched I)) (exec : I → S → Result S) (next : ℕ → I → S → ℕ → Result ℕ) (code : List ℕ) where
  -- a property of runs (what is left of the budget, the position, the count, the state, the answer) that each way to end has, and that a turn
  -- hands back from the run after it
  pub record ByTurns (P : ℕ → ℕ → ℕ → S → Answer S → Type 0) : Type 0 where
    pub ends : (remaining at count : ℕ) (s : S) → at ≡ length code → P remaining at count s (finished at count s)
    pub spends : (at count : ℕ) (s : S) → ¬ (at ≡ length code) → P zero at count s (spent at count s)
    pub unread : (remaining at count n : ℕ) (s : S) → ¬ (at ≡ length code) → read (drop at code) ≡ refused n → P (suc remaining) at count s (stopped n at count s)
    pub unexecuted : (remaining at count n : ℕ) (s : S) (r : Fetched I) → ¬ (at ≡ length code) → read (drop at code) ≡ done r → exec r.instruction s ≡ refused n
        → P (suc remaining) at count s (stopped n at count s)
    pub astray : (remaining at count n : ℕ) (s t : S) (r : Fetched I) → ¬ (at ≡ length code) → read (drop at code) ≡ done r → exec r.instruction s ≡ done t
        → next (length code) r.instruction s (at + r.size) ≡ refused n → P (suc remaining) at count s (stopped n at count s)
    pub turns : (remaining at count : ℕ) (s t : S) (r : Fetched I) (further : ℕ) (a : Answer S) → ¬ (at ≡ length code) → read (drop at code) ≡ done r
        → exec r.instruction s ≡ done t → next (length code) r.instruction s (at + r.size) ≡ done further → P remaining further (suc count) t a
        → P (suc remaining) at count s a

  pub by_turns : (P : ℕ → ℕ → ℕ → S → Answer S → Type 0) → ByTurns P → (remaining at count : ℕ) (s : S) → P remaining at count s (run_from read exec next remaining code at count s)
  by_turns P h zero at count s = go (ℕ_discrete at (length code))
    where
      go : Dec (at ≡ length code) → P zero at count s (run_from read exec next zero code at count s)
      go (yes e) = simp (eq-eqb _ _ e) (h.ends zero at count s e)
      go (no e) = simp (ne_eqb _ _ e) (h.spends at count s e)
  by_turns P h (suc remaining) at count s = go (ℕ_discrete at (length code)) (by_turns P h remaining)
    where
      Further : Type 0
      Further = (at count : ℕ) (s : S) → P remaining at count s (run_from read exec next remaining code at count s)

      Here : Type 0
      Here = P (suc remaining) at count s (run_from read exec next (suc remaining) code at count s)

      going : ¬ (at ≡ length code) → Further → (r : Fetched I) → read (drop at code) ≡ done r → (t : S) → exec r.instruction s ≡ done t
          → (o : Result ℕ) → next (length code) r.instruction s (at + r.size) ≡ o → Here
      going e rest r er t et (refused n) eo = simp (ne_eqb _ _ e, er, et, eo) (h.astray remaining at count n s t r e er et eo)
      going e rest r er t et (done further) eo =
          simp (ne_eqb _ _ e, er, et, eo) (h.turns remaining at count s t r further _ e er et eo (rest further (suc count) t))

      executing : ¬ (at ≡ length code) → Further → (r : Fetched I) → read (drop at code) ≡ done r → (o : Result S) → exec r.instruction s ≡ o → Here
      executing e rest r er (refused n) eo = simp (ne_eqb _ _ e, er, eo) (h.unexecuted remaining at count n s r e er eo)
      executing e rest r er (done t) eo = going e rest r er t eo (next (length code) r.instruction s (at + r.size)) refl

      reading : ¬ (at ≡ length code) → Further → (o : Result (Fetched I)) → read (drop at code) ≡ o → Here
      reading e rest (refused n) eo = simp (ne_eqb _ _ e, eo) (h.unread remaining at count n s e eo)
      reading e rest (done r) eo = executing e rest r eo (exec r.instruction s) refl

      go : Dec (at ≡ length code) → Further → Here
      go (yes e) rest = simp (eq-eqb _ _ e) (h.ends (suc remaining) at count s e)
      go (no e) rest = reading e rest (read (drop at code)) refl

  pub ends_well : (remaining at count : ℕ) (s : S) → EndsWell code (count + remaining) (run_from read exec next remaining code at count s)
  ends_well =
      by_turns (λ remaining at count s a. EndsWell code (count + remaining) a)
      (record {
        ends = λ remaining at count s e. e;
        spends = λ at count s e. (sym (add-zero count), e);
        unread = λ remaining at count n s e er. tt;
        unexecuted = λ remaining at count n s r e er eo. tt;
        astray = λ remaining at count n s t r e er et eo. tt;
        turns = λ remaining at count s t r further a e er et eo rest. subst (λ (most : ℕ). EndsWell code most a) (omega arith) rest;
      })

  -- with more left of the budget the answer is the same
  abbrev Stays : ℕ → ℕ → ℕ → S → Answer S → Type 0
  Stays remaining at count s a = (more : ℕ) → remaining ≤ more → Ended a → run_from read exec next more code at count s ≡ a

  pub ended_stays : (remaining at count : ℕ) (s : S) → Stays remaining at count s (run_from read exec next remaining code at count s)
  ended_stays =
      by_turns Stays
      (record {
        ends = at_end;
        spends = λ at count s e more b ended. absurd ended;
        unread = not_read;
        unexecuted = not-executed;
        astray = goes-astray;
        turns = goes_on;
      })
    where
      at_end : (remaining at count : ℕ) (s : S) → at ≡ length code → Stays remaining at count s (finished at count s)
      at_end remaining at count s e zero b ended = simp (eq-eqb _ _ e)
      at_end remaining at count s e (suc more) b ended = simp (eq-eqb _ _ e)

      not_read : (remaining at count n : ℕ) (s : S) → ¬ (at ≡ length code) → read (drop at code) ≡ refused n → Stays (suc remaining) at count s (stopped n at count s)
      not_read remaining at count n s e er zero b ended = absurd (omega arith)
      not_read remaining at count n s e er (suc more) b ended = simp (ne_eqb _ _ e, er)

      not-executed : (remaining at count n : ℕ) (s : S) (r : Fetched I) → ¬ (at ≡ length code) → read (drop at code) ≡ done r → exec r.instruction s ≡ refused n
          → Stays (suc remaining) at count s (stopped n at count s)
      not-executed remaining at count n s r e er eo zero b ended = absurd (omega arith)
      not-executed remaining at count n s r e er eo (suc more) b ended = simp (ne_eqb _ _ e, er, eo)

      goes-astray : (remaining at count n : ℕ) (s t : S) (r : Fetched I) → ¬ (at ≡ length code) → read (drop at code) ≡ done r → exec r.instruction s ≡ done t
          → next (length code) r.instruction s (at + r.size) ≡ refused n → Stays (suc remaining) at count s (stopped n at count s)
      goes-astray remaining at count n s t r e er et eo zero b ended = absurd (omega arith)
      goes-astray remaining at count n s t r e er et eo (suc more) b ended = simp (ne_eqb _ _ e, er, et, eo)

      goes_on : (remaining at count : ℕ) (s t : S) (r : Fetched I) (further : ℕ) (a : Answer S) → ¬ (at ≡ length code) → read (drop at code) ≡ done r
          → exec r.instruction s ≡ done t → next (length code) r.instruction s (at + r.size) ≡ done further → Stays remaining further (suc count) t a
          → Stays (suc remaining) at count s a
      goes_on remaining at count s t r further a e er et eo rest zero b ended = absurd (omega arith)
      goes_on remaining at count s t r further a e er et eo rest (suc more) b ended = simp (ne_eqb _ _ e, er, et, eo) (rest more (omega arith) ended)
