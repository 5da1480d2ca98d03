-- Reading from 0 onward: the positions that it comes to. It reaches an instruction exactly where it comes to a position at which that stands; so it
-- reaches a jump exactly where it comes to 75 and a byte.
use Rattle.std.specs.Prelude.{◌≡◌, refl, Bool, true, false, not, ◌||◌, List, [], ◌∷◌, ℕ, zero, suc, ◌+◌, ◌≤◌, ltb, length, drop, ◌↔◌}
use Rattle.basis.proofs.Names.{sym, ap, ◌∙◌, false≢true, drop-drop, arith, eqb-true, le-ltb, ltb-false, not-true}
use Rattle.words.proofs.Laws.{and_both}
use Rattle.reorder.specs.Result.{Result, done, refused, case_of}
use Rattle.reorder.specs.Run.{Fetched}
use Rattle.reorder.specs.Block.{reaches_up_to, reaches}
use Rattle.reorder.proofs.Cutting.{Clear, clear_first}
use Rattle.codec.specs.Reads.{longest_code, read_part}
use Rattle.codec.specs.Reasons.{Starts}
use Rattle.codec.specs.declared.Instruction.{Instruction}
use Rattle.manual.specs.Jumps.{is_jump}
use Rattle.manual.specs.Steps.{result_of}
use Rattle.manual.specs.Runs.{read, reaches_jump, has_no_jump}
use Rattle.manual.proofs.Locality.{found_of, local_reader}
use Rattle.manual.proofs.JumpTargets.{jump_read, read_jump}

-- reading from 0 onward comes to 0, and from where it finds an instruction to the position behind that
pub data ComesTo (code : List ℕ) : ℕ → Type 0 where
  start : ComesTo code 0
  onward : (at : ℕ) (found : Fetched Instruction) → ComesTo code at → read (drop at code) ≡ done found → ComesTo code (at + found.size)

-- at a position that it comes to it finds an instruction that passes a test
pub record Reached (such : Instruction → Bool) (code : List ℕ) : Type 0 where
  pub at : ℕ
  pub comes : ComesTo code at
  pub found : Fetched Instruction
  pub stands : read (drop at code) ≡ done found
  pub passes : such found.instruction ≡ true

module _ (such : Instruction → Bool) (code : List ℕ) where
  reached : (most at : ℕ) → ComesTo code at → reaches_up_to read such most (drop at code) ≡ true → Reached such code
  reached zero at comes h = absurd (false≢true h)
  reached (suc most) at comes h = reading (read (drop at code)) refl (reached most) h
    where
      Further : Type 0
      Further = (at : ℕ) → ComesTo code at → reaches_up_to read such most (drop at code) ≡ true → Reached such code

      testing : (found : Fetched Instruction) → read (drop at code) ≡ done found → Further → (t : Bool) → such found.instruction ≡ t
          → (t || reaches_up_to read such most (drop found.size (drop at code))) ≡ true → Reached such code
      testing found e further true t h = record { at = at; comes = comes; found = found; stands = e; passes = t }
      testing found e further false t h = further (at + found.size) (onward at found comes e) (rw drop-drop at h)

      reading : (o : Result (Fetched Instruction)) → read (drop at code) ≡ o → Further
          → case_of o (λ n. false) (λ found. such found.instruction || reaches_up_to read such most (drop found.size (drop at code))) ≡ true → Reached such code
      reading (refused n) e further h = absurd (false≢true h)
      reading (done found) e further h = testing found e further (such found.instruction) refl h

  -- where it reaches none, it reaches none from any position that it comes to
  clear_from : reaches read such code ≡ false → (at : ℕ) → ComesTo code at → (most : ℕ) × Clear read such most (drop at code)
  clear_from none at start = (length code, (omega arith, none))
  clear_from none at (onward before found comes e) =
      let (most, clear) = clear_from none before comes in
      let (here, fewer, further) = clear_first read such local_reader most (drop before code) found e clear in
      (fewer, rw drop-drop at further)

  pub reaches_exactly : (reaches read such code ≡ true) ↔ Reached such code
  reaches_exactly = (reached (length code) 0 start, λ r. by r (reaches read such code) refl)
    where
      by : Reached such code → (t : Bool) → reaches read such code ≡ t → t ≡ true
      by r true e = refl
      by r false e =
          let (most, clear) = clear_from e r.at r.comes in
          absurd (false≢true (sym (clear_first read such local_reader most (drop r.at code) r.found r.stands clear).0 ∙ r.passes))

-- in a code that is not too long it comes to 75 and a byte
pub record ReachedJump (code : List ℕ) : Type 0 where
  pub code_fits : length code ≤ longest_code
  pub at : ℕ
  pub comes : ComesTo code at
  pub byte : ℕ
  pub stands : Starts (0x75 ∷ byte ∷ []) (drop at code)

module _ (code : List ℕ) where
  pub reaches_jump_exactly : (reaches_jump code ≡ true) ↔ ReachedJump code
  unfolding read
  reaches_jump_exactly = (there, back)
    where
      there : reaches_jump code ≡ true → ReachedJump code
      there h =
          let (fits, reaching) = and_both (not (ltb longest_code (length code))) (reaches read is_jump code) h in
          let r = (reaches_exactly is_jump code).0 reaching in
          let i = r.found.instruction in
          let stands = found_of (read_part (drop r.at code)) r.found r.stands in
          record {
            code_fits = ltb-false longest_code (length code) (not-true _ fits);
            at = r.at;
            comes = r.comes;
            byte = i.immediate;
            stands = (read_jump (drop r.at code) i r.found.size stands (eqb-true i.first 0x75 r.passes)).0;
          }

      back : ReachedJump code → reaches_jump code ≡ true
      back r =
          let (rest, starts) = r.stands in
          simp (le-ltb longest_code (length code) r.code_fits)
          ((reaches_exactly is_jump code).1
          (record { at = r.at; comes = r.comes; found = _; stands = ap result_of (ap read_part starts ∙ jump_read r.byte rest); passes = refl }))

  pub has_no_jump_exactly : (has_no_jump code ≡ true) ↔ ¬ ReachedJump code
  has_no_jump_exactly = (λ h r. false≢true (sym (not-true _ h) ∙ reaches_jump_exactly.1 r), λ none. by (reaches_jump code) refl none)
    where
      by : (t : Bool) → reaches_jump code ≡ t → ¬ ReachedJump code → not t ≡ true
      by true e none = absurd (none (reaches_jump_exactly.0 e))
      by false e none = refl
