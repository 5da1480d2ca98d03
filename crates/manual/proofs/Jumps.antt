-- Where a run goes on: behind every instruction that is no jump, and at the target of a jump where the zero mark is clear; refused by 19 exactly
-- where that target is before 0 or past the end.
use Rattle.std.specs.Prelude.{◌≡◌, refl, Bool, true, false, not, cond, ◌&&◌, ℕ, ◌+◌, ◌-◌, ◌<◌, ◌≤◌, leb}
use Rattle.basis.proofs.Names.{ap, ◌∙◌, inl, inr, false≢true, arith, eq-eqb, ne_eqb, leb-true, leb-false, le-leb, lt-leb}
use Rattle.reorder.specs.Result.{Result, done, refused}
use Rattle.reorder.proofs.Cutting.{GoesOn}
use Rattle.codec.specs.declared.Instruction.{Instruction}
use Rattle.manual.specs.Refusals.{jumps_outside}
use Rattle.manual.specs.State.{State}
use Rattle.manual.specs.Jumps.{is_jump, ahead, jumped, onward_by, next}
use Rattle.manual.specs.Reasons.{Astray}

pub goes_on : GoesOn next is_jump
unfolding onward_by
goes_on i e length s behind = simp e

-- where a jump by a byte leads, in a code of so many bytes
data Leads (length behind byte : ℕ) : Result ℕ → Type 0 where
  inside : 256 ≤ ahead behind byte → ahead behind byte ≤ length + 256 → Leads length behind byte (done (ahead behind byte - 256))
  outside : Astray length behind byte → Leads length behind byte (refused jumps_outside)

leads : (length behind byte : ℕ) → Leads length behind byte (jumped length behind byte)
unfolding jumped
leads length behind byte = by (leb 256 (ahead behind byte)) (leb (ahead behind byte) (length + 256)) refl refl
  where
    by : (t u : Bool) → leb 256 (ahead behind byte) ≡ t → leb (ahead behind byte) (length + 256) ≡ u
        → Leads length behind byte (cond (t && u) (done (ahead behind byte - 256)) (refused jumps_outside))
    by true true e f = inside (leb-true _ _ e) (leb-true _ _ f)
    by true false e f = outside (inr (leb-false _ _ f))
    by false u e f = outside (inl (leb-false _ _ e))

-- a jump is taken, and goes astray
pub record Missing (length : ℕ) (i : Instruction) (s : State) (behind : ℕ) : Type 0 where
  pub jump : is_jump i ≡ true
  pub clear : s.marks.zero ≡ false
  pub astray : Astray length behind i.immediate

-- after an instruction, in the state before it, with the position behind it
module _ (length : ℕ) (i : Instruction) (s : State) (behind : ℕ) where
  -- another first byte than 75 is no jump
  pub no_jump : ¬ (i.first ≡ 0x75) → next length i s behind ≡ done behind
  no_jump other = goes_on i (ne_eqb i.first 0x75 other) length s behind

  -- a jump is not taken where the zero mark is set
  pub not_taken : s.marks.zero ≡ true → next length i s behind ≡ done behind
  unfolding onward_by
  not_taken set = by (is_jump i)
    where
      by : (t : Bool) → cond (t && not s.marks.zero) (jumped length behind i.immediate) (done behind) ≡ done behind
      by true = simp set
      by false = refl

  -- and else it is
  taken : is_jump i ≡ true → s.marks.zero ≡ false → next length i s behind ≡ jumped length behind i.immediate
  unfolding onward_by
  taken jump clear = simp (jump, clear)

  module _ (first : i.first ≡ 0x75) (clear : s.marks.zero ≡ false) where
    -- a byte below 128 is added to the position behind the jump: 19 where that is past the end
    pub forward : i.immediate < 128
        → next length i s behind ≡ cond (leb (behind + i.immediate) length) (done (behind + i.immediate)) (refused jumps_outside)
    forward small = taken (eq-eqb i.first 0x75 first) clear ∙ by (jumped length behind i.immediate) (leads length behind i.immediate)
      where
        sum : ahead behind i.immediate ≡ behind + (i.immediate + 256)
        sum = simp (lt-leb 128 i.immediate small)

        by : (o : Result ℕ) → Leads length behind i.immediate o → o ≡ cond (leb (behind + i.immediate) length) (done (behind + i.immediate)) (refused jumps_outside)
        by o (inside after before) = simp (le-leb (behind + i.immediate) length (omega (arith, sum))) (ap done (omega (arith, sum)))
        by o (outside (inl before)) = absurd (omega (arith, sum))
        by o (outside (inr past)) = simp (lt-leb (behind + i.immediate) length (omega (arith, sum)))

    -- one from 128 on leads back, by 256 less the byte: 19 where that is before 0
    pub backward : 128 ≤ i.immediate → i.immediate < 256 → behind ≤ length
        → next length i s behind ≡ cond (leb 256 (behind + i.immediate)) (done (behind - (256 - i.immediate))) (refused jumps_outside)
    backward large small within = taken (eq-eqb i.first 0x75 first) clear ∙ by (jumped length behind i.immediate) (leads length behind i.immediate)
      where
        sum : ahead behind i.immediate ≡ behind + i.immediate
        sum = simp (le-leb 128 i.immediate large)

        by : (o : Result ℕ) → Leads length behind i.immediate o
            → o ≡ cond (leb 256 (behind + i.immediate)) (done (behind - (256 - i.immediate))) (refused jumps_outside)
        by o (inside after before) = simp (le-leb 256 (behind + i.immediate) (omega (arith, sum))) (ap done (omega (arith, sum)))
        by o (outside (inl before)) = simp (lt-leb 256 (behind + i.immediate) (omega (arith, sum)))
        by o (outside (inr past)) = absurd (omega (arith, sum))

  -- 19 exactly where a jump that is taken goes astray, and no other number

  pub missing_refused : Missing length i s behind → next length i s behind ≡ refused jumps_outside
  missing_refused m = taken m.jump m.clear ∙ by (jumped length behind i.immediate) (leads length behind i.immediate) m.astray
    where
      by : (o : Result ℕ) → Leads length behind i.immediate o → Astray length behind i.immediate → o ≡ refused jumps_outside
      by o (inside after before) (inl low) = absurd (omega arith)
      by o (inside after before) (inr high) = absurd (omega arith)
      by o (outside a) astray = refl

  pub refused_missing : (n : ℕ) → next length i s behind ≡ refused n → (n ≡ jumps_outside) × Missing length i s behind
  unfolding onward_by
  refused_missing n h = by (is_jump i) s.marks.zero refl refl h
    where
      leading : is_jump i ≡ true → s.marks.zero ≡ false → (o : Result ℕ) → Leads length behind i.immediate o → o ≡ refused n
          → (n ≡ jumps_outside) × Missing length i s behind
      leading jump clear o (inside after before) h = absurd (false≢true (cc))
      leading jump clear o (outside astray) h = (cc, record { jump = jump; clear = clear; astray = astray })

      by : (t u : Bool) → is_jump i ≡ t → s.marks.zero ≡ u → cond (t && not u) (jumped length behind i.immediate) (done behind) ≡ refused n
          → (n ≡ jumps_outside) × Missing length i s behind
      by true false jump clear h = leading jump clear (jumped length behind i.immediate) (leads length behind i.immediate) h
      by true true jump clear h = absurd (false≢true (cc))
      by false u jump clear h = absurd (false≢true (cc))

  -- a run goes on within the code
  pub stays_within : (further : ℕ) → behind ≤ length → next length i s behind ≡ done further → further ≤ length
  unfolding onward_by
  stays_within further b h = by (is_jump i && not s.marks.zero) h
    where
      leading : (o : Result ℕ) → Leads length behind i.immediate o → o ≡ done further → further ≤ length
      leading o (inside after before) h = let same : ahead behind i.immediate - 256 ≡ further = cc in omega arith
      leading o (outside astray) h = absurd (false≢true (cc))

      by : (t : Bool) → cond t (jumped length behind i.immediate) (done behind) ≡ done further → further ≤ length
      by true h = leading (jumped length behind i.immediate) (leads length behind i.immediate) h
      by false h = let same : behind ≡ further = cc in omega arith

-- of a state, where a run goes on goes by the zero mark alone
pub by_zero_mark : (length : ℕ) (i : Instruction) (s t : State) (behind : ℕ) → s.marks.zero ≡ t.marks.zero → next length i s behind ≡ next length i t behind
by_zero_mark length i s t behind same = ap (λ (set : Bool). onward_by length i set behind) same
