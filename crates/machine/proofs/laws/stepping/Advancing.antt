-- What a work leaves is what it performs; so a step's work, gathered and then done, is the step.
use Rattle.std.specs.Prelude.{Result, ◌≡◌, refl, Bool, true, false, cond, List, ℕ, ◌%◌, ◌^◌, ◌<◌, ◌≤◌, eqb, leb, length}
use Rattle.basis.proofs.Names.{ap, ◌∙◌, arith, eqb-true}
use Rattle.manual.specs.declared.Marks.{Marks}
use Rattle.manual.proofs.Loops.{answers}
use Rattle.works.specs.declared.Work.{Work}
use Rattle.works.specs.declared.performing.Moved.{Moved}
use Rattle.works.specs.Works.{to_operate, to_store, to_integer, to_empty, to_pass, to_set, to_count, left, left_by}
use Rattle.machine.specs.State.{state_of}
use Rattle.machine.specs.inner.Works.{machine_of, performed, Sound, Gathered, outcome_of, Advanced}

-- a register's number stays as it is
small : (k : ℕ) → k < 8 → k % 8 ≡ k
small k h = omega (arith, h)

-- what is made of either of two, by a test
branch : {A B : Type 0} (f : A → B) (t : Bool) (x y : A) (u v : B) → (t ≡ true → f x ≡ u) → (t ≡ false → f y ≡ v) → f (cond t x y) ≡ cond t u v
branch f true x y u v holds fails = holds refl
branch f false x y u v holds fails = fails refl

module _ (floor at : ℕ) (valid zero : Bool) (registers integers m : List ℕ) (work : Work) (sound : Sound work) (marks : Marks) (t : valid ≡ marks.valid) (z : zero ≡ marks.zero) where
  performs : outcome_of marks at (left_by work floor valid zero registers integers m) ≡ performed floor work at (state_of (machine_of registers integers marks) m)
  unfolding left_by performed
  performs =
      branch (outcome_of marks at) (eqb work.what to_operate) _ _ _ _
      (λ h. rw (z, small work.place (sound.operates (eqb-true work.what to_operate h))))
      (λ o. branch (outcome_of marks at) (eqb work.what to_store) _ _ _ _
      (λ h. branch (outcome_of marks at) (leb floor work.place) _ _ _ _ (λ above. rw z) (λ below. refl))
      (λ s. branch (outcome_of marks at) (eqb work.what to_integer) _ _ _ _
      (λ h. rw (z, small work.place (sound.moves (eqb-true work.what to_integer h))))
      (λ i. branch (outcome_of marks at) (eqb work.what to_empty) _ _ _ _ (λ h. rw z)
      (λ e. branch (outcome_of marks at) (eqb work.what to_pass) _ _ _ _ (λ h. rw (t, z))
      (λ p. branch (outcome_of marks at) (eqb work.what to_set) _ _ _ _
      (λ h. rw (t, z, small work.place (sound.sets (eqb-true work.what to_set h))))
      (λ a. branch (outcome_of marks at) (eqb work.what to_count) _ _ _ _
      (λ h. rw (t, small work.place (sound.counts (eqb-true work.what to_count h)), answers (eqb (work.value % 2 ^ 32) 0)))
      (λ c. refl)))))))

pub advanced : (registers integers : List ℕ) (bar : ℕ) (valid zero : Bool) (code : List ℕ) (at : ℕ) (m : List ℕ) (floor : ℕ) (work : Work) (answer : Result Moved ℕ) (registers' integers' m' : List ℕ)
    → floor ≤ length m → Gathered work registers integers bar zero code at m
    → left answer registers' integers' m' ≡ left_by work floor valid zero registers integers m
    → Advanced answer registers integers bar valid zero code at m floor registers' integers' m'
advanced registers integers bar valid zero code at m floor work answer registers' integers' m' fits g p =
    record { ends = λ marks b t z. ap (outcome_of marks at) p ∙ performs floor at valid zero registers integers m work g.sound marks t z ∙ g.steps floor fits marks b z }
