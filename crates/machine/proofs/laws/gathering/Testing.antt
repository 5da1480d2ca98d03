-- The tests before an instruction's work: the control marks, where they stop it.
use Rattle.std.specs.Prelude.{◌≡◌, refl, Bool, true, false, not, ◌||◌, cond, ℕ, ◌≤◌, eqb, leb}
use Rattle.basis.proofs.Names.{sym, ap, ◌∙◌, false≢true, arith, rules, ne_eqb, eqb-true, leb-true}
use Rattle.words.proofs.Laws.{and_both}
use Rattle.reorder.specs.Result.{Result, refused}
use Rattle.codec.specs.Forms.{mmreg1·mmreg2/mem64, forms}
use Rattle.codec.specs.Opcodes.{used_form}
use Rattle.codec.specs.Table.{form_of}
use Rattle.codec.specs.declared.Kind.{Kind}
use Rattle.codec.specs.declared.Kind.TheVariants.{Ordinary, Emms, Silent, Loop}
use Rattle.codec.proofs.Bytes.{found_has, ordinary_suffix, used_kind, number_passes}
use Rattle.codec.proofs.FormNumbers.{in_range}
use Rattle.manual.specs.declared.Marks.{Marks}
use Rattle.manual.specs.Kinds.{heeded}
use Rattle.manual.specs.Effects.{unless_marked}
use Rattle.manual.proofs.Marking.{controlled}
use Rattle.machine.specs.inner.Ways.{is_unstopped}
use Rattle.works.specs.Bars.{barred_by}
use Rattle.machine.specs.inner.Works.{stopping_by}

module _ (marks : Marks) where
  -- what is left of an answer, by the number of the marks
  by_number : {A : Type 0} (o : Result A) → unless_marked marks o ≡ cond (eqb (barred_by marks) 0) o (refused (barred_by marks))
  unfolding barred_by
  by_number o = by marks.em marks.ts marks.pending
    where
      by : (em ts pending : Bool) → let tested = controlled marks em ts pending in
          unless_marked tested o ≡ cond (eqb (barred_by tested) 0) o (refused (barred_by tested))
      by true ts pending = refl
      by false true pending = refl
      by false false true = refl
      by false false false = refl

  pub unbarred_by : {A : Type 0} (o : Result A) → barred_by marks ≡ 0 → unless_marked marks o ≡ o
  unbarred_by o h = by_number o ∙ simp h

  pub barred_by_lem : {A : Type 0} (o : Result A) → (barred_by marks ≡ 0 → ⊥) → unless_marked marks o ≡ refused (barred_by marks)
  barred_by_lem o h = by_number o ∙ simp (ne_eqb (barred_by marks) 0 h)

-- the number of the marks as a form's kind heeds them
module _ (n : ℕ) (marks : Marks) where
  unstopped : (k : Kind) → Bool
  unstopped Ordinary = false
  unstopped Emms = false
  unstopped Silent = true
  unstopped Loop = true

  heeds : (k : Kind) (t : Bool) → unstopped k ≡ t → barred_by (heeded k marks) ≡ cond t 0 (barred_by marks)
  unfolding unstopped barred_by
  heeds Ordinary t e = rw (← e)
  heeds Emms t e = rw (← e)
  heeds Silent t e = rw (← e)
  heeds Loop t e = rw (← e)

  kind_unstopped : (t : Bool) → is_unstopped n ≡ t → unstopped (form_of n).kind ≡ t
  unfolding unstopped
  kind_unstopped true e =
      let (a, b) = and_both (leb 9 n) (leb n 14) e in
      let most : n ≤ 14 = leb-true n 14 b in
      in_range (λ k. unstopped (form_of k).kind ≡ true) 9 6 n (leb-true 9 n a) (omega arith) (refl, (refl, (refl, (refl, (refl, (refl, tt))))))
  kind_unstopped false e =
      found_has (λ form. form) mmreg1·mmreg2/mem64 (λ f. unstopped f.kind ≡ false) (λ form. eqb n form.number)
      (λ form. not (unstopped form.kind) || is_unstopped form.number) refl
      (λ form same h. other (unstopped form.kind) (is_unstopped form.number) h (ap is_unstopped (sym (eqb-true n form.number same)) ∙ e)) forms refl
    where
      other : (a b : Bool) → (not a || b) ≡ true → b ≡ false → a ≡ false
      other false b h g = refl
      other true b h g = absurd (false≢true (sym g ∙ h))

  pub stopped_by : (immediate : ℕ) → barred_by (heeded (used_form (form_of n) immediate).kind marks) ≡ stopping_by (barred_by marks) n
  stopped_by immediate =
      ap (λ (k : Kind). barred_by (heeded k marks)) (used_kind (form_of n) immediate (number_passes ordinary_suffix 0 n (omega arith) refl refl))
      ∙ heeds (form_of n).kind (is_unstopped n) (kind_unstopped (is_unstopped n) refl)

-- where no mark is set, none stops a form
pub none_stops : (bar n : ℕ) → bar ≡ 0 → stopping_by bar n ≡ 0
none_stops bar n e = by (is_unstopped n)
  where
    by : (t : Bool) → cond t 0 bar ≡ 0
    by true = refl
    by false = e

-- what the code answers of a form
module _ (bar n : ℕ) (t : Bool) (test : t ≡ is_unstopped n) where
  pub stopping_not : t ≡ true → 0 ≡ stopping_by bar n
  stopping_not e = simp (← test, e)

  pub stopping_other : t ≡ false → bar ≡ stopping_by bar n
  stopping_other e = simp (← test, e)

pub ruleset testing = (rules, stopping_not, stopping_other)
