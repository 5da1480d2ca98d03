-- Refusal 22: what an instruction computes is refused exactly where one of PF2IW, PFCMPGT and PFMAX reads an unsupported half.
use Rattle.std.specs.Prelude.{◌≡◌, refl, Bool, true, false, cond, ◌||◌, List, [], ◌∷◌, map, ℕ, eqb}
use Rattle.basis.specs.Names.{Memᴰ as In}
use Rattle.basis.proofs.Names.{sym, ap, subst, ◌∙◌, false≢true, Memᴰ-head as here, Memᴰ-tail as there}
use Rattle.singles.specs.Siblings.{Sibling, PF2IW, PI2FW, PSWAPD, PAVGUSB, PFCMPGT, PFMAX, leave, has_unsupported, refuses}
use Rattle.singles.proofs.Failing.{fails_where, leaves_where}
use Rattle.reorder.specs.Result.{Result, done, refused, map_result}
use Rattle.codec.specs.Forms.{Use, Slot, Form, has_suffix}
use Rattle.codec.specs.Contents.{Suffixed, maximum, siblings}
use Rattle.codec.specs.Opcodes.{suffixed_of, form_for, operation_for}
use Rattle.codec.specs.declared.Instruction.{Instruction}
use Rattle.codec.proofs.Bytes.{found_each}
use Rattle.manual.specs.Refusals.{half_unsupported}
use Rattle.manual.specs.State.{State}
use Rattle.manual.specs.Locations.{Location, locate}
use Rattle.manual.specs.Effects.{number_of}
use Rattle.manual.specs.Instructions.{sources, targets, kept_by, supported, left_by_suffix, result_by, effect_of}
use Rattle.manual.specs.Reasons.{reads_singles, Unsupported}

module _ (s : State) where
  abbrev is_unsupported : Location → Bool
  is_unsupported x = has_unsupported (number_of s x)

  -- one of the operands that are read as pairs of numbers has an unsupported half
  abbrev Reads : Sibling → List Location → Type 0
  Reads x xs = (reads_singles x ≡ true) × ((y : Location) × (In y xs × (is_unsupported y ≡ true)))

  -- a result is refused by 22 where there is a reason for it, and else there
  pub data Decided {A : Type 0} (R : Type 0) (o : Result A) : Type 0 where
    fails : R → o ≡ refused half_unsupported → Decided R o
    leaves : ¬ R → (v : A) → o ≡ done v → Decided R o

  decided : (x : Sibling) (xs : List Location) (a b : ℕ) (t : Bool) → refuses x a b ≡ t → (t ≡ true → Reads x xs) → (t ≡ false → ¬ Reads x xs)
      → Decided (Reads x xs) (supported (leave x a b))
  decided x xs a b true e due none = fails (due refl) (ap supported (fails_where x a b e))
  decided x xs a b false e due none = let (v, h) = leaves_where x a b e in leaves (none refl) v (ap supported h)

  -- no numbers are read so
  unread : (x : Sibling) (xs : List Location) (a b : ℕ) → refuses x a b ≡ false → reads_singles x ≡ false → Decided (Reads x xs) (supported (leave x a b))
  unread x xs a b e none = decided x xs a b false e (λ z. absurd (false≢true z)) (λ z r. false≢true (sym none ∙ r.0))

  -- the source alone is
  one_read : (x : Sibling) (y : Location) → reads_singles x ≡ true → refuses x (number_of s y) (number_of s y) ≡ is_unsupported y
      → Decided (Reads x (y ∷ [])) (supported (leave x (number_of s y) (number_of s y)))
  one_read x y reads e = decided x (y ∷ []) (number_of s y) (number_of s y) (is_unsupported y) e (λ h. (reads, (y, (here refl, h)))) (λ h r. none r.1.1.0 r.1.1.1 h)
    where
      none : {z : Location} → In z (y ∷ []) → is_unsupported z ≡ true → is_unsupported y ≡ false → ⊥
      none (there h') h g = elim h' [ ]
      none (here same) h g = false≢true (sym g ∙ ap is_unsupported (sym same) ∙ h)

  -- both are
  both_read : (x : Sibling) (y z : Location) → reads_singles x ≡ true → refuses x (number_of s y) (number_of s z) ≡ (is_unsupported y || is_unsupported z)
      → Decided (Reads x (y ∷ z ∷ [])) (supported (leave x (number_of s y) (number_of s z)))
  both_read x y z reads e = by (is_unsupported y) (is_unsupported z) refl refl e
    where
      by : (t u : Bool) → is_unsupported y ≡ t → is_unsupported z ≡ u → refuses x (number_of s y) (number_of s z) ≡ (t || u)
          → Decided (Reads x (y ∷ z ∷ [])) (supported (leave x (number_of s y) (number_of s z)))
      by true u f g e = decided x _ _ _ true e (λ h. (reads, (y, (here refl, f)))) (λ h r. false≢true (sym h))
      by false true f g e = decided x _ _ _ true e (λ h. (reads, (z, (there (here refl), g)))) (λ h r. false≢true (sym h))
      by false false f g e = decided x _ _ _ false e (λ h. absurd (false≢true h)) (λ h r. none r.1.1.0 r.1.1.1)
        where
          none : {w : Location} → In w (y ∷ z ∷ []) → is_unsupported w ≡ true → ⊥
          none (there (there h')) h = elim h' [ ]
          none (here same) h = false≢true (sym f ∙ ap is_unsupported (sym same) ∙ h)
          none (there (here same)) h = false≢true (sym g ∙ ap is_unsupported (sym same) ∙ h)

  -- by the suffix
  module _ (i : Instruction) where
    abbrev taken : Suffixed → List Location
    taken x = map (locate i) (sources x.form.operands)

    abbrev SuffixDecides : Suffixed → Type 0
    SuffixDecides x = Decided (Reads x.sibling (taken x)) (left_by_suffix x (map (number_of s) (taken x)))

    suffix_decides : (suffix : ℕ) → SuffixDecides (suffixed_of suffix)
    unfolding suffixed_of
    suffix_decides suffix =
        found_each (λ x. x) maximum SuffixDecides (λ x. eqb suffix x.suffix) (both_read PFMAX _ _ refl refl) siblings (
          λ e. one_read PF2IW _ refl refl,
          (
            λ e. unread PI2FW _ _ _ refl refl,
            (
              λ e. unread PSWAPD _ _ _ refl refl,
              (
                λ e. unread PAVGUSB _ _ _ refl refl,
                (λ e. both_read PFCMPGT _ _ refl refl, (λ e. both_read PFMAX _ _ refl refl, tt)),
              ),
            ),
          ),
        )

    -- what it computes of its operands' numbers, by whether it has a suffix
    abbrev form : Form
    form = form_for i.first i.second

    abbrev used : Bool → List (Use × Slot)
    used t = (cond t (suffixed_of i.immediate).form form).operands

    abbrev taken_by : Bool → List Location
    taken_by t = map (locate i) (sources (used t))

    abbrev made_by : Bool → Result (List ℕ)
    made_by t =
        let values = map (number_of s) (taken_by t) in
        map_result (λ left. map (λ x. kept_by x left) (targets (used t)))
        (cond t (left_by_suffix (suffixed_of i.immediate) values) (done (result_by form (operation_for i.first i.second i.operand.reg) i.immediate values)))

    pub made_exactly : Decided (Unsupported s i) ((effect_of i).value (map (number_of s) (effect_of i).takes))
    unfolding effect_of
    made_exactly = by (has_suffix form) refl
      where
        on : has_suffix form ≡ true → Decided (Reads (suffixed_of i.immediate).sibling (taken_by true)) (left_by_suffix (suffixed_of i.immediate) (map (number_of s) (taken_by true)))
            → Decided (Unsupported s i) (made_by (has_suffix form))
        on e (fails (reads, (y, (m, h))) o) =
            fails (record { suffixed = e; reading_singles = reads; operand = y; is_read = subst (λ (t : Bool). In y (taken_by t)) (sym e) m; half = h })
            (ap made_by e ∙ ap (map_result (λ left. map (λ x. kept_by x left) (targets (used true)))) o)
        on e (leaves none v o) =
            leaves (λ u. none (u.reading_singles, (u.operand, (subst (λ (t : Bool). In u.operand (taken_by t)) e u.is_read, u.half)))) _
            (ap made_by e ∙ ap (map_result (λ left. map (λ x. kept_by x left) (targets (used true)))) o)

        by : (t : Bool) → has_suffix form ≡ t → Decided (Unsupported s i) (made_by (has_suffix form))
        by true e = on e (suffix_decides i.immediate)
        by false e = leaves (λ u. false≢true (sym e ∙ u.suffixed)) _ (ap made_by e)
