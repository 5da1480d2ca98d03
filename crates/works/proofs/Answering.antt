-- The works of 3DNow's instructions, by their suffixes. Rules for the functions that make them.
use Rattle.std.specs.Prelude.{◌≡◌, refl, ℕ, eqb, Option, Some}
use Rattle.basis.proofs.Names.{sym, ap, ap₂, ◌∙◌, rules, ne_eqb, eqb-true}
use Rattle.lanes.specs.Operations.{described, MOVE, PAVGB}
use Rattle.singles.specs.Siblings.{Sibling, PF2IW, PI2FW, PSWAPD, PAVGUSB, PFCMPGT, PFMAX, pf2iw, pi2fw, pswapd, pfcmpgt, pfmax, leave}
use Rattle.codec.specs.Contents.{maximum, siblings}
use Rattle.codec.specs.Opcodes.{suffixed_of}
use Rattle.codec.proofs.Bytes.{found_each}
use Rattle.works.specs.declared.Work.{Work}
use Rattle.works.specs.Works.{to_operate}
use Rattle.works.specs.Siblings.{value_left, operation_left, sibling_work, suffixed_work}

-- a suffix names its instruction
module _ (suffix : ℕ) where
  abbrev Names : Sibling → Type 0
  Names x = (suffixed_of suffix).sibling ≡ x

  names_words : suffix ≡ 0x1c → Names PF2IW
  unfolding suffixed_of
  names_words e = simp e

  names_singles : suffix ≡ 0x0c → Names PI2FW
  unfolding suffixed_of
  names_singles e = simp e

  names_swap : suffix ≡ 0xbb → Names PSWAPD
  unfolding suffixed_of
  names_swap e = simp e

  names_mean : suffix ≡ 0xbf → Names PAVGUSB
  unfolding suffixed_of
  names_mean e = simp e

  names_greater : suffix ≡ 0xa0 → Names PFCMPGT
  unfolding suffixed_of
  names_greater e = simp e

  -- PFMAX, where it is none of the others
  names_maximum : (suffix ≡ 0x1c → ⊥) → (suffix ≡ 0x0c → ⊥) → (suffix ≡ 0xbb → ⊥) → (suffix ≡ 0xbf → ⊥) → (suffix ≡ 0xa0 → ⊥) → Names PFMAX
  unfolding suffixed_of
  names_maximum a b c d e =
      found_each (λ x. x) maximum (λ x. x.sibling ≡ PFMAX) (λ x. eqb suffix x.suffix) refl siblings (
        λ h. absurd (a (eqb-true suffix 0x1c h)),
        (
          λ h. absurd (b (eqb-true suffix 0x0c h)),
          (
            λ h. absurd (c (eqb-true suffix 0xbb h)),
            (λ h. absurd (d (eqb-true suffix 0xbf h)), (λ h. absurd (e (eqb-true suffix 0xa0 h)), (λ h. refl, tt))),
          ),
        ),
      )

  -- what it leaves
  module _ (old source : ℕ) (r : Option ℕ) where
    abbrev Leaving : Type 0
    Leaving = r ≡ value_left (suffixed_of suffix).sibling old source

    left_by : (x : Sibling) → Names x → r ≡ value_left x old source → Leaving
    left_by x e h = h ∙ ap (λ (y : Sibling). value_left y old source) (sym e)

    pub left_words : suffix ≡ 0x1c → r ≡ pf2iw source → Leaving
    unfolding leave
    left_words e h = left_by PF2IW (names_words e) h

    pub left-greater : suffix ≡ 0xa0 → r ≡ pfcmpgt old source → Leaving
    unfolding leave
    left-greater e h = left_by PFCMPGT (names_greater e) h

    pub left_singles : (v : ℕ) → suffix ≡ 0x0c → v ≡ pi2fw source → r ≡ Some v → Leaving
    unfolding leave
    left_singles v e g h = left_by PI2FW (names_singles e) (h ∙ ap Some g)

    pub left_swap : (v : ℕ) → suffix ≡ 0xbb → v ≡ pswapd source → r ≡ Some v → Leaving
    unfolding leave
    left_swap v e g h = left_by PSWAPD (names_swap e) (h ∙ ap Some g)

    pub left-mean : suffix ≡ 0xbf → r ≡ Some source → Leaving
    left-mean e h = left_by PAVGUSB (names_mean e) h

    pub left-maximum : (suffix ≡ 0x1c → ⊥) → (suffix ≡ 0xa0 → ⊥) → (suffix ≡ 0x0c → ⊥) → (suffix ≡ 0xbb → ⊥) → (suffix ≡ 0xbf → ⊥) → r ≡ pfmax old source → Leaving
    unfolding leave
    left-maximum word greater single swap mean h = left_by PFMAX (names_maximum word single swap mean greater) h

  pub operation_mean : suffix ≡ 0xbf → (described PAVGB).number ≡ operation_left (suffixed_of suffix).sibling
  operation_mean e = ap operation_left (sym (names_mean e))

  -- all others move
  pub operation_move : (suffix ≡ 0xbf → ⊥) → (described MOVE).number ≡ operation_left (suffixed_of suffix).sibling
  unfolding suffixed_of
  operation_move none =
      found_each (λ x. x) maximum (λ x. (described MOVE).number ≡ operation_left x.sibling) (λ x. eqb suffix x.suffix) refl siblings
      (λ h. refl, (λ h. refl, (λ h. refl, (λ h. absurd (none (eqb-true suffix 0xbf h)), (λ h. refl, (λ h. refl, tt))))))

-- from a work that has it, unless that is refused
module _ (suffix old : ℕ) (work r : Work) where
  pub suffixed-refused : (work.what ≡ to_operate → ⊥) → r ≡ work → r ≡ suffixed_work suffix old work
  suffixed-refused e h = h ∙ (simp (ne_eqb work.what to_operate e))

  pub suffixed_made : work.what ≡ to_operate → r ≡ sibling_work (suffixed_of suffix).sibling old work.value work.place work.next → r ≡ suffixed_work suffix old work
  suffixed_made e made = simp e made

pub ruleset answering = (rules, left_words, left-greater, left_singles, left_swap, left-mean, left-maximum, operation_mean, operation_move, suffixed-refused, suffixed_made)
