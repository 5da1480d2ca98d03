-- The operation of a shift by an immediate: the numbers that the code names are those of the operations. Rules for the functions of shifts.
use Rattle.std.specs.Prelude.{◌≡◌, ℕ}
use Rattle.basis.proofs.Names.{rules, eq-eqb, ne_eqb}
use Rattle.lanes.specs.Operations.{operation_of, PSRLW, PSRLD, PSRLQ, PSRAW, PSRAD, PSLLW, PSLLD, PSLLQ, KEEP}
use Rattle.codec.specs.inner.Entries.{of_width, shift_of}

module _ (lane word doubleword quadword : ℕ) where
  pub width_word : lane ≡ 16 → operation_of word ≡ of_width lane (operation_of word) (operation_of doubleword) (operation_of quadword)
  width_word w = simp (eq-eqb lane 16 w)

  pub width_doubleword : (lane ≡ 16 → ⊥) → lane ≡ 32 → operation_of doubleword ≡ of_width lane (operation_of word) (operation_of doubleword) (operation_of quadword)
  width_doubleword w d = simp (ne_eqb lane 16 w, eq-eqb lane 32 d)

  pub width_quadword : (lane ≡ 16 → ⊥) → (lane ≡ 32 → ⊥) → lane ≡ 64 → operation_of quadword ≡ of_width lane (operation_of word) (operation_of doubleword) (operation_of quadword)
  width_quadword w d q = simp (ne_eqb lane 16 w, ne_eqb lane 32 d, eq-eqb lane 64 q)

  pub width_none : (lane ≡ 16 → ⊥) → (lane ≡ 32 → ⊥) → (lane ≡ 64 → ⊥) → KEEP ≡ of_width lane (operation_of word) (operation_of doubleword) (operation_of quadword)
  width_none w d q = simp (ne_eqb lane 16 w, ne_eqb lane 32 d, ne_eqb lane 64 q)

module _ (lane digit r : ℕ) where
  pub shift_right : digit ≡ 2 → operation_of r ≡ of_width lane PSRLW PSRLD PSRLQ → operation_of r ≡ shift_of lane digit
  unfolding shift_of
  shift_right two e = simp (eq-eqb digit 2 two) e

  pub shift_right_signed : (digit ≡ 2 → ⊥) → digit ≡ 4 → operation_of r ≡ of_width lane PSRAW PSRAD KEEP → operation_of r ≡ shift_of lane digit
  unfolding shift_of
  shift_right_signed two four e = simp (ne_eqb digit 2 two, eq-eqb digit 4 four) e

  pub shift_left : (digit ≡ 2 → ⊥) → (digit ≡ 4 → ⊥) → digit ≡ 6 → operation_of r ≡ of_width lane PSLLW PSLLD PSLLQ → operation_of r ≡ shift_of lane digit
  unfolding shift_of
  shift_left two four six e = simp (ne_eqb digit 2 two, ne_eqb digit 4 four, eq-eqb digit 6 six) e

pub shift_none : (lane digit : ℕ) → (digit ≡ 2 → ⊥) → (digit ≡ 4 → ⊥) → (digit ≡ 6 → ⊥) → KEEP ≡ shift_of lane digit
unfolding shift_of
shift_none lane digit two four six = simp (ne_eqb digit 2 two, ne_eqb digit 4 four, ne_eqb digit 6 six)

pub ruleset shifting = (rules, width_word, width_doubleword, width_quadword, width_none, shift_right, shift_right_signed, shift_left, shift_none)
