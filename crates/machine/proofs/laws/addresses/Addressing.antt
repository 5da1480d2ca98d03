-- The address that the code sums up: each sum wraps at 2^32, and so the whole does once.
use Rattle.std.specs.Prelude.{◌≡◌, List, ℕ, ◌+◌, ◌*◌, ◌^◌, ◌%◌, ◌≤◌, ◌<◌, eqb}
use Rattle.basis.specs.Names.{none, some}
use Rattle.basis.proofs.Names.{ap, ap₂, ◌∙◌, and-false, add-zero, mod-add-mod, add-mod-mod, mul-add, add-mod, add-one, two-pow-succ, arith, eq-eqb, ne_eqb, le-leb, lt-leb}
use Rattle.codec.specs.Operands.{has_sib}
use Rattle.codec.specs.declared.Operand.{Operand}
use Rattle.manual.specs.Addresses.{signed_byte, displacement_of, base_of, index_of, address_of, register_part, address}

-- a signed byte
module _ (byte : ℕ) where
  pub signed_low : byte < 128 → byte ≡ signed_byte byte % 2 ^ 32
  signed_low h = simp (lt-leb 128 byte h) (omega arith)

  pub signed_high : (r : ℕ) → 128 ≤ byte → r ≡ (byte + 0xffffff00) % 2 ^ 32 → r ≡ signed_byte byte % 2 ^ 32
  signed_high r h e = simp (le-leb 128 byte h) e

-- the displacement
module _ (mode displacement : ℕ) where
  pub extended_none : (mode ≡ 1 → ⊥) → displacement < 2 ^ 32 → displacement ≡ displacement_of mode displacement % 2 ^ 32
  unfolding displacement_of
  extended_none other h = simp (ne_eqb mode 1 other) (omega arith)

  pub extended_byte : (r : ℕ) → mode ≡ 1 → r ≡ signed_byte displacement % 2 ^ 32 → r ≡ displacement_of mode displacement % 2 ^ 32
  unfolding displacement_of
  extended_byte r byte e = simp (eq-eqb mode 1 byte) e

-- the registers
module _ (register : ℕ) where
  pub base_is : (mode : ℕ) → (register ≡ 5 → ⊥) → base_of mode register ≡ some register
  unfolding base_of
  base_is mode other = simp (ne_eqb register 5 other, and-false (eqb mode 0))

  pub base_is_five : (mode : ℕ) → (mode ≡ 0 → ⊥) → base_of mode register ≡ some register
  unfolding base_of
  base_is_five mode other = simp (ne_eqb mode 0 other)

  pub no_base : (mode : ℕ) → register ≡ 5 → mode ≡ 0 → base_of mode register ≡ none
  unfolding base_of
  no_base mode five zero = simp (eq-eqb register 5 five, eq-eqb mode 0 zero)

  pub index_is : (register ≡ 4 → ⊥) → index_of register ≡ some register
  unfolding index_of
  index_is other = simp (ne_eqb register 4 other)

  pub no_index : register ≡ 4 → index_of register ≡ none
  unfolding index_of
  no_index four = simp (eq-eqb register 4 four)

-- the scale: doubled once more
pub doubled_once : (x turn d r : ℕ) → d ≡ x * 2 ^ turn % 2 ^ 32 → r ≡ (d + d) % 2 ^ 32 → r ≡ x * 2 ^ (turn + 1) % 2 ^ 32
doubled_once x turn d r e f = rw (add-one, two-pow-succ turn, mul-add, add-mod, ← e) f

-- the sums
module _ (integers : List ℕ) (w : Operand) (d : ℕ) (displaced : d ≡ displacement_of w.mode w.displacement % 2 ^ 32) where
  pub sum_plain : (start r : ℕ) → (w.rm ≡ 4 → ⊥) → start ≡ register_part integers (base_of w.mode w.rm) → r ≡ (start + d) % 2 ^ 32
      → r ≡ address integers (address_of w)
  unfolding address address_of has_sib
  sum_plain start r plain based summed =
      simp (ne_eqb w.rm 4 plain, and-false, ← based, add-zero) (summed ∙ ap (λ (n : ℕ). (start + n) % 2 ^ 32) displaced ∙ add-mod-mod start _ _)

  pub sum_sib : (start index x from r : ℕ) → (w.mode ≡ 3 → ⊥) → w.rm ≡ 4 → start ≡ register_part integers (base_of w.mode w.base)
      → index ≡ register_part integers (index_of w.index) → x ≡ index * 2 ^ w.scale % 2 ^ 32
      → from ≡ (start + x) % 2 ^ 32 → r ≡ (from + d) % 2 ^ 32
      → r ≡ address integers (address_of w)
  unfolding address address_of has_sib
  sum_sib start index x from r memory sib based indexed scaled_by summed displaced_by =
      simp (ne_eqb w.mode 3 memory, eq-eqb w.rm 4 sib, ← based, ← indexed)
      (displaced_by
      ∙ ap₂ (λ (m n : ℕ). (m + n) % 2 ^ 32) (summed ∙ ap (λ (n : ℕ). (start + n) % 2 ^ 32) scaled_by ∙ add-mod-mod start _ _) displaced
      ∙ add-mod-mod _ _ _ ∙ mod-add-mod _ _ _)

-- for the base
pub ruleset basing = (base_is, base_is_five, no_base)
