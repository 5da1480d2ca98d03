-- Masks that the code puts together.
use Rattle.std.specs.Prelude.{◌≡◌, ℕ, ◌*◌, ◌^◌, ◌%◌, ◌<◌}
use Rattle.basis.specs.Names.{Option, none, some, bit_or}
use Rattle.basis.proofs.Names.{append-nil, arith, eq-eqb, ne_eqb, or_zero_r, pow-lt}
use Rattle.codec.specs.Operands.{has_sib}
use Rattle.codec.specs.declared.Operand.{Operand}
use Rattle.manual.specs.Addresses.{base_of, index_of, address_of, registers_of}
use Rattle.machine.specs.Footprints.{mask}
use Rattle.machine.specs.inner.Reaches.{behind}
use Rattle.machine.proofs.laws.meetings.Masks.{mask_append}

-- a register's bit fits a byte
pub one_bit : (register : ℕ) → register < 8 → 1 * 2 ^ register % 256 ≡ 2 ^ register
one_bit register h = omega (arith, pow-lt {i = register} {j = 8} h)

-- the mask of a base or an index
module _ (maybe : Option ℕ) where
  pub mask_named : (register r : ℕ) → r ≡ 2 ^ register → maybe ≡ some register → r ≡ mask (registers_of maybe)
  mask_named register r e named = simp (named, or_zero_r) e

  pub mask_none : maybe ≡ none → 0 ≡ mask (registers_of maybe)
  mask_none unnamed = rw unnamed

-- the mask of the address registers of the operand of r/m
module _ (w : Operand) where
  pub address_none : w.mode ≡ 3 → 0 ≡ behind w
  address_none e = simp (eq-eqb w.mode 3 e)

  module _ (r : ℕ) (other : w.mode ≡ 3 → ⊥) where
    pub address_plain : r ≡ mask (registers_of (base_of w.mode w.rm)) → (w.rm ≡ 4 → ⊥) → r ≡ behind w
    unfolding address_of has_sib
    address_plain e plain = simp (ne_eqb w.mode 3 other, ne_eqb w.rm 4 plain, append-nil) e

    pub address_sib : (x : ℕ) → r ≡ mask (registers_of (base_of w.mode w.base)) → x ≡ mask (registers_of (index_of w.index))
        → w.rm ≡ 4 → bit_or r x ≡ behind w
    unfolding address_of has_sib
    address_sib x e f sib = simp (eq-eqb w.rm 4 sib, ne_eqb w.mode 3 other, mask_append, ← e, ← f)

-- for the mask of an address
pub ruleset addressing = (address_none, address_plain, address_sib)
