-- Refusal 14 in the customer's words: a byte of the operand that r/m names is outside the memory, and its base register is ESP or EBP. An index of
-- EBP does not count, nor does mod 00 with 101; MASKMOVQ's operand and a register are never 14.
use Rattle.std.specs.Prelude.{◌≡◌, refl, ◌⊎◌, Bool, true, false, List, ℕ, ◌+◌, ◌<◌, eqb, length, ◌↔◌}
use Rattle.basis.proofs.Names.{sym, ap, subst, ◌∙◌, inl, inr, false≢true, and-false, arith, eqb-true, eqb-false, eq-eqb, ne_eqb}
use Rattle.codec.specs.Operands.{has_sib}
use Rattle.codec.specs.Forms.{memory_size}
use Rattle.codec.specs.declared.Operand.{Operand}
use Rattle.codec.specs.declared.Instruction.{Instruction}
use Rattle.manual.specs.Refusals.{outside_by_stack}
use Rattle.manual.specs.State.{State}
use Rattle.manual.specs.Addresses.{Address, base_of, address_of, is_stack_base, address}
use Rattle.manual.specs.Locations.{memory}
use Rattle.manual.specs.Instructions.{form_used}
use Rattle.manual.specs.Steps.{refused_with, step_at}
use Rattle.manual.specs.Reasons.{Passes, Touches, Reason, one, twenty, reading, seven, eight, nine, ten, fourteen, twenty_one, twenty_two, nineteen}
use Rattle.manual.proofs.OneAddress.{PointedAt, one_address}
use Rattle.manual.proofs.Exactly.{step_exactly}
use Rattle.manual.proofs.Bounds.{reading_small}

-- the bytes of an operand in memory whose base register is ESP or EBP
pub data ByStack (w : Operand) : Type 0 where
  -- an SIB byte with base 100, at any mod
  esp : w.rm ≡ 4 → w.base ≡ 4 → ByStack w
  -- at another mod than 00, rm 101 or an SIB byte with base 101
  ebp : (w.mode ≡ 0 → ⊥) → w.rm ≡ 5 → ByStack w
  ebp_sib : (w.mode ≡ 0 → ⊥) → w.rm ≡ 4 → w.base ≡ 5 → ByStack w

-- a register as base, at a mod
abbrev Based : ℕ → ℕ → Type 0
Based mode register = (register ≡ 4) ⊎ ((mode ≡ 0 → ⊥) × (register ≡ 5))

based_exactly : (mode register : ℕ) → (is_stack_base (base_of mode register) ≡ true) ↔ Based mode register
unfolding base_of
based_exactly mode register = (there (eqb mode 0) (eqb register 4) (eqb register 5) refl refl refl, back)
  where
    there : (m a b : Bool) → eqb mode 0 ≡ m → eqb register 4 ≡ a → eqb register 5 ≡ b → is_stack_base (base_of mode register) ≡ true → Based mode register
    there m true b em ea eb h = inl (eqb-true register 4 ea)
    there false false true em ea eb h = inr (eqb-false mode 0 em, eqb-true register 5 eb)
    there true false true em ea eb h = absurd (false≢true (simp (em, eb) at h))
    there m false false em ea eb h = absurd (false≢true (simp (ea, eb, and-false) at h))

    back : Based mode register → is_stack_base (base_of mode register) ≡ true
    back (inl four) = simp (four, and-false)
    back (inr (other, five)) = simp (ne_eqb mode 0 other, five)

pub stack_in_words : (w : Operand) → (w.mode ≡ 3 → ⊥) → (is_stack_base (address_of w).base ≡ true) ↔ ByStack w
unfolding address_of has_sib
stack_in_words w other = (there (eqb w.rm 4) refl, back)
  where
    plain : (eqb w.rm 4 ≡ false) → Based w.mode w.rm → ByStack w
    plain e (inl four) = absurd (eqb-false w.rm 4 e four)
    plain e (inr (mode, five)) = ebp mode five

    sib : w.rm ≡ 4 → Based w.mode w.base → ByStack w
    sib e (inl four) = esp e four
    sib e (inr (mode, five)) = ebp_sib mode e five

    there : (t : Bool) → eqb w.rm 4 ≡ t → is_stack_base (address_of w).base ≡ true → ByStack w
    there true e h = sib (eqb-true w.rm 4 e) ((based_exactly w.mode w.base).0 (simp (ne_eqb w.mode 3 other, e) at h))
    there false e h = plain e ((based_exactly w.mode w.rm).0 (simp (e, and-false) at h))

    back : ByStack w → is_stack_base (address_of w).base ≡ true
    back (esp e four) = simp (ne_eqb w.mode 3 other, eq-eqb w.rm 4 e) ((based_exactly w.mode w.base).1 (inl four))
    back (ebp mode five) = simp (ne_eqb w.rm 4 (λ e. omega arith), and-false) ((based_exactly w.mode w.rm).1 (inr (mode, five)))
    back (ebp_sib mode e five) = simp (ne_eqb w.mode 3 other, eq-eqb w.rm 4 e) ((based_exactly w.mode w.base).1 (inr (mode, five)))

-- 14 is due
pub record Fourteen (floor : ℕ) (code : List ℕ) (at : ℕ) (s : State) : Type 0 where
  -- the instruction there, of so many bytes
  pub instruction : Instruction
  pub bytes : ℕ
  pub passes : Passes floor code at s instruction bytes
  -- its operand in memory, by ESP or EBP, of which a byte is outside
  pub in_memory : instruction.operand.mode ≡ 3 → ⊥
  pub by_stack : ByStack instruction.operand
  pub size : ℕ
  pub touches : Touches instruction (memory (address_of instruction.operand) size)
  pub past : length s.memory < address s.integers (address_of instruction.operand) + size

pub fourteen_in_words : (floor : ℕ) (code : List ℕ) (at : ℕ) (s : State) → (step_at floor code at s ≡ refused_with outside_by_stack at s) ↔ Fourteen floor code at s
fourteen_in_words floor code at s = (λ e. there outside_by_stack ((step_exactly floor code at s outside_by_stack).0 e) refl, λ f. (step_exactly floor code at s outside_by_stack).1 (back f))
  where
    there : (n : ℕ) → Reason floor code at s n → n ≡ outside_by_stack → Fourteen floor code at s
    there n (one h) e = absurd (omega arith)
    there n (twenty h g) e = absurd (omega arith)
    there n (reading h r) e = absurd (omega (arith, reading_small code at n r))
    there n (seven i size h em) e = absurd (omega arith)
    there n (eight i size h em ts) e = absurd (omega arith)
    there n (nine i size h em ts pending) e = absurd (omega arith)
    there n (ten i size h x touches o based) e = absurd (omega arith)
    there n (twenty_one i size h x given b) e = absurd (omega arith)
    there n (twenty_two i size h above u) e = absurd (omega arith)
    there n (nineteen i size h jump clear astray) e = absurd (omega arith)
    there n (fourteen i size h x touches o based) e = by (one_address i).in_edi ((one_address i).points o.at o.size touched)
      where
        touched : Touches i (memory o.at o.size)
        touched = subst (Touches i) o.operand touches

        by : (in_edi : Bool) → PointedAt in_edi i (memory_size (form_used i)) o.at o.size → Fourteen floor code at s
        by true p = absurd (false≢true (ap (λ (a : Address). is_stack_base a.base) (sym p.same) ∙ based))
        by false p =
            record {
              instruction = i;
              bytes = size;
              passes = h;
              in_memory = p.by_rm refl;
              by_stack = (stack_in_words i.operand (p.by_rm refl)).0 (ap (λ (a : Address). is_stack_base a.base) (sym p.same) ∙ based);
              size = o.size;
              touches = subst (λ (a : Address). Touches i (memory a o.size)) p.same touched;
              past = subst (λ (a : Address). length s.memory < address s.integers a + o.size) p.same o.past;
            }

    back : Fourteen floor code at s → Reason floor code at s outside_by_stack
    back f =
        let i = f.instruction in
        let a = address_of i.operand in
        fourteen i f.bytes f.passes (memory a f.size) f.touches
        (record { at = a; size = f.size; operand = refl; past = f.past }) ((stack_in_words i.operand f.in_memory).1 f.by_stack)
