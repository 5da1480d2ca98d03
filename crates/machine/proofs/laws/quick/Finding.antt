-- What is found after an opcode: two registers, or a register and memory, and perhaps a suffix, a shift's register and immediate, or nothing more.
use Rattle.std.specs.Prelude.{◌≡◌, refl, true, List, ℕ, ◌+◌, ◌/◌, ◌^◌, ◌≤◌, ◌<◌, length, get_or, drop, Result, Ok}
use Rattle.basis.proofs.Names.{sym, ap, ap₂, ◌∙◌, add-zero, arith}
use Rattle.codec.specs.Forms.{Form, has_operand, allows, immediate_size, accepts}
use Rattle.codec.specs.Opcodes.{escape}
use Rattle.codec.specs.Operands.{upper, middle, lower, operand_of, no_operand}
use Rattle.codec.specs.Table.{form_of}
use Rattle.codec.specs.Reader.{reads}
use Rattle.codec.specs.Reads.{instruction_of, immediate_reader, sib_reader}
use Rattle.codec.specs.Finding.{found}
use Rattle.codec.specs.declared.Found.{Found}
use Rattle.codec.specs.declared.Operand.{Operand}
use Rattle.codec.proofs.FormNumbers.{operand_past, operand_before, operand_there, allowed_past, allowed_in_memory, accepted_other, immediate_past, immediate_suffix, immediate_before, immediate_there}
use Rattle.codec.proofs.Steps.{form_bare, form_on, modrm_on, sib_register, immediate_on, number_1}
use Rattle.machine.specs.declared.pointers.Pointer.{Pointer}
use Rattle.machine.specs.inner.Pointers.{Points}
use Rattle.machine.specs.inner.Quick.{after_opcode}

-- an instruction with this opcode, as it is found
abbrev pub found_as : ℕ → ℕ → Operand → ℕ → ℕ → Result Found ℕ
found_as entry second w immediate next = Ok (record { entry = entry; instruction = instruction_of escape second w immediate; next = next })

module _ (entry second : ℕ) (code : List ℕ) (at : ℕ) where
  abbrev n : ℕ
  n = entry / 2 ^ 24

  abbrev form : Form
  form = form_of n

  abbrev modrm : ℕ
  modrm = get_or code at 0

  -- EMMS is whole
  pub after_alone : n ≡ 1 → at ≤ length code → found_as entry second no_operand 0 at ≡ after_opcode entry second code at
  after_alone e h =
      immediate_on code at form escape second entry (found_as entry second no_operand 0 at) no_operand 0 (immediate_before n (omega arith)) 0 (omega arith) refl true (accepted_other n 0 (λ z. omega arith)) refl
      (ap (found_as entry second no_operand 0) (sym (add-zero at)))
      ∙ ap (found entry) (sym (form_bare n escape second at (drop at code) (λ z. omega arith) (sym (operand_before n (omega arith)))))

  -- a ModRM byte, which the form has, and allows
  module _ (here : at < length code) where
    after_modrm : (x : Result Found ℕ) → (n ≡ 0 → ⊥) → true ≡ has_operand form → true ≡ allows form (upper modrm) (middle modrm) (lower modrm)
        → x ≡ found entry (reads (sib_reader form escape second modrm) (at + 1) (drop (at + 1) code)) → x ≡ after_opcode entry second code at
    after_modrm x there has t e =
        modrm_on code at form escape second entry x true t here refl e
        ∙ ap (found entry) (sym (form_on n escape second at (drop at code) there (sym has)))

    module _ (register : 192 ≤ modrm) (byte : modrm < 256) where
      after_register : (v k : ℕ) → (n ≡ 0 → ⊥) → true ≡ has_operand form → true ≡ allows form (upper modrm) (middle modrm) (lower modrm)
          → found_as entry second (operand_of modrm 0 0) v (at + 1 + k) ≡ found entry (reads (immediate_reader form escape second (operand_of modrm 0 0)) (at + 1) (drop (at + 1) code))
          → found_as entry second (operand_of modrm 0 0) v (at + 1 + k) ≡ after_opcode entry second code at
      after_register v k there has t e =
          after_modrm (found_as entry second (operand_of modrm 0 0) v (at + 1 + k)) there has t
          (sib_register code (at + 1) form escape second entry (found_as entry second (operand_of modrm 0 0) v (at + 1 + k)) modrm (operand_of modrm 0 0) register byte refl e)

      pub after_registers : 15 < n → (n ≡ 16 → ⊥) → found_as entry second (operand_of modrm 0 0) 0 (at + 1) ≡ after_opcode entry second code at
      after_registers h plain =
          ap (found_as entry second (operand_of modrm 0 0) 0) (sym (add-zero (at + 1)))
          ∙ after_register 0 0 (λ z. omega arith) (operand_past n (omega arith)) (allowed_past n _ _ _ h)
          (immediate_on code (at + 1) form escape second entry (found_as entry second (operand_of modrm 0 0) 0 (at + 1 + 0)) (operand_of modrm 0 0) 0 (immediate_past n (omega arith) plain) 0 (omega arith) refl
          true (accepted_other n 0 plain) refl refl)

      -- and an immediate of one byte
      one_byte : (v : ℕ) → (n ≡ 0 → ⊥) → true ≡ has_operand form → true ≡ allows form (upper modrm) (middle modrm) (lower modrm) → 1 ≡ immediate_size form
          → true ≡ accepts form v → at + 1 < length code → v ≡ get_or code (at + 1) 0 → found_as entry second (operand_of modrm 0 0) v (at + 1 + 1) ≡ after_opcode entry second code at
      one_byte v there has t one accepted l e =
          after_register v 1 there has t
          (immediate_on code (at + 1) form escape second entry (found_as entry second (operand_of modrm 0 0) v (at + 1 + 1)) (operand_of modrm 0 0) 1 one v
          (omega arith) (number_1 code (at + 1) 1 v refl (omega (arith, e)) (omega arith)) true accepted refl refl)

      pub after_suffix : (v : ℕ) → n ≡ 16 → accepts form v ≡ true → at + 1 < length code → v ≡ get_or code (at + 1) 0
          → found_as entry second (operand_of modrm 0 0) v (at + 1 + 1) ≡ after_opcode entry second code at
      after_suffix v is accepted =
          one_byte v (λ z. omega arith) (operand_past n (omega arith)) (allowed_past n _ _ _ (omega arith)) (immediate_suffix n (omega arith) is) (sym accepted)

      pub after_shift : (v : ℕ) → 2 ≤ n → n ≤ 3 → true ≡ allows form (upper modrm) (middle modrm) (lower modrm) → at + 1 < length code → v ≡ get_or code (at + 1) 0
          → found_as entry second (operand_of modrm 0 0) v (at + 1 + 1) ≡ after_opcode entry second code at
      after_shift v more h t =
          one_byte v (λ z. omega arith) (operand_there n more (omega arith)) t (immediate_there n (omega arith) more) (accepted_other n v (λ z. omega arith))

    -- a register and memory
    after_pointed : (integers : List ℕ) (p : Pointer) (from byte : ℕ) → from ≡ at + 1 → byte ≡ modrm → (t : Points p integers code from byte) → byte < 192 → 15 ≤ n
        → (x : Result Found ℕ) → x ≡ found entry (reads (immediate_reader form escape second (operand_of byte t.sib t.displacement)) p.next (drop p.next code))
        → x ≡ after_opcode entry second code at
    after_pointed integers p from byte f e t b h x found_there =
        after_modrm x (λ z. omega arith) (operand_past n (omega arith)) (allowed_in_memory n _ _ _ h (λ z. omega arith))
        (found_there ∙ t.read form escape second entry
        ∙ ap₂ (λ (k b : ℕ). found entry (reads (sib_reader form escape second b) k (drop k code))) f e)

    pub after_memory : (integers : List ℕ) (p : Pointer) (from byte : ℕ) → from ≡ at + 1 → byte ≡ modrm → (t : Points p integers code from byte) → byte < 192 → 15 ≤ n → (n ≡ 16 → ⊥)
        → found_as entry second (operand_of byte t.sib t.displacement) 0 p.next ≡ after_opcode entry second code at
    after_memory integers p from byte f e t b h plain =
        let w = operand_of byte t.sib t.displacement in
        after_pointed integers p from byte f e t b h (found_as entry second w 0 p.next)
        (immediate_on code p.next form escape second entry (found_as entry second w 0 p.next) w 0 (immediate_past n (omega arith) plain) 0 (omega arith) refl
        true (accepted_other n 0 plain) refl (ap (found_as entry second w 0) (sym (add-zero p.next))))

    pub after_memory_suffix : (integers : List ℕ) (p : Pointer) (from byte : ℕ) → from ≡ at + 1 → byte ≡ modrm → (t : Points p integers code from byte) → byte < 192
        → (v : ℕ) → n ≡ 16 → accepts form v ≡ true → p.next < length code → v ≡ get_or code p.next 0
        → found_as entry second (operand_of byte t.sib t.displacement) v (p.next + 1) ≡ after_opcode entry second code at
    after_memory_suffix integers p from byte f e t b v is accepted l g =
        let w = operand_of byte t.sib t.displacement in
        after_pointed integers p from byte f e t b (omega arith) (found_as entry second w v (p.next + 1))
        (immediate_on code p.next form escape second entry (found_as entry second w v (p.next + 1)) w 1 (immediate_suffix n (omega arith) is) v
        (omega arith) (number_1 code p.next 1 v refl (omega (arith, g)) (omega arith)) true (sym accepted) refl refl)
